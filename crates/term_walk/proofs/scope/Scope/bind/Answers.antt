use Rattle.term_walk.specs.Scopes.{scope_of}
use Rattle.term_walk.proofs.Shadowing.{after_insert}
use Rattle.term_walk.proofs.scope.Scope.bind.Goals as goal

pub returns-clause-bound : goal.returns-clause-bound
unfolding scope_of
returns-clause-bound c =
    after_insert c.in_ok-key.key c.args.self.now.classes c.insert.new.self c.args.name.now c.args.class c.in_ok-shadowed.ensures.updates c.in_ok-key.ensures
