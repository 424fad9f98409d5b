use Rattle.term_walk.specs.Scopes.{scope_of}
use Rattle.term_walk.proofs.Shadowing.{after_remove}
use Rattle.term_walk.proofs.scope.Scope.remove.Goals as goal

pub returns : goal.returns
unfolding scope_of
returns c = after_remove c.args.self.now.classes c.remove.new.self c.as_str.result.now c.args.name.now c.as_str.ensures c.remove.ensures.updates
