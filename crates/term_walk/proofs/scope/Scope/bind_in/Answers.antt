use Rattle.term_walk.proofs.Shadowing.{bound_more}
use Rattle.term_walk.proofs.scope.Scope.bind_in.Goals as goal

pub returns-clause-outer : goal.returns-clause-outer
returns-clause-outer c = rw (c.in_ok-push.ensures.ok, c.in_ok-copy.ensures) (bound_more _ _ _ _ _ _ c.in_ok-shadowed.ensures.bound c.in_ok-shadowed.ensures.shadowed)
