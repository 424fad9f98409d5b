use Rattle.std.proofs.Common.{refl}
use Rattle.term_walk.proofs.Shadowing.{known_again}
use Rattle.term_walk.proofs.proofs.formula_over.Goals as goal

pub returns-clause-same : goal.returns-clause-same
returns-clause-same c = known_again _ _ _ _ _ _ _ c.in_ok-shadowed.ensures.bound c.in_ok-shadowed.ensures.shadowed refl c.in_ok-unbind.ensures
