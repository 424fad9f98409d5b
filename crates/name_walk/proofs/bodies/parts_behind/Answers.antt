use Rattle.std.proofs.Common.{refl}
use Rattle.term_walk.proofs.Shadowing.{known_again}
use Rattle.name_walk.proofs.bodies.parts_behind.Goals as goal

pub returns-clause-same : goal.returns-clause-same
returns-clause-same c = known_again _ _ _ _ _ _ _ c.in_ok-shadowed.ensures.bound c.in_ok-shadowed.ensures.shadowed refl c.in_ok-unbind.ensures
