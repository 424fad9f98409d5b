use Rattle.term_walk.proofs.Shadowing.{known_again}
use Rattle.term_walk.proofs.assns.+assn.Goals as goal

pub walk_inner-returns-clause-same : goal.walk_inner-returns-clause-same
walk_inner-returns-clause-same t c = known_again _ _ _ _ _ _ _ c.in_ok-shadowed.ensures.bound c.in_ok-shadowed.ensures.shadowed c.in_ok-code.ensures.same c.in_ok-unbind.ensures
