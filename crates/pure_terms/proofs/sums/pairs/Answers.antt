use Rattle.pure_terms.proofs.PairedSums.{after_pair}
use Rattle.pure_terms.proofs.sums.pairs.Goals as goal

pub loop-sum-preserved-in_ok-push-in-Some-pop : goal.loop-sum-preserved-in_ok-push-in-Some-pop
loop-sum-preserved-in_ok-push-in-Some-pop c =
    let made = c.in_ok-add-in-Some-pop.ensures in
    after_pair _ _ _ _ _ _ _ _ _ c.in-Some.ensures c.in-Some-pop.ensures made.0 made.1 c.in_ok-push-in-Some-pop.ensures.ok c.loop-sum.invariant
