use Rattle.std.proofs.Common.{length}
use Rattle.pure_terms.proofs.PairedSums.{PairsTo}
use Rattle.pure_terms.proofs.sums.pairs.Given as goal

abbrev pub invariant-loop-sum : goal.invariant-loop-sum
invariant-loop-sum l = PairsTo l.pairs l.rest l.fn.sums

abbrev pub decreases-loop-sum : goal.decreases-loop-sum
decreases-loop-sum l = length l.rest
