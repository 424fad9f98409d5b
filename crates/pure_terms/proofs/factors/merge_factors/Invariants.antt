use Rattle.std.proofs.Common.{◌≡◌, ◌+◌, ◌++◌, length}
use Rattle.tht_tree.specs.Normal.Sums.{merge}
use Rattle.pure_terms.proofs.factors.merge_factors.Given as goal

abbrev pub invariant-loop-turn : goal.invariant-loop-turn
invariant-loop-turn l = l.factors ++ merge l.left l.right ≡ merge l.initial.left l.initial.right

abbrev pub decreases-loop-turn : goal.decreases-loop-turn
decreases-loop-turn l = length l.left + length l.right
