use Rattle.std.proofs.Common.{◌+◌, ◌++◌, length}
use Rattle.tht_tree.specs.Normal.Linear.{take_away}
use Rattle.pure_terms.proofs.Differences.{Away}
use Rattle.pure_terms.proofs.linear.subtract.Given as goal

abbrev pub invariant-terms : goal.invariant-terms
invariant-terms l = Away l.form l.left l.right (l.fn.form ++ take_away l.fn.left l.fn.right)

abbrev pub decreases-terms : goal.decreases-terms
decreases-terms l = length l.left + length l.right
