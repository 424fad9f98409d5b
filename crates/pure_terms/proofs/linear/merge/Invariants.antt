use Rattle.std.proofs.Common.{◌≡◌, ◌+◌, ◌++◌, length}
use Rattle.pure_terms.proofs.MergedLists.{merged}
use Rattle.pure_terms.proofs.linear.merge.Given as goal

abbrev pub invariant-products : goal.invariant-products
invariant-products l = l.merged ++ merged l.left l.right ≡ merged l.fn.left l.fn.right

abbrev pub decreases-products : goal.decreases-products
decreases-products l = length l.left + length l.right
