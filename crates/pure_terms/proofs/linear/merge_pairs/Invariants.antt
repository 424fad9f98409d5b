use Rattle.std.proofs.Common.{◌≡◌, ◌++◌, length}
use Rattle.tht_tree.specs.Normal.InPairs.{pairs}
use Rattle.pure_terms.proofs.MergedLists.{merged}
use Rattle.pure_terms.proofs.linear.merge_pairs.Given as goal

abbrev pub invariant-lists : goal.invariant-lists
invariant-lists l = l.merged ++ pairs merged l.rest ≡ pairs merged l.fn.lists

abbrev pub decreases-lists : goal.decreases-lists
decreases-lists l = length l.rest
