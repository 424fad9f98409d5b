use Rattle.std.proofs.Common.{◌≡◌, [], length}
use Rattle.tht_tree.specs.Normal.InPairs.{in_pairs}
use Rattle.pure_terms.proofs.MergedLists.{merged}
use Rattle.pure_terms.proofs.linear.merge_all.Given as goal

abbrev pub invariant-loop-lists : goal.invariant-loop-lists
invariant-loop-lists l = in_pairs merged [] l.lists ≡ in_pairs merged [] l.initial.lists

abbrev pub decreases-loop-lists : goal.decreases-loop-lists
decreases-loop-lists l = length l.lists
