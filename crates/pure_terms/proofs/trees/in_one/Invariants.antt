use Rattle.std.proofs.Common.{◌≡◌, length}
use Rattle.tht_tree.specs.Normal.InPairs.{in_pairs}
use Rattle.pure_terms.specs.Joining.{joined, empty}
use Rattle.pure_terms.proofs.trees.in_one.Given as goal

abbrev pub invariant-rounds : goal.invariant-rounds
invariant-rounds l = in_pairs (joined l.by) (empty l.by) l.terms ≡ in_pairs (joined l.by) (empty l.by) l.initial.terms

abbrev pub decreases-rounds : goal.decreases-rounds
decreases-rounds l = length l.terms
