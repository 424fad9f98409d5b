use Rattle.std.proofs.Common.{◌≡◌, ◌++◌, length}
use Rattle.tht_tree.specs.Normal.InPairs.{pairs}
use Rattle.pure_terms.specs.Joining.{joined}
use Rattle.pure_terms.proofs.trees.pairs.Given as goal

abbrev pub invariant-loop-term : goal.invariant-loop-term
invariant-loop-term l = l.pairs ++ pairs (joined l.by) l.rest ≡ pairs (joined l.by) l.fn.terms

abbrev pub decreases-loop-term : goal.decreases-loop-term
decreases-loop-term l = length l.rest
