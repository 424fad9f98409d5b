use Rattle.std.proofs.Common.{◌≡◌, false, length}
use Rattle.tht_tree.specs.Normal.Sums.{sum_of}
use Rattle.pure_terms.specs.Making.{have_wide}
use Rattle.pure_terms.proofs.sums.sum_of.Given as goal

abbrev pub invariant-loop-sums : goal.invariant-loop-sums
invariant-loop-sums l = record { same : sum_of l.sums ≡ sum_of l.initial.sums; narrow : have_wide l.sums ≡ false }

abbrev pub decreases-loop-sums : goal.decreases-loop-sums
decreases-loop-sums l = length l.sums
