use Rattle.std.proofs.Common.{◌≡◌, length}
use Rattle.pure_terms.specs.Readings.{from_product}
use Rattle.pure_terms.proofs.linear.without_lower.Given as goal

abbrev pub invariant-loop-term : goal.invariant-loop-term
invariant-loop-term l = from_product l.product l.rest ≡ from_product l.product l.form

abbrev pub decreases-loop-term : goal.decreases-loop-term
decreases-loop-term l = length l.rest
