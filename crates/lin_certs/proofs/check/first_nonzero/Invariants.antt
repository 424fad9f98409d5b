use Rattle.std.proofs.Common.{ℕ, ◌<◌}
use Rattle.lin_certs.specs.LinSaid.{Cancels}
use Rattle.lin_certs.proofs.check.first_nonzero.Given as goal

abbrev pub invariant-loop-variable : goal.invariant-loop-variable
invariant-loop-variable l = (k : ℕ) → k < l.variable → Cancels l.forms l.by k
