use Rattle.lin_certs.proofs.Fronts.{IsFront}
use Rattle.lin_certs.proofs.check.narrow_front.Given as goal

abbrev pub invariant-loop-variable : goal.invariant-loop-variable
invariant-loop-variable l = IsFront l.forms l.by l.variable l.narrow
