use Rattle.std.proofs.Common.{subst}
use Rattle.tht_tree.specs.Normal.Linear.{reading}
use Rattle.pure_terms.specs.Readings.{IsReading}
use Rattle.pure_terms.specs.Locals.{locals_of}
use Rattle.pure_proofs.proofs.lin.read.Goals as goal

pub returns : goal.returns
returns c =
    subst (λ z. IsReading c.reading.result (reading (locals_of c.args.scope.now) z)) (λ i. record { left = c.in_ok-left.ensures i; right = c.in_ok-right.ensures i; strict = c.args.sides.strict }) c.reading.ensures
