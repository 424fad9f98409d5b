use Rattle.std.proofs.Common.{arith, inl, inr}
use Rattle.std.proofs.lemmas.Bool.{cases_lt}
use Rattle.lin_certs.proofs.Fronts.{beyond_cancels}
use Rattle.lin_certs.proofs.check.first_nonzero.Goals as goal

pub returns : goal.returns
returns c k =
    elim (cases_lt k c.loop-variable.variable) [
      | inl h ↦ c.loop-variable.invariant k h
      | inr h ↦ let e = c.width-variable-end.ensures in beyond_cancels c.args.forms.now c.args.by.now c.requires.aligned k (omega arith)
    ]
