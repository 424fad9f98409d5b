use Rattle.code_form.proofs.PlainTerms.{same_plain}
use Rattle.code_form.proofs.LoweredStmts.{both_lowered}
use Rattle.code_form.proofs.LoweredBodies.{body_lowered}
use Rattle.code_form.proofs.terms.variable.Goals as goal
