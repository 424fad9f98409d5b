use Rattle.std.proofs.Common.{◌≡◌, map, take}
use Rattle.lin_laws.specs.Forms.{plain, form_over}
use Rattle.pure_proofs.proofs.refute.forms_over.Given as goal

abbrev pub invariant-loop-form : goal.invariant-loop-form
invariant-loop-form l = map plain l.over ≡ map (form_over l.products) (take l.form-index l.forms)
