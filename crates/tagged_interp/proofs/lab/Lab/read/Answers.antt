use Rattle.std.proofs.Common.{sym, ◌∙◌, ap, refl}
use Rattle.tagged_interp.specs.Labs.{held}
use Rattle.tagged_interp.proofs.Stepping.{has_read}
use Rattle.tagged_interp.proofs.lab.Lab.read.Goals as goal

pub returns-clause-says : goal.returns-clause-says
returns-clause-says c =
    has_read _ _ _ c.self.view_is c.args.place c.args.sort c.in-Some.value c.requires.front (ap (λ l. held l c.args.place) (sym c.as_slice.ensures.value) ∙ sym c.held.ensures ∙ c.in-Some.is)
    (sym c.has_sort.ensures ∙ c.if-not-has_sort.false) c.in_ok-go_past.ensures.program refl
