use Rattle.std.proofs.Common.{sym, ◌∙◌, ap, not, length, slice_set, Some}
use Rattle.std.specs.Option.{is_some}
use Rattle.std.proofs.lemmas.List.{with_items_is, length-set}
use Rattle.tagged_interp.specs.Labs.{held, index_of}
use Rattle.tagged_interp.proofs.Stepping.{has_written}
use Rattle.tagged_interp.proofs.lab.Lab.write.Goals as goal

pub returns-clause-says : goal.returns-clause-says
returns-clause-says c =
    let set = c.set.ensures ∙ ap (λ l. slice_set l (index_of c.args.place) (Some c.args.value)) c.deref_mut.ensures.value in
    has_written _ _ _ c.self.view_is c.args.place c.args.value c.requires.front (ap (λ l. is_some (held l c.args.place)) (sym c.as_slice.ensures.value) ∙ ap is_some (sym c.held.ensures) ∙ c.is_none.ensures ∙ ap not c.if-is_none.false)
    c.in_ok-go_past.ensures.program (with_items_is c.self.inside.cells c.set.new.cells (ap length set ∙ length-set c.self.inside.cells.items (index_of c.args.place) (Some c.args.value) ∙ sym c.self.inside.cells.ok.0) ∙ set)
