use Rattle.std.proofs.Common.{sym, ap, ◌∙◌}
use Rattle.program_forms.specs.Marks.{marks_of, same_row}
use Rattle.program_forms.proofs.SameRows.{ended}
use Rattle.program_forms.proofs.row.same_rows.Goals as goal

pub returns : goal.returns
returns c =
    ended c.is_empty.result (marks_of c.loop-piece.right) c.is_empty.ensures
    ∙ ap (λ ms. same_row ms (marks_of c.loop-piece.right)) (sym c.in_default.ensures)
    ∙ sym c.loop-piece.invariant
