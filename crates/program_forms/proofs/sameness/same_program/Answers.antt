use Rattle.std.proofs.Common.{[], ◌∙◌}
use Rattle.tht_logic.specs.Programs.{code}
use Rattle.program_forms.specs.Marks.{same_row}
use Rattle.program_forms.proofs.SameRows.{rows_decide}
use Rattle.program_forms.proofs.sameness.same_program.Goals as goal

pub returns : goal.returns
returns c = c.same_rows.ensures ∙ (λ i. same_row (c.in_ok-row.ensures i) (c.in_ok-second.ensures i)) ∙ rows_decide (code [] c.args.body.now []) (code [] c.args.other.now [])
