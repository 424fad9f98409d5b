use Rattle.std.proofs.Common.{◌≡◌, length}
use Rattle.program_forms.specs.Marks.{marks_of, same_row}
use Rattle.program_forms.proofs.row.same_rows.Given as goal

abbrev pub invariant-loop-piece : goal.invariant-loop-piece
invariant-loop-piece l = same_row (marks_of l.initial.left) (marks_of l.initial.right) ≡ same_row (marks_of l.left) (marks_of l.right)

abbrev pub decreases-loop-piece : goal.decreases-loop-piece
decreases-loop-piece l = length (marks_of l.left)
