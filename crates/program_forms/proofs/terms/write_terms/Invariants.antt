use Rattle.std.proofs.Common.{◌≡◌, [], length, map}
use Rattle.tht_tree.specs.Syntax.{trm}
use Rattle.program_forms.specs.Marks.{marks_of}
use Rattle.program_forms.specs.Names.{names_of}
use Rattle.program_forms.specs.Rows.{items_row, trms_row}
use Rattle.program_forms.proofs.terms.write_terms.Given as goal

abbrev pub invariant-loop-term : goal.invariant-loop-term
invariant-loop-term l = trms_row (map (trm [] (names_of l.binders)) l.terms) (marks_of l.fn.row) ≡ items_row (map (trm [] (names_of l.binders)) l.rest) (marks_of l.row)

abbrev pub decreases-loop-term : goal.decreases-loop-term
decreases-loop-term l = length l.rest
