use denote.Param.Weighed.{most}
use Rattle.std.proofs.Common.{◌≡◌, ◌≤◌, ◌+◌, ◌*◌, max, length}
use Rattle.tht_tree.specs.declared.body.Body.{size-Body}
use Rattle.tht_tree.specs.declared.body.Stmt.{size-Stmt}
use Rattle.tht_tree.specs.declared.body.StmtKind.{size-StmtKind}
use Rattle.tht_tree.specs.declared.body.EndKind.{size-EndKind}
use Rattle.tht_tree.specs.Syntax.{Names}
use Rattle.program_forms.specs.Marks.{marks_of}
use Rattle.program_forms.specs.Names.{names_of}
use Rattle.program_forms.specs.Statements.{bound_by, stmts_row}
use Rattle.program_forms.proofs.Rowed.{Left}
use Rattle.program_forms.proofs.bodies.+body.Given as goal

abbrev pub decreases-write_body : goal.decreases-write_body
decreases-write_body l = 8 * size-Body l.body.now + 7

abbrev pub decreases-write_stmts : goal.decreases-write_stmts
decreases-write_stmts l = 8 * goal.size-write_stmts l + 8

abbrev pub decreases-write_stmt : goal.decreases-write_stmt
decreases-write_stmt l = 8 * size-StmtKind l.stmt.now + 6

abbrev pub decreases-write_inner : goal.decreases-write_inner
decreases-write_inner l = 8 * size-Body l.body.now + 8

abbrev pub decreases-write_end : goal.decreases-write_end
decreases-write_end l = 8 * size-EndKind l.end.now + 6

abbrev pub decreases-write_bodies : goal.decreases-write_bodies
decreases-write_bodies l = 8 * max (size-Body l.body.now) (size-Body l.other.now) + 8

abbrev pub decreases-write_par : goal.decreases-write_par
decreases-write_par l = 8 * max (size-Body l.body.now) (size-Body l.other.now) + 9

abbrev pub decreases-write_test : goal.decreases-write_test
decreases-write_test l = 8 * max (size-Body l.body.now) (size-Body l.other.now) + 9

abbrev pub invariant-write_stmts-loop-stmt : goal.invariant-write_stmts-loop-stmt
invariant-write_stmts-loop-stmt l = record {
  left : (xs : Names) → names_of l.fn.binders ≡ bound_by l.stmts xs → Left xs (stmts_row l.stmts xs (marks_of l.fn.row)) l.rest (names_of l.binders) (marks_of l.row);
  within : most size-Stmt l.rest ≤ most size-Stmt l.stmts;
}

abbrev pub decreases-write_stmts-loop-stmt : goal.decreases-write_stmts-loop-stmt
decreases-write_stmts-loop-stmt l = length l.rest
