use denote.Param.Weighed.{most}
use Rattle.std.proofs.Common.{◌≡◌, ◌≤◌, ◌+◌, ◌*◌, ◌++◌, max, length}
use Rattle.tht_tree.specs.declared.body.Body.{size-Body}
use Rattle.tht_tree.specs.declared.body.Stmt.{size-Stmt}
use Rattle.tht_tree.specs.declared.body.StmtKind.{size-StmtKind}
use Rattle.tht_tree.specs.declared.body.End.{size-End}
use Rattle.tht_tree.specs.Syntax.{Names}
use Rattle.code_form.specs.Lowering.{bound_in}
use Rattle.code_form.proofs.LoweredBodies.{MadeSoFar}
use Rattle.code_form.proofs.bodies.+body.Given as goal

abbrev pub decreases-lower_body : goal.decreases-lower_body
decreases-lower_body l = 8 * size-Body l.body.now + 7

abbrev pub decreases-lower_stmts : goal.decreases-lower_stmts
decreases-lower_stmts l = 8 * goal.size-lower_stmts l + 8

abbrev pub decreases-lower_stmt : goal.decreases-lower_stmt
decreases-lower_stmt l = 8 * size-StmtKind l.kind.now + 6

abbrev pub decreases-lower_inner : goal.decreases-lower_inner
decreases-lower_inner l = 8 * size-Body l.body.now + 8

abbrev pub decreases-lower_atomic : goal.decreases-lower_atomic
decreases-lower_atomic l = 8 * size-Body l.body.now + 8

abbrev pub decreases-lower_par : goal.decreases-lower_par
decreases-lower_par l = 8 * max (size-Body l.left.now) (size-Body l.right.now) + 8

abbrev pub decreases-lower_end : goal.decreases-lower_end
decreases-lower_end l = 8 * size-End l.end.now + 6

abbrev pub decreases-lower_if : goal.decreases-lower_if
decreases-lower_if l = 8 * max (size-Body l.body.now) (size-Body l.other.now) + 8

abbrev pub invariant-lower_stmts-loop-stmt : goal.invariant-lower_stmts-loop-stmt
invariant-lower_stmts-loop-stmt l = record {
  made : (outer : Names) → l.fn.work.bound ≡ outer ++ bound_in l.stmts → MadeSoFar l.fn.work l.work outer l.stmts l.rest l.last l.at;
  within : most size-Stmt l.rest ≤ most size-Stmt l.stmts;
}

abbrev pub decreases-lower_stmts-loop-stmt : goal.decreases-lower_stmts-loop-stmt
decreases-lower_stmts-loop-stmt l = length l.rest
