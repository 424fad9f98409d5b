use Rattle.tree_copies.proofs.OneLevel.{bodies_same, stmts_same, ends_same}
use Rattle.tht_tree.proofs.Rows.{left_after, ended}
use Rattle.tree_copies.proofs.body.+same.Goals as goal

pub same-returns : goal.same-returns
same-returns t c = rw (← c.get.ensures, ← c.get-2.ensures) (bodies_same _ _ c.same_body.ensures)

pub same_stmt-returns : goal.same_stmt-returns
same_stmt-returns t c = stmts_same _ _ c.same_kind.ensures

pub same_end-returns : goal.same_end-returns
same_end-returns t c = ends_same _ _ c.same_end_kind.ensures

pub same_stmts-loop-stmt-preserved : goal.same_stmts-loop-stmt-preserved
same_stmts-loop-stmt-preserved t c = left_after _ _ _ _ _ _ _ _ c.in-Some.ensures.steps (c.same_stmt.ensures.0 c.if-not-same_stmt.false) c.loop-stmt.invariant

pub same_stmts-returns : goal.same_stmts-returns
same_stmts-returns t c = ended _ _ _ _ c.in-None.ensures.steps c.loop-stmt.invariant
