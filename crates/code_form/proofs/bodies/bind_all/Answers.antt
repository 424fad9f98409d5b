use Rattle.code_form.proofs.LoweredBodies.{bound_next}
use Rattle.code_form.proofs.bodies.bind_all.Goals as goal

pub loop-stmt-preserved : goal.loop-stmt-preserved
loop-stmt-preserved c =
    bound_next c.args.work.now _ _ c.args.stmts.now c.loop-stmt.stmt-index c.stmt-item.result c.loop-stmt-test.true c.stmt-item.is c.loop-stmt.invariant c.in_ok-bind.ensures
