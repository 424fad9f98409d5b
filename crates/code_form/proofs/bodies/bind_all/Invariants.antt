use Rattle.std.proofs.Common.{take}
use Rattle.code_form.specs.Lowering.{Bound, bound_in}
use Rattle.code_form.proofs.bodies.bind_all.Given as goal

abbrev pub invariant-loop-stmt : goal.invariant-loop-stmt
invariant-loop-stmt l = Bound l.fn.work l.work (bound_in (take l.stmt-index l.stmts))
