use Rattle.std.proofs.Common.{◌≡◌, drop}
use Rattle.program_forms.specs.Names.{names_of}
use Rattle.program_forms.specs.Statements.{bound_by}
use Rattle.program_forms.proofs.bodies.bind_all.Given as goal

abbrev pub invariant-loop-stmt : goal.invariant-loop-stmt
invariant-loop-stmt l = bound_by l.stmts (names_of l.fn.binders) ≡ bound_by (drop l.stmt-index l.stmts) (names_of l.binders)
