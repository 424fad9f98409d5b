use Rattle.std.proofs.Common.{◌+◌, ◌*◌, max}
use Rattle.code_form.specs.declared.expr.Expr.{size-Expr}
use Rattle.code_form.proofs.eval.+eval.Given as goal

abbrev pub decreases-eval : goal.decreases-eval
decreases-eval l = 2 * size-Expr l.e.now

abbrev pub decreases-over_two : goal.decreases-over_two
decreases-over_two l = 2 * max (size-Expr l.a.now) (size-Expr l.b.now) + 1

abbrev pub decreases-over_offset : goal.decreases-over_offset
decreases-over_offset l = 2 * size-Expr l.a.now + 1

abbrev pub decreases-over_not : goal.decreases-over_not
decreases-over_not l = 2 * size-Expr l.a.now + 1

abbrev pub decreases-over_length : goal.decreases-over_length
decreases-over_length l = 2 * size-Expr l.a.now + 1
