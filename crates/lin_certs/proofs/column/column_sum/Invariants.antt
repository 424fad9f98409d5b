use Rattle.std.proofs.Common.{length}
use Rattle.lin_certs.proofs.Columns.{SumsTo}
use Rattle.lin_certs.proofs.column.column_sum.Given as goal

abbrev pub invariant-loop-form : goal.invariant-loop-form
invariant-loop-form l =
    SumsTo l.variable l.forms l.by (length l.yielded) l.sum
    × (goal.iterator-loop-form).can_next l.form-iterator
    × (goal.iterator-loop-form).is_finite l.form-iterator
