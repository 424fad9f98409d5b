use Rattle.lin_certs.proofs.Columns.{SumsTo}
use Rattle.lin_certs.proofs.column.narrow_len.Given as goal

abbrev pub invariant-loop-index : goal.invariant-loop-index
invariant-loop-index l = SumsTo l.variable l.forms l.by l.index l.sum
