use Rattle.std.proofs.Common.{◌≡◌, ◌++◌, drop}
use Rattle.pure_terms.specs.Readings.{merged_row}
use Rattle.pure_terms.proofs.linear.read_once.Given as goal

abbrev pub invariant-loop-product : goal.invariant-loop-product
invariant-loop-product l = l.row.items ++ merged_row (drop l.product-index l.products) l.rest ≡ merged_row l.products l.form
