use Rattle.std.proofs.Common.{◌≡◌, drop}
use Rattle.pure_terms.specs.Readings.{ascend, ascend_from}
use Rattle.pure_terms.proofs.linear.ascend.Given as goal

abbrev pub invariant-loop-product : goal.invariant-loop-product
invariant-loop-product l = ascend_from l.last (drop l.product-index l.others) ≡ ascend l.products
