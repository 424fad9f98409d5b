use Rattle.std.proofs.Common.{◌≡◌, map, take}
use Rattle.tht_tree.specs.Normal.Linear.{coefficient_of}
use Rattle.pure_terms.proofs.linear.read_each.Given as goal

abbrev pub invariant-loop-product : goal.invariant-loop-product
invariant-loop-product l = l.row.items ≡ map (λ p. coefficient_of p l.form) (take l.product-index l.products)
