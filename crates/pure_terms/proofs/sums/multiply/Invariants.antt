use Rattle.std.proofs.Common.{drop, flat_map}
use Rattle.pure_terms.specs.Making.{products_with}
use Rattle.pure_terms.proofs.GrownSums.{GrownTo}
use Rattle.pure_terms.proofs.sums.multiply.Given as goal

abbrev pub invariant-loop-m : goal.invariant-loop-m
invariant-loop-m l = GrownTo l.products (flat_map (λ m. products_with m l.right) (drop l.m-index l.left)) (flat_map (λ m. products_with m l.right) l.left)
