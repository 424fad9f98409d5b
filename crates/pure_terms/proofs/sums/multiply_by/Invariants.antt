use Rattle.std.proofs.Common.{drop}
use Rattle.pure_terms.specs.Making.{products_with}
use Rattle.pure_terms.proofs.GrownSums.{GrownTo}
use Rattle.pure_terms.proofs.sums.multiply_by.Given as goal

abbrev pub invariant-loop-n : goal.invariant-loop-n
invariant-loop-n l = GrownTo l.products (products_with l.m (drop l.n-index l.sum)) (products_with l.m l.sum)
