use Rattle.std.proofs.Common.{◌≡◌, ◌++◌, map, length}
use Rattle.tht_tree.specs.Normal.Sums.{monomial_term}
use Rattle.pure_terms.proofs.trees.monomial_terms.Given as goal

abbrev pub invariant-loop-m : goal.invariant-loop-m
invariant-loop-m l = l.terms ++ map (λ m. monomial_term m.coefficient m.atoms) l.rest ≡ map (λ m. monomial_term m.coefficient m.atoms) l.fn.sum

abbrev pub decreases-loop-m : goal.decreases-loop-m
decreases-loop-m l = length l.rest
