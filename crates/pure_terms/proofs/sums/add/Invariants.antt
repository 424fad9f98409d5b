use Rattle.std.proofs.Common.{◌+◌, length}
use Rattle.tht_tree.specs.Normal.Sums.{plus}
use Rattle.pure_terms.proofs.NextMonomials.{SumsTo}
use Rattle.pure_terms.proofs.sums.add.Given as goal

abbrev pub invariant-turns : goal.invariant-turns
invariant-turns l = SumsTo l.sum l.left l.right (plus l.fn.left l.fn.right)

abbrev pub decreases-turns : goal.decreases-turns
decreases-turns l = length l.left + length l.right
