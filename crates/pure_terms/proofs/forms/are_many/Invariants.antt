use Rattle.std.proofs.Common.{◌≡◌, ◌+◌, length}
use Rattle.tht_tree.specs.Normal.Sums.{plus}
use Rattle.pure_terms.proofs.forms.are_many.Given as goal

abbrev pub invariant-loop-turn : goal.invariant-loop-turn
invariant-loop-turn l = l._turn + length (plus l.rest.left.now l.rest.right.now) ≡ length (plus l.fn.left l.fn.right)
