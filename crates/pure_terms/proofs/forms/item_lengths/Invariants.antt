use Rattle.std.proofs.Common.{◌≡◌, ◌++◌, map, length}
use Rattle.tht_tree.specs.Normal.Forms.{item_length}
use Rattle.pure_terms.proofs.forms.item_lengths.Given as goal

abbrev pub invariant-loop-item : goal.invariant-loop-item
invariant-loop-item l = l.sums ++ map item_length l.rest ≡ map item_length l.fn.items

abbrev pub decreases-loop-item : goal.decreases-loop-item
decreases-loop-item l = length l.rest
