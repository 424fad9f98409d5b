use Rattle.std.proofs.Common.{◌≡◌, ◌-◌, ◌^◌, min, take, sum_by}
use Rattle.tht_tree.specs.Normal.Putting.{put_nodes}
use Rattle.pure_terms.specs.Inside.{puts_of}
use Rattle.heap_assert.proofs.sizes.terms_size.Given as goal

abbrev pub invariant-loop-term : goal.invariant-loop-term
invariant-loop-term l = l.total ≡ min (sum_by (put_nodes (puts_of l.by)) (take l.term-index l.terms)) (2 ^ 64 - 1)
