use Rattle.std.proofs.Common.{◌≡◌, ◌-◌, ◌^◌, min, take}
use Rattle.tht_tree.specs.Rules.Sizes.{max_by}
use Rattle.tht_tree.specs.Normal.Putting.{put_levels}
use Rattle.pure_terms.specs.Inside.{puts_of}
use Rattle.heap_assert.proofs.sizes.terms_depth.Given as goal

abbrev pub invariant-loop-term : goal.invariant-loop-term
invariant-loop-term l = l.most ≡ min (max_by (put_levels (puts_of l.by)) (take l.term-index l.terms)) (2 ^ 64 - 1)
