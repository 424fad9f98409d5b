use Rattle.std.proofs.Common.{◌≡◌, take, map}
use Rattle.tht_tree.specs.Normal.Putting.{put_in}
use Rattle.pure_terms.specs.Inside.{puts_of}
use Rattle.heap_assert.proofs.putting.put_terms.Given as goal

abbrev pub invariant-loop-term : goal.invariant-loop-term
invariant-loop-term l = l.made ≡ map (put_in (puts_of l.by)) (take l.term-index l.terms)
