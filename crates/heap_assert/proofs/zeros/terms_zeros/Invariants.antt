use Rattle.std.proofs.Common.{◌≡◌, take}
use Rattle.tht_tree.specs.Rules.Sizes.{max_by}
use Rattle.pure_terms.specs.Inside.{puts_of}
use Rattle.pure_terms.specs.Zeros.{put_zeros}
use Rattle.heap_assert.proofs.zeros.terms_zeros.Given as goal

abbrev pub invariant-loop-term : goal.invariant-loop-term
invariant-loop-term l = l.most ≡ max_by (put_zeros (puts_of l.by)) (take l.term-index l.terms)
