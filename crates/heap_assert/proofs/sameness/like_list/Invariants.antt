use Rattle.heap_assert.specs.SideBySide.{pairs_of, like_lists}
use Rattle.heap_assert.proofs.LikeLists.{LeftDecides}
use Rattle.heap_assert.proofs.sameness.like_list.Given as goal

abbrev pub invariant-loop-term : goal.invariant-loop-term
invariant-loop-term l = LeftDecides (pairs_of l.binders) l.term-iterator.a.rest.now l.term-iterator.b.rest.now (like_lists (pairs_of l.binders) l.terms l.others)
