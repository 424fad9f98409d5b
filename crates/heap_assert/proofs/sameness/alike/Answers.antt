use Rattle.std.proofs.Common.{◌∙◌}
use Rattle.heap_assert.proofs.LikeAssns.{alike_is}
use Rattle.heap_assert.proofs.KeptHeaps.{decides_same, same_heaps}
use Rattle.heap_assert.proofs.sameness.alike.Goals as goal

pub returns-clause-test : goal.returns-clause-test
returns-clause-test c = c.like_assn.ensures ∙ alike_is _ _ _ c.no_binders-binders.ensures

pub returns-clause-decides : goal.returns-clause-decides
returns-clause-decides c = decides_same _ _ _ (c.like_assn.ensures ∙ alike_is _ _ _ c.no_binders-binders.ensures)

pub returns-clause-heaps : goal.returns-clause-heaps
returns-clause-heaps c e = same_heaps _ _ _ (c.like_assn.ensures ∙ alike_is _ _ _ c.no_binders-binders.ensures) e
