use Rattle.heap_assert.proofs.PutFits.{too_many, too_deep, it_fits}
use Rattle.heap_assert.proofs.putting.put_within.Goals as goal

pub returns-then-put_size-gt-ASSERTION_NODES : goal.returns-then-put_size-gt-ASSERTION_NODES
returns-then-put_size-gt-ASSERTION_NODES c = too_many _ _ c.outside-terms.ensures _ _ c.put_size.ensures c.if-put_size-gt-ASSERTION_NODES.true

pub returns-then-put_depth-gt-ASSERTION_LEVELS : goal.returns-then-put_depth-gt-ASSERTION_LEVELS
returns-then-put_depth-gt-ASSERTION_LEVELS c = too_deep _ _ c.outside-terms.ensures _ _ c.put_depth.ensures c.if-put_depth-gt-ASSERTION_LEVELS.true

pub returns : goal.returns
returns c =
    it_fits _ _ c.outside-terms.ensures _ _ _ _ _ _ c.put_size.ensures c.put_depth.ensures c.if-put_size-gt-ASSERTION_NODES.false c.if-put_depth-gt-ASSERTION_LEVELS.false
    c.zeros_made.ensures c.in_ok-level.ensures c.in_ok-put_inside.ensures
