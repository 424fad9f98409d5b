use Rattle.heap_assert.proofs.ArgumentPairs.{one_ended, it_is_first, it_is_later, it_is_none}
use Rattle.heap_assert.proofs.instances.argument_for.Goals as goal

pub loop-param-preserved : goal.loop-param-preserved
loop-param-preserved c = it_is_later _ _ _ _ _ _ _ _ c.in-Some.ensures.steps (λ e. cc (c.same.ensures.1 e)) c.loop-param.invariant

pub returns-then-same : goal.returns-then-same
returns-then-same c = it_is_first _ _ _ _ _ _ _ _ c.in-Some.ensures.steps (c.same.ensures.0 c.if-same.true) c.loop-param.invariant

pub returns : goal.returns
returns c = it_is_none _ _ _ _ (one_ended _ _ c.in-None.ensures.steps) c.loop-param.invariant
