use Rattle.heap_assert.proofs.ArgumentPairs.{one_ended, added_one, added_all}
use Rattle.heap_assert.proofs.instances.add_arguments.Goals as goal

pub loop-param-preserved : goal.loop-param-preserved
loop-param-preserved c = added_one _ _ _ _ _ _ _ _ _ c.in-Some.ensures.steps c.in_ok-add_argument.ensures c.loop-param.invariant

pub returns : goal.returns
returns c = added_all _ _ _ _ (one_ended _ _ c.in-None.ensures.steps) c.loop-param.invariant
