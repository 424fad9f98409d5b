use Rattle.std.proofs.Common.{◌∙◌}
use Rattle.heap_assert.proofs.LevelNames.{one_longer, all_zeros}
use Rattle.heap_assert.proofs.putting.bound_name.Goals as goal

pub loop-preserved : goal.loop-preserved
loop-preserved c = one_longer _ _ _ c.loop.invariant c.in_ok-push_str.ensures.bytes

pub returns : goal.returns
returns c = c.new.ensures ∙ all_zeros _ _ _ c.loop.invariant c.loop.auto.counter-end c.loop-test.false
