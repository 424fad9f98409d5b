use Rattle.std.proofs.Common.{refl, arith}
use Rattle.tht_front.proofs.OrderRuns.{goes_on}
use Rattle.tht_front.proofs.report.write_order.Goals as goal

pub loop-rest-preserved : goal.loop-rest-preserved
loop-rest-preserved c = (
  goes_on _ _ _ _ c.loop-rest.place c.in_ok-place.place _ c.leading-count.result c.loop-rest.rest.now c.rest_after-after.result.now
      c.in-len1-up.len_at_least refl c.leading-count.ensures.count c.rest_after-after.ensures
      c.in_ok-write_run.ensures (rw (← c.is_empty.ensures) c.in_ok-place.ensures.text) c.in_ok-place.ensures.place c.loop-rest.invariant.0,
  grind arith,
)
