use Rattle.std.proofs.Common.{arith}
use Rattle.std.proofs.lemmas.Grind.{common_steps}
use Rattle.tht_ports.proofs.Moves.{wrote_on}
use Rattle.tht_ports.proofs.ends.write_all.Goals as goal

pub loop-sent-preserved : goal.loop-sent-preserved
loop-sent-preserved g c = record {
  bytes = wrote_on _ _ _ _ _ _ _ (grind (arith, common_steps)) c.loop-sent.invariant.bytes c.in-Ok.ensures.bytes;
  faults = grind (arith, common_steps, c.in-Ok.ensures.cause.kept);
  bound = omega (arith, c.in-Ok.ensures.bound.most);
}
