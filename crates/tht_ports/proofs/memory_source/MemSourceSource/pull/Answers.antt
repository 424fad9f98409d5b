use Rattle.std.proofs.Common.{arith}
use Rattle.std.proofs.lemmas.Grind.{common_steps}
use Rattle.tht_ports.proofs.Moves.{moved}
use Rattle.tht_ports.proofs.memory_source.MemSourceSource.pull.Goals as goal

pub returns-clause-bytes : goal.returns-clause-bytes
returns-clause-bytes c =
    moved c.self.inside.at c.move_front-count.result c.self.inside.most _ c.self.inside.bytes.items _ c.args.self.now.left _
    (grind (arith, common_steps, c.self.view_is))
    (grind (arith, common_steps))
    c.move_front-count.ensures.front
    c.move_front-count.ensures.count
    c.self.invariant.1
