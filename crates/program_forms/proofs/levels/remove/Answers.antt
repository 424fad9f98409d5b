use Rattle.std.proofs.Common.{None}
use Rattle.program_forms.proofs.Leveled.{puts}
use Rattle.program_forms.proofs.levels.remove.Goals as goal

pub returns : goal.returns
returns c = puts c.args.levels.now c.remove.new.self c.args.name.now None c.remove.ensures.updates
