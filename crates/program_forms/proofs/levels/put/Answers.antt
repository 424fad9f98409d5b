use Rattle.std.proofs.Common.{Some}
use Rattle.std.specs.String.{string_bytes}
use Rattle.program_forms.proofs.Leveled.{puts}
use Rattle.program_forms.proofs.levels.put.Goals as goal

pub returns-clause-ok : goal.returns-clause-ok
returns-clause-ok c = puts c.args.levels.now c.insert.new.self (string_bytes c.args.name) (Some c.args.level) c.in_ok-insert.ensures.updates
