use Rattle.std.proofs.Common.{◌∙◌}
use Rattle.hoare_rules.proofs.NewLocals.{locals_of-insert}
use Rattle.hoare_rules.proofs.names.bind.Goals as goal

pub returns-clause-ok : goal.returns-clause-ok
returns-clause-ok c = locals_of-insert c.in_ok-name.name c.args.scope.now c.insert.new.self c.args.name.now c.args.local c.in_ok-insert.ensures.updates (c.in_ok-name.ensures.ok ∙ c.as_str.ensures)
