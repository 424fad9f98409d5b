use Rattle.std.proofs.Common.{None, sym, subst}
use Rattle.std.specs.String.{string_bytes}
use Rattle.program_forms.specs.Levels.{Puts}
use Rattle.program_forms.proofs.Leveled.{puts_same}
use Rattle.program_forms.proofs.levels.put_back.Goals as goal

pub returns-in-None-clause-ok : goal.returns-in-None-clause-ok
returns-in-None-clause-ok c =
    subst (λ o. Puts c.args.levels.now c.remove.new.levels (string_bytes c.args.name) o) (sym c.in-None.is)
    (puts_same c.args.levels.now c.remove.new.levels c.as_str.result.now (string_bytes c.args.name) None c.remove.ensures c.as_str.ensures.value)
