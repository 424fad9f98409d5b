use Rattle.program_forms.proofs.Leveled.{none_leveled}
use Rattle.program_forms.proofs.levels.no_levels.Goals as goal

pub returns : goal.returns
returns c = λ bound e. none_leveled c.new.result bound c.new.ensures.empty e
