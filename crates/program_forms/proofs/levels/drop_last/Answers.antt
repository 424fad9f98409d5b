use Rattle.std.proofs.Common.{sym, ◌∙◌}
use Rattle.program_forms.proofs.Leveled.{last_same, none_last}
use Rattle.program_forms.proofs.levels.drop_last.Goals as goal

pub returns-in-Some : goal.returns-in-Some
returns-in-Some c = λ front s e. last_same c.pop.new.self front c.in-Some.shadow s (sym c.in-Some.ensures ∙ e)

pub returns-in_default : goal.returns-in_default
returns-in_default c = λ front s e. none_last c.args.bound.now c.pop.new.self front s c.in_default.ensures.0 e
