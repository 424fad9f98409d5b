use Rattle.std.proofs.Common.{sym, ◌∙◌}
use Rattle.pure_proofs.proofs.Assumed.{last_same, none_empty}
use Rattle.pure_proofs.proofs.known.drop_last.Goals as goal

pub returns-in-Some : goal.returns-in-Some
returns-in-Some c = λ was h e. (last_same c.pop.new.self was c.in-Some.hyp h (sym c.in-Some.ensures ∙ e)).0

pub returns-in_default : goal.returns-in_default
returns-in_default c = λ was h e. none_empty c.args.hyps.now was h c.in_default.ensures.0 e
