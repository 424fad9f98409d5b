use Rattle.std.proofs.Common.{rules, sym, ◌∙◌, ap}
use Rattle.std.specs.Option.{option_copied_mut}
use Rattle.pure_terms.specs.Locals.{locals_of}
use Rattle.pure_proofs.proofs.Maps.{set_again, not_gone}
use Rattle.pure_proofs.proofs.known.set_local.Goals as goal

pub returns-in-Some : goal.returns-in-Some
returns-in-Some c = λ was e.
    set_again c.args.scope.now (c.get_mut.follows.lender c.args.local) c.as_str.result.now c.args.name.now c.args.local was
    ((c.get_mut.follows.holds c.args.local).3 (search rules)) c.as_str.ensures e

pub returns-in_default : goal.returns-in_default
returns-in_default c = λ was e.
    not_gone c.args.scope.now c.args.name.now was e (ap (locals_of c.args.scope.now) (sym c.as_str.ensures) ∙ sym c.get_mut.ensures.value ∙ ap option_copied_mut c.in_default.is)
