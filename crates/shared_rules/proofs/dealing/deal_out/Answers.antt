use Rattle.std.proofs.Common.{◌≡◌, ◌≤◌, Ok, sym, ◌∙◌, ap, subst}
use Rattle.std.specs.Prelude.{All}
use Rattle.tht_tree.specs.Rules.Context.{Context, context_of, context_nodes}
use Rattle.tht_logic.specs.Rules.Calls.{Dealt, dealt}
use Rattle.shared_rules.specs.Gathering.{left_of}
use Rattle.shared_rules.proofs.Dealt.{given_numbered, frame_numbered}
use Rattle.shared_rules.proofs.DealtSizes.{left_smaller}
use Rattle.shared_rules.proofs.Gathered.{always}
use Rattle.shared_rules.proofs.dealing.deal_out.Goals as goal

pub returns-in_err-atoms-clause-frame : goal.returns-in_err-atoms-clause-frame
returns-in_err-atoms-clause-frame c = ap {A = Context} (λ x. record x { atoms = c.names_alone.new.state.atoms.entries }) c.names_alone.ensures.same

pub returns-in_err-atoms-clause-kept : goal.returns-in_err-atoms-clause-kept
returns-in_err-atoms-clause-kept c = always c.from_residual-in_err-atoms.result (context_of c.names_alone.new.state ≡ context_of c.args.state.now) c.names_alone.ensures.same

pub returns-clause-given : goal.returns-clause-given
returns-clause-given c = ap {A = Context} (λ x. record x { atoms = c.replace.new.dest.entries }) c.in_ok-given.ensures.given

pub returns-clause-frame : goal.returns-clause-frame
returns-clause-frame c = ap {A = Context} (λ x. record x { atoms = c.remove_all.new.atoms.entries }) c.names_alone.ensures.same

pub returns-clause-given_numbered : goal.returns-clause-given_numbered
returns-clause-given_numbered c =
    let now = c.names_alone.new.state in
    let numbers = c.args.numbers.now in
    let numbered : All (λ a. a.0 ≤ now.made) now.atoms.entries = subst (λ x. All (λ a. a.0 ≤ x.made) x.atoms) (sym c.names_alone.ensures.same) c.requires in
    let made : now.made ≡ c.in_ok-given.given.made = ap (λ x. x.made) c.names_alone.ensures.same ∙ sym (ap (λ x. x.made) c.in_ok-given.ensures.given) in
    subst (λ m. All (λ a. a.0 ≤ m) c.replace.new.dest.entries) made
    (subst (λ m. All (λ a. a.0 ≤ now.made) m.entries) (sym c.replace.ensures.after)
    (given_numbered now.made c.args.spot numbers now.atoms.entries c.in_ok-atoms.atoms.entries (left_of numbers now.atoms.entries) c.in_ok-atoms.ensures numbered))

pub returns-clause-frame_numbered : goal.returns-clause-frame_numbered
returns-clause-frame_numbered c =
    let now = c.names_alone.new.state in
    let numbers = c.args.numbers.now in
    let numbered : All (λ a. a.0 ≤ now.made) now.atoms.entries = subst (λ x. All (λ a. a.0 ≤ x.made) x.atoms) (sym c.names_alone.ensures.same) c.requires in
    subst (All (λ a. a.0 ≤ now.made)) (sym c.remove_all.ensures)
    (frame_numbered now.made c.args.spot numbers now.atoms.entries c.in_ok-atoms.atoms.entries (left_of numbers now.atoms.entries) c.in_ok-atoms.ensures numbered)

pub returns-clause-smaller : goal.returns-clause-smaller
returns-clause-smaller c =
    let old = context_of c.args.state.now in
    let now = c.names_alone.new.state in
    let numbers = c.args.numbers.now in
    let dealt_now : Dealt = record { given = c.in_ok-atoms.atoms.entries; frame = left_of numbers now.atoms.entries } in
    let deals : dealt c.args.spot numbers old.atoms ≡ Ok dealt_now = ap (λ x. dealt c.args.spot numbers x.atoms) (sym c.names_alone.ensures.same) ∙ c.in_ok-atoms.ensures in
    let is = ap {A = Context} (λ x. record x { atoms = c.remove_all.new.atoms.entries }) c.names_alone.ensures.same ∙ ap (λ z. record old { atoms = z }) c.remove_all.ensures in
    subst (λ x. context_nodes x ≤ context_nodes old) (sym is) (left_smaller c.args.spot numbers old dealt_now deals)
