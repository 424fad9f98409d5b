use Rattle.std.proofs.Common.{◌≡◌, Ok, refl, sym, ap, subst}
use Rattle.std.specs.Prelude.{OnOk}
use Rattle.tht_tree.specs.declared.rule.RuleCode.TheVariants.{R10}
use Rattle.tht_tree.specs.declared.state.Local.TheVariants.{Variable}
use Rattle.tht_tree.specs.Rules.Context.{Context, context_of, with_local}
use Rattle.tht_logic.specs.Flatten.{with_assn}
use Rattle.tht_logic.specs.Rules.Checking.{on_true, if_fits}
use Rattle.hoare_rules.proofs.Agreeing.{refuses_large}
use Rattle.hoare_rules.proofs.Following.{made_says}
use Rattle.hoare_rules.proofs.outcomes.add_outcome.Goals as goal

pub returns-then-not-has_room : goal.returns-then-not-has_room
returns-then-not-has_room c =
    let me = c.args.known.now in
    let old : Context = context_of me.state in
    let spot = c.args.outcome.spot in
    let named : Context = record old { scope = with_local old.scope c.args.outcome.name.now (Variable c.args.outcome.sort) } in
    let all : Context = with_assn c.args.assn named in
    refuses_large c.refused.result spot (if_fits spot all) c.refused.ensures
    (ap (λ b. on_true spot R10 b (Ok all)) (sym (c.if-not-has_room.ensures named me.numbered (sym me.counted) refl)))

pub returns : goal.returns
returns c =
    let me = c.args.known.now in
    let old : Context = context_of me.state in
    let spot = c.args.outcome.spot in
    let named : Context = record old { scope = with_local old.scope c.args.outcome.name.now (Variable c.args.outcome.sort) } in
    let all : Context = with_assn c.args.assn named in
    let now = context_of c.add_atoms.new.known.state in
    made_says c.add_atoms.result (if_fits spot all) all now
    (ap (λ b. on_true spot R10 b (Ok all)) (sym (c.if-not-has_room.ensures named me.numbered (sym me.counted) refl)))
    (subst (λ m. OnOk c.add_atoms.result (now ≡ with_assn c.args.assn m)) c.in_ok-bind.ensures.ok c.add_atoms.ensures.ok)
    c.add_atoms.ensures.memory
