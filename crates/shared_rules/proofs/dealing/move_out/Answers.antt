use Rattle.std.proofs.Common.{rules, Err, ◌≡◌, ◌≤◌, ◌+◌, ◌∷◌, slice_index_or, drop, add-one, drop-cons, sym, ◌∙◌, ap, subst}
use Rattle.std.specs.Prelude.{All}
use Rattle.assn_laws.proofs.AtomLists.{ascends_from, All-without}
use Rattle.tht_logic.specs.Rules.Calls.{dealt}
use Rattle.shared_rules.specs.Dealing.{Moves}
use Rattle.shared_rules.proofs.Dealt.{onto_next, onto_stops, none_moved}
use Rattle.shared_rules.proofs.dealing.move_out.Goals as goal

pub loop-number-init : goal.loop-number-init
loop-number-init c = record {
  left = none_moved c.args.spot c.args.numbers.now c.args.atoms.now.entries c.new-given.result.entries (ascends_from c.args.atoms.now.entries c.ascend.ensures) c.new-given.ensures.empty;
  numbered = c.requires;
}

pub loop-number-preserved : goal.loop-number-preserved
loop-number-preserved c =
    let numbers = c.args.numbers.now in
    let i = c.loop-number.number-index in
    let n = slice_index_or numbers i 0 in
    let w = c.in_ok-move_one.ensures in
    let here : drop i numbers ≡ n ∷ drop (i + 1) numbers =
    drop-cons numbers i 0 c.loop-number-test.true ∙ ap (λ k. n ∷ drop k numbers) (sym (add-one i)) in
    let atoms = c.loop-number.atoms.entries in
    record {
      left =
          c.loop-number.invariant.left
          ∙ onto_next c.args.spot (drop i numbers) (drop (i + 1) numbers) n atoms c.loop-number.given.entries here c.move_one.new.atoms.entries c.move_one.new.given.entries w;
      numbered = subst (All (λ a. a.0 ≤ c.args.made)) (sym w.taken) (All-without (λ a. a.0 ≤ c.args.made) n atoms c.loop-number.invariant.numbered);
    }

pub returns-in_err-move_one : goal.returns-in_err-move_one
returns-in_err-move_one c =
    let numbers = c.args.numbers.now in
    let i = c.loop-number.number-index in
    let n = slice_index_or numbers i 0 in
    let here : drop i numbers ≡ n ∷ drop (i + 1) numbers =
    drop-cons numbers i 0 c.loop-number-test.true ∙ ap (λ k. n ∷ drop k numbers) (sym (add-one i)) in
    let stopped = onto_stops c.args.spot (drop i numbers) (drop (i + 1) numbers) n c.loop-number.atoms.entries c.loop-number.given.entries here _ _ c.loop-number.invariant.left c.in_err-move_one.ensures in
    let is : c.from_residual.result ≡ Err c.in_err-move_one.field-0.0 = search rules in
    subst (λ r. Moves r (dealt c.args.spot numbers c.args.atoms.now.entries) c.move_one.new.atoms.entries) (sym is) stopped
