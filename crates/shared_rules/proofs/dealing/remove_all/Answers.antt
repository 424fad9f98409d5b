use Rattle.std.proofs.Common.{◌≡◌, ◌≤◌, ◌+◌, ◌∷◌, slice_index_or, drop, add-one, drop-cons, sym, ◌∙◌, ap, subst}
use Rattle.std.specs.Prelude.{All}
use Rattle.assn_laws.proofs.AtomLists.{All-without}
use Rattle.shared_rules.specs.Gathering.{left_of}
use Rattle.shared_rules.proofs.dealing.remove_all.Goals as goal

pub loop-number-preserved : goal.loop-number-preserved
loop-number-preserved c =
    let numbers = c.args.numbers.now in
    let i = c.loop-number.number-index in
    let n = slice_index_or numbers i 0 in
    let here : drop i numbers ≡ n ∷ drop (i + 1) numbers =
    drop-cons numbers i 0 c.loop-number-test.true ∙ ap (λ k. n ∷ drop k numbers) (sym (add-one i)) in
    let atoms = c.loop-number.atoms.entries in
    record {
      left = c.loop-number.invariant.left ∙ ap (λ z. left_of z atoms) here ∙ ap (left_of (drop (i + 1) numbers)) (sym c.remove.ensures.left);
      numbered = subst (All (λ a. a.0 ≤ c.args.made)) (sym c.remove.ensures.left) (All-without (λ a. a.0 ≤ c.args.made) n atoms c.loop-number.invariant.numbered);
    }
