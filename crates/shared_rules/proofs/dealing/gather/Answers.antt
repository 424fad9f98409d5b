use Rattle.std.proofs.Common.{◌≡◌, ◌+◌, ◌∷◌, slice_index_or, drop, add-one, drop-cons, sym, ◌∙◌, ap}
use Rattle.shared_rules.specs.Gathering.{gathered}
use Rattle.shared_rules.proofs.dealing.gather.Goals as goal

pub loop-number-preserved : goal.loop-number-preserved
loop-number-preserved c =
    let numbers = c.args.numbers.now in
    let i = c.loop-number.number-index in
    let n = slice_index_or numbers i 0 in
    let here : drop i numbers ≡ n ∷ drop (i + 1) numbers =
    drop-cons numbers i 0 c.loop-number-test.true ∙ ap (λ k. n ∷ drop k numbers) (sym (add-one i)) in
    let atoms = c.args.atoms.now.entries in
    c.loop-number.invariant ∙ ap (λ z. gathered z atoms c.loop-number.found.entries) here ∙ ap (gathered (drop (i + 1) numbers) atoms) (sym c.in_ok-gather_one.ensures)
