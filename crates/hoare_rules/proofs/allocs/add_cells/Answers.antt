use Rattle.std.proofs.Common.{◌≡◌, ◌+◌, ◌∷◌, suc, drop, length, add-one, drop-cons, sym, ◌∙◌, ap, arith}
use Rattle.tht_tree.specs.Rules.Context.{context_of, context_nodes}
use Rattle.tht_logic.specs.Flatten.{with_atoms}
use Rattle.tht_logic.specs.Rules.Commands.{new_cells}
use Rattle.hoare_rules.specs.Steps.{new_cell, all_nodes}
use Rattle.hoare_rules.proofs.Exact.{next_size}
use Rattle.hoare_rules.proofs.allocs.add_cells.Goals as goal

pub loop-index-preserved : goal.loop-index-preserved
loop-index-preserved c =
    let values = c.args.values.now in
    let name = c.args.name.now in
    let i = c.loop-index.index in
    let x = c.index-values-index.result in
    let now = context_of c.loop-index.known.state in
    let it = c.loop-index.invariant in
    let p = new_cell name i x in
    let rest = new_cells name (i + 1) (drop (i + 1) values) in
    let here : drop i values ≡ x ∷ drop (i + 1) values =
    drop-cons values i x c.loop-index-test.true ∙ ap (λ z. z ∷ drop (suc i) values) (sym c.index-values-index.is) ∙ ap (λ k. x ∷ drop k values) (sym (add-one i)) in
    let cells : new_cells name i (drop i values) ≡ p ∷ rest =
    ap (new_cells name i) here ∙ ap (λ k. p ∷ new_cells name k (drop (i + 1) values)) (sym (add-one i)) in
    let made = c.in_ok-add_cell.ensures.ok in
    let size = next_size now c.loop-index.known.numbered p in
    let grown = ap context_nodes made in
    let parts = ap all_nodes cells in
    let numbers = ap (λ d. d.made) made in
    let counts = ap length here in
    let room = it.room in
    let few = it.numbers in
    record {
      made = it.made ∙ ap (λ ps. with_atoms ps now) cells ∙ ap (with_atoms rest) (sym made);
      room = omega (arith, room, grown, size, parts);
      numbers = omega (arith, few, numbers, counts);
    }
