use Rattle.std.proofs.Common.{◌≡◌, ◌+◌, ◌≤◌, sym, ◌∙◌, ap, subst, arith}
use Rattle.std.specs.Prelude.{All}
use Rattle.tht_tree.specs.Rules.Context.{context_of, context_nodes, with_atom}
use Rattle.hoare_rules.specs.Steps.{new_cell, with_next}
use Rattle.hoare_rules.proofs.Exact.{next_size, next_numbered}
use Rattle.hoare_rules.proofs.allocs.add_cell.Goals as goal

pub invariant_of-known-2 : goal.invariant_of-known-2
invariant_of-known-2 c =
    let me = c.args.known.now in
    let old = context_of me.state in
    let name = c.args.name.now in
    let p = new_cell name c.args.index c.args.value.now in
    let same : c.insert.new.self.entries ≡ with_atom (me.state.made + 1) p me.state.atoms.entries =
    c.in_ok-insert.ensures.entries ∙ ap (λ a. with_atom (me.state.made + 1) a me.state.atoms.entries) c.in_ok-atom.ensures.ok in
    let size = next_size old me.numbered p in
    let room = c.requires.room in
    let counted = me.counted in
    let nodes = c.new_cell_size.ensures name in
    let whole : me.nodes + c.new_cell_size.result ≡ context_nodes (with_next p old) = omega (arith, size, nodes, room, counted) in
    record {
      numbered = subst (All (λ x. x.0 ≤ me.state.made + 1)) (sym same) (next_numbered old me.numbered p);
      counted = whole ∙ ap (λ es. context_nodes (record old { atoms = es })) (sym same);
      in_range = omega (arith, whole, size, room);
      made_in_range = c.requires.numbers;
      placed = me.placed;
    }
