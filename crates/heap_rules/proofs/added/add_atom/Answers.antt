use Rattle.std.proofs.Common.{◌≡◌, ◌+◌, ◌≤◌, sym, ◌∙◌, ap, subst, arith}
use Rattle.std.specs.Prelude.{All}
use Rattle.tht_tree.specs.Rules.Context.{context_of, context_nodes, with_atom}
use Rattle.heap_rules.specs.Changes.{more}
use Rattle.heap_rules.proofs.MoreAtoms.{more_nodes, numbered_more}
use Rattle.heap_rules.proofs.added.add_atom.Goals as goal

pub invariant_of-known-2 : goal.invariant_of-known-2
invariant_of-known-2 c =
    let me = c.args.known.now in
    let old = context_of me.state in
    let p = c.args.atom in
    let next = c.in-Some.ensures in
    let is : c.in-Some.number ≡ me.state.made + 1 = next.1 in
    let e = more_nodes p old me.numbered in
    let exact : c.saturating_add-nodes.result ≡ context_nodes (more p old) = omega (arith, e, me.counted, c.assn_size.ensures, c.saturating_add-nodes.ensures, c.if-nodes.false) in
    record {
      numbered = subst (All (λ x. x.0 ≤ c.in-Some.number)) (sym c.in_ok-insert.ensures.entries) (subst (λ n. All (λ x. x.0 ≤ n) (with_atom n p old.atoms)) (sym is) (numbered_more p old me.numbered));
      counted = exact ∙ ap (λ n. context_nodes (record old { atoms = with_atom n p old.atoms })) (sym is) ∙ ap (λ es. context_nodes (record old { atoms = es })) (sym c.in_ok-insert.ensures.entries);
      in_range = omega (arith, c.saturating_add-nodes.ensures);
      made_in_range = omega (arith, is, next.0);
      placed = me.placed;
    }

pub returns-clause-ok : goal.returns-clause-ok
returns-clause-ok c =
    let old = context_of c.args.known.now.state in
    ap (λ es. record old { atoms = es; made = c.in-Some.number }) c.in_ok-insert.ensures.entries ∙ ap (λ n. record old { atoms = with_atom n c.args.atom old.atoms; made = n }) c.in-Some.ensures.1
