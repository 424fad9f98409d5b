use Rattle.std.proofs.Common.{◌≤◌, ◌-◌, ◌^◌, min, sym, ◌∙◌, ap, subst, arith}
use Rattle.std.specs.Prelude.{All}
use Rattle.tht_tree.specs.Rules.Context.{context_of, context_nodes}
use Rattle.assn_laws.proofs.AtomLists.{All-without}
use Rattle.heap_rules.proofs.AtomSizes.{nodes_of, is_within, is_left}
use Rattle.heap_rules.proofs.atoms.take_atom.Goals as goal

pub overflow_sub-known : goal.overflow_sub-known
overflow_sub-known c =
    let me = c.args.known.now in
    is_within c.args.number (context_of me.state) me.nodes c.size_of.result me.counted me.in_range (c.size_of.ensures ∙ ap (λ o. min (nodes_of o) (2 ^ 64 - 1)) c.remove-atom.ensures.atom)

pub invariant_of-known : goal.invariant_of-known
invariant_of-known c =
    let me = c.args.known.now in
    let old = context_of me.state in
    let size = c.size_of.ensures ∙ ap (λ o. min (nodes_of o) (2 ^ 64 - 1)) c.remove-atom.ensures.atom in
    let left = is_left c.args.number old me.nodes c.size_of.result me.counted me.in_range size in
    record {
      numbered = subst (All (λ x. x.0 ≤ me.state.made)) (sym c.remove-atom.ensures.left) (All-without (λ x. x.0 ≤ me.state.made) c.args.number me.state.atoms.entries me.numbered);
      counted = left ∙ ap (λ es. context_nodes (record old { atoms = es })) (sym c.remove-atom.ensures.left);
      in_range = omega (arith, me.in_range);
      made_in_range = me.made_in_range;
      placed = me.placed;
    }

pub returns-clause-left : goal.returns-clause-left
returns-clause-left c = ap (λ es. record (context_of c.args.known.now.state) { atoms = es }) c.remove-atom.ensures.left
