use Rattle.std.proofs.Common.{◌≡◌, ◌≤◌, sym, ◌∙◌, ap, subst, arith}
use Rattle.std.specs.Prelude.{All}
use Rattle.tht_tree.specs.Rules.Context.{context_of, context_nodes}
use Rattle.assn_laws.proofs.AtomLists.{All-with}
use Rattle.heap_rules.specs.Changes.{changed}
use Rattle.heap_rules.proofs.AddedAtoms.{number_of}
use Rattle.heap_rules.proofs.MoreAtoms.{fits_nodes}
use Rattle.heap_rules.proofs.atoms.set_atom.Goals as goal

pub replace-requires-clause-small : goal.replace-requires-clause-small
replace-requires-clause-small c =
    let me = c.args.known.now in
    let l = number_of me.state.made c.args.number me.state.atoms.entries me.numbered c.requires.there in
    omega (arith, me.made_in_range)

pub invariant_of-known : goal.invariant_of-known
invariant_of-known c =
    let me = c.args.known.now in
    let old = context_of me.state in
    let l = number_of me.state.made c.args.number me.state.atoms.entries me.numbered c.requires.there in
    let small = fits_nodes (changed c.args.number c.args.atom old) c.requires.fits in
    let exact : c.nodes_with-nodes.result ≡ context_nodes (changed c.args.number c.args.atom old) = omega (arith, c.nodes_with-nodes.ensures, small) in
    record {
      numbered = subst (All (λ x. x.0 ≤ me.state.made)) (sym c.replace.ensures) (All-with (λ x. x.0 ≤ me.state.made) c.args.number c.args.atom me.state.atoms.entries me.numbered l);
      counted = exact ∙ ap (λ es. context_nodes (record old { atoms = es })) (sym c.replace.ensures);
      in_range = omega (arith, exact, small);
      made_in_range = me.made_in_range;
      placed = me.placed;
    }

pub returns : goal.returns
returns c = ap (λ es. record (context_of c.args.known.now.state) { atoms = es }) c.replace.ensures
