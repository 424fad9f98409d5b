use Rattle.tht_tree.specs.Rules.Context.{context_of}
use Rattle.pure_proofs.specs.Said.{known_in}
use Rattle.heap_rules.proofs.AtomsLeft.{atoms_in_range}
use Rattle.heap_rules.proofs.gives.consume_atom.Goals as goal

pub returns-clause-counted : goal.returns-clause-counted
unfolding known_in
returns-clause-counted c =
    let me = c.args.known.now in
    c.add.ensures.counted (context_of me.state).atoms (record {
      atom = c.in-Some.atom.now;
      at = c.in-Some.ensures.atom;
      size = c.assn_size.ensures;
      range = atoms_in_range (context_of me.state) me.nodes me.counted me.in_range;
    })
