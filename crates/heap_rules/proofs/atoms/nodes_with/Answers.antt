use Rattle.std.proofs.Common.{arith}
use Rattle.tht_tree.specs.Rules.Context.{context_of}
use Rattle.heap_rules.proofs.AtomSizes.{changed_nodes}
use Rattle.heap_rules.proofs.atoms.nodes_with.Goals as goal

pub returns : goal.returns
returns c =
    let e = changed_nodes c.args.number (context_of c.args.known.now.state) c.args.atom.now c.ascend.ensures in
    omega (arith, e, c.nodes_without.ensures, c.assn_size.ensures, c.saturating_add.ensures)
