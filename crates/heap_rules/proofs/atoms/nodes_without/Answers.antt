use Rattle.tht_tree.specs.Rules.Context.{context_of}
use Rattle.heap_rules.proofs.AtomSizes.{is_within, is_left}
use Rattle.heap_rules.proofs.atoms.nodes_without.Goals as goal

pub overflow_sub-result : goal.overflow_sub-result
overflow_sub-result c =
    let me = c.args.known.now in
    is_within c.args.number (context_of me.state) me.nodes c.size_at.result me.counted me.in_range c.size_at.ensures

pub returns : goal.returns
returns c =
    let me = c.args.known.now in
    is_left c.args.number (context_of me.state) me.nodes c.size_at.result me.counted me.in_range c.size_at.ensures
