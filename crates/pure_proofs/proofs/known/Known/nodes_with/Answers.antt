use Rattle.tht_tree.specs.Rules.Context.{context_of}
use Rattle.pure_proofs.proofs.Assumed.{nodes_more}
use Rattle.pure_proofs.proofs.known.Known.nodes_with.Goals as goal

pub returns : goal.returns
returns c =
    let me = c.args.self.now in
    nodes_more (context_of me.state) c.args.hyp.now.name c.args.hyp.now.formula me.nodes c.term_size.result c.saturating_add.result me.counted c.term_size.ensures c.saturating_add.ensures
