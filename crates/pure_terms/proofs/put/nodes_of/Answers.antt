use Rattle.pure_terms.proofs.InsideTerms.{name_nodes}
use Rattle.pure_terms.proofs.put.nodes_of.Goals as goal

pub returns : goal.returns
returns c = name_nodes c.args.variable.now
