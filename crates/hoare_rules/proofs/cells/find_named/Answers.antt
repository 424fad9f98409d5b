use Rattle.tht_tree.specs.Rules.Context.{context_of}
use Rattle.hoare_rules.proofs.Agreeing.{agreed}
use Rattle.hoare_rules.proofs.cells.find_named.Goals as goal

pub returns-clause-agrees : goal.returns-clause-agrees
returns-clause-agrees c =
    agreed c.args.cell c.args.wanted (context_of c.args.known.now.state) c.in_ok-goal.goal c.in_ok-goal.ensures c.prove.result c.prove.ensures.ok c.prove.ensures.refused
