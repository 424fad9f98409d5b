use Rattle.std.proofs.Common.{ap}
use Rattle.tht_tree.specs.declared.rule.RuleCode.TheVariants.{R10}
use Rattle.tht_tree.specs.Rules.Context.{context_of}
use Rattle.tht_tree.specs.Rules.Known.{hyp_fits}
use Rattle.tht_tree.specs.Rules.Refusals.{needs}
use Rattle.pure_proofs.proofs.Assumed.{hyp_within, memory_alone}
use Rattle.pure_proofs.proofs.known.Known.assume.Goals as goal

pub returns-clause-fits : goal.returns-clause-fits
returns-clause-fits c =
    let me = c.args.self.now in
    let old = context_of me.state in
    memory_alone c.add.result (needs c.args.spot R10 (hyp_fits old c.args.hyp.name c.args.hyp.formula)) c.add.ensures.memory
    (ap (needs c.args.spot R10) (hyp_within old c.args.hyp.name c.args.hyp.formula c.nodes_with.result c.nodes_with.ensures me.made_in_range c.if-not-formula_fits.ensures c.if-not-context_is_within.ensures))
