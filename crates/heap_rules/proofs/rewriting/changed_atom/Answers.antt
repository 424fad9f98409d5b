use Rattle.tht_tree.specs.declared.assn.Assn.{out-Assn}
use Rattle.tht_logic.specs.Rules.Parts.{part_at}
use Rattle.heap_rules.proofs.PartChanged.{made_with}
use Rattle.heap_rules.proofs.rewriting.changed_atom.Goals as goal

pub returns : goal.returns
returns c =
    made_with c.args.step.spot c.args.step.term.now (part_at c.args.step.part (out-Assn c.args.atom.now)) c.part_of.result c.in_ok-atom.atom c.part_of.ensures c.if-is_none.ensures c.in_ok-atom.ensures.ok
    c.if-not-assn_fits.ensures
