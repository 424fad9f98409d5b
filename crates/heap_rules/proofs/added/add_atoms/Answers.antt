use Rattle.std.proofs.Common.{◌∙◌}
use Rattle.tht_tree.specs.Rules.Context.{context_of}
use Rattle.heap_rules.proofs.OlderAtoms.{taken_back}
use Rattle.heap_rules.proofs.added.add_atoms.Goals as goal

pub returns-in-Err-clause-err : goal.returns-in-Err-clause-err
returns-in-Err-clause-err c =
    let me = c.args.known.now in
    c.take_back.ensures ∙ taken_back (context_of me.state) (context_of c.add_each.new.known.state) me.numbered c.in-Err.ensures.err
