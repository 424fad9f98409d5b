use Rattle.std.proofs.Common.{◌∙◌, ap, arith}
use Rattle.tht_tree.specs.Rules.Context.{context_of}
use Rattle.heap_rules.specs.Changes.{less}
use Rattle.heap_rules.proofs.OlderAtoms.{one_back, all_back}
use Rattle.heap_rules.proofs.atoms.take_back.Goals as goal

pub loop-last-preserved : goal.loop-last-preserved
loop-last-preserved c =
    let now = context_of c.loop-last.known.state in
    one_back c.args.made c.loop-last.last (context_of c.args.known.now.state) now (context_of c.take_atom.new.known.state) (omega (arith, c.loop-last-test.true)) c.ascend.ensures
    (c.take_atom.ensures.left ∙ ap (λ n. less n now) c.from.ensures) c.loop-last.invariant

pub returns : goal.returns
returns c = (all_back c.args.made c.loop-last.last (context_of c.args.known.now.state) (context_of c.loop-last.known.state) (omega (arith, c.loop-last-test.false)) c.loop-last.invariant).0
