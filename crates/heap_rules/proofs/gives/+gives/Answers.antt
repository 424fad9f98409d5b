use Rattle.pure_proofs.specs.Said.{known_in}
use Rattle.heap_rules.specs.ConsumedAtoms.{left_of}
use Rattle.heap_rules.proofs.FrameParts.{fact_kind, ex_kind}
use Rattle.heap_rules.proofs.gives.+gives.Goals as goal

pub consume_kind-returns-in-Fact-clause-frame : goal.consume_kind-returns-in-Fact-clause-frame
consume_kind-returns-in-Fact-clause-frame t c =
    rw (c.in-Fact.is, fact_kind) (c.prove_fact.ensures.frame (left_of c.args.consumed.now (known_in c.args.known.now.state).atoms))

pub consume_kind-returns-in-Ex-clause-frame : goal.consume_kind-returns-in-Ex-clause-frame
consume_kind-returns-in-Ex-clause-frame t c = rw (c.in-Ex.is, ex_kind, ← c.get-in-Ex.ensures, ← c.get-in-Ex-2.ensures) c.consume_opened.ensures.frame
