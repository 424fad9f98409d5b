use Rattle.std.proofs.Common.{◌∙◌}
use Rattle.tht_tree.specs.Rules.Context.{context_of}
use Rattle.heap_rules.proofs.AtomsLeft.{no_keys, all_popped, less_each_is}
use Rattle.heap_rules.proofs.consumed.Consumed.take_out.Goals as goal

pub returns : goal.returns
returns c =
    all_popped c.args.made c.loop-number.numbers.keys (context_of c.loop-number.known.state) _ (no_keys c.loop-number.numbers.keys (λ l. let z = c.in_default.ensures.variant.1 l in cc)) c.loop-number.invariant
    ∙ less_each_is c.args.made c.args.self (context_of c.args.known.now.state)
