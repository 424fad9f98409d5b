use Rattle.std.proofs.Common.{◌≡◌, length}
use Rattle.tht_tree.specs.Rules.Context.{context_of}
use Rattle.heap_rules.specs.ConsumedAtoms.{less_each}
use Rattle.heap_rules.proofs.consumed.Consumed.take_out.Given as goal

abbrev pub invariant-loop-number : goal.invariant-loop-number
invariant-loop-number l = less_each l.made l.numbers.keys (context_of l.known.state) ≡ less_each l.made l.fn.self.numbers.keys (context_of l.fn.known.state)

abbrev pub decreases-loop-number : goal.decreases-loop-number
decreases-loop-number l = length l.numbers.keys
