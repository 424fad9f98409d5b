use Rattle.std.proofs.Common.{◌-◌}
use Rattle.tht_tree.specs.Rules.Context.{context_of}
use Rattle.heap_rules.proofs.OlderAtoms.{TakesBack}
use Rattle.heap_rules.proofs.atoms.take_back.Given as goal

abbrev pub invariant-loop-last : goal.invariant-loop-last
invariant-loop-last l = TakesBack l.made l.last (context_of l.fn.known.state) (context_of l.known.state)

abbrev pub decreases-loop-last : goal.decreases-loop-last
decreases-loop-last l = l.last - l.made
