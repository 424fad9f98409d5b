use Rattle.std.proofs.Common.{◌≡◌, take}
use Rattle.heap_rules.proofs.folding.copies.Given as goal

abbrev pub invariant-loop-term : goal.invariant-loop-term
invariant-loop-term l = l.copies ≡ take l.term-index l.terms
