use Rattle.std.proofs.Common.{take}
use Rattle.heap_rules.specs.PredicatePlaces.{ArePlaces}
use Rattle.heap_rules.proofs.predicates.places_of.Given as goal

abbrev pub invariant-loop-place : goal.invariant-loop-place
invariant-loop-place l = ArePlaces l.places (take l.place l.decls)
