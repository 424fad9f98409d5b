use Rattle.std.proofs.Common.{take}
use Rattle.pure_proofs.specs.Places.{ArePlaces}
use Rattle.pure_proofs.proofs.places.places_of.Given as goal

abbrev pub invariant-loop-place : goal.invariant-loop-place
invariant-loop-place l = ArePlaces l.places (take l.place l.hyps)
