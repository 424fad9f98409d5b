use Rattle.heap_rules.specs.PredicatePlaces.{name_of}
use Rattle.heap_rules.proofs.PlacesByName.{none_placed}
use Rattle.heap_rules.proofs.predicates.no_places.Goals as goal

pub returns : goal.returns
returns c = none_placed name_of c.new.result c.new.ensures.empty
