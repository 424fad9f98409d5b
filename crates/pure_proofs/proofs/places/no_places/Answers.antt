use Rattle.pure_proofs.proofs.FirstPlaces.{none_placed}
use Rattle.pure_proofs.proofs.places.no_places.Goals as goal

pub returns : goal.returns
returns c = none_placed c.new.result c.new.ensures.empty
