use Rattle.std.proofs.lemmas.Result.{on_ok_weaker}
use Rattle.heap_rules.specs.PredicatePlaces.{name_of}
use Rattle.heap_rules.proofs.PlacesByName.{placed_named, placed_none}
use Rattle.heap_rules.proofs.predicates.add_declaration.Goals as goal

pub returns-in-Some : goal.returns-in-Some
returns-in-Some c =
    on_ok_weaker c.put_place.result (placed_named name_of c.args.places.now c.put_place.new.places c.in-Some.name.now c.args.kind.now c.args.place c.in-Some.ensures) c.put_place.ensures

pub returns-in-None : goal.returns-in-None
returns-in-None c = placed_none name_of c.args.places.now c.args.kind.now c.args.place c.in-None.ensures
