use Rattle.std.specs.String.{string_bytes}
use Rattle.heap_rules.proofs.PlacesByName.{put_named}
use Rattle.heap_rules.proofs.predicates.put_place.Goals as goal

pub returns-in-Ok : goal.returns-in-Ok
returns-in-Ok c = put_named c.args.places.now c.insert.new.self (string_bytes c.in_ok-name.name) c.args.name.now c.args.place c.in-Ok.ensures.updates c.in_ok-name.ensures
