use Rattle.std.proofs.Common.{is_some, refl, sym, ◌∙◌, ap}
use Rattle.std.specs.String.{string_bytes}
use Rattle.pure_proofs.specs.Places.{places_in}
use Rattle.pure_proofs.proofs.FirstPlaces.{known_already, placed}
use Rattle.pure_proofs.proofs.places.add_place.Goals as goal

pub returns-then-contains_key-clause-ok : goal.returns-then-contains_key-clause-ok
returns-then-contains_key-clause-ok c = λ hyps h are l e.
    known_already c.args.places.now hyps h (string_bytes c.args.name) e (ap (λ x. is_some (places_in c.args.places.now x)) (sym c.as_str.ensures.value) ∙ sym c.if-contains_key.ensures) are

pub returns-in-Ok-clause-ok : goal.returns-in-Ok-clause-ok
returns-in-Ok-clause-ok c = λ hyps h are l e.
    placed c.args.places.now c.insert.new.self hyps h (string_bytes c.args.name) (string_bytes c.args.name) c.args.place e refl l
    (ap (λ x. is_some (places_in c.args.places.now x)) (sym c.as_str.ensures.value) ∙ sym c.if-contains_key.ensures) c.in-Ok.ensures.updates are
