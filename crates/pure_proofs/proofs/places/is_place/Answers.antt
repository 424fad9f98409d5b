use Rattle.std.proofs.Common.{sym, ◌∙◌, ap}
use Rattle.std.specs.Option.{option_copied}
use Rattle.pure_proofs.specs.Places.{places_in}
use Rattle.pure_proofs.proofs.FirstPlaces.{is_this, is_none}
use Rattle.pure_proofs.proofs.places.is_place.Goals as goal

pub returns-in-Some : goal.returns-in-Some
returns-in-Some c =
    is_this (places_in c.args.places.now c.args.name.now) c.in-Some.first.now c.args.place
    (ap (places_in c.args.places.now) (sym c.as_str.ensures) ∙ sym c.get.ensures.value ∙ ap option_copied c.in-Some.is)

pub returns-in-None : goal.returns-in-None
returns-in-None c =
    is_none (places_in c.args.places.now c.args.name.now) c.args.place (ap (places_in c.args.places.now) (sym c.as_str.ensures) ∙ sym c.get.ensures.value ∙ ap option_copied c.in-None.is)
