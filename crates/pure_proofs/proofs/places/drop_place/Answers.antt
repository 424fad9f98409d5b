use Rattle.std.proofs.Common.{◌≡◌, true, false, sym, ◌∙◌}
use Rattle.pure_proofs.proofs.FirstPlaces.{stays, taken}
use Rattle.pure_proofs.proofs.places.drop_place.Goals as goal

pub returns-then-is_place : goal.returns-then-is_place
returns-then-is_place c = λ hyps h are l e.
    taken c.args.places.now c.remove.new.self hyps h c.args.name.now c.as_str.result.now c.args.place e c.as_str.ensures l (c.is_place.ensures.0 c.if-is_place.true) c.remove.ensures.updates are

pub returns-else-is_place : goal.returns-else-is_place
returns-else-is_place c = λ hyps h are l e.
    stays c.args.places.now hyps h c.args.name.now c.args.place e l (λ q. let t : true ≡ false = sym (c.is_place.ensures.1 q) ∙ c.if-is_place.false in cc) are
