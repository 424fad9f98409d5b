use Rattle.std.proofs.Common.{◌≡◌, Some, None, MatchOption, sym, ◌∙◌, ap, subst}
use Rattle.std.specs.Option.{option_copied}
use Rattle.tht_logic.specs.Rules.Definitions.{predicates_of}
use Rattle.heap_assert.specs.Instances.{predicate_in}
use Rattle.heap_rules.specs.Declarations.{declared_by}
use Rattle.heap_rules.specs.PredicatePlaces.{places_in, predicate_at}
use Rattle.heap_rules.proofs.PlacesByName.{named_there}
use Rattle.heap_rules.proofs.places.Predicates.find.Goals as goal

pub returns-in-Some : goal.returns-in-Some
unfolding declared_by
returns-in-Some c =
    let me = c.args.self.now in
    let place = c.in-Some.place.now in
    let here : places_in me.places c.args.name.now ≡ Some place = ap (places_in me.places) (sym c.as_str.ensures) ∙ sym c.get.ensures.value ∙ ap option_copied c.in-Some.is in
    let there : predicate_at (Some place) me.decls.now ≡ predicates_of me.decls.now c.args.name.now = named_there me.places me.decls.now c.args.name.now (Some place) me.placed here in
    subst (λ o. MatchOption c.declaration_at.result (o ≡ None) (λ k. o ≡ predicate_in k.now)) there c.declaration_at.ensures

pub returns-in-None : goal.returns-in-None
unfolding declared_by
returns-in-None c =
    let me = c.args.self.now in
    let none : places_in me.places c.args.name.now ≡ None = ap (places_in me.places) (sym c.as_str.ensures) ∙ sym c.get.ensures.value ∙ ap option_copied c.in-None.is in
    sym (named_there me.places me.decls.now c.args.name.now None me.placed none)
