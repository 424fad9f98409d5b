use Rattle.std.proofs.Common.{◌≡◌, Some, None, MatchOption, sym, ◌∙◌, ap, subst}
use Rattle.std.specs.Option.{option_copied}
use Rattle.tht_tree.specs.Rules.Known.{hyp_named}
use Rattle.pure_proofs.specs.Places.{places_in, formula_at}
use Rattle.pure_proofs.proofs.FirstPlaces.{formula_there}
use Rattle.pure_proofs.proofs.known.Known.hypothesis.Goals as goal

pub returns-in-Some : goal.returns-in-Some
returns-in-Some c =
    let me = c.args.self.now in
    let place = c.in-Some.place.now in
    let here : places_in me.places c.args.name.now ≡ Some place = ap (places_in me.places) (sym c.as_str.ensures) ∙ sym c.get.ensures.value ∙ ap option_copied c.in-Some.is in
    let hyps = c.as_slice.result.now in
    let there : formula_at (Some place) hyps ≡ hyp_named c.args.name.now me.state.hyps = ap (formula_at (Some place)) c.as_slice.ensures ∙ formula_there me.places me.state.hyps c.args.name.now (Some place) me.placed here in
    subst (λ o. MatchOption c.formula_of.result (o ≡ None) (λ u. o ≡ Some u.now)) there c.formula_of.ensures

pub returns-in-None : goal.returns-in-None
returns-in-None c =
    let me = c.args.self.now in
    let none : places_in me.places c.args.name.now ≡ None = ap (places_in me.places) (sym c.as_str.ensures) ∙ sym c.get.ensures.value ∙ ap option_copied c.in-None.is in
    sym (formula_there me.places me.state.hyps c.args.name.now None me.placed none)
