use Rattle.std.proofs.Common.{◌≡◌, Some, None, MatchOption, sym, ◌∙◌, ap, subst}
use Rattle.std.specs.Option.{option_copied}
use Rattle.tht_logic.specs.Procedures.{procedures_of}
use Rattle.heap_rules.specs.Declarations.{declared_by}
use Rattle.heap_rules.specs.PredicatePlaces.{places_in, head_at}
use Rattle.heap_rules.proofs.ProcPlaces.{head_of, head_there}
use Rattle.heap_rules.proofs.places.Predicates.proc.Goals as goal

pub returns-in-Some : goal.returns-in-Some
unfolding declared_by
returns-in-Some c =
    let me = c.args.self.now in
    let place = c.in-Some.place.now in
    let here : places_in me.procs c.args.name.now ≡ Some place = ap (places_in me.procs) (sym c.as_str.ensures) ∙ sym c.get.ensures.value ∙ ap option_copied c.in-Some.is in
    let there : head_at (Some place) me.decls.now ≡ head_of (procedures_of me.decls.now c.args.name.now) = head_there me.procs me.decls.now c.args.name.now (Some place) me.procs_placed here in
    subst (λ o. MatchOption c.head_at.result (o ≡ None) (λ x. o ≡ Some x.now)) there c.head_at.ensures

pub returns-in-None : goal.returns-in-None
unfolding declared_by
returns-in-None c =
    let me = c.args.self.now in
    let none : places_in me.procs c.args.name.now ≡ None = ap (places_in me.procs) (sym c.as_str.ensures) ∙ sym c.get.ensures.value ∙ ap option_copied c.in-None.is in
    sym (head_there me.procs me.decls.now c.args.name.now None me.procs_placed none)
