-- What is refused of a cell that a command names, and of the command.
use Rattle.std.proofs.Common.{◌≡◌, ℕ, Bool, true, false, ◌&&◌, List, [], Option, Some, None, Result, Ok, Err, refl, sym, ◌∙◌, ap, subst}
use Rattle.std.specs.Prelude.{OnOk}
use Rattle.tht_tree.specs.declared.assn.Assn.TheVariants as a
use Rattle.tht_tree.specs.declared.plain.Sort.{Sort}
use Rattle.tht_tree.specs.declared.plain.Spot.{Spot}
use Rattle.tht_tree.specs.declared.rule.RuleCode.TheVariants.{R2, R10}
use Rattle.tht_tree.specs.declared.rule.RuleRefusal.{RuleRefusal}
use Rattle.tht_tree.specs.declared.state.Hyp.{Hyp}
use Rattle.tht_tree.specs.declared.state.Local.TheVariants.{Variable}
use Rattle.tht_tree.specs.declared.term.Term.{Term}
use Rattle.tht_tree.specs.declared.term.Term.TheVariants as term
use Rattle.tht_tree.specs.Rules.Sizes.{formula_fits, assn_fits}
use Rattle.tht_tree.specs.Rules.Context.{Context, with_local, atom_at, context_fits}
use Rattle.tht_tree.specs.Rules.Scoping.{is_of, sort_of}
use Rattle.tht_tree.specs.Rules.Refusals.{needs, ◌▸◌}
use Rattle.tht_tree.specs.Rules.Known.{with_hyp, hyp_fits}
use Rattle.tht_tree.specs.Rules.Proofs.{prove}
use Rattle.tht_logic.specs.Rules.Checking.{Checked, reject, unless_refused, if_fits}
use Rattle.tht_logic.specs.Rules.Commands.{on_cell, needs_place, after_read, after_write, after_free}
use Rattle.pure_proofs.specs.declared.refusal.Refusal.{Refusal}
use Rattle.pure_proofs.specs.declared.refusal.Refusal.TheVariants.{Rule, Memory}
use Rattle.pure_proofs.specs.Verdicts.{IsStop}
use Rattle.hoare_rules.specs.declared.cells.NamedCell.{NamedCell}
use Rattle.hoare_rules.specs.Atoms.{NoCell}
use Rattle.hoare_rules.specs.Made.{IsMade}
use Rattle.heap_rules.specs.Following.{Refuses}
use Rattle.hoare_rules.specs.Cells.{undeclared, Says, value_refused, cell_refused, Stops, IsNamed, Agrees, IsGoal, MakesGoal}
use Rattle.hoare_rules.specs.Steps.{read_context, write_context, free_context, learnt, written, freed}

abbrev Found : Type 0
Found = Option RuleRefusal

-- ---- what is refused first

first_stops : (x y : Found) (q : RuleRefusal) → x ≡ Some q → (x ▸ y) ≡ Some q
first_stops (Some r) y q e = e
first_stops None y q e = cc

then_stops : (x y : Found) (q : RuleRefusal) → x ≡ None → y ≡ Some q → (x ▸ y) ≡ Some q
then_stops None y q e f = f
then_stops (Some r) y q e f = cc

before_stops : (x y z : Found) (q : RuleRefusal) → (x ▸ y) ≡ Some q → (x ▸ y ▸ z) ≡ Some q
before_stops (Some r) y z q e = e
before_stops None y z q e = first_stops y z q e

none_before : (x y z : Found) → (x ▸ y) ≡ None → (x ▸ y ▸ z) ≡ z
none_before None None z e = refl
none_before None (Some r) z e = cc
none_before (Some r) y z e = cc

both_pass : (x y : Found) → x ≡ None → y ≡ None → (x ▸ y) ≡ None
both_pass None y e f = f
both_pass (Some r) y e f = cc

needs_true : (spot : Spot) (b : Bool) → needs spot R10 b ≡ None → b ≡ true
needs_true spot true e = refl
needs_true spot false e = cc

pub needs_none : (spot : Spot) (b : Bool) → b ≡ true → needs spot R10 b ≡ None
needs_none spot b e = ap (needs spot R10) e

-- ---- the cell that a command names

module _ (n : NamedCell) (wanted : Option Sort) (c : Context) where
  abbrev goal_for : Term → Term
  goal_for place = term.Eq n.place.now place

  pub no_cell_stops : (e : Refusal) → NoCell e n.spot (atom_at n.number c.atoms) → Stops e n wanted c
  no_cell_stops (Rule r) h = λ go g. h go
  no_cell_stops Memory h = absurd h

  module _ (place value : Term) (at : atom_at n.number c.atoms ≡ Some (a.Own place value)) where
    abbrev sorted : Found
    sorted = value_refused n.spot c.scope wanted value

    stops_at : (r : RuleRefusal) → cell_refused n wanted c place value ≡ Some r → Stops (Rule r) n wanted c
    stops_at r g = λ go h. ap (λ x. on_cell n.spot x go) at ∙ h place value r g

    pub sort_stops : (e : Refusal) → IsStop e sorted → Stops e n wanted c
    sort_stops (Rule r) g = stops_at r (first_stops sorted (needs_place undeclared n.spot c n.proof.now n.place.now place) r g)
    sort_stops Memory g = tt

    pub goal_made : (result : Result Term Refusal) → sorted ≡ None → IsMade result n.spot (goal_for place) → MakesGoal result n wanted c
    goal_made (Ok t) s h = record { place = place; value = value; at = at; sorted = s; fits = h.1; is = h.0 }
    goal_made (Err (Rule r)) s h = stops_at r (then_stops sorted (needs_place undeclared n.spot c n.proof.now n.place.now place) r s
        (first_stops (needs n.spot R10 (formula_fits (goal_for place))) (prove undeclared n.proof.now c (goal_for place)) r h))
    goal_made (Err Memory) s h = tt

  -- the proof of the goal
  module _ (goal : Term) (made : IsGoal goal n wanted c) where
    abbrev proof_said : Found
    proof_said = prove undeclared n.proof.now c goal

    same_proof : prove undeclared n.proof.now c (goal_for made.place) ≡ proof_said
    same_proof = ap (prove undeclared n.proof.now c) (sym made.is)

    proved : proof_said ≡ None → IsNamed n wanted c
    proved e = record {
      place = made.place;
      value = made.value;
      at = made.at;
      accepted = both_pass (value_refused n.spot c.scope wanted made.value) (needs_place undeclared n.spot c n.proof.now n.place.now made.place) made.sorted
          (both_pass (needs n.spot R10 (formula_fits (goal_for made.place))) (prove undeclared n.proof.now c (goal_for made.place))
          (needs_none n.spot (formula_fits (goal_for made.place)) made.fits) (same_proof ∙ e));
    }

    not_proved : (r : RuleRefusal) → proof_said ≡ Some r → Stops (Rule r) n wanted c
    not_proved r e = stops_at made.place made.value made.at r
        (then_stops (value_refused n.spot c.scope wanted made.value) (needs_place undeclared n.spot c n.proof.now n.place.now made.place) r made.sorted
        (then_stops (needs n.spot R10 (formula_fits (goal_for made.place))) (prove undeclared n.proof.now c (goal_for made.place)) r
        (needs_none n.spot (formula_fits (goal_for made.place)) made.fits) (same_proof ∙ e)))

    pub agreed : {A : Type 0} (result : Result A Refusal) → OnOk result (proof_said ≡ None) → ((r : RuleRefusal) → result ≡ Err (Rule r) → proof_said ≡ Some r) → Agrees result n wanted c
    agreed (Ok x) ok stop = proved ok
    agreed (Err (Rule r)) ok stop = not_proved r (stop r refl)
    agreed (Err Memory) ok stop = tt

-- ---- the rules, once their cell is named

abbrev reading : Spot → Context → List ℕ → Sort → List ℕ → Found → Term → Checked Context
reading spot c x r h first value =
    unless_refused (first ▸ needs spot R10 (formula_fits (term.Eq (term.Var x) value))) (if_fits spot (read_context c x r h value))

module _ (n : NamedCell) (c : Context) where
  abbrev at_its_place : Term → Found
  at_its_place = needs_place undeclared n.spot c n.proof.now n.place.now

  -- reads
  module _ (x : List ℕ) (r : Sort) (h : List ℕ) where
    abbrev after : Checked Context
    after = after_read undeclared n.spot c x r n.place.now n.number h n.proof.now

    abbrev added : Term → Found
    added value = needs n.spot R10 (formula_fits (term.Eq (term.Var x) value))

    abbrev sort_test : Term → Found
    sort_test value = needs n.spot R2 (is_of r (sort_of [] c.scope value))

    pub read_stops : (e : Refusal) → Stops e n (Some r) c → Refuses e after
    read_stops (Rule q) stops = stops (λ place value. unless_refused (sort_test value ▸ at_its_place place ▸ added value) (if_fits n.spot (read_context c x r h value)))
        (λ place value p g. ap (λ z. unless_refused z (if_fits n.spot (read_context c x r h value))) (before_stops (sort_test value) (at_its_place place) (added value) p g))
    read_stops Memory stops = tt

    pub read_is : IsNamed n (Some r) c → after ≡ learnt n.spot c n.number x r h
    read_is named =
        ap (λ o. on_cell n.spot o (λ place value. unless_refused (sort_test value ▸ at_its_place place ▸ added value) (if_fits n.spot (read_context c x r h value)))) named.at
        ∙ ap (λ z. unless_refused z (if_fits n.spot (read_context c x r h named.value))) (none_before (sort_test named.value) (at_its_place named.place) (added named.value) named.accepted)
        ∙ sym (ap (λ o. on_cell n.spot o (λ place value. unless_refused (added value) (if_fits n.spot (read_context c x r h value)))) named.at)

  -- writes
  module _ (u : Term) where
    abbrev written_so : Checked Context
    written_so = after_write undeclared n.spot c n.place.now u n.number n.proof.now

    abbrev held : Term → Found
    held place = needs n.spot R10 (assn_fits (a.Own place u))

    pub write_stops : (e : Refusal) → Stops e n None c → Refuses e written_so
    write_stops (Rule q) stops = stops (λ place value. unless_refused (at_its_place place ▸ held place) (if_fits n.spot (write_context c n.number place u)))
        (λ place value p g. ap (λ z. unless_refused z (if_fits n.spot (write_context c n.number place u))) (first_stops (at_its_place place) (held place) p g))
    write_stops Memory stops = tt

    pub write_is : IsNamed n None c → written_so ≡ written n.spot c n.number u
    write_is named =
        ap (λ o. on_cell n.spot o (λ place value. unless_refused (at_its_place place ▸ held place) (if_fits n.spot (write_context c n.number place u)))) named.at
        ∙ ap (λ z. unless_refused (z ▸ held named.place) (if_fits n.spot (write_context c n.number named.place u))) named.accepted
        ∙ sym (ap (λ o. on_cell n.spot o (λ place value. unless_refused (held place) (if_fits n.spot (write_context c n.number place u)))) named.at)

  -- frees
  abbrev freed_so : Checked Context
  freed_so = after_free undeclared n.spot c n.place.now n.number n.proof.now

  pub free_stops : (e : Refusal) → Stops e n None c → Refuses e freed_so
  free_stops (Rule q) stops = stops (λ place value. unless_refused (at_its_place place) (if_fits n.spot (free_context c n.number)))
      (λ place value p g. ap (λ z. unless_refused z (if_fits n.spot (free_context c n.number))) g)
  free_stops Memory stops = tt

  pub free_is : IsNamed n None c → freed_so ≡ freed n.spot c n.number
  free_is named =
      ap (λ o. on_cell n.spot o (λ place value. unless_refused (at_its_place place) (if_fits n.spot (free_context c n.number)))) named.at
      ∙ ap (λ z. unless_refused z (if_fits n.spot (free_context c n.number))) named.accepted
      ∙ sym (ap (λ o. on_cell n.spot o (λ place value. if_fits n.spot (free_context c n.number))) named.at)

-- what is said of another context, or another outcome, is said of its equal
pub says_of : {A : Type 0} (result : Result A Refusal) (said real : Checked Context) (now : Context) → said ≡ real → Says result said now → Says result real now
says_of result said real now e h = subst (λ z. Says result z now) e h

pub refuses_memory : (e : Refusal) (said : Checked Context) → e ≡ Memory → Refuses e said
refuses_memory e said is = subst (λ z. Refuses z said) (sym is) tt

pub no_cell_refuses : (e : Refusal) (spot : Spot) (o : Option _) (go : Term → Term → Checked Context) → NoCell e spot o → Refuses e (on_cell spot o go)
no_cell_refuses (Rule r) spot o go h = h go
no_cell_refuses Memory spot o go h = absurd h

-- what is too large is refused
pub refuses_large : (e : Refusal) (spot : Spot) (said : Checked Context) → e ≡ Rule (record { spot = spot; code = R10 }) → said ≡ reject spot R10 → Refuses e said
refuses_large e spot said is same = subst (λ z. Refuses z said) (sym is) same

-- the rules at a cell that is there
module _ (spot : Spot) (c : Context) (i : ℕ) (place value : Term) (at : atom_at i c.atoms ≡ Some (a.Own place value)) where
  pub written_at : (u : Term) → written spot c i u ≡ unless_refused (needs spot R10 (assn_fits (a.Own place u))) (if_fits spot (write_context c i place u))
  written_at u = ap (λ o. on_cell spot o (λ place value. unless_refused (needs spot R10 (assn_fits (a.Own place u))) (if_fits spot (write_context c i place u)))) at

  pub freed_at : freed spot c i ≡ if_fits spot (free_context c i)
  freed_at = ap (λ o. on_cell spot o (λ place value. if_fits spot (free_context c i))) at

-- ---- a hypothesis that is added

module _ (spot : Spot) (d : Context) where
  abbrev tested : Bool → Bool → Checked Context
  tested f g = unless_refused (needs spot R10 f) (unless_refused (needs spot R10 g) (Ok d))

  fits_both : (f g : Bool) → needs spot R10 (f && g) ≡ None → tested f g ≡ Ok d
  fits_both true true e = refl
  fits_both true false e = cc
  fits_both false g e = cc

  fails_one : (f g : Bool) (r : RuleRefusal) → needs spot R10 (f && g) ≡ Some r → tested f g ≡ Err r
  fails_one true true r e = cc
  fails_one true false r e = failed e
    where
      failed : needs spot R10 false ≡ Some r → unless_refused (needs spot R10 false) (Ok d) ≡ Err r
      failed e = cc
  fails_one false g r e = failed e
    where
      failed : needs spot R10 false ≡ Some r → unless_refused (needs spot R10 false) (Ok d) ≡ Err r
      failed e = cc

module _ (spot : Spot) (c : Context) (i : ℕ) (x : List ℕ) (r : Sort) (h : List ℕ) (place value : Term) (at : atom_at i c.atoms ≡ Some (a.Own place value)) where
  abbrev bound : Context
  bound = record c { scope = with_local c.scope x (Variable r) }

  abbrev equal : Term
  equal = term.Eq (term.Var x) value

  learnt_at : learnt spot c i x r h ≡ tested spot (read_context c x r h value) (formula_fits equal) (context_fits (read_context c x r h value))
  learnt_at = ap (λ o. on_cell spot o (λ place value. unless_refused (needs spot R10 (formula_fits (term.Eq (term.Var x) value))) (if_fits spot (read_context c x r h value)))) at

  pub learnt_ok : (now : Context) → needs spot R10 (hyp_fits bound h equal) ≡ None → now ≡ with_hyp bound h equal → learnt spot c i x r h ≡ Ok now
  learnt_ok now e f = learnt_at ∙ fits_both spot (read_context c x r h value) (formula_fits equal) (context_fits (read_context c x r h value)) e ∙ ap Ok (sym f)

  pub learnt_err : (e : Refusal) → IsStop e (needs spot R10 (hyp_fits bound h equal)) → Refuses e (learnt spot c i x r h)
  learnt_err (Rule q) g = learnt_at ∙ fails_one spot (read_context c x r h value) (formula_fits equal) (context_fits (read_context c x r h value)) q g
  learnt_err Memory g = tt

  -- the same, from what was made
  pub learnt_by : (mid : Context) (g : Hyp) → mid ≡ bound → g ≡ record { name = h; formula = equal } → (now : Context) →
      needs spot R10 (hyp_fits mid g.name g.formula) ≡ None → now ≡ with_hyp mid g.name g.formula → learnt spot c i x r h ≡ Ok now
  learnt_by mid g e f now fits is =
      learnt_ok now (subst (λ m. needs spot R10 (hyp_fits m h equal) ≡ None) e (subst (λ q. needs spot R10 (hyp_fits mid q.name q.formula) ≡ None) f fits))
      (subst (λ m. now ≡ with_hyp m h equal) e (subst (λ q. now ≡ with_hyp mid q.name q.formula) f is))
