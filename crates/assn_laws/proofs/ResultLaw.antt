-- The laws of results: a variable that is new, and a box that holds of it.
use Rattle.std.proofs.Common.{◌≡◌, ℕ, Bool, List, Ok, subst}
use Rattle.tht_tree.specs.declared.plain.Sort.{Sort}
use Rattle.tht_tree.specs.declared.plain.Spot.{Spot}
use Rattle.tht_tree.specs.declared.proof.Proof.{Proof}
use Rattle.tht_tree.specs.declared.assn.Assn.{Assn}
use Rattle.tht_tree.specs.declared.state.Local.TheVariants.{Variable}
use Rattle.tht_tree.specs.Values.{is, bind}
use Rattle.tht_tree.specs.Rules.Context.{Scope, Context, with_local}
use Rattle.tht_logic.specs.Satisfaction.{Meaning}
use Rattle.tht_logic.specs.Flatten.{with_assn}
use Rattle.tht_logic.specs.Rules.Calls.{with_result}
use Rattle.tht_logic.specs.Rules.Definitions.{Declarations}
use Rattle.tht_logic.specs.Rules.Scoped.{Signatures}
use Rattle.assn_laws.specs.Laws.{IsModel}
use Rattle.assn_laws.specs.ControlLaws.{VariablesAreSound, ResultsAreSound}
use Rattle.assn_laws.proofs.CellRules.{fits_is}
use Rattle.assn_laws.proofs.StateAfter.{added_at}
use Rattle.assn_laws.proofs.NewVariable.{variable_at}

-- what satisfied a state satisfies it with a new variable, whatever the variable's value, if it is of the sort
pub variables_are_sound : (decl : Declarations) (proof : Proof → Scope → Bool) (instance lemma : Signatures) (M : Meaning) → VariablesAreSound decl proof instance lemma M
variables_are_sound decl proof instance lemma M typed c env h at x r v new has =
    variable_at decl proof instance lemma M typed c.scope env x r v new has c.hyps c.atoms c.made h at

-- what is known with a result that is not refused
abbrev pub result_context : Context → List ℕ → Sort → Assn → Context
result_context c x r box = with_assn box (record c { scope = with_local c.scope x (Variable r) })

pub result_is : (spot : Spot) (c next : Context) (x : List ℕ) (r : Sort) (box : Assn) → with_result spot c x r box ≡ Ok next → result_context c x r box ≡ next
result_is spot c next x r box e = fits_is spot (result_context c x r box) next e

-- a heap that satisfies the box with the result, and one that satisfied the state before, together satisfy the state after
pub results_are_sound : (decl : Declarations) (proof : Proof → Scope → Bool) (instance lemma : Signatures) (M : Meaning) → ResultsAreSound decl proof instance lemma M
results_are_sound decl proof instance lemma M typed c next env f at spot x r box new ins e v has q h holds j =
    let wider : Context = record c { scope = with_local c.scope x (Variable r) } in
    let state : IsModel decl proof instance lemma M wider (bind env x (is v)) f = variables_are_sound decl proof instance lemma M typed c env f at x r (is v) new has in
    subst (λ k. IsModel decl proof instance lemma M k (bind env x (is v)) h) (result_is spot c next x r box e)
    (added_at decl proof instance lemma M typed wider (bind env x (is v)) box q f h state holds ins j)
