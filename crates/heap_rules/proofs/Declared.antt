-- The rules of steps, where these predicates are declared, there are no roots and no lemma can be used.
use Rattle.std.proofs.Common.{◌≡◌, ℕ, List, Option, None, ap}
use Rattle.tht_tree.specs.declared.plain.Spot.{Spot}
use Rattle.tht_tree.specs.declared.plain.Sort.{Sort}
use Rattle.tht_tree.specs.declared.proof.Proof.{Proof}
use Rattle.tht_tree.specs.declared.give.Give.{Give}
use Rattle.tht_tree.specs.declared.term.Term.{Term}
use Rattle.tht_tree.specs.declared.rule.RuleCode.TheVariants.{R12}
use Rattle.tht_tree.specs.Rules.Context.{Context}
use Rattle.tht_logic.specs.Rules.Checking.{reject, unless_refused}
use Rattle.tht_logic.specs.Rules.Definitions.{Lemma}
use Rattle.tht_logic.specs.Rules.Steps.{after_have, after_open_as_variable, after_open_as_fact, after_unfold, after_fold, after_rewrite, after_use}
use Rattle.heap_rules.specs.declared.places.Predicates.{Predicates}
use Rattle.heap_rules.specs.Declarations.{declared_by, declared_by_is}
use Rattle.heap_rules.specs.Stages.{undeclared, had, opened_as_variable, opened_as_fact, instance_unfolded, instance_folded, not_equal, part_changed}
use Rattle.heap_rules.proofs.StepForms.{have_is, variable_is, fact_is, unfold_is, fold_is, rewrite_is, use_is}

module _ (p : Predicates) (spot : Spot) (c : Context) where
  no_declared : (declared_by p).proofs ≡ undeclared
  no_declared = ap (λ d. d.proofs) (declared_by_is p)

  no_lemma : (l : List ℕ) → ◌≡◌ {A = Option Lemma} ((declared_by p).lemmas l) None
  no_lemma l = ap (λ d. d.lemmas l) (declared_by_is p)

  pub have_step : (h : List ℕ) (t : Term) (q : Proof) → after_have (declared_by p) spot c h t q ≡ had spot c h t q
  have_step h t q = have_is (declared_by p) spot c no_declared h t q

  pub variable_step : (i : ℕ) (x : List ℕ) (r : Sort) → after_open_as_variable (declared_by p) spot c i x r ≡ opened_as_variable spot c i x r
  variable_step i x r = variable_is (declared_by p) spot c i x r

  pub fact_step : (i : ℕ) (h : List ℕ) → after_open_as_fact (declared_by p) spot c i h ≡ opened_as_fact spot c i h
  fact_step i h = fact_is (declared_by p) spot c i h

  pub unfold_step : (i : ℕ) → after_unfold (declared_by p) spot c i ≡ instance_unfolded (declared_by p) spot c i
  unfold_step i = unfold_is (declared_by p) spot c i

  pub fold_step : (q : List ℕ) (ts : List Term) (x : Give) → after_fold (declared_by p) spot c q ts x ≡ instance_folded (declared_by p) spot c q ts x
  fold_step q ts x = fold_is (declared_by p) spot c q ts x

  pub rewrite_step : (i k : ℕ) (u : Term) (q : Proof) → after_rewrite (declared_by p) spot c i k u q ≡ unless_refused (not_equal spot c i k u q) (part_changed spot c i k u)
  rewrite_step i k u q = rewrite_is (declared_by p) spot c no_declared i k u q

  pub use_step : (l : List ℕ) (ts : List Term) (x : Give) → after_use (declared_by p) spot c l ts x ≡ reject spot R12
  use_step l ts x = use_is (declared_by p) spot c l ts x (no_lemma l)
