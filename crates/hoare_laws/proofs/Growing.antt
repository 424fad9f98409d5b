-- What a statement leaves as it was: names in scope, and the values of variables.
use Rattle.std.proofs.Common.{◌≡◌, ℕ, Bool, true, false, cond, is_none, List, ◌∷◌, Option, Some, None, refl, sym, ◌∙◌, ap, subst}
use Rattle.std.specs.Prelude.{bytes_eq}
use Rattle.tht_tree.specs.declared.plain.Sort.{Sort}
use Rattle.tht_tree.specs.declared.plain.Spot.{Spot}
use Rattle.tht_tree.specs.declared.state.Local.TheVariants.{Variable, Hypothesis}
use Rattle.tht_tree.specs.declared.step.StepKind.{StepKind}
use Rattle.tht_tree.specs.declared.step.StepKind.TheVariants as s
use Rattle.tht_tree.specs.declared.walk.Class.{Class}
use Rattle.tht_tree.specs.declared.walk.Class.TheVariants as c
use Rattle.tht_tree.specs.declared.walk.WalkCode.TheVariants.{N2}
use Rattle.tht_tree.specs.Values.{Val, Env, bind}
use Rattle.tht_tree.specs.Syntax.{Names, position, named}
use Rattle.tht_tree.specs.Terms.{value_of}
use Rattle.tht_tree.specs.Rules.Context.{Scope}
use Rattle.tht_tree.specs.Walk.Codes.{first}
use Rattle.tht_tree.specs.Walk.Names as walk
use Rattle.tht_tree.specs.Walk.Names.{with_name, with_result, new_name}
use Rattle.tht_tree.specs.Walk.Terms.{formula}
use Rattle.tht_tree.specs.Walk.Proofs as in_proofs
use Rattle.tht_tree.specs.Walk.Steps.{step_kind, after_step}
use Rattle.tht_tree.proofs.SameTerm.{bytes_eq-true}
use Rattle.tht_logic.specs.Machine.{no_env}
use Rattle.proof_laws.specs.Walked.{MatchesAt, Matches}
use Rattle.proof_laws.proofs.WalkedTerms.{no_walk_code, first_none, unless_none}
use Rattle.assn_laws.specs.FileLaws.{StillThere, SameValues}
use Rattle.assn_laws.proofs.Refusing.{nothing, construct_none, no_class}
use Rattle.assn_laws.proofs.WalkedNames.{unknown}
use Rattle.hoare_laws.proofs.ProgramValues.{HaveValues, one_further}

-- ---- names

-- what was in scope still is, and is the same
abbrev pub Grows : walk.Scope → walk.Scope → Type 0
Grows old new = (x : List ℕ) (k : Class) → old x ≡ Some k → new x ≡ Some k

pub same_scope : (names : walk.Scope) → Grows names names
same_scope names x k e = e

pub grows_on : (one two three : walk.Scope) → Grows one two → Grows two three → Grows one three
grows_on one two three f g x k e = g x k (f x k e)

-- a new name
pub grows_with : (names : walk.Scope) (x : List ℕ) (k : Class) → new_name names x ≡ no_walk_code → Grows names (with_name names x k)
grows_with names x k new y j e = pick (bytes_eq x y) refl
  where
    pick : (b : Bool) → bytes_eq x y ≡ b → cond b (Some k) (names y) ≡ Some j
    pick true g = let never : None ≡ Some j = sym (no_class (names x) (unless_none (is_none (names x)) N2 new)) ∙ ap names (bytes_eq-true x y g) ∙ e in cc
    pick false g = e

pub grows_by_step : (names : walk.Scope) (x : StepKind) (spot : Spot) → step_kind x spot names ≡ nothing → Grows names (after_step x names)
grows_by_step names (s.Have h t q) spot e =
    let parts = construct_none spot (first (new_name names h) (formula names t)) (in_proofs.proof q names) e in
    grows_with names h c.Hypothesis (first_none (new_name names h) (formula names t) parts.0).0
grows_by_step names (s.OpenVar i x r) spot e = grows_with names x (c.Logic r) (construct_none spot (new_name names x) nothing e).0
grows_by_step names (s.OpenFact i h) spot e = grows_with names h c.Hypothesis (construct_none spot (new_name names h) nothing e).0
grows_by_step names (s.Unfold i) spot e = same_scope names
grows_by_step names (s.Fold n us x) spot e = same_scope names
grows_by_step names (s.Rewrite i k u q) spot e = same_scope names
grows_by_step names (s.Use l us x) spot e = same_scope names

-- the variables that the rules had in scope still are there
pub still_there : (roots : Names) (old new : walk.Scope) (start scope : Scope) → Matches roots old start → Matches roots new scope → Grows old new → StillThere start scope
still_there roots old new start scope m n grows y r e = at (old y) refl (m y)
  where
    same : (k : Class) → old y ≡ Some k → MatchesAt (Some k) (scope y) (position 0 roots y)
    same k f = subst (λ z. MatchesAt z (scope y) (position 0 roots y)) (grows y k f) (n y)

    at : (k : Option Class) → old y ≡ k → MatchesAt k (start y) (position 0 roots y) → scope y ≡ Some (Variable r)
    at (Some (c.Program s)) f g = (same (c.Program s) f).0 ∙ sym g.0 ∙ e
    at (Some (c.Logic s)) f g = (same (c.Logic s) f).0 ∙ sym g.0 ∙ e
    at (Some c.Hypothesis) f g = let never : Some Hypothesis ≡ Some (Variable r) = sym g.0 ∙ e in cc
    at (Some c.Root) f g = let never : None ≡ Some (Variable r) = sym g.0 ∙ e in cc
    at None f g = let never : None ≡ Some (Variable r) = sym g.0 ∙ e in cc
    at (Some _) f g = let never : None ≡ Some (Variable r) = sym g.0 ∙ e in cc

-- ---- values

pub same_values_on : (start scope : Scope) (one two three : Env) → StillThere start scope → SameValues start one two → SameValues scope two three → SameValues start one three
same_values_on start scope one two three there f g y r e = g y r (there y r e) ∙ f y r e

-- a new name's value changes no other
pub same_values_bind : (roots : Names) (names : walk.Scope) (scope : Scope) → Matches roots names scope → (env : Env) (x : List ℕ) (v : Val) → new_name names x ≡ no_walk_code → SameValues scope env (bind env x v)
same_values_bind roots names scope m env x v new y r e = pick (bytes_eq x y) refl
  where
    pick : (b : Bool) → bytes_eq x y ≡ b → cond b v (env y) ≡ env y
    pick true g = let never : None ≡ Some (Variable r) = sym (unknown roots names scope m x new).0 ∙ ap scope (bytes_eq-true x y g) ∙ e in cc
    pick false g = refl

-- ---- the program's variables

module _ (roots : Names) (names : walk.Scope) (env : Env) (xs : Names) (vs : List Val) (values : HaveValues roots names env xs vs) where
  -- the result of a statement
  pub with_result_values : (x : List ℕ) (r : Sort) (v : Val) → HaveValues roots (with_result names x r) (bind env x v) (x ∷ xs) (v ∷ vs)
  with_result_values x r v y s e = pick (bytes_eq x y) e
    where
      pick : (b : Bool) → cond b (Some (c.Program r)) (names y) ≡ Some (c.Program s) → value_of no_env (v ∷ vs) (named roots y (cond b (Some 0) (position 1 xs y))) ≡ cond b v (env y)
      pick true f = refl
      pick false f = one_further roots no_env v vs 0 xs y ∙ values y s f

  -- a name that is no variable of the program
  pub with_other_values : (x : List ℕ) (k : Class) → ((s : Sort) → k ≡ c.Program s → ⊥) → HaveValues roots (with_name names x k) env xs vs
  with_other_values x k other y s e = pick (bytes_eq x y) e
    where
      inside : (s : Sort) → Some k ≡ Some (c.Program s) → k ≡ c.Program s
      inside s g = cc

      pick : (b : Bool) → cond b (Some k) (names y) ≡ Some (c.Program s) → value_of no_env vs (named roots y (position 0 xs y)) ≡ env y
      pick true f = absurd (other s (inside s f))
      pick false f = values y s f

  -- a step
  pub after_step_values : (x : StepKind) → HaveValues roots (after_step x names) env xs vs
  after_step_values (s.Have h t q) = with_other_values h c.Hypothesis (λ r e. cc)
  after_step_values (s.OpenVar i x r) = with_other_values x (c.Logic r) (λ r e. cc)
  after_step_values (s.OpenFact i h) = with_other_values h c.Hypothesis (λ r e. cc)
  after_step_values (s.Unfold i) = values
  after_step_values (s.Fold n us x) = values
  after_step_values (s.Rewrite i k u q) = values
  after_step_values (s.Use l us x) = values

-- other values for what is no variable
pub other_values : (roots : Names) (names : walk.Scope) (scope : Scope) → Matches roots names scope → (env next : Env) (xs : Names) (vs : List Val) → SameValues scope env next
    → HaveValues roots names env xs vs → HaveValues roots names next xs vs
other_values roots names scope m env next xs vs same values y s e =
    values y s e ∙ sym (same y s (subst (λ k. MatchesAt k (scope y) (position 0 roots y)) e (m y)).0)
