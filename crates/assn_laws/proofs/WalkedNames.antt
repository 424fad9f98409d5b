-- Names, terms and instances in which the walk over names and sorts refuses nothing.
use Rattle.std.proofs.Common.{◌≡◌, ℕ, Bool, true, false, cond, is_some, is_none, List, [], ◌∷◌, map, Option, Some, None, refl, sym, ◌∙◌, ap, subst}
use Rattle.std.specs.Prelude.{bytes_eq, option_map}
use Rattle.tht_tree.specs.declared.plain.Sort.{Sort}
use Rattle.tht_tree.specs.declared.plain.Sort.TheVariants as sort
use Rattle.tht_tree.specs.declared.term.Term.{Term}
use Rattle.tht_tree.specs.declared.decl.Param.{Param}
use Rattle.tht_tree.specs.declared.state.Local.TheVariants as local
use Rattle.tht_tree.specs.declared.walk.Class.{Class}
use Rattle.tht_tree.specs.declared.walk.Class.TheVariants as c
use Rattle.tht_tree.specs.declared.walk.Naming.TheVariants.{Anywhere, Nowhere, Only}
use Rattle.tht_tree.specs.declared.walk.WalkCode.{WalkCode}
use Rattle.tht_tree.specs.declared.walk.WalkCode.TheVariants.{N2, N7, S1}
use Rattle.tht_tree.specs.Values.{is_storable}
use Rattle.tht_tree.specs.Syntax.{Names, position}
use Rattle.tht_tree.specs.Rules.Context.{Scope, with_local}
use Rattle.tht_tree.specs.Rules.Scoping.{is_of, is_storable_sort, sort_of}
use Rattle.tht_tree.specs.Walk.Codes.{first, unless}
use Rattle.tht_tree.specs.Walk.Names as walk
use Rattle.tht_tree.specs.Walk.Names.{with_variable, with_hypothesis, new_name, param_sorts, may_name}
use Rattle.tht_tree.specs.Walk.Sorts.{clash, found}
use Rattle.tht_tree.specs.Walk.Terms.{term_of, any_term, any_terms, held, storable_if, arguments, as_predicate}
use Rattle.tht_tree.proofs.SameTerm.{bytes_eq-true}
use Rattle.proof_laws.specs.Walked.{MatchesAt, Matches}
use Rattle.proof_laws.proofs.TermSorts.{same_sort-refl}
use Rattle.proof_laws.proofs.WalkedTerms.{no_walk_code, first_none, unless_none, walked_term}
use Rattle.tht_logic.specs.Rules.Definitions.{Predicate}
use Rattle.tht_logic.specs.Rules.Scoped.{Table, fits_in, fit, fit_some, params_of}
use Rattle.tht_logic.specs.Rules.Scoped as scoped
use Rattle.assn_laws.specs.Walked.{KnowsAt, WalkedInstancesFit}
use Rattle.assn_laws.proofs.Refusing.{first_of_none, storable_none, same_itself, no_class, both}

pub both_none : (a b : Option WalkCode) → a ≡ no_walk_code → b ≡ no_walk_code → first a b ≡ no_walk_code
both_none a b e f = ap (λ z. first z b) e ∙ f

module _ (roots : Names) (names : walk.Scope) (scope : Scope) (matches : Matches roots names scope) where
  -- ---- names

  -- a name that is new to the walk is new to the rules, and no root's
  pub unknown : (x : List ℕ) → new_name names x ≡ no_walk_code → (scope x ≡ None) × (position 0 roots x ≡ None)
  unknown x e = subst (λ k. MatchesAt k (scope x) (position 0 roots x)) (no_class (names x) (unless_none (is_none (names x)) N2 e)) (matches x)

  pub is_new : (x : List ℕ) → new_name names x ≡ no_walk_code → scoped.is_new roots scope x ≡ true
  is_new x e = let gone = unknown x e in both (is_none (scope x)) (is_none (position 0 roots x)) (ap is_none gone.0) (ap is_none gone.1)

  pub hypothesis_matches : (h : List ℕ) → new_name names h ≡ no_walk_code → Matches roots (with_hypothesis names h) (with_local scope h local.Hypothesis)
  hypothesis_matches h e x = by (bytes_eq h x) refl
    where
      by : (t : Bool) → bytes_eq h x ≡ t → MatchesAt (cond t (Some c.Hypothesis) (names x)) (cond t (Some local.Hypothesis) (scope x)) (position 0 roots x)
      by true g = (refl, ap (position 0 roots) (sym (bytes_eq-true h x g)) ∙ (unknown h e).1)
      by false g = matches x

  pub variable_matches : (y : List ℕ) (s : Sort) → new_name names y ≡ no_walk_code → Matches roots (with_variable names y s) (with_local scope y (local.Variable s))
  variable_matches y s e x = by (bytes_eq y x) refl
    where
      by : (t : Bool) → bytes_eq y x ≡ t → MatchesAt (cond t (Some (c.Logic s)) (names x)) (cond t (Some (local.Variable s)) (scope x)) (position 0 roots x)
      by true g = (refl, ap (position 0 roots) (sym (bytes_eq-true y x g)) ∙ (unknown y e).1)
      by false g = matches x

  -- ---- terms

  pub term_walked : (s : Sort) (u : Term) → term_of names s u ≡ no_walk_code → is_of s (sort_of roots scope u) ≡ true
  term_walked s u e = ap (is_of s) (walked_term roots names scope matches s u e) ∙ same_sort-refl s

  -- a term of any sort, which can be stored if the walk takes it as one
  pub record HasSort (u : Term) : Type 0 where
    pub sort : Sort
    pub is : sort_of roots scope u ≡ Some sort
    pub stored : storable_if (found names false u).sort ≡ no_walk_code → is_storable sort ≡ true

  pub any_walked : (u : Term) → any_term names u ≡ no_walk_code → HasSort u
  any_walked u e = from (found names false u).sort refl
    where
      from : (o : Option Sort) → (found names false u).sort ≡ o → HasSort u
      from None f = record {
        sort = sort.Nat;
        is = walked_term roots names scope matches sort.Nat u (both_none (any_term names u) (clash sort.Nat (found names false u).sort) e (ap (clash sort.Nat) f));
        stored = λ g. refl;
      }
      from (Some s) f = record {
        sort = s;
        is = walked_term roots names scope matches s u (both_none (any_term names u) (clash s (found names false u).sort) e (ap (clash s) f ∙ ap (λ t. unless t S1) (same_itself s)));
        stored = λ g. storable_none s (sym (ap storable_if f) ∙ g);
      }

  pub sort_walked : (u : Term) → any_term names u ≡ no_walk_code → is_some (sort_of roots scope u) ≡ true
  sort_walked u e = ap is_some (any_walked u e).is

  pub held_walked : (u : Term) → held names u ≡ no_walk_code → is_storable_sort (sort_of roots scope u) ≡ true
  held_walked u e =
      let parts = first_none (any_term names u) (storable_if (found names false u).sort) e in
      let w : HasSort u = any_walked u parts.0 in
      ap is_storable_sort w.is ∙ w.stored parts.1

  -- ---- arguments

  sorts_of : List Term → List (Option Sort)
  sorts_of ts = map (λ x. (found names false x).sort) ts

  pub fit_walked : (ps : List Param) (ts : List Term) → any_terms names ts ≡ no_walk_code → arguments names false (param_sorts ps) ts ≡ no_walk_code → fit roots scope ps ts ≡ true
  fit_walked [] [] e f = refl
  fit_walked (p ∷ ps) (t ∷ ts) e f =
      let one = first_of_none (any_term names t) (map (any_term names) ts) e in
      let two = first_none (clash p.sort (found names false t).sort) (arguments names false (param_sorts ps) ts) f in
      both (is_of p.sort (sort_of roots scope t)) (fit roots scope ps ts)
      (term_walked p.sort t (both_none (any_term names t) (clash p.sort (found names false t).sort) one.0 two.0))
      (fit_walked ps ts one.1 two.1)
  fit_walked [] (t ∷ ts) e f = cc
  fit_walked (p ∷ ps) [] e f = cc

  by_sorts : (o : Option Predicate) (sorts : List Sort) (ts : List Term) → option_map (λ p. param_sorts (params_of p)) o ≡ Some sorts → any_terms names ts ≡ no_walk_code
      → arguments names false sorts ts ≡ no_walk_code → fit_some roots scope (option_map params_of o) ts ≡ true
  by_sorts None sorts ts e f g = cc
  by_sorts (Some x) sorts ts e f g = fit_walked (params_of x) ts f (ap (λ z. arguments names false z ts) (inside e) ∙ g)
    where
      inside : Some (param_sorts (params_of x)) ≡ Some sorts → param_sorts (params_of x) ≡ sorts
      inside e = cc

  class_fits : (ts : List Term) → any_terms names ts ≡ no_walk_code → (k : Option Class) (o : Option Predicate) → KnowsAt k o → as_predicate names ts k ≡ no_walk_code → fit_some roots scope (option_map params_of o) ts ≡ true
  class_fits ts all None o knows e = cc
  class_fits ts all (Some (c.Predicate who sorts Nowhere)) o knows e = let never = (first_none (arguments names false sorts ts) (Some N7) e).1 in cc
  class_fits ts all (Some (c.Predicate who sorts Anywhere)) o knows e = by_sorts o sorts ts knows all (first_none (arguments names false sorts ts) (may_name Anywhere ts) e).0
  class_fits ts all (Some (c.Predicate who sorts (Only n x))) o knows e = by_sorts o sorts ts knows all (first_none (arguments names false sorts ts) (may_name (Only n x) ts) e).0
  class_fits ts all (Some _) o knows e = cc

-- The law of instances.
pub walked_instances_fit : WalkedInstancesFit
walked_instances_fit roots known names scope matches knows q ts e =
    let parts = first_none (any_terms names ts) (as_predicate names ts (names q)) e in
    class_fits roots names scope matches ts parts.0 (names q) (known q) (knows q) parts.1
