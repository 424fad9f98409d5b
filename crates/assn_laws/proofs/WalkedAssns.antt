-- An assertion in which the walk over names and sorts refuses nothing is in order.
use Rattle.std.proofs.Common.{◌≡◌, ℕ, Bool, true, false, cond, ◌&&◌, List, Option, Some, sym, ◌∙◌, subst}
use Rattle.std.specs.Prelude.{bytes_eq}
use Rattle.tht_tree.specs.declared.plain.Sort.{Sort}
use Rattle.tht_tree.specs.declared.plain.Sort.TheVariants as sort
use Rattle.tht_tree.specs.declared.term.Term.{Term}
use Rattle.tht_tree.specs.declared.assn.Assn.{Assn}
use Rattle.tht_tree.specs.declared.assn.Assn.TheVariants as a
use Rattle.tht_tree.specs.declared.state.Local.TheVariants.{Variable}
use Rattle.tht_tree.specs.declared.walk.Class.TheVariants as c
use Rattle.tht_tree.specs.declared.walk.WalkCode.{WalkCode}
use Rattle.tht_tree.specs.Syntax.{Names}
use Rattle.tht_tree.specs.Rules.Context.{Scope, with_local}
use Rattle.tht_tree.specs.Rules.Scoping.{is_of, is_storable_sort, sort_of}
use Rattle.tht_tree.specs.Walk.Codes.{first}
use Rattle.tht_tree.specs.Walk.Names as walk
use Rattle.tht_tree.specs.Walk.Names.{with_variable, new_name}
use Rattle.tht_tree.specs.Walk.Terms.{term_of, formula, held, predicate}
use Rattle.tht_tree.specs.Walk.Assns as w
use Rattle.proof_laws.specs.Walked.{Matches}
use Rattle.proof_laws.proofs.WalkedTerms.{no_walk_code, first_none}
use Rattle.tht_logic.specs.Rules.Scoped.{Signatures, Table, fits_in}
use Rattle.tht_logic.specs.Rules.Scoped as scoped
use Rattle.assn_laws.specs.Walked.{KnowsAt, Knows, WalkedAssertionsAreInOrder}
use Rattle.assn_laws.proofs.AssnLevels.{Star, Exists, Either, Star-is, Exists-is, Either-is, on-Fact, on-Own, on-Shared, on-Star, on-Inst, on-Exists, on-Either}
use Rattle.assn_laws.proofs.ScopedLevels.{scoped-Emp, scoped-Fact, scoped-Own, scoped-Shared, scoped-Star, scoped-Inst, scoped-Exists, scoped-Either}
use Rattle.assn_laws.proofs.Refusing.{both}
use Rattle.assn_laws.proofs.WalkedNames.{variable_matches, term_walked, held_walked, walked_instances_fit}

-- ---- the walk, by the form of an assertion

walk-Fact : (t : Term) (names : walk.Scope) → w.assn (a.Fact t) names ≡ formula names t
unfolding w.assn
walk-Fact t names = on-Fact walk.Scope (Option WalkCode) w.assn_at t names

walk-Own : (t u : Term) (names : walk.Scope) → w.assn (a.Own t u) names ≡ first (term_of names sort.Loc t) (held names u)
unfolding w.assn
walk-Own t u names = on-Own walk.Scope (Option WalkCode) w.assn_at t u names

walk-Shared : (t u : Term) (names : walk.Scope) → w.assn (a.Shared t u) names ≡ first (term_of names sort.Loc t) (held names u)
unfolding w.assn
walk-Shared t u names = on-Shared walk.Scope (Option WalkCode) w.assn_at t u names

walk-Star : (p q : Assn) (names : walk.Scope) → w.assn (a.Star p q) names ≡ first (w.assn p names) (w.assn q names)
unfolding w.assn
walk-Star p q names = on-Star walk.Scope (Option WalkCode) w.assn_at p q names

walk-Inst : (n : List ℕ) (ts : List Term) (names : walk.Scope) → w.assn (a.Inst n ts) names ≡ predicate names n ts
unfolding w.assn
walk-Inst n ts names = on-Inst walk.Scope (Option WalkCode) w.assn_at n ts names

walk-Exists : (x : List ℕ) (s : Sort) (p : Assn) (names : walk.Scope) → w.assn (a.Exists x s p) names ≡ first (new_name names x) (w.assn p (with_variable names x s))
unfolding w.assn
walk-Exists x s p names = on-Exists walk.Scope (Option WalkCode) w.assn_at x s p names

walk-Either : (p q : Assn) (names : walk.Scope) → w.assn (a.Either p q) names ≡ first (w.assn p names) (w.assn q names)
unfolding w.assn
walk-Either p q names = on-Either walk.Scope (Option WalkCode) w.assn_at p q names

-- ---- the forms

-- a variable hides no predicate
variable_known : (known : Table) (names : walk.Scope) → Knows known names → (x : List ℕ) (s : Sort) → Knows known (with_variable names x s)
variable_known known names knows x s y = pick (bytes_eq x y)
  where
    pick : (t : Bool) → KnowsAt (cond t (Some (c.Logic s)) (names y)) (known y)
    pick true = tt
    pick false = knows y

module _ (roots : Names) (known : Table) where
  abbrev fits : Signatures
  fits = fits_in roots known

  abbrev Good : Assn → Type 0
  Good p = (names : walk.Scope) (scope : Scope) → Matches roots names scope → Knows known names → w.assn p names ≡ no_walk_code → scoped.assn roots fits p scope ≡ true

  cell_good : (names : walk.Scope) (scope : Scope) → Matches roots names scope → (t u : Term) → first (term_of names sort.Loc t) (held names u) ≡ no_walk_code → scoped.is_cell roots scope t u ≡ true
  cell_good names scope m t u e =
      let parts = first_none (term_of names sort.Loc t) (held names u) e in
      both (is_of sort.Loc (sort_of roots scope t)) (is_storable_sort (sort_of roots scope u)) (term_walked roots names scope m sort.Loc t parts.0) (held_walked roots names scope m u parts.1)

  fact_good : (t : Term) → Good (a.Fact t)
  fact_good t names scope m k e = scoped-Fact roots fits t scope ∙ term_walked roots names scope m sort.Bool t (sym (walk-Fact t names) ∙ e)

  own_good : (t u : Term) → Good (a.Own t u)
  own_good t u names scope m k e = scoped-Own roots fits t u scope ∙ cell_good names scope m t u (sym (walk-Own t u names) ∙ e)

  shared_good : (t u : Term) → Good (a.Shared t u)
  shared_good t u names scope m k e = scoped-Shared roots fits t u scope ∙ cell_good names scope m t u (sym (walk-Shared t u names) ∙ e)

  two_good : (p q : Assn) → Good p → Good q → (names : walk.Scope) (scope : Scope) → Matches roots names scope → Knows known names → first (w.assn p names) (w.assn q names) ≡ no_walk_code
      → (scoped.assn roots fits p scope && scoped.assn roots fits q scope) ≡ true
  two_good p q f g names scope m k e =
      let parts = first_none (w.assn p names) (w.assn q names) e in
      both (scoped.assn roots fits p scope) (scoped.assn roots fits q scope) (f names scope m k parts.0) (g names scope m k parts.1)

  star_good : (p q : Assn) → Good p → Good q → Good (a.Star p q)
  star_good p q f g names scope m k e = scoped-Star roots fits p q scope ∙ two_good p q f g names scope m k (sym (walk-Star p q names) ∙ e)

  either_good : (p q : Assn) → Good p → Good q → Good (a.Either p q)
  either_good p q f g names scope m k e = scoped-Either roots fits p q scope ∙ two_good p q f g names scope m k (sym (walk-Either p q names) ∙ e)

  inst_good : (n : List ℕ) (ts : List Term) → Good (a.Inst n ts)
  inst_good n ts names scope m k e = scoped-Inst roots fits n ts scope ∙ walked_instances_fit roots known names scope m k n ts (sym (walk-Inst n ts names) ∙ e)

  exists_good : (x : List ℕ) (s : Sort) (p : Assn) → Good p → Good (a.Exists x s p)
  exists_good x s p f names scope m k e =
      let parts = first_none (new_name names x) (w.assn p (with_variable names x s)) (sym (walk-Exists x s p names) ∙ e) in
      let wider : Scope = with_local scope x (Variable s) in
      scoped-Exists roots fits x s p scope
      ∙ f (with_variable names x s) wider (variable_matches roots names scope m x s parts.0) (variable_known known names k x s) parts.1

  pub all_good : (p : Assn) → Good p
  all_good a.Emp = λ names scope m k e. scoped-Emp roots fits scope
  all_good (a.Fact t) = fact_good t
  all_good (a.Own t u) = own_good t u
  all_good (a.Shared t u) = shared_good t u
  all_good (Star p q) = subst Good (Star-is p q) (star_good p q (all_good p) (all_good q))
  all_good (a.Inst n ts) = inst_good n ts
  all_good (Exists x s p) = subst Good (Exists-is x s p) (exists_good x s p (all_good p))
  all_good (Either p q) = subst Good (Either-is p q) (either_good p q (all_good p) (all_good q))

-- The law of assertions.
pub walked_assertions_are_in_order : WalkedAssertionsAreInOrder
walked_assertions_are_in_order roots known names scope m k p e = all_good roots known p names scope m k e
