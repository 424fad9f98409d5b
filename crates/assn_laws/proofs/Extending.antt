-- What is in order stays in order where more names are in scope.
use Rattle.std.proofs.Common.{◌≡◌, ℕ, Bool, true, false, List, [], ◌∷◌, Option, Some, None, refl, sym, ◌∙◌, ap, subst}
use Rattle.std.specs.Prelude.{bytes_eq, if◌then◌else◌}
use Rattle.tht_tree.specs.declared.plain.Sort.{Sort}
use Rattle.tht_tree.specs.declared.plain.Sort.TheVariants as sort
use Rattle.tht_tree.specs.declared.state.Local.TheVariants.{Variable}
use Rattle.tht_tree.specs.declared.term.Term.{Term}
use Rattle.tht_tree.specs.declared.term.Term.TheVariants as t
use Rattle.tht_tree.specs.declared.assn.Assn.{Assn}
use Rattle.tht_tree.specs.declared.assn.Assn.TheVariants as a
use Rattle.tht_tree.specs.Syntax.{Names, position}
use Rattle.tht_tree.specs.Rules.Context.{Scope, with_local}
use Rattle.tht_tree.specs.Rules.Scoping.{is_of, is_storable_sort, variable_sort, name_sort, sort_at, sort_of}
use Rattle.tht_tree.proofs.TermFolds.{at-Var}
use Rattle.tht_tree.proofs.TermValues.{Apart, Extends, sort_of-Extends}
use Rattle.tht_logic.specs.Rules.Scoped.{Signatures, HaveTheSorts}
use Rattle.tht_logic.specs.Rules.Scoped as scoped
use Rattle.assn_laws.proofs.AssnLevels.{Star, Exists, Either, Star-is, Exists-is, Either-is}
use Rattle.assn_laws.proofs.KnownNames.{both_true}
use Rattle.assn_laws.proofs.PutScoped.{both_hold}
use Rattle.tht_logic.proofs.NamesInTerms.{all_free}
use Rattle.assn_laws.proofs.FreeNames.{every_name}
use Rattle.assn_laws.proofs.SortsByNames.{sort_named, sort_stays}
use Rattle.assn_laws.proofs.ScopedLevels.{scoped-Emp, scoped-Fact, scoped-Own, scoped-Shared, scoped-Star, scoped-Inst, scoped-Exists, scoped-Either}

module _ (roots : Names) where
  -- each name keeps its sort
  abbrev pub Wider : Scope → Scope → Type 0
  Wider old new = (x : List ℕ) (s : Sort) → sort_named roots old x ≡ Some s → sort_named roots new x ≡ Some s

  -- with one more variable, in both
  wider_in : (old new : Scope) → Wider old new → (x : List ℕ) (r : Sort) → Wider (with_local old x (Variable r)) (with_local new x (Variable r))
  wider_in old new f x r y s e = pick (bytes_eq x y) e
    where
      pick : (c : Bool) → name_sort (variable_sort (if c then Some (Variable r) else old y)) (position 0 roots y) ≡ Some s
          → name_sort (variable_sort (if c then Some (Variable r) else new y)) (position 0 roots y) ≡ Some s
      pick true g = g
      pick false g = f y s g

  wider_of : (old new : Scope) → Apart roots new → Extends old new → Wider old new
  wider_of old new apart extends x s e =
      sym (at-Var (Option Sort) (sort_at roots new) x) ∙ sort_of-Extends roots old new apart extends (t.Var x) s (at-Var (Option Sort) (sort_at roots old) x ∙ e)

  module _ (old new : Scope) (wider : Wider old new) where
    stays : (u : Term) (s : Sort) → sort_of roots old u ≡ Some s → sort_of roots new u ≡ Some s
    stays u = sort_stays roots old new (λ x. Unit {0}) (λ x k. wider x) u (every_name (λ x. Unit {0}) (λ x. tt) (all_free u))

    sort_kept : (r : Sort) (u : Term) → is_of r (sort_of roots old u) ≡ true → is_of r (sort_of roots new u) ≡ true
    sort_kept r u e = from (sort_of roots old u) refl e
      where
        from : (o : Option Sort) → sort_of roots old u ≡ o → is_of r o ≡ true → is_of r (sort_of roots new u) ≡ true
        from None g k = cc
        from (Some s) g k = ap (is_of r) (stays u s g) ∙ k

    storable_kept : (u : Term) → is_storable_sort (sort_of roots old u) ≡ true → is_storable_sort (sort_of roots new u) ≡ true
    storable_kept u e = from (sort_of roots old u) refl e
      where
        from : (o : Option Sort) → sort_of roots old u ≡ o → is_storable_sort o ≡ true → is_storable_sort (sort_of roots new u) ≡ true
        from None g k = cc
        from (Some s) g k = ap is_storable_sort (stays u s g) ∙ k

    formula_stays : (u : Term) → scoped.is_formula roots old u ≡ true → scoped.is_formula roots new u ≡ true
    formula_stays = sort_kept sort.Bool

    cell_kept : (u v : Term) → scoped.is_cell roots old u v ≡ true → scoped.is_cell roots new u v ≡ true
    cell_kept u v e =
        let b : (is_of sort.Loc (sort_of roots old u) ≡ true) × (is_storable_sort (sort_of roots old v) ≡ true) = both_true (is_of sort.Loc (sort_of roots old u)) (is_storable_sort (sort_of roots old v)) e in
        both_hold (is_of sort.Loc (sort_of roots new u)) (is_storable_sort (sort_of roots new v)) (sort_kept sort.Loc u b.0) (storable_kept v b.1)

    pub sorts_kept : (us : List Term) → HaveTheSorts roots old new us us
    sorts_kept [] = tt
    sorts_kept (u ∷ us) = (stays u, sorts_kept us)

  pub formula_kept : (old new : Scope) → Apart roots new → Extends old new → (u : Term) → scoped.is_formula roots old u ≡ true → scoped.is_formula roots new u ≡ true
  formula_kept old new apart extends = formula_stays old new (wider_of old new apart extends)

  module _ (instance : Signatures) (by_sorts : (old new : Scope) (n : List ℕ) (us vs : List Term) → HaveTheSorts roots old new us vs → instance old n us ≡ true → instance new n vs ≡ true) where
    abbrev pub Scoped : Assn → Scope → Bool
    Scoped = scoped.assn roots instance

    abbrev pub Kept : Assn → Type 0
    Kept p = (old new : Scope) → Wider old new → Scoped p old ≡ true → Scoped p new ≡ true

    of_star : (p q : Assn) → Kept p → Kept q → Kept (a.Star p q)
    of_star p q f g old new wider e =
        let b : (Scoped p old ≡ true) × (Scoped q old ≡ true) = both_true (Scoped p old) (Scoped q old) (sym (scoped-Star roots instance p q old) ∙ e) in
        scoped-Star roots instance p q new ∙ both_hold (Scoped p new) (Scoped q new) (f old new wider b.0) (g old new wider b.1)

    of_either : (p q : Assn) → Kept p → Kept q → Kept (a.Either p q)
    of_either p q f g old new wider e =
        let b : (Scoped p old ≡ true) × (Scoped q old ≡ true) = both_true (Scoped p old) (Scoped q old) (sym (scoped-Either roots instance p q old) ∙ e) in
        scoped-Either roots instance p q new ∙ both_hold (Scoped p new) (Scoped q new) (f old new wider b.0) (g old new wider b.1)

    of_exists : (x : List ℕ) (r : Sort) (p : Assn) → Kept p → Kept (a.Exists x r p)
    of_exists x r p f old new wider e =
        scoped-Exists roots instance x r p new
        ∙ f (with_local old x (Variable r)) (with_local new x (Variable r)) (wider_in old new wider x r) (sym (scoped-Exists roots instance x r p old) ∙ e)

    kept_inside : (p : Assn) → Kept p
    kept_inside a.Emp = λ old new wider e. scoped-Emp roots instance new
    kept_inside (a.Fact u) = λ old new wider e. scoped-Fact roots instance u new ∙ formula_stays old new wider u (sym (scoped-Fact roots instance u old) ∙ e)
    kept_inside (a.Own u v) = λ old new wider e. scoped-Own roots instance u v new ∙ cell_kept old new wider u v (sym (scoped-Own roots instance u v old) ∙ e)
    kept_inside (a.Shared u v) = λ old new wider e. scoped-Shared roots instance u v new ∙ cell_kept old new wider u v (sym (scoped-Shared roots instance u v old) ∙ e)
    kept_inside (Star p q) = subst Kept (Star-is p q) (of_star p q (kept_inside p) (kept_inside q))
    kept_inside (a.Inst n us) = λ old new wider e. scoped-Inst roots instance n us new ∙ by_sorts old new n us us (sorts_kept old new wider us) (sym (scoped-Inst roots instance n us old) ∙ e)
    kept_inside (Exists x r p) = subst Kept (Exists-is x r p) (of_exists x r p (kept_inside p))
    kept_inside (Either p q) = subst Kept (Either-is p q) (of_either p q (kept_inside p) (kept_inside q))

    pub kept_in_order : (p : Assn) (old new : Scope) → Apart roots new → Extends old new → Scoped p old ≡ true → Scoped p new ≡ true
    kept_in_order p old new apart extends = kept_inside p old new (wider_of old new apart extends)
