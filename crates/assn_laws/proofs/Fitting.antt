-- Arguments that fit have sorts, and others of the same sorts fit too.
use Rattle.std.proofs.Common.{◌≡◌, ℕ, true, is_some, All, List, [], ◌∷◌, Option, Some, None, refl, ◌∙◌, ap}
use Rattle.std.proofs.lemmas.List.Elements.{All-cons, All-nil}
use Rattle.std.specs.Prelude.{option_map}
use Rattle.tht_tree.specs.declared.plain.Sort.{Sort}
use Rattle.tht_tree.specs.declared.decl.Param.{Param}
use Rattle.tht_tree.specs.declared.term.Term.{Term}
use Rattle.tht_tree.specs.Syntax.{Names}
use Rattle.tht_tree.specs.Rules.Context.{Scope}
use Rattle.tht_tree.specs.Rules.Scoping.{is_of, sort_of}
use Rattle.tht_logic.specs.Rules.Definitions.{Declarations}
use Rattle.tht_logic.specs.Rules.Scoped.{HaveTheSorts, fit, fit_some, params_of, instance_fits}
use Rattle.assn_laws.proofs.KnownNames.{both_true}
use Rattle.assn_laws.proofs.PutScoped.{both_hold}

module _ (roots : Names) where
  some_sort : (r : Sort) (o : Option Sort) → is_of r o ≡ true → is_some o ≡ true
  some_sort r None e = cc
  some_sort r (Some s) e = refl

  all_sorted : (scope : Scope) (ps : List Param) (ts : List Term) → fit roots scope ps ts ≡ true → All (λ t. is_some (sort_of roots scope t) ≡ true) ts
  all_sorted scope [] [] e = All-nil (λ t. is_some (sort_of roots scope t) ≡ true)
  all_sorted scope (p ∷ ps) (t ∷ ts) e =
      let b = both_true (is_of p.sort (sort_of roots scope t)) (fit roots scope ps ts) e in
      All-cons (λ t. is_some (sort_of roots scope t) ≡ true) t ts (some_sort p.sort (sort_of roots scope t) b.0) (all_sorted scope ps ts b.1)
  all_sorted scope [] (t ∷ ts) e = cc
  all_sorted scope (p ∷ ps) [] e = cc

  sort_fits : (old new : Scope) (r : Sort) (t u : Term) → ((s : Sort) → sort_of roots old t ≡ Some s → sort_of roots new u ≡ Some s) → is_of r (sort_of roots old t) ≡ true → is_of r (sort_of roots new u) ≡ true
  sort_fits old new r t u f e = from (sort_of roots old t) refl e
    where
      from : (o : Option Sort) → sort_of roots old t ≡ o → is_of r o ≡ true → is_of r (sort_of roots new u) ≡ true
      from None g k = cc
      from (Some s) g k = ap (is_of r) (f s g) ∙ k

  fit_by_sorts : (old new : Scope) (ps : List Param) (ts us : List Term) → HaveTheSorts roots old new ts us → fit roots old ps ts ≡ true → fit roots new ps us ≡ true
  fit_by_sorts old new [] [] [] w e = refl
  fit_by_sorts old new (p ∷ ps) (t ∷ ts) (u ∷ us) w e =
      let b = both_true (is_of p.sort (sort_of roots old t)) (fit roots old ps ts) e in
      both_hold (is_of p.sort (sort_of roots new u)) (fit roots new ps us) (sort_fits old new p.sort t u w.0 b.0) (fit_by_sorts old new ps ts us w.1 b.1)
  fit_by_sorts old new [] [] (u ∷ us) w e = absurd w
  fit_by_sorts old new [] (t ∷ ts) us w e = cc
  fit_by_sorts old new (p ∷ ps) [] us w e = cc
  fit_by_sorts old new (p ∷ ps) (t ∷ ts) [] w e = absurd w

  pub fits_sorted : (scope : Scope) (o : Option (List Param)) (ts : List Term) → fit_some roots scope o ts ≡ true → All (λ t. is_some (sort_of roots scope t) ≡ true) ts
  fits_sorted scope None ts e = cc
  fits_sorted scope (Some ps) ts e = all_sorted scope ps ts e

  pub fits_by_sorts : (old new : Scope) (o : Option (List Param)) (ts us : List Term) → HaveTheSorts roots old new ts us → fit_some roots old o ts ≡ true → fit_some roots new o us ≡ true
  fits_by_sorts old new None ts us w e = cc
  fits_by_sorts old new (Some ps) ts us w e = fit_by_sorts old new ps ts us w e

module _ (decl : Declarations) where
  pub instance_sorted : (scope : Scope) (q : List ℕ) (ts : List Term) → instance_fits decl scope q ts ≡ true → All (λ t. is_some (sort_of decl.proofs.roots scope t) ≡ true) ts
  instance_sorted scope q ts e = fits_sorted decl.proofs.roots scope (option_map params_of (decl.predicates q)) ts e

  pub instance_by_sorts : (old new : Scope) (q : List ℕ) (ts us : List Term) → HaveTheSorts decl.proofs.roots old new ts us → instance_fits decl old q ts ≡ true → instance_fits decl new q us ≡ true
  instance_by_sorts old new q ts us w e = fits_by_sorts decl.proofs.roots old new (option_map params_of (decl.predicates q)) ts us w e
