-- The definition of an instance with arguments that fit is in order where the instance is.
use Rattle.std.proofs.Common.{◌≡◌, ℕ, Bool, true, false, List, [], ◌∷◌, Option, Some, None, Ok, refl, sym, ◌∙◌, subst}
use Rattle.std.specs.Prelude.{bytes_eq, option_map, if◌then◌else◌}
use Rattle.tht_tree.specs.declared.plain.Sort.{Sort}
use Rattle.tht_tree.specs.declared.state.Local.TheVariants.{Variable}
use Rattle.tht_tree.specs.declared.term.Term.{Term}
use Rattle.tht_tree.specs.declared.assn.Assn.{Assn}
use Rattle.tht_tree.specs.declared.proof.Proof.{Proof}
use Rattle.tht_tree.specs.declared.decl.Param.{Param}
use Rattle.tht_tree.specs.declared.decl.Decl.{Decl}
use Rattle.tht_tree.specs.Syntax.{Names, position}
use Rattle.tht_tree.specs.Normal.Putting.{put_name}
use Rattle.tht_tree.specs.Rules.Context.{Scope}
use Rattle.tht_tree.specs.Rules.Scoping.{is_of, variable_sort, name_sort, sort_at, sort_of}
use Rattle.tht_tree.proofs.TermFolds.{at-Var}
use Rattle.tht_logic.specs.Rules.Definitions.{Predicate, one_case, two_cases, Declarations, arguments, definition, definition_of, predicates_of}
use Rattle.tht_logic.specs.Meanings.{meaning}
use Rattle.tht_logic.specs.Rules.Scoped.{Signatures, HideNoRoot, HaveTheSorts, fits_in, fit, fit_some, params_of, instance_fits}
use Rattle.tht_logic.specs.Rules.Scoped as scoped
use Rattle.assn_laws.specs.Laws.{AreTyped}
use Rattle.assn_laws.proofs.KnownNames.{both_true}
use Rattle.assn_laws.proofs.PutScoped.{put_in_order}
use Rattle.assn_laws.proofs.Fitting.{fits_by_sorts, instance_sorted, instance_by_sorts}
use Rattle.assn_laws.proofs.GiveSound.{sort_is}
use Rattle.assn_laws.proofs.OneCase.{made_of}
use Rattle.assn_laws.proofs.Predicates.{param_scope, AreDefinedByEarlier, fits_known, Meant, predicates_meant}

module _ (roots : Names) (scope : Scope) (apart : HideNoRoot roots scope) where
  -- each parameter stands for an argument of its sort
  pub keep : (ps : List Param) (ts : List Term) → fit roots scope ps ts ≡ true → (y : List ℕ) (s : Sort) → name_sort (variable_sort (param_scope ps y)) (position 0 roots y) ≡ Some s
      → sort_of roots scope (put_name (arguments ps ts) y) ≡ Some s
  keep [] [] f y s e = at-Var (Option Sort) (sort_at roots scope) y ∙ of_root (position 0 roots y) refl e
    where
      of_root : (o : Option ℕ) → position 0 roots y ≡ o → name_sort None o ≡ Some s → name_sort (variable_sort (scope y)) (position 0 roots y) ≡ Some s
      of_root (Some r) g k = (λ i. name_sort (apart y r g i) (g i)) ∙ k
      of_root None g k = cc
  keep [] (u ∷ ts) f y s e = cc
  keep (p ∷ ps) [] f y s e = cc
  keep (p ∷ ps) (u ∷ ts) f y s e =
      pick (bytes_eq p.name y) e (λ k. keep ps ts fits.1 y s k)
    where
      fits : (is_of p.sort (sort_of roots scope u) ≡ true) × (fit roots scope ps ts ≡ true)
      fits = both_true (is_of p.sort (sort_of roots scope u)) (fit roots scope ps ts) f

      its_sort : (o : Option ℕ) → name_sort (Some p.sort) o ≡ Some s → Some p.sort ≡ Some s
      its_sort o k = k

      pick : (c : Bool) → name_sort (variable_sort (if c then Some (Variable p.sort) else param_scope ps y)) (position 0 roots y) ≡ Some s
          → (name_sort (variable_sort (param_scope ps y)) (position 0 roots y) ≡ Some s → sort_of roots scope (put_name (arguments ps ts) y) ≡ Some s)
          → sort_of roots scope (if c then u else put_name (arguments ps ts) y) ≡ Some s
      pick true k more = sort_is p.sort (sort_of roots scope u) fits.0 ∙ its_sort (position 0 roots y) k
      pick false k more = more k

module _ (decl : Declarations) (decls : List Decl) (same : (q : List ℕ) → decl.predicates q ≡ predicates_of decls q) (turn : AreDefinedByEarlier decl.proofs.roots (λ q. None) decls) where
  abbrev roots : Names
  roots = decl.proofs.roots

  one_in_order : (q : List ℕ) (ps : List Param) (b : Assn) → decl.predicates q ≡ Some (one_case ps b) → (scope : Scope) → HideNoRoot roots scope → (ts : List Term) (p : Assn)
      → instance_fits decl scope q ts ≡ true → definition (one_case ps b) ts ≡ Ok p → scoped.assn roots (instance_fits decl) p scope ≡ true
  one_in_order q ps b e scope apart ts p fits defines =
      let x : Meant roots (meaning roots decls) (predicates_of decls) q ps b = (predicates_meant roots decls turn).meant q ps b (sym (same q) ∙ e) in
      let here : fit roots scope ps ts ≡ true = subst (λ o. fit_some roots scope (option_map params_of o) ts ≡ true) e fits in
      subst (λ z. scoped.assn roots (instance_fits decl) z scope ≡ true) (made_of (arguments ps ts) b p defines)
      (put_in_order roots (fits_in roots x.earlier) (instance_fits decl) (λ old new n us vs w g.
      subst (λ o. fit_some roots new (option_map params_of o) vs ≡ true) (x.stays n (fits_known roots x.earlier old n us g) ∙ sym (same n))
      (fits_by_sorts roots old new (option_map params_of (x.earlier n)) us vs w g)) b (arguments ps ts) (param_scope ps) scope (keep roots scope apart ps ts here) x.body)

  some_in_order : (o : Option Predicate) (q : List ℕ) → decl.predicates q ≡ o → (scope : Scope) → HideNoRoot roots scope → (ts : List Term) (p : Assn)
      → instance_fits decl scope q ts ≡ true → definition_of o ts ≡ Ok p → scoped.assn roots (instance_fits decl) p scope ≡ true
  some_in_order None q e scope apart ts p fits defines = cc
  some_in_order (Some (one_case ps b)) q e scope apart ts p fits defines = one_in_order q ps b e scope apart ts p fits defines
  some_in_order (Some (two_cases k)) q e scope apart ts p fits defines =
      absurd ((predicates_meant roots decls turn).one q (two_cases k) (sym (same q) ∙ e))

  pub defined_in_order : (scope : Scope) → HideNoRoot roots scope → (q : List ℕ) (ts : List Term) (p : Assn) → instance_fits decl scope q ts ≡ true
      → definition_of (decl.predicates q) ts ≡ Ok p → scoped.assn roots (instance_fits decl) p scope ≡ true
  defined_in_order scope apart q ts p fits defines = some_in_order (decl.predicates q) q refl scope apart ts p fits defines

  -- so the declarations have all that the rules want of them, where none is a lemma
  pub all_typed : (proof : Proof → Scope → Bool) (lemma : Signatures) → ((l : List ℕ) → decl.lemmas l ≡ None) → AreTyped decl proof (instance_fits decl) lemma
  all_typed proof lemma none = record {
    sorted = instance_sorted decl;
    by_sorts = instance_by_sorts decl;
    defined = defined_in_order;
    asks = λ scope hides l ts x p f e k. let nothing : None ≡ Some x = sym (none l) ∙ e in cc;
    gives = λ scope hides l ts x p f e k. let nothing : None ≡ Some x = sym (none l) ∙ e in cc;
  }
