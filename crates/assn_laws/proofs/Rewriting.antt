-- Another term for a part of an atom: where both have one value and one sort, the atom holds of the same heaps and is in order.
use Rattle.std.proofs.Common.{◌≡◌, ◌⊎◌, ℕ, zero, suc, ◌≤◌, Bool, true, false, ◌&&◌, cond, All, List, [], ◌∷◌, map, Option, Some, None, refl, sym, ◌∙◌, ap, subst, inl, inr, arith}
use Rattle.std.proofs.lemmas.List.Elements.{All-head, All-tail}
use Rattle.std.specs.Prelude.{slice_get, option_map, if◌then◌else◌}
use Rattle.std.specs.Ordering.{is_eq}
use Rattle.tht_tree.specs.declared.plain.Sort.{Sort}
use Rattle.tht_tree.specs.declared.plain.Sort.TheVariants as sort
use Rattle.tht_tree.specs.declared.term.Term.{Term}
use Rattle.tht_tree.specs.declared.term.Term.TheVariants as t
use Rattle.tht_tree.specs.declared.assn.Assn.{Assn, roll-Assn, out-Assn, roll-out-Assn}
use Rattle.tht_tree.specs.declared.assn.Assn.TheVariants as a
use Rattle.tht_tree.specs.declared.assn.Assn.TheOpen.{Assn-F}
use Rattle.tht_tree.specs.declared.assn.Assn.TheOpen as f
use Rattle.tht_tree.specs.Values.{Env, bool_of, a_bool}
use Rattle.tht_tree.specs.Syntax.{Names, trm}
use Rattle.tht_tree.specs.Terms.{value_of, value}
use Rattle.tht_tree.specs.Heaps.{Heap}
use Rattle.tht_tree.specs.Rules.Context.{Scope, atom_at}
use Rattle.tht_tree.specs.Rules.Scoping.{same_sort, is_of, is_storable_sort, equation_sort, sort_at, sort_of}
use Rattle.tht_tree.proofs.TermFolds.{at-Eq}
use Rattle.tht_tree.proofs.TermValues.{same_sort-true, value-Equation}
use Rattle.tht_logic.specs.Assertions.{own, shared}
use Rattle.tht_logic.specs.Satisfaction.{Meaning, Satisfies}
use Rattle.tht_logic.specs.Rules.Gives.{Atoms}
use Rattle.tht_logic.specs.Rules.Parts.{Part, side, replaced, argument_from_1, part_at}
use Rattle.tht_logic.specs.Rules.Scoped.{Signatures, HaveTheSorts}
use Rattle.tht_logic.specs.Rules.Scoped as scoped
use Rattle.assn_laws.specs.AssertionLaws.{Holds}
use Rattle.assn_laws.proofs.Nameless.{asn-Own, asn-Shared, asn-Inst}
use Rattle.assn_laws.proofs.ScopedLevels.{scoped-Own, scoped-Shared, scoped-Inst}
use Rattle.tht_logic.proofs.SameTrms.{same_val-true}
use Rattle.assn_laws.proofs.AtomLists.{order, below, same, above}
use Rattle.assn_laws.proofs.Answers.{some_same}

-- the number of an atom that is there is none above those made
pub number_at : (n i : ℕ) (p : Assn) (es : Atoms) → All (λ e. e.0 ≤ n) es → atom_at i es ≡ Some p → i ≤ n
number_at n i p [] h e = cc
number_at n i p (x ∷ es) h e =
    let head = All-head (λ e. e.0 ≤ n) x es h in
    let tail = number_at n i p es (All-tail (λ e. e.0 ≤ n) x es h) in
    elim (order i x.0) [
      | below g l ↦ tail (sym (ap (λ o. cond (is_eq o) (Some x.1) (atom_at i es)) g) ∙ e)
      | same g l ↦ omega arith
      | above g l ↦ tail (sym (ap (λ o. cond (is_eq o) (Some x.1) (atom_at i es)) g) ∙ e)
    ]

side_is : {A : Type 0} (k : ℕ) (x y z : A) → side k x y ≡ Some z → (x ≡ z) ⊎ (y ≡ z)
side_is zero x y z e = cc
side_is (suc zero) x y z e = inl (some_same x z e)
side_is (suc (suc zero)) x y z e = inr (some_same y z e)
side_is (suc (suc (suc k))) x y z e = cc

-- an equation that is true, and one that is a formula
pub equal_values : (roots : Names) (env : Env) (u w : Term) → value roots env (t.Eq u w) ≡ a_bool true → value roots env u ≡ value roots env w
equal_values roots env u w e = same_val-true (value roots env u) (value roots env w) (ap bool_of (sym (value-Equation roots env u w) ∙ e))

pub equal_sorts : (roots : Names) (scope : Scope) (u w : Term) → is_of sort.Bool (sort_of roots scope (t.Eq u w)) ≡ true → (s : Sort) × (sort_of roots scope u ≡ Some s) × (sort_of roots scope w ≡ Some s)
equal_sorts roots scope u w e = from (sort_of roots scope u) (sort_of roots scope w) refl refl (ap (is_of sort.Bool) (sym (at-Eq (Option Sort) (sort_at roots scope) u w)) ∙ e)
  where
    held : (c : Bool) → is_of sort.Bool (if c then Some sort.Bool else None) ≡ true → c ≡ true
    held true g = refl
    held false g = cc

    from : (x y : Option Sort) → sort_of roots scope u ≡ x → sort_of roots scope w ≡ y → is_of sort.Bool (equation_sort x y) ≡ true → (s : Sort) × (sort_of roots scope u ≡ Some s) × (sort_of roots scope w ≡ Some s)
    from None y g h k = cc
    from (Some q) None g h k = cc
    from (Some q) (Some r) g h k = (r, g ∙ ap (λ z. Some z) (same_sort-true q r (held (same_sort q r) k)), h)

module _ (roots : Names) (instance : Signatures) (M : Meaning) (env : Env) (scope : Scope)
    (by_sorts : (old new : Scope) (n : List ℕ) (us vs : List Term) → HaveTheSorts roots old new us vs → instance old n us ≡ true → instance new n vs ≡ true) where
  abbrev In : Assn → Type 0
  In p = scoped.assn roots instance p scope ≡ true

  abbrev Of : Assn → Heap → Type 0
  Of = Holds M roots env

  -- what is said of a part of an assertion
  abbrev pub IsRewritten : Part → Assn → Type 0
  IsRewritten part p =
      (u : Term) (s : Sort) → value roots env part.term ≡ value roots env u → sort_of roots scope part.term ≡ Some s → sort_of roots scope u ≡ Some s → In p
      → In (part.with u) × ((x : Heap) → Of p x → Of (part.with u) x)

  same_sort_is : (u w : Term) (s r : Sort) → sort_of roots scope u ≡ Some s → sort_of roots scope w ≡ Some s → is_of r (sort_of roots scope u) ≡ true → is_of r (sort_of roots scope w) ≡ true
  same_sort_is u w s r e g k = ap (is_of r) (g ∙ sym e) ∙ k

  cell_kept : (u v w z : Term) → is_of sort.Loc (sort_of roots scope u) ≡ is_of sort.Loc (sort_of roots scope w) → is_storable_sort (sort_of roots scope v) ≡ is_storable_sort (sort_of roots scope z)
      → scoped.is_cell roots scope u v ≡ true → scoped.is_cell roots scope w z ≡ true
  cell_kept u v w z e g k = sym (λ i. e i && g i) ∙ k

  own_place : (w v : Term) → IsRewritten (record { term = w; with = λ z. a.Own z v }) (a.Own w v)
  own_place w v u s e k g i = (
    scoped-Own roots instance u v scope ∙ cell_kept w v u v (ap (is_of sort.Loc) (k ∙ sym g)) refl (sym (scoped-Own roots instance w v scope) ∙ i),
    λ x q. subst (λ z. Satisfies M env [] z x) (sym (asn-Own roots [] u v))
        (let d : Satisfies M env [] (own (trm roots [] w) (trm roots [] v)) x = subst (λ z. Satisfies M env [] z x) (asn-Own roots [] w v) q in
        (d.0, d.1, d.2, d.3, sym e ∙ d.4, d.5, d.6)),
  )

  own_value : (v w : Term) → IsRewritten (record { term = w; with = λ z. a.Own v z }) (a.Own v w)
  own_value v w u s e k g i = (
    scoped-Own roots instance v u scope ∙ cell_kept v w v u refl (ap is_storable_sort (k ∙ sym g)) (sym (scoped-Own roots instance v w scope) ∙ i),
    λ x q. subst (λ z. Satisfies M env [] z x) (sym (asn-Own roots [] v u))
        (let d : Satisfies M env [] (own (trm roots [] v) (trm roots [] w)) x = subst (λ z. Satisfies M env [] z x) (asn-Own roots [] v w) q in
        (d.0, d.1, d.2, d.3, d.4, sym e ∙ d.5, d.6)),
  )

  shared_place : (w v : Term) → IsRewritten (record { term = w; with = λ z. a.Shared z v }) (a.Shared w v)
  shared_place w v u s e k g i = (
    scoped-Shared roots instance u v scope ∙ cell_kept w v u v (ap (is_of sort.Loc) (k ∙ sym g)) refl (sym (scoped-Shared roots instance w v scope) ∙ i),
    λ x q. subst (λ z. Satisfies M env [] z x) (sym (asn-Shared roots [] u v))
        (let d : Satisfies M env [] (shared (trm roots [] w) (trm roots [] v)) x = subst (λ z. Satisfies M env [] z x) (asn-Shared roots [] w v) q in
        (d.0, d.1, d.2, sym e ∙ d.3, d.4, d.5)),
  )

  shared_value : (v w : Term) → IsRewritten (record { term = w; with = λ z. a.Shared v z }) (a.Shared v w)
  shared_value v w u s e k g i = (
    scoped-Shared roots instance v u scope ∙ cell_kept v w v u refl (ap is_storable_sort (k ∙ sym g)) (sym (scoped-Shared roots instance v w scope) ∙ i),
    λ x q. subst (λ z. Satisfies M env [] z x) (sym (asn-Shared roots [] v u))
        (let d : Satisfies M env [] (shared (trm roots [] v) (trm roots [] w)) x = subst (λ z. Satisfies M env [] z x) (asn-Shared roots [] v w) q in
        (d.0, d.1, d.2, d.3, sym e ∙ d.4, d.5)),
  )

  side_case : (x y part : Part) (p : Assn) (k : ℕ) → IsRewritten x p → IsRewritten y p → side k x y ≡ Some part → IsRewritten part p
  side_case x y part p k f g e = elim (side_is k x y part e) [ inl h ↦ subst (λ q. IsRewritten q p) h f | inr h ↦ subst (λ q. IsRewritten q p) h g ]

  -- ---- arguments

  values_replaced : (j : ℕ) (us : List Term) (w u : Term) → slice_get us j ≡ Some w → value roots env w ≡ value roots env u
      → map (value_of env []) (map (trm roots []) us) ≡ map (value_of env []) (map (trm roots []) (replaced j u us))
  values_replaced j [] w u e g = cc
  values_replaced zero (v ∷ us) w u e g = ap (λ z. z ∷ map (value_of env []) (map (trm roots []) us)) (ap (value roots env) (some_same v w e) ∙ g)
  values_replaced (suc j) (v ∷ us) w u e g = ap (λ z. value roots env v ∷ z) (values_replaced j us w u e g)

  sorts_same : (us : List Term) → HaveTheSorts roots scope scope us us
  sorts_same [] = tt
  sorts_same (v ∷ us) = (λ r k. k, sorts_same us)

  sorts_replaced : (j : ℕ) (us : List Term) (w u : Term) (s : Sort) → slice_get us j ≡ Some w → sort_of roots scope w ≡ Some s → sort_of roots scope u ≡ Some s → HaveTheSorts roots scope scope us (replaced j u us)
  sorts_replaced j [] w u s e g k = tt
  sorts_replaced zero (v ∷ us) w u s e g k = (λ r q. k ∙ sym g ∙ ap (sort_of roots scope) (sym (some_same v w e)) ∙ q, sorts_same us)
  sorts_replaced (suc j) (v ∷ us) w u s e g k = (λ r q. q, sorts_replaced j us w u s e g k)

  abbrev argument_part : ℕ → List ℕ → List Term → Term → Part
  argument_part j n us w = record { term = w; with = λ u. a.Inst n (replaced j u us) }

  one_argument : (j : ℕ) (n : List ℕ) (us : List Term) (w : Term) → slice_get us j ≡ Some w → IsRewritten (argument_part j n us w) (a.Inst n us)
  one_argument j n us w at u s e k g i = (
    scoped-Inst roots instance n (replaced j u us) scope
        ∙ by_sorts scope scope n us (replaced j u us) (sorts_replaced j us w u s at k g) (sym (scoped-Inst roots instance n us scope) ∙ i),
    λ x q. subst (λ z. Satisfies M env [] z x) (sym (asn-Inst roots [] n (replaced j u us)))
        (subst (λ vs. M n vs x) (values_replaced j us w u at e) (subst (λ z. Satisfies M env [] z x) (asn-Inst roots [] n us) q)),
  )

  some_argument : (j : ℕ) (n : List ℕ) (us : List Term) (o : Option Term) (part : Part) → slice_get us j ≡ o → option_map (argument_part j n us) o ≡ Some part → IsRewritten part (a.Inst n us)
  some_argument j n us None part at e = cc
  some_argument j n us (Some w) part at e = subst (λ q. IsRewritten q (a.Inst n us)) (some_same (argument_part j n us w) part e) (one_argument j n us w at)

  argument_case : (k : ℕ) (n : List ℕ) (us : List Term) (part : Part) → argument_from_1 k n us ≡ Some part → IsRewritten part (a.Inst n us)
  argument_case zero n us part e = cc
  argument_case (suc j) n us part e = some_argument j n us (slice_get us j) part refl e

  level : (x : Assn-F Assn) (k : ℕ) (part : Part) → part_at k x ≡ Some part → IsRewritten part (roll-Assn x)
  level (f.Own w v) k part e =
      subst (IsRewritten part) (sym (a.rolls-Own w v)) (side_case (record { term = w; with = λ z. a.Own z v }) (record { term = v; with = λ z. a.Own w z }) part (a.Own w v) k (own_place w v) (own_value w v) e)
  level (f.Shared w v) k part e =
      subst (IsRewritten part) (sym (a.rolls-Shared w v))
      (side_case (record { term = w; with = λ z. a.Shared z v }) (record { term = v; with = λ z. a.Shared w z }) part (a.Shared w v) k (shared_place w v) (shared_value w v) e)
  level (f.Inst n us) k part e = subst (IsRewritten part) (sym (a.rolls-Inst n us)) (argument_case k n us part e)
  level _ k part e = cc

  pub rewritten : (p : Assn) (k : ℕ) (part : Part) → part_at k (out-Assn p) ≡ Some part → IsRewritten part p
  rewritten p k part e = subst (IsRewritten part) (roll-out-Assn p) (level (out-Assn p) k part e)
