-- The law of `alloc` of many cells.
use Rattle.std.proofs.Common.{◌≡◌, ℕ, zero, suc, ◌+◌, Bool, true, arith, All, List, [], ◌∷◌, Option, Some, Ok, refl, sym, ◌∙◌, ap, subst}
use Rattle.std.proofs.lemmas.List.Elements.{All-head, All-tail, All-cons, All-nil}
use Rattle.std.specs.List.{list_all}
use Rattle.tht_tree.specs.declared.plain.Place.TheVariants.{Cell}
use Rattle.tht_tree.specs.declared.plain.Sort.{Sort}
use Rattle.tht_tree.specs.declared.plain.Spot.{Spot}
use Rattle.tht_tree.specs.declared.plain.Sort.TheVariants as sort
use Rattle.tht_tree.specs.declared.plain.Value.{Value}
use Rattle.tht_tree.specs.declared.proof.Proof.{Proof}
use Rattle.tht_tree.specs.declared.term.Term.{Term}
use Rattle.tht_tree.specs.declared.term.Term.TheVariants as t
use Rattle.tht_tree.specs.declared.assn.Assn.{Assn}
use Rattle.tht_tree.specs.declared.assn.Assn.TheVariants as a
use Rattle.tht_tree.specs.declared.rule.RuleCode.TheVariants.{R10}
use Rattle.tht_tree.specs.declared.state.Local.TheVariants.{Variable}
use Rattle.tht_tree.specs.Values.{Val, is, Env, bind, a_place, value_in, place_of}
use Rattle.tht_tree.specs.Syntax.{Names, Trm, trm_at}
use Rattle.tht_tree.specs.Terms.{value_of, value, offset_by}
use Rattle.tht_tree.specs.Heaps.{Heap, nothing, own, with_at}
use Rattle.tht_tree.specs.Rules.Sizes.{assn_fits}
use Rattle.tht_tree.specs.Rules.Context.{Context, Scope, with_local, context_fits}
use Rattle.tht_tree.specs.Rules.Scoping.{is_of, is_storable_sort, offset_sort, sort_at, sort_of}
use Rattle.tht_tree.proofs.TermFolds.{at-Offset}
use Rattle.tht_tree.proofs.TermValues.{stored, value_of_sort, sort_of-Extends}
use Rattle.tht_logic.specs.Assertions.{asn}
use Rattle.tht_logic.specs.Satisfaction.{Meaning, Satisfies, PartsHold}
use Rattle.tht_logic.specs.Flatten.{with_atoms}
use Rattle.tht_logic.specs.Rules.Definitions.{Declarations}
use Rattle.tht_logic.specs.Rules.Commands.{place_behind, new_cells, after_alloc}
use Rattle.tht_logic.specs.Rules.Checking.{if_fits}
use Rattle.tht_logic.specs.Rules.Scoped.{Signatures, HideNoRoot}
use Rattle.tht_logic.specs.Rules.Scoped as scoped
use Rattle.assn_laws.specs.Laws.{IsModel, AreTyped}
use Rattle.assn_laws.specs.Allocs.{with_cells, IsFree, values_in, AllocsAreSound}
use Rattle.assn_laws.proofs.Nameless.{asn-Own}
use Rattle.assn_laws.proofs.ScopedLevels.{scoped-Own}
use Rattle.assn_laws.proofs.KnownNames.{Sorted, storable_is}
use Rattle.assn_laws.proofs.Answers.{IsOk, ok_same, from_true}
use Rattle.assn_laws.proofs.AddedAtoms.{added_scope}
use Rattle.assn_laws.proofs.StateAfter.{parts_at, extends_new, apart_new}
use Rattle.assn_laws.proofs.NewVariable.{variable_at, its_value, its_sort, still_valued}
use Rattle.assn_laws.proofs.NewCells.{new_beside, first_beside}
use Rattle.assn_laws.proofs.PutScoped.{both_hold}

-- a sort that a cell can hold
abbrev Storable : Option Sort → Type 0
Storable o = is_storable_sort o ≡ true

module _ (decl : Declarations) (proof : Proof → Scope → Bool) (instance lemma : Signatures) (M : Meaning) (typed : AreTyped decl proof instance lemma) (c : Context) (env : Env) (h : Heap)
    (at : IsModel decl proof instance lemma M c env h) (x : List ℕ) (new : scoped.is_new decl.proofs.roots c.scope x ≡ true) (b i : ℕ) where
  abbrev roots : Names
  roots = decl.proofs.roots

  abbrev place : Val
  place = a_place (Cell b i)

  abbrev wider : Scope
  wider = with_local c.scope x (Variable sort.Loc)

  abbrev after_env : Env
  after_env = bind env x place

  apart : HideNoRoot roots wider
  apart = apart_new decl proof instance lemma M typed c.scope x (Variable sort.Loc) new at.formed.no_root_hidden

  x_value : value roots after_env (t.Var x) ≡ place
  x_value = its_value decl proof instance lemma M typed c.scope env x sort.Loc place new refl

  x_sort : sort_of roots wider (t.Var x) ≡ Some sort.Loc
  x_sort = its_sort decl proof instance lemma M typed c.scope env x sort.Loc place new refl

  -- ---- the places of the cells

  offset_value : (e : Env) (u : Term) (k : ℕ) → value roots e (t.Offset u k) ≡ a_place (offset_by k (place_of (value roots e u)))
  offset_value e u k = ap (value_of e []) (at-Offset Trm (trm_at roots []) u k)

  place_value : (k j : ℕ) → j ≡ i + k → value roots after_env (place_behind x k) ≡ a_place (Cell b j)
  place_value zero j e = x_value ∙ ap (λ n. a_place (Cell b n)) (omega (arith, e))
  place_value (suc k) j e =
      offset_value after_env (t.Var x) (suc k) ∙ ap (λ z. a_place (offset_by (suc k) (place_of z))) x_value ∙ ap (λ n. a_place (Cell b n)) (sym e)

  place_sort : (k : ℕ) → sort_of roots wider (place_behind x k) ≡ Some sort.Loc
  place_sort zero = x_sort
  place_sort (suc k) = at-Offset (Option Sort) (sort_at roots wider) (t.Var x) (suc k) ∙ ap offset_sort x_sort

  -- ---- their values

  held_value : (u : Term) → Storable (sort_of roots c.scope u) → value roots after_env u ≡ is (value_in (value roots env u))
  held_value u s =
      let r : Sorted (sort_of roots c.scope u) = storable_is (sort_of roots c.scope u) s in
      let w = stored r.0 (value roots env u) (sym (ap is_storable_sort r.1) ∙ s) (value_of_sort roots c.scope env at.formed.no_root_hidden at.satisfied.sorts u r.0 r.1) in
      still_valued decl proof instance lemma M typed c.scope env x sort.Loc place new refl u r ∙ w.1 ∙ ap is (sym (ap value_in w.1))

  held_sort : (u : Term) → Storable (sort_of roots c.scope u) → Storable (sort_of roots wider u)
  held_sort u s =
      let r : Sorted (sort_of roots c.scope u) = storable_is (sort_of roots c.scope u) s in
      ap is_storable_sort (sort_of-Extends roots c.scope wider apart (extends_new decl proof instance lemma M typed c.scope x (Variable sort.Loc) new) u r.0 r.1)
      ∙ sym (ap is_storable_sort r.1) ∙ s

  -- ---- the cells

  abbrev In : Assn → Type 0
  In p = scoped.assn roots instance p wider ≡ true

  abbrev AllStorable : List Term → Type 0
  AllStorable ts = All (λ u. Storable (sort_of roots c.scope u)) ts

  cells_in_order : (k : ℕ) (ts : List Term) → AllStorable ts → All In (new_cells x k ts)
  cells_in_order k [] all = All-nil In
  cells_in_order k (u ∷ ts) all =
      All-cons In (a.Own (place_behind x k) u) (new_cells x (suc k) ts)
      (scoped-Own roots instance (place_behind x k) u wider
      ∙ both_hold (is_of sort.Loc (sort_of roots wider (place_behind x k))) (is_storable_sort (sort_of roots wider u)) (ap (is_of sort.Loc) (place_sort k))
      (held_sort u (All-head (λ z. Storable (sort_of roots c.scope z)) u ts all)))
      (cells_in_order (suc k) ts (All-tail (λ z. Storable (sort_of roots c.scope z)) u ts all))

  cells_hold : (k j : ℕ) → j ≡ i + k → (ts : List Term) → AllStorable ts → PartsHold M roots after_env (new_cells x k ts) (with_cells b j (values_in roots env ts) nothing)
  cells_hold k j e [] all = λ p. refl
  cells_hold k j e (u ∷ ts) all =
      let v : Value = value_in (value roots env u) in
      let one : Heap = with_at nothing (Cell b j) (Some (own b v)) in
      let holds : Satisfies M after_env [] (asn roots [] (a.Own (place_behind x k) u)) one
      = subst (λ z. Satisfies M after_env [] z one) (sym (asn-Own roots [] (place_behind x k) u))
      (b, Cell b j, v, λ f. cc, place_value k j e, held_value u (All-head (λ z. Storable (sort_of roots c.scope z)) u ts all), λ q. refl) in (
        one,
        with_cells b (suc j) (values_in roots env ts) nothing,
        first_beside b j v (values_in roots env ts),
        holds,
        cells_hold (suc k) (suc j) (omega (arith, e)) ts (All-tail (λ z. Storable (sort_of roots c.scope z)) u ts all),
      )

  cells_at : (ts : List Term) → AllStorable ts → IsFree b i h
      → IsModel decl proof instance lemma M (with_atoms (new_cells x 0 ts) (record c { scope = wider })) after_env (with_cells b i (values_in roots env ts) h)
  cells_at ts all free =
      parts_at decl proof instance lemma M typed (record c { scope = wider }) after_env (new_cells x 0 ts) (with_cells b i (values_in roots env ts) nothing) h (with_cells b i (values_in roots env ts) h)
      (variable_at decl proof instance lemma M typed c.scope env x sort.Loc place new refl c.hyps c.atoms c.made h at)
      (cells_hold 0 i (omega arith) ts all) (cells_in_order 0 ts all) (new_beside b i (values_in roots env ts) h free)

-- ---- the law

abbrev allocated : Context → List ℕ → List Term → Context
allocated c x ts = with_atoms (new_cells x 0 ts) (record c { scope = with_local c.scope x (Variable sort.Loc) })

made_is : (spot : Spot) (c next : Context) (x : List ℕ) (ts : List Term) → after_alloc spot c x ts ≡ Ok next → allocated c x ts ≡ next
made_is spot c next x ts e =
    let made : Context = allocated c x ts in
    let fits : IsOk (if_fits spot made) next = (from_true spot R10 (list_all assn_fits (new_cells x 0 ts)) (if_fits spot made) next e).1 in
    ok_same made next (from_true spot R10 (context_fits made) (Ok made) next fits).1

-- what is in scope then
pub alloc_scope : (spot : Spot) (c next : Context) (x : List ℕ) (ts : List Term) → after_alloc spot c x ts ≡ Ok next → next.scope ≡ with_local c.scope x (Variable sort.Loc)
alloc_scope spot c next x ts e =
    sym (ap (λ k. k.scope) (made_is spot c next x ts e)) ∙ added_scope [] (λ scope q us. true) (new_cells x 0 ts) (record c { scope = with_local c.scope x (Variable sort.Loc) })

-- The law.
pub allocs_are_sound : (decl : Declarations) (proof : Proof → Scope → Bool) (instance lemma : Signatures) (M : Meaning) → AllocsAreSound decl proof instance lemma M
allocs_are_sound decl proof instance lemma M typed c next env h at spot x ts new all e b i free =
    subst (λ k. IsModel decl proof instance lemma M k (bind env x (a_place (Cell b i))) (with_cells b i (values_in decl.proofs.roots env ts) h)) (made_is spot c next x ts e)
    (cells_at decl proof instance lemma M typed c env h at x new b i ts all free)
