-- The laws of a read, a write and a free of a private cell.
use Rattle.std.proofs.Common.{◌≡◌, ℕ, ◌≤◌, Bool, true, false, cond, List, [], Option, Some, None, refl, sym, ◌∙◌, ap, subst}
use mathlib.Core.Path.{fun_ext}
use Rattle.std.proofs.lemmas.Bool.{eq-eqb}
use Rattle.tht_tree.specs.declared.plain.Place.{Place}
use Rattle.tht_tree.specs.declared.plain.Sort.{Sort}
use Rattle.tht_tree.specs.declared.plain.Sort.TheVariants as sort
use Rattle.tht_tree.specs.declared.plain.Value.{Value}
use Rattle.tht_tree.specs.declared.plain.Value.TheVariants as v
use Rattle.tht_tree.specs.declared.proof.Proof.{Proof}
use Rattle.tht_tree.specs.declared.assn.Assn.TheVariants as a
use Rattle.tht_tree.specs.declared.state.Local.TheVariants.{Variable}
use Rattle.tht_tree.specs.declared.term.Term.{Term}
use Rattle.tht_tree.specs.declared.term.Term.TheVariants as t
use Rattle.tht_tree.specs.Values.{is, Env, bind, a_bool, same_place, same_value, value_in, has_sort, has_sort_val}
use Rattle.tht_tree.specs.Syntax.{Names, eq, trm}
use Rattle.tht_tree.specs.Terms.{apply, value}
use Rattle.tht_tree.specs.Heaps.{Held, Heap, JoinAt, neither, left, right, Joins, IsEmpty, IsCell, with_at}
use Rattle.tht_tree.specs.Heaps as heap
use Rattle.tht_tree.specs.Rules.Context.{Scope, Context, with_local}
use Rattle.tht_tree.specs.Rules.Scoping.{is_of, is_storable_sort, sort_of}
use Rattle.tht_tree.proofs.Cells.{Joins-change, same_here}
use Rattle.tht_logic.proofs.HeapLaws.{Joins-within}
use Rattle.tht_tree.proofs.TermValues.{stored, value_of_sort, value-Equation, sort_of-Extends}
use Rattle.proof_laws.proofs.TermSorts.{eq_makes}
use Rattle.tht_logic.specs.Assertions.{own, asn}
use Rattle.tht_logic.specs.Satisfaction.{Meaning, Satisfies}
use Rattle.tht_logic.specs.Rules.Definitions.{Declarations}
use Rattle.tht_logic.specs.Rules.Scoped.{Signatures}
use Rattle.tht_logic.specs.Rules.Scoped as scoped
use Rattle.assn_laws.specs.Laws.{IsModel, Premises}
use Rattle.assn_laws.specs.CellLaws.{HasOwn, ReadsAreSound, WritesAreSound, FreesAreSound}
use Rattle.assn_laws.proofs.Nameless.{asn-Own}
use Rattle.assn_laws.proofs.ScopedLevels.{scoped-Own}
use Rattle.assn_laws.proofs.KnownNames.{both_true, Sorted, storable_is}
use Rattle.assn_laws.proofs.AtomLists.{ascends_from, ascends_to, Ascends-with, All-with}
use Rattle.assn_laws.proofs.AtomHeaps.{put_back, put_in}
use Rattle.assn_laws.proofs.GiveSound.{sort_is}
use Rattle.assn_laws.proofs.Rewriting.{number_at, equal_values}
use Rattle.assn_laws.proofs.StateAfter.{Taken, take, hyp_at, extends_new, apart_new}
use Rattle.assn_laws.proofs.NewVariable.{variable_at, its_value, its_sort, still_valued}
use Rattle.assn_laws.proofs.ProofsLaw.{cell_here}
use Rattle.assn_laws.proofs.Refusing.{both}
use Rattle.assn_laws.proofs.CellRules.{read_context, write_context, free_context, Cell, reads, writes, frees}

-- ---- a heap of one cell

cell_changed : (x : Heap) (p : Place) (c d : Held) → IsCell x p c → IsCell (with_at x p (Some d)) p d
cell_changed x p c d one q = pick (same_place p q) (x q) (one q)
  where
    pick : (s : Bool) (o : Option Held) → o ≡ cond s (Some c) None → cond s (Some d) o ≡ cond s (Some d) None
    pick true o e = refl
    pick false o e = e

cell_gone : (x : Heap) (p : Place) (c : Held) → IsCell x p c → IsEmpty (with_at x p None)
cell_gone x p c one q = pick (same_place p q) (x q) (one q)
  where
    pick : (s : Bool) (o : Option Held) → o ≡ cond s (Some c) None → cond s None o ≡ None
    pick true o e = refl
    pick false o e = e

after_empty : {o y z : Option Held} → JoinAt o y z → o ≡ None → y ≡ z
after_empty neither e = refl
after_empty left e = cc
after_empty right e = refl

-- what is beside the cell is the heap without it
beside_cell : (x : Heap) (p : Place) (c : Held) → IsCell x p c → (d h : Heap) → Joins x d h → d ≡ with_at h p None
beside_cell x p c one d h j = fun_ext (λ q. after_empty (Joins-change j p c None (cell_here x p c one) q) (cell_gone x p c one q))

same_value-refl : (w : Value) → same_value w w ≡ true
same_value-refl (v.Nat n) = eq-eqb n n refl
same_value-refl (v.Bool true) = refl
same_value-refl (v.Bool false) = refl
same_value-refl (v.Loc p) = same_here p
same_value-refl v.Unit = refl

module _ (decl : Declarations) (proof : Proof → Scope → Bool) (instance lemma : Signatures) (M : Meaning) (c : Context) (env : Env) (h : Heap) (premises : Premises decl proof instance lemma M c env)
    (at : IsModel decl proof instance lemma M c env h) (u : Term) (i : ℕ) (q : Proof) (loc : is_of sort.Loc (sort_of decl.proofs.roots c.scope u) ≡ true) (order : proof q c.scope ≡ true) (cell : Cell decl.proofs c u i q) where
  abbrev roots : Names
  roots = decl.proofs.roots

  abbrev taken : Taken decl proof instance lemma M premises.typed c env h i (a.Own cell.place cell.value)
  taken = take decl proof instance lemma M premises.typed c env h at i (a.Own cell.place cell.value) cell.at

  abbrev holds : Satisfies M env [] (own (trm roots [] cell.place) (trm roots [] cell.value)) taken.one
  holds = subst (λ z. Satisfies M env [] z taken.one) (asn-Own roots [] cell.place cell.value) taken.holds

  sorts : (is_of sort.Loc (sort_of roots c.scope cell.place) ≡ true) × (is_storable_sort (sort_of roots c.scope cell.value) ≡ true)
  sorts = both_true (is_of sort.Loc (sort_of roots c.scope cell.place)) (is_storable_sort (sort_of roots c.scope cell.value)) (sym (scoped-Own roots instance cell.place cell.value c.scope) ∙ taken.in_order)

  abbrev place : Place
  place = holds.1

  abbrev held : Value
  held = holds.2

  abbrev old : Held
  old = heap.own holds.0 held

  part_here : taken.one place ≡ Some old
  part_here = cell_here taken.one place old holds.6

  formula : scoped.is_formula roots c.scope (t.Eq u cell.place) ≡ true
  formula =
      ap (is_of sort.Bool)
      (eq_makes roots c.scope u cell.place sort.Loc (sort_is sort.Loc (sort_of roots c.scope u) loc) (sort_is sort.Loc (sort_of roots c.scope cell.place) sorts.0))

  same : value roots env u ≡ value roots env cell.place
  same = equal_values roots env u cell.place (premises.proofs q (t.Eq u cell.place) order formula cell.proved)

  abbrev has_own : HasOwn roots env u h
  has_own = record { place = place; branch = holds.0; held = held; at = same ∙ holds.4; there = Joins-within taken.joins place old part_here }

  -- the cell with another value, or another owner
  abbrev new_part : ℕ → Value → Heap
  new_part b w = with_at taken.one place (Some (heap.own b w))

  abbrev new_heap : ℕ → Value → Heap
  new_heap b w = with_at h place (Some (heap.own b w))

  new_joins : (b : ℕ) (w : Value) → Joins (new_part b w) taken.rest (new_heap b w)
  new_joins b w = Joins-change taken.joins place old (Some (heap.own b w)) part_here

  new_holds : (b : ℕ) (w : Value) (z : Term) → value roots env z ≡ is w → Satisfies M env [] (asn roots [] (a.Own cell.place z)) (new_part b w)
  new_holds b w z e =
      subst (λ k. Satisfies M env [] k (new_part b w)) (sym (asn-Own roots [] cell.place z))
      (b, place, w, holds.3, holds.4, e, cell_changed taken.one place old (heap.own b w) holds.6)

  -- ---- a write and a free

  written : (z : Term) → is_storable_sort (sort_of roots c.scope z) ≡ true → (b : ℕ) → IsModel decl proof instance lemma M (write_context c i cell.place z) env (new_heap b (value_in (value roots env z)))
  written z s b =
      let r : Sorted (sort_of roots c.scope z) = storable_is (sort_of roots c.scope z) s in
      let w = stored r.0 (value roots env z) (sym (ap is_storable_sort r.1) ∙ s) (value_of_sort roots c.scope env at.formed.no_root_hidden at.satisfied.sorts z r.0 r.1) in
      let e : value roots env z ≡ is (value_in (value roots env z)) = w.1 ∙ ap is (sym (ap value_in w.1)) in
      let new = a.Own cell.place z in
      let ins : scoped.assn roots instance new c.scope ≡ true
      = scoped-Own roots instance cell.place z c.scope ∙ both (is_of sort.Loc (sort_of roots c.scope cell.place)) (is_storable_sort (sort_of roots c.scope z)) sorts.0 s in
      record {
        formed = record {
          ascending = ascends_to _ (Ascends-with i new c.atoms (ascends_from c.atoms at.formed.ascending));
          numbered = All-with (λ k. k.0 ≤ c.made) i new c.atoms at.formed.numbered (number_at c.made i (a.Own cell.place cell.value) c.atoms at.formed.numbered cell.at);
          atoms = All-with (λ k. scoped.assn roots instance k.1 c.scope ≡ true) i new c.atoms at.formed.atoms ins;
          hyps = at.formed.hyps;
          no_root_hidden = at.formed.no_root_hidden;
        };
        satisfied = record {
          sorts = at.satisfied.sorts;
          hyps = at.satisfied.hyps;
          atoms = put_in M roots env c.atoms i new (new_part b (value_in (value roots env z))) taken.rest (new_heap b (value_in (value roots env z))) (ascends_from c.atoms at.formed.ascending) taken.atoms
              (new_joins b (value_in (value roots env z))) (new_holds b (value_in (value roots env z)) z e);
        };
      }

  freed : IsModel decl proof instance lemma M (free_context c i) env (with_at h place None)
  freed = subst (IsModel decl proof instance lemma M (free_context c i) env) (beside_cell taken.one place old holds.6 taken.rest h taken.joins) taken.state

  -- ---- a read

  -- the state as it was, whichever branch owns the cell
  touched : (b : ℕ) → IsModel decl proof instance lemma M c env (new_heap b held)
  touched b = record {
    formed = at.formed;
    satisfied = record {
      sorts = at.satisfied.sorts;
      hyps = at.satisfied.hyps;
      atoms = put_back M roots env c.atoms i (a.Own cell.place cell.value) (new_part b held) taken.rest (new_heap b held) cell.at taken.atoms (new_joins b held) (new_holds b held cell.value holds.5);
    };
  }

  right_sort : (r : Sort) → sort_of roots c.scope cell.value ≡ Some r → has_sort r held ≡ true
  right_sort r e = sym (ap (has_sort_val r) holds.5) ∙ value_of_sort roots c.scope env at.formed.no_root_hidden at.satisfied.sorts cell.value r e

  module _ (x : List ℕ) (r : Sort) (n : List ℕ) (e : sort_of roots c.scope cell.value ≡ Some r) (new : scoped.is_new roots c.scope x ≡ true) (hyp : scoped.is_new roots (with_local c.scope x (Variable r)) n ≡ true) where
    abbrev wider : Scope
    wider = with_local c.scope x (Variable r)

    abbrev after_env : Env
    after_env = bind env x (is held)

    abbrev equation : Term
    equation = t.Eq (t.Var x) cell.value

    equation_sorted : scoped.is_formula roots wider equation ≡ true
    equation_sorted =
        ap (is_of sort.Bool)
        (eq_makes roots wider (t.Var x) cell.value r (its_sort decl proof instance lemma M premises.typed c.scope env x r (is held) new (right_sort r e))
        (sort_of-Extends roots c.scope wider (apart_new decl proof instance lemma M premises.typed c.scope x (Variable r) new at.formed.no_root_hidden) (extends_new decl proof instance lemma M premises.typed c.scope x (Variable r) new) cell.value r e))

    equation_true : value roots after_env equation ≡ a_bool true
    equation_true =
        let one : value roots after_env (t.Var x) ≡ is held = its_value decl proof instance lemma M premises.typed c.scope env x r (is held) new (right_sort r e) in
        let two : value roots after_env cell.value ≡ is held = still_valued decl proof instance lemma M premises.typed c.scope env x r (is held) new (right_sort r e) cell.value (r, e) ∙ holds.5 in
        value-Equation roots after_env (t.Var x) cell.value ∙ (λ j. apply eq (one j) (two j)) ∙ ap a_bool (same_value-refl held)

    known : (b : ℕ) → IsModel decl proof instance lemma M (read_context c x r n cell.value) after_env (new_heap b held)
    known b =
        hyp_at decl proof instance lemma M premises.typed (record c { scope = wider }) after_env (new_heap b held)
        (variable_at decl proof instance lemma M premises.typed c.scope env x r (is held) new (right_sort r e) c.hyps c.atoms c.made (new_heap b held) (touched b))
        n (t.Eq (t.Var x) cell.value) hyp equation_sorted equation_true

-- ---- the laws

module _ (decl : Declarations) (proof : Proof → Scope → Bool) (instance lemma : Signatures) (M : Meaning) where
  -- The law of reads.
  pub reads_are_sound : ReadsAreSound decl proof instance lemma M
  reads_are_sound c next env h premises at spot x r u i n q new hyp loc order ok =
      let w = reads decl.proofs spot c next x r u i n q ok in
      let cell : HasOwn decl.proofs.roots env u h = has_own decl proof instance lemma M c env h premises at u i q loc order w.0 in (
        cell,
        right_sort decl proof instance lemma M c env h premises at u i q loc order w.0 r w.1,
        λ b. subst (λ k. IsModel decl proof instance lemma M k (bind env x (is cell.held)) (with_at h cell.place (Some (heap.own b cell.held)))) w.2
            (known decl proof instance lemma M c env h premises at u i q loc order w.0 x r n w.1 new hyp b),
      )

  -- The law of writes.
  pub writes_are_sound : WritesAreSound decl proof instance lemma M
  writes_are_sound c next env h premises at spot u z i q loc storable order ok =
      let w = writes decl.proofs spot c next u z i q ok in
      let cell : HasOwn decl.proofs.roots env u h = has_own decl proof instance lemma M c env h premises at u i q loc order w.0 in (
        cell,
        λ b. subst (λ k. IsModel decl proof instance lemma M k env (with_at h cell.place (Some (heap.own b (value_in (value decl.proofs.roots env z)))))) w.1
            (written decl proof instance lemma M c env h premises at u i q loc order w.0 z storable b),
      )

  -- The law of frees.
  pub frees_are_sound : FreesAreSound decl proof instance lemma M
  frees_are_sound c next env h premises at spot u i q loc order ok =
      let w = frees decl.proofs spot c next u i q ok in
      let cell : HasOwn decl.proofs.roots env u h = has_own decl proof instance lemma M c env h premises at u i q loc order w.0 in (
        cell,
        subst (λ k. IsModel decl proof instance lemma M k env (with_at h cell.place None)) w.1 (freed decl proof instance lemma M c env h premises at u i q loc order w.0),
      )
