-- The rules that rest on cells are sound: two cells stand at different places, and none at null.
use Rattle.std.proofs.Common.{◌≡◌, ◌==◌, ℕ, Bool, true, false, cond, not, ◌&&◌, List, [], ◌∷◌, Option, Some, Ordering, Less, Equal, Greater, refl, sym, ◌∙◌, ap, subst}
use Rattle.std.specs.Ordering.{is_eq, nat_cmp}
use Rattle.std.specs.BTreeMap.{is_at}
use Rattle.std.proofs.lemmas.Map.Lookups.{exact_unsigned}
use Rattle.std.proofs.lemmas.Bool.{eq-eqb}
use Rattle.tht_tree.specs.declared.plain.Spot.{Spot}
use Rattle.tht_tree.specs.declared.plain.Place.{Place}
use Rattle.tht_tree.specs.declared.plain.Place.TheVariants.{Null}
use Rattle.tht_tree.specs.declared.assn.Assn.{Assn}
use Rattle.tht_tree.specs.declared.term.Term.{Term}
use Rattle.tht_tree.specs.declared.term.Term.TheVariants as t
use Rattle.tht_tree.specs.declared.proof.ProofKind.TheOpen as p
use Rattle.tht_tree.specs.Values.{Env, place_of, a_place}
use Rattle.tht_tree.specs.Heaps.{Heap, Held, Joins, JoinAt, neither, left, right}
use Rattle.tht_tree.specs.Syntax.{Names}
use Rattle.tht_tree.specs.SameTree.{same_of}
use Rattle.tht_tree.specs.Rules.Context.{atom_at}
use Rattle.tht_tree.proofs.SameTerm.{same_of-true}
use Rattle.tht_tree.specs.Terms.{value}
use Rattle.normal_laws.proofs.TermMeanings.{value-Null}
use Rattle.tht_tree.specs.declared.rule.RuleCode.TheVariants.{R1, R2, R5}
use Rattle.tht_tree.specs.Rules.Refusals.{needs, needs_some, ◌▸◌}
use Rattle.tht_tree.specs.Rules.Shapes.{as_disequation, as_nonnull}
use Rattle.tht_tree.specs.Rules.Known.{Declared, cell_place}
use Rattle.proof_laws.specs.Scoped.{InScope, Signatures, scoped_at}
use Rattle.tht_tree.specs.Rules.Proofs.{Prover, Entry, proof_at}
use Rattle.proof_laws.specs.Satisfied.{HasCell, HasCells}
use Rattle.proof_laws.proofs.Refusing.{seq_none, needs_none, some_none, two_none, both_true}
use Rattle.proof_laws.proofs.ShapesSay.{a_term, disequation_is, nonnull_is}
use Rattle.proof_laws.proofs.Truth.{Holds, eq_says, neg_holds}
use Rattle.proof_laws.proofs.SoundRule.{Valid, IsSound}

-- ---- heaps that are joined

in_left : (a b h : Option Held) (c : Held) → JoinAt a b h → a ≡ Some c → h ≡ Some c
in_left _ _ _ c neither e = cc
in_left _ _ _ c left e = e
in_left _ _ _ c right e = cc

in_right : (a b h : Option Held) (c : Held) → JoinAt a b h → b ≡ Some c → h ≡ Some c
in_right _ _ _ c neither e = cc
in_right _ _ _ c left e = cc
in_right _ _ _ c right e = e

disjoint : (a b h : Option Held) (c d : Held) → JoinAt a b h → a ≡ Some c → b ≡ Some d → ⊥
disjoint _ _ _ c d neither e g = cc
disjoint _ _ _ c d left e g = cc
disjoint _ _ _ c d right e g = cc

-- ---- cells of atoms

number_is : (i k : ℕ) → is_at (nat_cmp i) k ≡ true → i ≡ k
number_is i k e = exact_unsigned i k (equal (nat_cmp i k) e)
  where
    equal : (o : Ordering) → is_eq o ≡ true → o ≡ Equal
    equal Equal e = refl
    equal Less e = cc
    equal Greater e = cc

abbrev an_atom : Assn → Option Assn
an_atom w = Some w

module _ (roots : Names) (env : Env) where
  -- the heap has something at the value of this place
  abbrev pub At : Term → Heap → Type 0
  At s h = HasCell roots env (a_term s) h

  its_cell : (e w : Assn) (s : Term) (h : Heap) → an_atom e ≡ an_atom w → cell_place w ≡ a_term s → HasCell roots env (cell_place e) h → At s h
  its_cell e w s h same is cell = let one : e ≡ w = cc in subst (λ o. HasCell roots env o h) (ap cell_place one ∙ is) cell

  pub cell_found : (i : ℕ) (w : Assn) (s : Term) (atoms : List (ℕ × Assn)) (h : Heap) → HasCells roots env atoms h → atom_at i atoms ≡ an_atom w → cell_place w ≡ a_term s → At s h
  cell_found i w s [] h all e is = cc
  cell_found i w s (a ∷ rest) h all e is = by (is_at (nat_cmp i) a.0) (λ g. cell_found i w s rest all.1 all.4 g is) e
    where
      by : (c : Bool) → (atom_at i rest ≡ an_atom w → At s all.1) → cond c (an_atom a.1) (atom_at i rest) ≡ an_atom w → At s h
      by true later g =
          let cell = its_cell a.1 w s all.0 g is all.3 in
          (cell.0, cell.1, cell.2, cell.3, in_left (all.0 cell.0) (all.1 cell.0) (h cell.0) cell.1 (all.2 cell.0) cell.4)
      by false later g =
          let cell = later g in
          (cell.0, cell.1, cell.2, cell.3, in_right (all.0 cell.0) (all.1 cell.0) (h cell.0) cell.1 (all.2 cell.0) cell.4)

  -- what is the same tree has the same value, either way
  same_value_of : (s a : Term) → same_of s a ≡ true → value roots env s ≡ value roots env a
  same_value_of s a e = ap (value roots env) (same_of-true s a e)

  same_value_back : (s a : Term) → same_of s a ≡ true → value roots env a ≡ value roots env s
  same_value_back s a e = ap (value roots env) (sym (same_of-true s a e))

  -- no cell stands at null
  pub never_null : (s : Term) (h : Heap) → At s h → value roots env s ≡ a_place Null → ⊥
  never_null s h cell e = cell.2 (ap place_of (sym cell.3 ∙ e))

  place_same : (s u : Term) (p q : Place) → value roots env s ≡ a_place p → value roots env u ≡ a_place q → value roots env s ≡ value roots env u → p ≡ q
  place_same s u p q e g same = ap place_of (sym e ∙ same ∙ g)

  -- cells of disjoint heaps do not stand at one place
  two_cells : (s u : Term) (x y h : Heap) → Joins x y h → At s x → At u y → value roots env s ≡ value roots env u → ⊥
  two_cells s u x y h joins one two same =
      disjoint (x one.0) (y one.0) (h one.0) one.1 two.1 (joins one.0) one.4 (ap y (place_same s u one.0 two.0 one.3 two.3 same) ∙ two.4)

  pub cells_apart : (i j : ℕ) (a b : Assn) (s u : Term) (atoms : List (ℕ × Assn)) (h : Heap) → (i ≡ j → ⊥) → HasCells roots env atoms h →
      atom_at i atoms ≡ an_atom a → atom_at j atoms ≡ an_atom b → cell_place a ≡ a_term s → cell_place b ≡ a_term u → value roots env s ≡ value roots env u → ⊥
  cells_apart i j a b s u [] h differ all e g is it same = cc
  cells_apart i j a b s u (w ∷ rest) h differ all e g is it same = by (is_at (nat_cmp i) w.0) (is_at (nat_cmp j) w.0) refl refl (λ k l. cells_apart i j a b s u rest all.1 differ all.4 k l is it same) e g
    where
      by : (c d : Bool) → is_at (nat_cmp i) w.0 ≡ c → is_at (nat_cmp j) w.0 ≡ d → (atom_at i rest ≡ an_atom a → atom_at j rest ≡ an_atom b → ⊥) → cond c (an_atom w.1) (atom_at i rest) ≡ an_atom a → cond d (an_atom w.1) (atom_at j rest) ≡ an_atom b → ⊥
      by true true m n later k l = differ (number_is i w.0 m ∙ sym (number_is j w.0 n))
      by true false m n later k l = two_cells s u all.0 all.1 h all.2 (its_cell w.1 a s all.0 k is all.3) (cell_found j b u rest all.1 all.4 l it) same
      by false true m n later k l = two_cells u s all.0 all.1 h all.2 (its_cell w.1 b u all.0 l it all.3) (cell_found i a s rest all.1 all.4 k is) (sym same)
      by false false m n later k l = later k l

  -- so the places that are the same trees differ
  pub places_differ : (i j : ℕ) (x y : Assn) (s u a b : Term) (atoms : List (ℕ × Assn)) (h : Heap) → (i ≡ j → ⊥) → HasCells roots env atoms h →
      atom_at i atoms ≡ an_atom x → atom_at j atoms ≡ an_atom y → cell_place x ≡ a_term s → cell_place y ≡ a_term u → same_of s a ≡ true → same_of u b ≡ true → Holds roots env (t.Not (t.Eq a b))
  places_differ i j x y s u a b atoms h differ all e g is it left_same right_same =
      neg_holds roots env (t.Eq a b) (λ k.
      cells_apart i j x y s u atoms h differ all e g is it (same_value_of s a left_same ∙ eq_says roots env a b k ∙ same_value_back u b right_same))

-- ---- the rules

not_same : (i j : ℕ) → not (i == j) ≡ true → i ≡ j → ⊥
not_same i j e g = let h : not true ≡ true = ap not (sym (eq-eqb i j g)) ∙ e in cc

module _ (known : Declared) (fits : Signatures) (env : Env) (heap : Heap) where
  abbrev SoundAt : p.ProofKind-F (Spot → Prover) Entry Prover → p.ProofKind-F InScope InScope InScope → Type 0
  SoundAt x s = (spot : Spot) → IsSound known fits env heap (proof_at known x spot) (scoped_at known.roots fits s)

  abbrev IsValid : Term → Type 0
  IsValid = Valid known fits env heap

  pub nonnull_sound : (i : ℕ) → SoundAt (p.Nonnull i) (p.Nonnull i)
  nonnull_sound i spot c sat order goal sorted e =
      let shape = some_none spot R5 (as_nonnull goal) (λ a. needs_some spot R1 (atom_at i c.atoms) (λ x. needs_some spot R2 (cell_place x) (λ s. needs spot R5 (same_of s a)))) e in
      let a = shape.0 in
      let atom = some_none spot R1 (atom_at i c.atoms) (λ x. needs_some spot R2 (cell_place x) (λ s. needs spot R5 (same_of s a))) shape.2 in
      let cell = some_none spot R2 (cell_place atom.0) (λ s. needs spot R5 (same_of s a)) atom.2 in
      let same = same_of-true cell.0 a (needs_none spot R5 (same_of cell.0 a) cell.2) in
      let there = cell_found known.roots env i atom.0 cell.0 c.atoms heap sat.cells atom.1 cell.1 in
      subst IsValid (sym (nonnull_is goal shape.0 shape.1)) (neg_holds known.roots env (t.Eq a t.Null) (λ h.
      never_null known.roots env cell.0 heap there (ap (value known.roots env) same ∙ eq_says known.roots env a t.Null h ∙ value-Null known.roots env)))

  pub apart_sound : (i j : ℕ) → SoundAt (p.Apart i j) (p.Apart i j)
  apart_sound i j spot c sat order goal sorted e =
      let shape = two_none spot R5 (as_disequation goal) (λ a b.
      needs_some spot R1 (atom_at i c.atoms) (λ x. needs_some spot R1 (atom_at j c.atoms) (λ y.
      needs_some spot R2 (cell_place x) (λ s. needs_some spot R2 (cell_place y) (λ u.
      needs spot R5 (not (i == j)) ▸ needs spot R5 (same_of s a && same_of u b)))))) e in
      let a = shape.0.0 in
      let b = shape.0.1 in
      let one = some_none spot R1 (atom_at i c.atoms) (λ x. needs_some spot R1 (atom_at j c.atoms) (λ y.
      needs_some spot R2 (cell_place x) (λ s. needs_some spot R2 (cell_place y) (λ u.
      needs spot R5 (not (i == j)) ▸ needs spot R5 (same_of s a && same_of u b))))) shape.2 in
      let two = some_none spot R1 (atom_at j c.atoms) (λ y.
      needs_some spot R2 (cell_place one.0) (λ s. needs_some spot R2 (cell_place y) (λ u.
      needs spot R5 (not (i == j)) ▸ needs spot R5 (same_of s a && same_of u b)))) one.2 in
      let left_cell = some_none spot R2 (cell_place one.0) (λ s. needs_some spot R2 (cell_place two.0) (λ u.
      needs spot R5 (not (i == j)) ▸ needs spot R5 (same_of s a && same_of u b))) two.2 in
      let right_cell = some_none spot R2 (cell_place two.0) (λ u.
      needs spot R5 (not (i == j)) ▸ needs spot R5 (same_of left_cell.0 a && same_of u b)) left_cell.2 in
      let s = left_cell.0 in
      let u = right_cell.0 in
      let last = seq_none (needs spot R5 (not (i == j))) (needs spot R5 (same_of s a && same_of u b)) right_cell.2 in
      let sides = both_true (same_of s a) (same_of u b) (needs_none spot R5 (same_of s a && same_of u b) last.1) in
      subst IsValid (sym (disequation_is goal shape.0 shape.1))
      (places_differ known.roots env i j one.0 two.0 s u a b c.atoms heap (not_same i j (needs_none spot R5 (not (i == j)) last.0)) sat.cells
      one.1 two.1 left_cell.1 right_cell.1 sides.0 sides.1)
