-- Atoms but for some that were taken, by their numbers: what a give needs that keeps the numbers and leaves the atoms alone.
use Rattle.std.proofs.Common.{◌≡◌, ◌≢◌, ℕ, Bool, true, false, cond, eqb, List, [], ◌∷◌, Some, None, refl, sym, ◌∙◌, ap, arith, inl, inr}
use Rattle.std.proofs.lemmas.Bool.Decides.{eqb_tells}
use Rattle.std.specs.Prelude.{if◌then◌else◌}
use Rattle.std.specs.Ordering.{nat_cmp, is_eq}
use Rattle.tht_tree.specs.declared.assn.Assn.{Assn}
use Rattle.tht_tree.specs.Rules.Context.{atom_at, without_atom}
use Rattle.tht_logic.specs.Rules.Gives.{Atoms}
use Rattle.assn_laws.proofs.AtomLists.{order, below, same, above, IsAbove, Ascends, Ascends-without}

-- the atoms without those of these numbers
abbrev pub without_all : List ℕ → Atoms → Atoms
without_all [] es = es
without_all (i ∷ is) es = without_atom i (without_all is es)

-- the number is among these
abbrev pub is_taken : ℕ → List ℕ → Bool
is_taken i [] = false
is_taken i (j ∷ js) = if eqb i j then true else is_taken i js

-- at the head of a list, a number that is another's or the same
at_head : (i : ℕ) (e : ℕ × Assn) (es : Atoms) (b : Bool) → is_eq (nat_cmp i e.0) ≡ b → atom_at i (e ∷ es) ≡ cond b (Some e.1) (atom_at i es)
at_head i e es b g = ap (λ c. cond c (Some e.1) (atom_at i es)) g

without_head : (i : ℕ) (e : ℕ × Assn) (es : Atoms) (b : Bool) → is_eq (nat_cmp i e.0) ≡ b → without_atom i (e ∷ es) ≡ cond b es (e ∷ without_atom i es)
without_head i e es b g = ap (λ c. cond c es (e ∷ without_atom i es)) g

-- whether two numbers are one
number_tells : (i j : ℕ) → (b : Bool) × (is_eq (nat_cmp i j) ≡ b) × (b ≡ true → i ≡ j)
number_tells i j = elim (order i j) [
  | below f l ↦ (false, ap is_eq f, λ e. cc)
  | same f l ↦ (true, ap is_eq f, λ e. l)
  | above f l ↦ (false, ap is_eq f, λ e. cc)
]

-- another atom stays where it is
pub at_other : (i j : ℕ) (es : Atoms) → i ≢ j → atom_at i (without_atom j es) ≡ atom_at i es
at_other i j [] d = refl
at_other i j (e ∷ es) d = pick (number_tells j e.0) (number_tells i e.0) (at_other i j es d)
  where
    pick : ((b : Bool) × (is_eq (nat_cmp j e.0) ≡ b) × (b ≡ true → j ≡ e.0)) → ((b : Bool) × (is_eq (nat_cmp i e.0) ≡ b) × (b ≡ true → i ≡ e.0)) → atom_at i (without_atom j es) ≡ atom_at i es
        → atom_at i (without_atom j (e ∷ es)) ≡ atom_at i (e ∷ es)
    pick (true, f, g) (true, k, l) more = absurd (d (l refl ∙ sym (g refl)))
    pick (true, f, g) (false, k, l) more = ap (atom_at i) (without_head j e es true f) ∙ sym (at_head i e es false k)
    pick (false, f, g) (true, k, l) more = ap (atom_at i) (without_head j e es false f) ∙ at_head i e (without_atom j es) true k ∙ sym (at_head i e es true k)
    pick (false, f, g) (false, k, l) more = ap (atom_at i) (without_head j e es false f) ∙ at_head i e (without_atom j es) false k ∙ more ∙ sym (at_head i e es false k)

none_above : (i : ℕ) (es : Atoms) → IsAbove i es → atom_at i es ≡ None
none_above i [] h = refl
none_above i (e ∷ es) h = elim (order i e.0) [
  | below f l ↦ at_head i e es false (ap is_eq f) ∙ none_above i es h.1
  | same f l ↦ let less = h.0 in absurd (omega arith)
  | above f l ↦ let less = h.0 in absurd (omega arith)
]

-- one that was taken is not there
pub at_same : (i : ℕ) (es : Atoms) → Ascends es → atom_at i (without_atom i es) ≡ None
at_same i [] h = refl
at_same i (e ∷ es) h = elim (order i e.0) [
  | below f l ↦ ap (atom_at i) (without_head i e es false (ap is_eq f)) ∙ at_head i e (without_atom i es) false (ap is_eq f) ∙ at_same i es h.1
  | same f l ↦ ap (atom_at i) (without_head i e es true (ap is_eq f)) ∙ ap (λ k. atom_at k es) l ∙ none_above e.0 es h.0
  | above f l ↦ ap (atom_at i) (without_head i e es false (ap is_eq f)) ∙ at_head i e (without_atom i es) false (ap is_eq f) ∙ at_same i es h.1
]

pub still_ascends : (is : List ℕ) (es : Atoms) → Ascends es → Ascends (without_all is es)
still_ascends [] es h = h
still_ascends (i ∷ is) es h = Ascends-without i (without_all is es) (still_ascends is es h)

-- the atom with a number is there if it was, and was not taken
pub at_left : (i : ℕ) (is : List ℕ) (es : Atoms) → Ascends es → atom_at i (without_all is es) ≡ (if is_taken i is then None else atom_at i es)
at_left i [] es h = refl
at_left i (j ∷ is) es h = elim (eqb_tells i j) [
  | inl g ↦ ap (λ k. atom_at k (without_atom j (without_all is es))) g.1 ∙ at_same j (without_all is es) (still_ascends is es h) ∙ sym (ap (λ c. if (if c then true else is_taken i is) then None else atom_at i es) g.0)
  | inr g ↦ at_other i j (without_all is es) g.1 ∙ at_left i is es h ∙ sym (ap (λ c. if (if c then true else is_taken i is) then None else atom_at i es) g.0)
]
