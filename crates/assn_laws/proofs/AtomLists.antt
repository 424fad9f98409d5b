-- Lists of atoms by ascending numbers.
use Rattle.std.proofs.Common.{◌≡◌, ℕ, suc, ◌≤◌, ◌<◌, Bool, true, false, cond, eqb, List, [], ◌∷◌, Some, None, refl, sym, ◌∙◌, ap, subst, inl, inr, arith}
use Rattle.std.proofs.lemmas.Bool.Decides.{leb_tells, eqb_tells}
use Rattle.std.proofs.lemmas.List.Elements.{All-cons, All-head, All-tail}
use Rattle.std.specs.Prelude.{All}
use Rattle.std.specs.List.{AllByRecursion}
use Rattle.std.specs.List.Sorted.{IsStrictlySortedBy}
use Rattle.std.specs.Map.{keys_of, set_value}
use Rattle.std.specs.BTreeMap.{is_at}
use Rattle.std.specs.Ordering.{nat_cmp, match_ordering, is_eq}
use Rattle.std.specs.declared.cmp.Ordering.TheVariants.{Less, Equal, Greater}
use Rattle.tht_tree.specs.declared.assn.Assn.{Assn}
use Rattle.tht_tree.specs.Rules.Context.{atom_at, without_atom, with_atom}
use Rattle.assn_laws.proofs.Answers.{some_same}

abbrev pub Atoms : Type 0
Atoms = List (ℕ × Assn)

no_some : (b : Assn) → None ≡ Some b → ⊥
no_some b e = cc

-- how two numbers compare
pub data Order (i k : ℕ) : Type 0 where
  below : nat_cmp i k ≡ Less → i < k → Order i k
  same : nat_cmp i k ≡ Equal → i ≡ k → Order i k
  above : nat_cmp i k ≡ Greater → k < i → Order i k

pub order : (i k : ℕ) → Order i k
order i k =
    elim (leb_tells (suc i) k) [
      | inl h ↦ below (ap (λ c. cond c Less (cond (eqb i k) Equal Greater)) h.0) (omega (arith, h.1))
      | inr h ↦
          let at_least : nat_cmp i k ≡ cond (eqb i k) Equal Greater = ap (λ c. cond c Less (cond (eqb i k) Equal Greater)) h.0 in
          elim (eqb_tells i k) [
            | inl g ↦ same (at_least ∙ ap (λ c. cond c Equal Greater) g.0) g.1
            | inr g ↦ let differ = g.1 in let le = h.1 in above (at_least ∙ ap (λ c. cond c Equal Greater) g.0) (omega arith)
          ]
    ]

-- each number of the list is above n
abbrev pub IsAbove : ℕ → Atoms → Type 0
IsAbove n [] = Unit {0}
IsAbove n (e ∷ es) = (n < e.0) × IsAbove n es

abbrev pub Ascends : Atoms → Type 0
Ascends [] = Unit {0}
Ascends (e ∷ es) = IsAbove e.0 es × Ascends es

below_of_less : (i k : ℕ) → nat_cmp i k ≡ Less → i < k
below_of_less i k e = elim (order i k) [ below f l ↦ l | same f l ↦ let g = sym e ∙ f in cc | above f l ↦ let g = sym e ∙ f in cc ]

less_of_below : (i k : ℕ) → i < k → nat_cmp i k ≡ Less
less_of_below i k l = elim (order i k) [ below f _ ↦ f | same f g ↦ absurd (omega arith) | above f g ↦ absurd (omega arith) ]

above_from : (n : ℕ) (es : Atoms) → AllByRecursion (λ y. nat_cmp n y ≡ Less) (keys_of es) → IsAbove n es
above_from n [] h = tt
above_from n (e ∷ es) h = (below_of_less n e.0 h.0, above_from n es h.1)

above_to : (n : ℕ) (es : Atoms) → IsAbove n es → AllByRecursion (λ y. nat_cmp n y ≡ Less) (keys_of es)
above_to n [] h = tt
above_to n (e ∷ es) h = (less_of_below n e.0 h.0, above_to n es h.1)

pub ascends_from : (es : Atoms) → IsStrictlySortedBy nat_cmp (keys_of es) → Ascends es
unfolding IsStrictlySortedBy
ascends_from [] h = tt
ascends_from (e ∷ es) h = (above_from e.0 es h.0, ascends_from es h.1)

pub ascends_to : (es : Atoms) → Ascends es → IsStrictlySortedBy nat_cmp (keys_of es)
unfolding IsStrictlySortedBy
ascends_to [] h = tt
ascends_to (e ∷ es) h = (above_to e.0 es h.0, ascends_to es h.1)

pub IsAbove-less : (m n : ℕ) (es : Atoms) → m < n → IsAbove n es → IsAbove m es
IsAbove-less m n [] l h = tt
IsAbove-less m n (e ∷ es) l h = (omega (arith, h.0), IsAbove-less m n es l h.1)

-- an atom with a number that is below all others changes nothing where it is taken away
pub without_below : (i : ℕ) (es : Atoms) → IsAbove i es → without_atom i es ≡ es
without_below i [] h = refl
without_below i (e ∷ es) h =
    let l = less_of_below i e.0 h.0 in
    ap (λ o. cond (is_eq o) es (e ∷ without_atom i es)) l ∙ ap (λ z. e ∷ z) (without_below i es h.1)

-- so does one with a number above them
pub without_new : (n i : ℕ) (es : Atoms) → All (λ a. a.0 ≤ n) es → n < i → without_atom i es ≡ es
without_new n i [] h l = refl
without_new n i (e ∷ es) h l =
    let head = All-head (λ a. a.0 ≤ n) e es h in
    let tail = without_new n i es (All-tail (λ a. a.0 ≤ n) e es h) l in
    elim (order i e.0) [
      | below f g ↦ absurd (omega arith)
      | same f g ↦ absurd (omega arith)
      | above f g ↦ ap (λ o. cond (is_eq o) es (e ∷ without_atom i es)) f ∙ ap (λ z. e ∷ z) tail
    ]

-- no atom has a number above those made
pub none_at : (n i : ℕ) (es : Atoms) → All (λ a. a.0 < n) es → n ≤ i → atom_at i es ≡ None
none_at n i [] h l = refl
none_at n i (e ∷ es) h l =
    let head = All-head (λ a. a.0 < n) e es h in
    let tail = none_at n i es (All-tail (λ a. a.0 < n) e es h) l in
    elim (order i e.0) [
      | below f g ↦ absurd (omega arith)
      | same f g ↦ absurd (omega arith)
      | above f g ↦ ap (λ o. cond (is_eq o) (Some e.1) (atom_at i es)) f ∙ tail
    ]

-- what the list is without an atom, and with it, at its head
pub without_same : (i : ℕ) (e : ℕ × Assn) (es : Atoms) → nat_cmp i e.0 ≡ Equal → without_atom i (e ∷ es) ≡ es
without_same i e es f = ap (λ o. cond (is_eq o) es (e ∷ without_atom i es)) f

pub without_above : (i : ℕ) (e : ℕ × Assn) (es : Atoms) → nat_cmp i e.0 ≡ Greater → without_atom i (e ∷ es) ≡ e ∷ without_atom i es
without_above i e es f = ap (λ o. cond (is_eq o) es (e ∷ without_atom i es)) f

pub with_below : (i : ℕ) (a : Assn) (e : ℕ × Assn) (es : Atoms) → nat_cmp i e.0 ≡ Less → with_atom i a (e ∷ es) ≡ (i, a) ∷ e ∷ es
with_below i a e es f = ap (λ o. match_ordering o ((i, a) ∷ e ∷ es) ((e.0, a) ∷ es) (e ∷ with_atom i a es)) f

pub with_same : (i : ℕ) (a : Assn) (e : ℕ × Assn) (es : Atoms) → nat_cmp i e.0 ≡ Equal → with_atom i a (e ∷ es) ≡ (e.0, a) ∷ es
with_same i a e es f = ap (λ o. match_ordering o ((i, a) ∷ e ∷ es) ((e.0, a) ∷ es) (e ∷ with_atom i a es)) f

pub with_above : (i : ℕ) (a : Assn) (e : ℕ × Assn) (es : Atoms) → nat_cmp i e.0 ≡ Greater → with_atom i a (e ∷ es) ≡ e ∷ with_atom i a es
with_above i a e es f = ap (λ o. match_ordering o ((i, a) ∷ e ∷ es) ((e.0, a) ∷ es) (e ∷ with_atom i a es)) f

lookup_below : (i : ℕ) (e : ℕ × Assn) (es : Atoms) → nat_cmp i e.0 ≡ Less → IsAbove e.0 es → i < e.0 → atom_at i (e ∷ es) ≡ None
lookup_below i e es f h l = ap (λ o. cond (is_eq o) (Some e.1) (atom_at i es)) f ∙ none_below i es (IsAbove-less i e.0 es l h)
  where
    none_below : (i : ℕ) (es : Atoms) → IsAbove i es → atom_at i es ≡ None
    none_below i [] h = refl
    none_below i (e ∷ es) h = ap (λ o. cond (is_eq o) (Some e.1) (atom_at i es)) (less_of_below i e.0 h.0) ∙ none_below i es h.1

-- an atom that is there takes another value in its place
pub with_value : (i : ℕ) (a b : Assn) (es : Atoms) → Ascends es → atom_at i es ≡ Some b → set_value (is_at (nat_cmp i)) es a ≡ with_atom i a es
with_value i a b [] o h = cc
with_value i a b (e ∷ es) o h = elim (order i e.0) [
  | below f l ↦ let none = lookup_below i e es f o.0 l in absurd (no_some b (sym none ∙ h))
  | same f l ↦ ap (λ z. cond (is_eq z) ((e.0, a) ∷ es) (e ∷ set_value (is_at (nat_cmp i)) es a)) f ∙ sym (with_same i a e es f)
  | above f l ↦
      let tail = with_value i a b es o.1 (sym (ap (λ z. cond (is_eq z) (Some e.1) (atom_at i es)) f) ∙ h) in
      ap (λ z. cond (is_eq z) ((e.0, a) ∷ es) (e ∷ set_value (is_at (nat_cmp i)) es a)) f ∙ ap (λ z. e ∷ z) tail ∙ sym (with_above i a e es f)
]

-- ---- the numbers still ascend

IsAbove-without : (n i : ℕ) (es : Atoms) → IsAbove n es → IsAbove n (without_atom i es)
IsAbove-without n i [] h = tt
IsAbove-without n i (e ∷ es) h = pick (is_eq (nat_cmp i e.0)) (IsAbove-without n i es h.1)
  where
    pick : (c : Bool) → IsAbove n (without_atom i es) → IsAbove n (cond c es (e ∷ without_atom i es))
    pick true more = h.1
    pick false more = (h.0, more)

pub Ascends-without : (i : ℕ) (es : Atoms) → Ascends es → Ascends (without_atom i es)
Ascends-without i [] h = tt
Ascends-without i (e ∷ es) h = pick (is_eq (nat_cmp i e.0)) (Ascends-without i es h.1)
  where
    pick : (c : Bool) → Ascends (without_atom i es) → Ascends (cond c es (e ∷ without_atom i es))
    pick true more = h.1
    pick false more = (IsAbove-without e.0 i es h.0, more)

IsAbove-with : (n i : ℕ) (a : Assn) (es : Atoms) → n < i → IsAbove n es → IsAbove n (with_atom i a es)
IsAbove-with n i a [] l h = (l, tt)
IsAbove-with n i a (e ∷ es) l h = elim (order i e.0) [
  | below f g ↦ subst (IsAbove n) (sym (with_below i a e es f)) (l, h)
  | same f g ↦ subst (IsAbove n) (sym (with_same i a e es f)) h
  | above f g ↦ subst (IsAbove n) (sym (with_above i a e es f)) (h.0, IsAbove-with n i a es l h.1)
]

pub Ascends-with : (i : ℕ) (a : Assn) (es : Atoms) → Ascends es → Ascends (with_atom i a es)
Ascends-with i a [] h = (tt, tt)
Ascends-with i a (e ∷ es) h = elim (order i e.0) [
  | below f g ↦ subst Ascends (sym (with_below i a e es f)) ((g, IsAbove-less i e.0 es g h.0), h)
  | same f g ↦ subst Ascends (sym (with_same i a e es f)) h
  | above f g ↦ subst Ascends (sym (with_above i a e es f)) (IsAbove-with e.0 i a es g h.0, Ascends-with i a es h.1)
]

-- ---- what holds of each atom

pub All-without : (P : ℕ × Assn → Type 0) (i : ℕ) (es : Atoms) → All P es → All P (without_atom i es)
All-without P i [] h = h
All-without P i (e ∷ es) h = pick (is_eq (nat_cmp i e.0)) (All-without P i es (All-tail P e es h))
  where
    pick : (c : Bool) → All P (without_atom i es) → All P (cond c es (e ∷ without_atom i es))
    pick true more = All-tail P e es h
    pick false more = All-cons P e (without_atom i es) (All-head P e es h) more

pub All-with : (P : ℕ × Assn → Type 0) (i : ℕ) (a : Assn) (es : Atoms) → All P es → P (i, a) → All P (with_atom i a es)
All-with P i a [] h p = All-cons P (i, a) [] p h
All-with P i a (e ∷ es) h p =
    let tail = All-tail P e es h in
    elim (order i e.0) [
      | below f g ↦ subst (All P) (sym (with_below i a e es f)) (All-cons P (i, a) (e ∷ es) p h)
      | same f g ↦ subst (All P) (sym (with_same i a e es f)) (All-cons P (e.0, a) es (subst (λ n. P (n, a)) g p) tail)
      | above f g ↦ subst (All P) (sym (with_above i a e es f)) (All-cons P e (with_atom i a es) (All-head P e es h) (All-with P i a es tail p))
    ]

-- what holds of each atom holds of the one with this number
pub All-at : (P : Assn → Type 0) (i : ℕ) (a : Assn) (es : Atoms) → All (λ e. P e.1) es → atom_at i es ≡ Some a → P a
All-at P i a [] h e = cc
All-at P i a (x ∷ es) h e = pick (is_eq (nat_cmp i x.0)) (All-at P i a es (All-tail (λ e. P e.1) x es h)) e
  where
    pick : (c : Bool) → (atom_at i es ≡ Some a → P a) → cond c (Some x.1) (atom_at i es) ≡ Some a → P a
    pick true more e = subst P (some_same x.1 a e) (All-head (λ e. P e.1) x es h)
    pick false more e = more e
