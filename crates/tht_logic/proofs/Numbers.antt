-- Which numbers are among some.
use Rattle.std.proofs.Common.{◌≡◌, ℕ, Bool, true, false, ◌||◌, eqb, List, [], ◌∷◌, ◌++◌, refl, sym, ◌∙◌, ◌⊎◌, inl, inr}
use Rattle.std.proofs.lemmas.Bool.{eq-eqb, eqb-true}
use Rattle.tht_logic.specs.Machine.{is_in}

or_true : (a b : Bool) → (a || b) ≡ true → (a ≡ true) ⊎ (b ≡ true)
or_true true b e = inl refl
or_true false b e = inr e

or_left : (a b : Bool) → a ≡ true → (a || b) ≡ true
or_left true b e = refl
or_left false b e = cc

in_both : (a : ℕ) (xs ys : List ℕ) → is_in a (xs ++ ys) ≡ (is_in a xs || is_in a ys)
in_both a [] ys = refl
in_both a (x ∷ xs) ys = or_more (eqb x a) (is_in a (xs ++ ys)) (is_in a xs) (is_in a ys) (in_both a xs ys)
  where
    or_more : (p q r s : Bool) → q ≡ (r || s) → (p || q) ≡ ((p || r) || s)
    or_more true q r s e = refl
    or_more false q r s e = e

pub decide : (c : Bool) → (c ≡ true) ⊎ (c ≡ false)
decide true = inl refl
decide false = inr refl

pub is_in_alone : (a b : ℕ) → a ≡ b → is_in a (b ∷ []) ≡ true
is_in_alone a b e = or_left (eqb b a) false (eq-eqb b a (sym e))

pub from_alone : (a b : ℕ) → is_in a (b ∷ []) ≡ true → b ≡ a
from_alone a b e = elim (or_true (eqb b a) false e) [ inl x ↦ eqb-true b a x | inr x ↦ cc ]

-- a number is among these where it is among a part of them
pub in_first : (a : ℕ) (xs ys : List ℕ) → is_in a xs ≡ true → is_in a (xs ++ ys) ≡ true
in_first a xs ys e = in_both a xs ys ∙ or_left (is_in a xs) (is_in a ys) e

pub in_which : (a : ℕ) (xs ys : List ℕ) → is_in a (xs ++ ys) ≡ true → (is_in a xs ≡ true) ⊎ (is_in a ys ≡ true)
in_which a xs ys e = or_true (is_in a xs) (is_in a ys) (sym (in_both a xs ys) ∙ e)
