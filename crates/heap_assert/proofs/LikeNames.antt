-- Names that are bound at one place, or free and the same, stand for one variable.
use Rattle.std.proofs.Common.{◌≡◌, ◌≢◌, ℕ, suc, ◌<◌, eqb, Bool, true, false, List, [], ◌∷◌, Some, refl, sym, arith, inl, inr}
use Rattle.std.specs.Prelude.{bytes_eq, if◌then◌else◌}
use Rattle.std.proofs.lemmas.Bool.Decides.{eqb_tells}
use Rattle.tht_tree.specs.Syntax.{Names, position, bound, named}
use Rattle.tht_logic.specs.Alike.{same_trm}
use Rattle.heap_assert.specs.SideBySide.{Pairs, of_one, of_other, same_names}

number_itself : (n : ℕ) → eqb n n ≡ true
number_itself n = elim (eqb_tells n n) [ inl h ↦ h.0 | inr h ↦ absurd (h.1 refl) ]

number_other : (n m : ℕ) → n ≢ m → eqb n m ≡ false
number_other n m d = elim (eqb_tells n m) [ inl h ↦ absurd (d h.1) | inr h ↦ h.0 ]

-- a variable that is bound at k is none that is bound further out
below : (k n : ℕ) (ys : Names) (y : List ℕ) → k < n → same_trm (bound k) (named [] y (position n ys y)) ≡ false
below k n [] y h = refl
below k n (z ∷ ys) y h = pick (bytes_eq z y) (below k (suc n) ys y (omega arith))
  where
    pick : (b : Bool) → same_trm (bound k) (named [] y (position (suc n) ys y)) ≡ false → same_trm (bound k) (named [] y (if b then Some n else position (suc n) ys y)) ≡ false
    pick true e = number_other k n (λ g. omega arith)
    pick false e = e

above : (k n : ℕ) (xs : Names) (x : List ℕ) → k < n → same_trm (named [] x (position n xs x)) (bound k) ≡ false
above k n [] x h = refl
above k n (z ∷ xs) x h = pick (bytes_eq z x) (above k (suc n) xs x (omega arith))
  where
    pick : (b : Bool) → same_trm (named [] x (position (suc n) xs x)) (bound k) ≡ false → same_trm (named [] x (if b then Some n else position (suc n) xs x)) (bound k) ≡ false
    pick true e = number_other n k (λ g. omega arith)
    pick false e = e

from : (k : ℕ) (ps : Pairs) (x y : List ℕ) → same_names ps x y ≡ same_trm (named [] x (position k (of_one ps) x)) (named [] y (position k (of_other ps) y))
from k [] x y = refl
from k (p ∷ ps) x y = pick (bytes_eq p.0 x) (bytes_eq p.1 y) (from (suc k) ps x y)
  where
    pick : (b c : Bool) → same_names ps x y ≡ same_trm (named [] x (position (suc k) (of_one ps) x)) (named [] y (position (suc k) (of_other ps) y))
        → (if b then c else (if c then false else same_names ps x y))
        ≡ same_trm (named [] x (if b then Some k else position (suc k) (of_one ps) x)) (named [] y (if c then Some k else position (suc k) (of_other ps) y))
    pick true true h = sym (number_itself k)
    pick true false h = sym (below k (suc k) (of_other ps) y (omega arith))
    pick false true h = sym (above k (suc k) (of_one ps) x (omega arith))
    pick false false h = h

pub names_are : (ps : Pairs) (x y : List ℕ) → same_names ps x y ≡ same_trm (named [] x (position 0 (of_one ps) x)) (named [] y (position 0 (of_other ps) y))
names_are = from 0
