-- Readings of comparisons: what is answered, and the steps in which an inequality is made of two sums.
use Rattle.std.specs.Prelude.{◌≡◌, ℕ, ◌<◌, Bool, true, false, not, ℤ, pos, ◌-ℤ◌, List, [], ◌∷◌, Option, Some, None, Result, Ok, Err, if◌then◌else◌}
use Rattle.std.specs.List.{list_all}
use Rattle.std.specs.Ordering.{is_eq, is_lt, is_gt}
use Rattle.std.specs.declared.cmp.Ordering.{Ordering}
use Rattle.std.specs.declared.cmp.Ordering.TheVariants.{Less, Greater}
use Rattle.tht_tree.specs.declared.form.LinearTerm.{LinearTerm}
use Rattle.tht_tree.specs.declared.form.NormalEnd.{NormalEnd}
use Rattle.tht_tree.specs.declared.form.NormalEnd.TheVariants as end
use Rattle.tht_tree.specs.Normal.Sums.{Product, Sum, monomial, compare_products}
use Rattle.tht_tree.specs.Normal.Linear.{Inequality, Reading, linear_term, is_i128, has_factor}
use Rattle.pure_terms.specs.declared.linear.Difference.{Difference}

-- a reading, unless memory was wanting
abbrev pub IsReading : Result Inequality NormalEnd → Reading → Type 0
IsReading (Ok x) r = r ≡ Ok x
IsReading (Err end.Large) r = r ≡ Err end.Large
IsReading (Err end.Wide) r = r ≡ Err end.Wide
IsReading (Err end.Memory) r = Unit {0}

-- no coefficient leaves i128
abbrev pub is_narrow : Inequality → Bool
is_narrow xs = list_all (λ x. is_i128 x.coefficient) xs

-- ---- constants

-- the empty product stands first in a sum
abbrev pub has_constant : Sum → Bool
has_constant [] = false
has_constant (m ∷ p) = not (has_factor m.atoms)

-- its number, 0 where it does not
abbrev pub constant_of : Sum → ℕ
constant_of [] = 0
constant_of (m ∷ p) = if has_factor m.atoms then 0 else m.coefficient

-- and what stands behind it
abbrev pub without_constant : Sum → Sum
without_constant [] = []
without_constant (m ∷ p) = if has_factor m.atoms then m ∷ p else p

-- ---- differences

abbrev pub difference_of : Difference → ℤ
difference_of d = pos d.left -ℤ pos d.right

abbrev pub term_in : Difference → LinearTerm
term_in d = linear_term (difference_of d) d.atoms

-- the first monomial of the left sum, and what is left behind it
abbrev pub IsInLeft : Option Difference → Sum → Sum → Type 0
IsInLeft (Some d) p rest = (p ≡ monomial d.left d.atoms ∷ rest) × (d.right ≡ 0)
IsInLeft None p rest = p ≡ []

abbrev pub IsInRight : Option Difference → Sum → Sum → Type 0
IsInRight (Some d) q rest = (q ≡ monomial d.right d.atoms ∷ rest) × (d.left ≡ 0)
IsInRight None q rest = q ≡ []

-- the first term of an inequality, and what is left behind it
abbrev pub IsNextTerm : Option Difference → Inequality → Inequality → Type 0
IsNextTerm (Some d) xs rest = xs ≡ term_in d ∷ rest
IsNextTerm None xs rest = xs ≡ []

-- where a term was taken, less is left
abbrev pub IsLess : Option Difference → ℕ → ℕ → Type 0
IsLess (Some d) left before = left < before
IsLess None left before = Unit {0}

-- ---- columns and rows

-- how the first products stand, where one is left
abbrev pub first_product_lower : List Product → List Product → Option Ordering
first_product_lower [] [] = None
first_product_lower (x ∷ xs) [] = Some Less
first_product_lower [] (y ∷ ys) = Some Greater
first_product_lower (x ∷ xs) (y ∷ ys) = Some (compare_products x y)

-- the first of some products, and what is left behind it
abbrev pub IsNextProduct : Option Product → List Product → List Product → Type 0
IsNextProduct (Some x) xs rest = xs ≡ x ∷ rest
IsNextProduct None xs rest = xs ≡ []

-- where a product was taken, fewer are left
abbrev pub IsFewer : Option Product → ℕ → ℕ → Type 0
IsFewer (Some x) left before = left < before
IsFewer None left before = Unit {0}

-- each product stands before the next one
abbrev pub ascend_from : Product → List Product → Bool
ascend_from x [] = true
ascend_from x (y ∷ ys) = if is_lt (compare_products x y) then ascend_from y ys else false

abbrev pub ascend : List Product → Bool
ascend [] = true
ascend (x ∷ xs) = ascend_from x xs

-- what is left of an inequality, once the terms of products below p are through
abbrev pub from_product : Product → Inequality → Inequality
from_product p [] = []
from_product p (t ∷ xs) = if is_gt (compare_products p t.atoms) then from_product p xs else t ∷ xs

-- the coefficient of p where p stands first, and else 0
abbrev pub first_coefficient : Product → Inequality → ℤ
first_coefficient p [] = pos 0
first_coefficient p (t ∷ xs) = if is_eq (compare_products p t.atoms) then t.coefficient else pos 0

-- the coefficients of products, read in one walk over both
abbrev pub merged_row : List Product → Inequality → List ℤ
merged_row [] xs = []
merged_row (p ∷ ps) xs = first_coefficient p (from_product p xs) ∷ merged_row ps (from_product p xs)
