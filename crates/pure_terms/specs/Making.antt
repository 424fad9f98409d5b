-- What the functions that make sums answer. A number of a sum that was made is wide where it is above 2^128 - 1: such a sum
-- is not made, and that one of its numbers is wide is all that is said of it.
use Rattle.std.specs.Prelude.{◌≡◌, ◌⊎◌, Bool, true, false, List, [], ◌∷◌, Option, Some, None, Result, Ok, Err, map}
use Rattle.std.specs.List.{list_any}
use Rattle.std.specs.declared.cmp.Ordering.{Ordering}
use Rattle.std.specs.declared.cmp.Ordering.TheVariants.{Less, Greater}
use Rattle.tht_tree.specs.declared.form.Monomial.{Monomial}
use Rattle.tht_tree.specs.declared.form.NormalEnd.{NormalEnd}
use Rattle.tht_tree.specs.declared.form.NormalEnd.TheVariants as end
use Rattle.tht_tree.specs.Normal.Sums.{Sum, compare_products, monomial_product}
use Rattle.tht_tree.specs.Normal.Forms.{is_wide}

abbrev pub is_wide_monomial : Monomial → Bool
is_wide_monomial m = is_wide m.coefficient

-- a number of the sum is wide
abbrev pub has_wide : Sum → Bool
has_wide p = list_any (λ m. is_wide m.coefficient) p

-- a number of one of the sums is wide
abbrev pub have_wide : List Sum → Bool
have_wide ps = list_any has_wide ps

-- the sum, if no number is wide
abbrev pub IsMade : Result Sum NormalEnd → Sum → Type 0
IsMade (Ok q) p = (q ≡ p) × (has_wide p ≡ false)
IsMade (Err e) p = (e ≡ end.Memory) ⊎ ((e ≡ end.Wide) × (has_wide p ≡ true))

-- the sums, if no number is wide
abbrev pub AreMade : Result (List Sum) NormalEnd → List Sum → Type 0
AreMade (Ok qs) ps = (qs ≡ ps) × (have_wide ps ≡ false)
AreMade (Err e) ps = (e ≡ end.Memory) ⊎ ((e ≡ end.Wide) × (have_wide ps ≡ true))

-- the products of a monomial with each of a sum, each as a sum of its own
abbrev pub products_with : Monomial → Sum → List Sum
products_with m q = map (λ n. monomial_product m n ∷ []) q

-- how the products of the first monomials stand, where one is left
abbrev pub first_lower : Sum → Sum → Option Ordering
first_lower [] [] = None
first_lower (m ∷ p) [] = Some Less
first_lower [] (n ∷ q) = Some Greater
first_lower (m ∷ p) (n ∷ q) = Some (compare_products m.atoms n.atoms)

-- ---- monomials

-- the monomial, if its number is not wide
abbrev pub IsMadeMonomial : Result Monomial NormalEnd → Monomial → Type 0
IsMadeMonomial (Ok n) m = (n ≡ m) × (is_wide m.coefficient ≡ false)
IsMadeMonomial (Err e) m = (e ≡ end.Memory) ⊎ ((e ≡ end.Wide) × (is_wide m.coefficient ≡ true))
