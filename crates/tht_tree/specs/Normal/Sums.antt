-- Polynomials: sums of monomials, each a coefficient times a product of atoms. In a sum the products strictly ascend and no
-- coefficient is 0; in a product the atoms ascend. So two sums are equal where they have the same monomials.
use Rattle.std.specs.Prelude.{ℕ, zero, ◌+◌, ◌*◌, ◌-◌, ◌==◌, List, [], ◌∷◌, map, flat_map, Option, Some, None, if◌then◌else◌}
use Rattle.std.specs.Ordering.{is_gt, match_ordering}
use Rattle.std.specs.declared.cmp.Ordering.{Ordering}
use Rattle.std.specs.Cmp.Lexicographic.{slice_cmp}
use Rattle.tht_tree.specs.declared.term.Term.{Term}
use Rattle.tht_tree.specs.declared.term.Term.TheVariants as term
use Rattle.tht_tree.specs.declared.form.Monomial.{Monomial}
use Rattle.tht_tree.specs.Normal.InPairs.{in_pairs}
use Rattle.tht_tree.specs.Normal.Order.{compare}

-- a product of atoms: variables, `len` of a variable, and differences `a - b`, in the order of terms, each as often as it
-- is a factor
abbrev pub Product : Type 0
Product = List Term

abbrev pub Sum : Type 0
Sum = List Monomial

abbrev pub monomial : ℕ → Product → Monomial
monomial c xs = record { coefficient = c; atoms = xs }

abbrev pub number : ℕ → Sum
number n = if n == 0 then [] else monomial n [] ∷ []

abbrev pub atom : Term → Sum
atom x = monomial 1 (x ∷ []) ∷ []

-- ---- operations

-- x and what `rest` merges the other factors with, once the factors below x are through
abbrev pub before_factor : Term → (Product → Product) → Product → Product
before_factor x rest [] = x ∷ rest []
before_factor x rest (y ∷ ys) = if is_gt (compare x y) then y ∷ before_factor x rest ys else x ∷ rest (y ∷ ys)

-- all factors of two products
abbrev pub merge : Product → Product → Product
merge [] ys = ys
merge (x ∷ xs) ys = before_factor x (merge xs) ys

-- products stand in the order of their first factors that differ; the empty one is the first
abbrev pub compare_products : Product → Product → Ordering
compare_products = slice_cmp compare

-- m and what `rest` adds to the other monomials, once those of lower products are through; like ones are joined
abbrev pub before_monomial : Monomial → (Sum → Sum) → Sum → Sum
before_monomial m rest [] = m ∷ rest []
before_monomial m rest (n ∷ q) =
    match_ordering (compare_products m.atoms n.atoms) (m ∷ rest (n ∷ q)) (monomial (m.coefficient + n.coefficient) m.atoms ∷ rest q) (n ∷ before_monomial m rest q)

-- the sum of two sums
abbrev pub plus : Sum → Sum → Sum
plus [] q = q
plus (m ∷ p) q = before_monomial m (plus p) q

-- the sum of many sums
abbrev pub sum_of : List Sum → Sum
sum_of = in_pairs plus []

abbrev pub monomial_product : Monomial → Monomial → Monomial
monomial_product m n = monomial (m.coefficient * n.coefficient) (merge m.atoms n.atoms)

-- the product of two sums: the sum of the products of each monomial with each
abbrev pub times : Sum → Sum → Sum
times p q = sum_of (flat_map (λ m. map (λ n. monomial_product m n ∷ []) q) p)

abbrev pub number_at : ℕ → Product → Option ℕ
number_at c [] = Some c
number_at c (x ∷ xs) = None

-- the number that a sum is, if it is one
abbrev pub number_in : Sum → Option ℕ
number_in [] = Some 0
number_in (m ∷ []) = number_at m.coefficient m.atoms
number_in (m ∷ n ∷ p) = None

-- ---- sums as terms

-- a coefficient alone, or times the product of the atoms
abbrev pub monomial_term : ℕ → Product → Term
monomial_term c [] = term.Num c
monomial_term c (x ∷ xs) = term.Mul (term.Num c) (in_pairs term.Mul (term.Num 1) (x ∷ xs))

abbrev pub sum_term : Sum → Term
sum_term p = in_pairs term.Add (term.Num 0) (map (λ m. monomial_term m.coefficient m.atoms) p)

-- the difference of two sums: computed on numbers, the first where the second is 0, and else an atom
abbrev pub minus_by : Option ℕ → Option ℕ → Sum → Sum → Sum
minus_by (Some m) (Some n) p q = number (m - n)
minus_by None (Some zero) p q = p
minus_by _ _ p q = atom (term.Sub (sum_term p) (sum_term q))

abbrev pub minus : Sum → Sum → Sum
minus p q = minus_by (number_in p) (number_in q) p q
