-- The value of a sum, and what the operations on sums make of it.
use Rattle.std.proofs.Common.{◌≡◌, ℕ, zero, suc, ◌+◌, ◌*◌, ◌==◌, Bool, true, false, cond, List, [], ◌∷◌, map, flat_map, Some, refl, sym, ◌∙◌, ap, arith, Ordering, Less, Equal, Greater, zero-add, add-zero, mul-one, one-mul, mul-add, add-mul, zero-mul, mul-zero}
use Rattle.std.specs.Ordering.{is_gt, match_ordering}
use Rattle.tht_tree.specs.declared.term.Term.{Term}
use Rattle.tht_tree.specs.Normal.Order.{compare}
use Rattle.tht_tree.specs.declared.form.Monomial.{Monomial}
use Rattle.tht_tree.specs.Normal.Sums.{Product, Sum, monomial, number, atom, before_factor, merge, compare_products, before_monomial, plus, sum_of, monomial_product, times, number_at, number_in}
use Rattle.normal_laws.proofs.PairsValue.{total, total-append, in_pairs_value}

times_assoc : (a b c : ℕ) → a * b * c ≡ a * (b * c)
times_assoc a b c = omega arith

plus_assoc : (a b c : ℕ) → a + b + c ≡ a + (b + c)
plus_assoc a b c = omega arith

-- products that the order does not tell apart are one
abbrev pub TellsApart : Type 0
TellsApart = (xs ys : Product) → compare_products xs ys ≡ Equal → xs ≡ ys

-- given the values of the atoms
module _ (v : Term → ℕ) where
  abbrev pub product_value : Product → ℕ
  product_value [] = 1
  product_value (x ∷ xs) = v x * product_value xs

  abbrev pub monomial_value : Monomial → ℕ
  monomial_value m = m.coefficient * product_value m.atoms

  abbrev pub sum_value : Sum → ℕ
  sum_value [] = 0
  sum_value (m ∷ p) = monomial_value m + sum_value p

  -- ---- products

  factor_value : (x : Term) (xs : Product) (rest : Product → Product) → ((zs : Product) → product_value (rest zs) ≡ product_value xs * product_value zs) →
      (ys : Product) → product_value (before_factor x rest ys) ≡ v x * product_value xs * product_value ys
  factor_value x xs rest h [] = ap (λ z. v x * z) (h []) ∙ (omega arith)
  factor_value x xs rest h (y ∷ ys) = by (is_gt (compare x y)) (factor_value x xs rest h ys)
    where
      by : (c : Bool) → product_value (before_factor x rest ys) ≡ v x * product_value xs * product_value ys →
          product_value (cond c (y ∷ before_factor x rest ys) (x ∷ rest (y ∷ ys))) ≡ v x * product_value xs * product_value (y ∷ ys)
      by true e = ap (λ z. v y * z) e ∙ (omega arith)
      by false e = ap (λ z. v x * z) (h (y ∷ ys)) ∙ (omega arith)

  pub merge_value : (xs ys : Product) → product_value (merge xs ys) ≡ product_value xs * product_value ys
  merge_value [] ys = sym (one-mul (product_value ys))
  merge_value (x ∷ xs) ys = factor_value x xs (merge xs) (merge_value xs) ys

  pub monomial_product_value : (m n : Monomial) → monomial_value (monomial_product m n) ≡ monomial_value m * monomial_value n
  monomial_product_value m n = ap (λ z. m.coefficient * n.coefficient * z) (merge_value m.atoms n.atoms) ∙ (omega arith)

  -- ---- sums

  module _ (tells : TellsApart) where
    monomial_before : (m : Monomial) (p : Sum) (rest : Sum → Sum) → ((r : Sum) → sum_value (rest r) ≡ sum_value p + sum_value r) →
        (q : Sum) → sum_value (before_monomial m rest q) ≡ monomial_value m + sum_value p + sum_value q
    monomial_before m p rest h [] = ap (λ z. monomial_value m + z) (h []) ∙ (omega arith)
    monomial_before m p rest h (n ∷ q) = by (compare_products m.atoms n.atoms) refl (monomial_before m p rest h q)
      where
        by : (o : Ordering) → compare_products m.atoms n.atoms ≡ o → sum_value (before_monomial m rest q) ≡ monomial_value m + sum_value p + sum_value q →
            sum_value (match_ordering o (m ∷ rest (n ∷ q)) (monomial (m.coefficient + n.coefficient) m.atoms ∷ rest q) (n ∷ before_monomial m rest q))
            ≡ monomial_value m + sum_value p + sum_value (n ∷ q)
        by Less is e = ap (λ z. monomial_value m + z) (h (n ∷ q)) ∙ (omega arith)
        by Equal is e =
            let same : product_value n.atoms ≡ product_value m.atoms = ap product_value (sym (tells m.atoms n.atoms is)) in
            ap (λ z. (m.coefficient + n.coefficient) * product_value m.atoms + z) (h q)
            ∙ equal_parts m.coefficient n.coefficient (product_value m.atoms) (product_value n.atoms) (sum_value p) (sum_value q) same
          where
            equal_parts : (a b x y s r : ℕ) → y ≡ x → (a + b) * x + (s + r) ≡ a * x + s + (b * y + r)
            equal_parts a b x y s r e = rw e (omega arith)
        by Greater is e = ap (λ z. monomial_value n + z) e ∙ (omega arith)

    pub plus_value : (p q : Sum) → sum_value (plus p q) ≡ sum_value p + sum_value q
    plus_value [] q = sym (zero-add (sum_value q))
    plus_value (m ∷ p) q = monomial_before m p (plus p) (plus_value p) q

    abbrev pub sums_value : List Sum → ℕ
    sums_value = total sum_value (λ a b. a + b) 0

    pub sum_of_value : (ps : List Sum) → sum_value (sum_of ps) ≡ sums_value ps
    sum_of_value = in_pairs_value sum_value (λ a b. a + b) 0 plus [] plus_value refl plus_assoc add-zero

    alone : (m : Monomial) → sum_value (m ∷ []) ≡ monomial_value m
    alone m = add-zero (monomial_value m)

    row_value : (m : Monomial) (q : Sum) → sums_value (map (λ n. monomial_product m n ∷ []) q) ≡ monomial_value m * sum_value q
    row_value m [] = sym (mul-zero (monomial_value m))
    row_value m (n ∷ q) =
        (λ i. (alone (monomial_product m n) ∙ monomial_product_value m n) i + row_value m q i)
        ∙ sym (mul-add (monomial_value m) (monomial_value n) (sum_value q))

    rows_value : (p q : Sum) → sums_value (flat_map (λ m. map (λ n. monomial_product m n ∷ []) q) p) ≡ sum_value p * sum_value q
    rows_value [] q = sym (zero-mul (sum_value q))
    rows_value (m ∷ p) q =
        total-append sum_value (λ a b. a + b) 0 plus_assoc zero-add (map (λ n. monomial_product m n ∷ []) q) (flat_map (λ m. map (λ n. monomial_product m n ∷ []) q) p)
        ∙ (λ i. row_value m q i + rows_value p q i)
        ∙ sym (add-mul (monomial_value m) (sum_value p) (sum_value q))

    pub times_value : (p q : Sum) → sum_value (times p q) ≡ sum_value p * sum_value q
    times_value p q = sum_of_value (flat_map (λ m. map (λ n. monomial_product m n ∷ []) q) p) ∙ rows_value p q

  -- ---- numbers and atoms

  pub number_value : (n : ℕ) → sum_value (number n) ≡ n
  number_value zero = refl
  number_value (suc n) = rw one (omega arith)
    where
      one : (suc n == 0) ≡ false
      one = grind arith

  pub atom_value : (x : Term) → sum_value (atom x) ≡ v x
  atom_value x = omega arith

  number_at_value : (c : ℕ) (xs : Product) (n : ℕ) → number_at c xs ≡ Some n → c * product_value xs ≡ n
  number_at_value c [] n e = let f : c ≡ n = cc in mul-one c ∙ f
  number_at_value c (x ∷ xs) n e = cc

  pub number_in_value : (p : Sum) (n : ℕ) → number_in p ≡ Some n → sum_value p ≡ n
  number_in_value [] n e = cc
  number_in_value (m ∷ []) n e = alone_is (number_at_value m.coefficient m.atoms n e)
    where
      alone_is : monomial_value m ≡ n → monomial_value m + 0 ≡ n
      alone_is f = omega arith
  number_in_value (m ∷ k ∷ p) n e = cc
