-- What an inequality says of numbers: its left side is at most its right one.
use Rattle.std.proofs.Common.{◌≡◌, ℕ, zero, suc, ◌+◌, ◌*◌, ◌-◌, ◌≤◌, ◌<◌, ◌↔◌, Bool, true, false, cond, ltb, ℤ, pos, negsuc, neg_ℤ, ◌-ℤ◌, [], ◌∷◌, map, refl, sym, ◌∙◌, ap, arith, Ordering, Less, Equal, Greater}
use Rattle.std.specs.Ordering.{match_ordering}
use Rattle.std.proofs.lemmas.Bool.{ltb-true, ltb-false}
use Rattle.tht_tree.specs.declared.term.Term.{Term}
use Rattle.tht_tree.specs.declared.form.Monomial.{Monomial}
use Rattle.tht_tree.specs.Normal.Sums.{Sum, number, compare_products}
use Rattle.tht_tree.specs.Normal.Linear.{Inequality, linear_term, positive, negative, before_term, take_away, left_side}
use Rattle.normal_laws.proofs.SumValues.{TellsApart, product_value, monomial_value, sum_value, plus_value, number_value}

-- the positive part of an integer, and the negative one
abbrev pub up : ℤ → ℕ
up (pos n) = n
up (negsuc n) = 0

abbrev pub down : ℤ → ℕ
down (pos n) = 0
down (negsuc n) = suc n

down_neg : (n : ℕ) → (up (neg_ℤ (pos n)) ≡ 0) × (down (neg_ℤ (pos n)) ≡ n)
down_neg zero = (refl, refl)
down_neg (suc n) = (refl, refl)

-- the parts of a difference
parts_of : (m n : ℕ) → up (pos m -ℤ pos n) + n ≡ down (pos m -ℤ pos n) + m
parts_of m zero = omega arith
parts_of m (suc n) = by (ltb m (suc n)) refl
  where
    by : (c : Bool) → ltb m (suc n) ≡ c → up (cond c (negsuc (suc n - suc m)) (pos (m - suc n))) + suc n ≡ down (cond c (negsuc (suc n - suc m)) (pos (m - suc n))) + m
    by true e = let l : m < suc n = ltb-true m (suc n) e in omega arith
    by false e = let l : suc n ≤ m = ltb-false m (suc n) e in omega arith

joined : (u d a b x y s t U D : ℕ) → y ≡ x → u + b ≡ d + a → U + t ≡ D + s → u * x + U + (b * y + t) ≡ d * x + D + (a * x + s)
joined u d a b x y s t U D e g h =
    let products : u * x + b * x ≡ d * x + a * x = sym (spread u b x) ∙ ap (λ z. z * x) g ∙ spread d a x in
    rw e (omega arith)
  where
    spread : (m n k : ℕ) → (m + n) * k ≡ m * k + n * k
    spread m n k = omega arith

lowered : (u d b y t s U D : ℕ) → u ≡ 0 → d ≡ b → U + t ≡ D + s → u * y + U + (b * y + t) ≡ d * y + D + s
lowered u d b y t s U D e g h = rw (e, g) (omega arith)

-- given the values of the atoms
module _ (v : Term → ℕ) where
  abbrev pub ups : Inequality → ℕ
  ups [] = 0
  ups (x ∷ xs) = up x.coefficient * product_value v x.atoms + ups xs

  abbrev pub downs : Inequality → ℕ
  downs [] = 0
  downs (x ∷ xs) = down x.coefficient * product_value v x.atoms + downs xs

  all_negative : (q : Sum) → ups (map negative q) + sum_value v q ≡ downs (map negative q) + 0
  all_negative [] = refl
  all_negative (n ∷ q) =
      lowered (up (neg_ℤ (pos n.coefficient))) (down (neg_ℤ (pos n.coefficient))) n.coefficient (product_value v n.atoms) (sum_value v q) 0 (ups (map negative q)) (downs (map negative q))
      (down_neg n.coefficient).0 (down_neg n.coefficient).1 (all_negative q)

  module _ (tells : TellsApart) where
    term_before : (m : Monomial) (p : Sum) (rest : Sum → Inequality) → ((r : Sum) → ups (rest r) + sum_value v r ≡ downs (rest r) + sum_value v p) →
        (q : Sum) → ups (before_term m rest q) + sum_value v q ≡ downs (before_term m rest q) + (monomial_value v m + sum_value v p)
    term_before m p rest h [] = first (m.coefficient * product_value v m.atoms) (product_value v m.atoms) (ups (rest [])) (downs (rest [])) (sum_value v p) 0 (h [])
      where
        first : (a x U D s t : ℕ) → U + t ≡ D + s → a + U + t ≡ 0 * x + D + (a + s)
        first a x U D s t e = omega arith
    term_before m p rest h (n ∷ q) = by (compare_products m.atoms n.atoms) refl (term_before m p rest h q)
      where
        first : (a x U D s t : ℕ) → U + t ≡ D + s → a + U + t ≡ 0 * x + D + (a + s)
        first a x U D s t e = omega arith

        by : (o : Ordering) → compare_products m.atoms n.atoms ≡ o → ups (before_term m rest q) + sum_value v q ≡ downs (before_term m rest q) + (monomial_value v m + sum_value v p) →
            ups (match_ordering o (positive m ∷ rest (n ∷ q)) (linear_term (pos m.coefficient -ℤ pos n.coefficient) m.atoms ∷ rest q) (negative n ∷ before_term m rest q)) + sum_value v (n ∷ q)
            ≡ downs (match_ordering o (positive m ∷ rest (n ∷ q)) (linear_term (pos m.coefficient -ℤ pos n.coefficient) m.atoms ∷ rest q) (negative n ∷ before_term m rest q)) + (monomial_value v m + sum_value v p)
        by Less is e = first (monomial_value v m) (product_value v m.atoms) (ups (rest (n ∷ q))) (downs (rest (n ∷ q))) (sum_value v p) (sum_value v (n ∷ q)) (h (n ∷ q))
        by Equal is e =
            joined (up (pos m.coefficient -ℤ pos n.coefficient)) (down (pos m.coefficient -ℤ pos n.coefficient)) m.coefficient n.coefficient
            (product_value v m.atoms) (product_value v n.atoms) (sum_value v p) (sum_value v q) (ups (rest q)) (downs (rest q))
            (ap (product_value v) (sym (tells m.atoms n.atoms is))) (parts_of m.coefficient n.coefficient) (h q)
        by Greater is e =
            lowered (up (neg_ℤ (pos n.coefficient))) (down (neg_ℤ (pos n.coefficient))) n.coefficient (product_value v n.atoms) (sum_value v q) (monomial_value v m + sum_value v p)
            (ups (before_term m rest q)) (downs (before_term m rest q)) (down_neg n.coefficient).0 (down_neg n.coefficient).1 e

    -- the positive part less the negative one is the first sum less the second
    pub take_away_value : (p q : Sum) → ups (take_away p q) + sum_value v q ≡ downs (take_away p q) + sum_value v p
    take_away_value [] q = all_negative q
    take_away_value (m ∷ p) q = term_before m p (take_away p) (take_away_value p) q

    abbrev pub one_if : Bool → ℕ
    one_if true = 1
    one_if false = 0

    left_value : (strict : Bool) (p : Sum) → sum_value v (left_side strict p) ≡ one_if strict + sum_value v p
    left_value true p = plus_value v tells (number 1) p ∙ ap (λ z. z + sum_value v p) (number_value v 1)
    left_value false p = omega arith

    from_parts : (U D a b c : ℕ) → U + b ≡ D + a → a ≡ c → (U ≤ D) ↔ (c ≤ b)
    from_parts U D a b c e g = (λ h. omega arith, λ h. omega arith)

    -- The law: the sum of an inequality is at most 0 where the left side of the comparison is at most the right one, or, if it
    -- is strict, below it.
    pub inequality_says : (strict : Bool) (p q : Sum) → (ups (take_away (left_side strict p) q) ≤ downs (take_away (left_side strict p) q)) ↔ (one_if strict + sum_value v p ≤ sum_value v q)
    inequality_says strict p q =
        from_parts (ups (take_away (left_side strict p) q)) (downs (take_away (left_side strict p) q)) (sum_value v (left_side strict p)) (sum_value v q) (one_if strict + sum_value v p)
        (take_away_value (left_side strict p) q) (left_value strict p)
