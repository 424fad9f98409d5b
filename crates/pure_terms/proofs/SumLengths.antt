-- How many monomials sums have, and how great their numbers are.
use Rattle.std.proofs.Common.{◌≡◌, ℕ, zero, suc, ◌+◌, ◌*◌, ◌^◌, ◌<◌, ◌≤◌, ◌||◌, Bool, true, false, List, [], ◌∷◌, ◌++◌, map, flat_map, length, refl, ◌∙◌, arith, Ordering, Less, Equal, Greater}
use Rattle.std.specs.Ordering.{match_ordering}
use Rattle.tht_tree.specs.declared.form.Monomial.{Monomial}
use Rattle.tht_tree.specs.declared.form.Item.{Item}
use Rattle.tht_tree.specs.declared.form.Item.TheVariants as item
use Rattle.tht_tree.specs.Normal.InPairs.{pairs, chain, rounds}
use Rattle.tht_tree.specs.Normal.Sums.{Sum, monomial, compare_products, before_monomial, plus, sum_of, times}
use Rattle.tht_tree.specs.Normal.Forms.{is_wide, item_length, items_length}
use Rattle.normal_laws.proofs.PairsValue.{total, in_pairs_value}
use Rattle.pure_terms.specs.Making.{has_wide, products_with}
use Rattle.pure_terms.proofs.WideTests.{wide_is}

-- ---- lengths

before_length : (m : Monomial) (p : Sum) → ((r : Sum) → length (plus p r) ≤ length p + length r) → (q : Sum) → length (before_monomial m (plus p) q) ≤ length (m ∷ p) + length q
before_length m p h [] = let g = h [] in omega arith
before_length m p h (n ∷ q) = by (compare_products m.atoms n.atoms) (before_length m p h q)
  where
    by : (o : Ordering) → length (before_monomial m (plus p) q) ≤ length (m ∷ p) + length q →
        length (match_ordering o (m ∷ plus p (n ∷ q)) (monomial (m.coefficient + n.coefficient) m.atoms ∷ plus p q) (n ∷ before_monomial m (plus p) q)) ≤ length (m ∷ p) + length (n ∷ q)
    by Less d = let g = h (n ∷ q) in omega arith
    by Equal d = let g = h q in omega arith
    by Greater d = omega arith

pub plus_length : (p q : Sum) → length (plus p q) ≤ length p + length q
plus_length [] q = omega arith
plus_length (m ∷ p) q = before_length m p (plus_length p) q

-- the lengths of many sums together
abbrev pub lengths : List Sum → ℕ
lengths [] = 0
lengths (p ∷ ps) = length p + lengths ps

pairs_length : (ps : List Sum) → lengths (pairs plus ps) ≤ lengths ps
pairs_length [] = omega arith
pairs_length (p ∷ []) = omega arith
pairs_length (p ∷ q ∷ ps) = let g = plus_length p q in let h = pairs_length ps in omega arith

chain_length : (ps : List Sum) → length (chain plus [] ps) ≤ lengths ps
chain_length [] = omega arith
chain_length (p ∷ ps) = let g = plus_length p (chain plus [] ps) in let h = chain_length ps in omega arith

rounds_length : (n : ℕ) (ps : List Sum) → length (rounds plus n [] ps) ≤ lengths ps
rounds_length zero ps = chain_length ps
rounds_length (suc n) [] = omega arith
rounds_length (suc n) (p ∷ []) = omega arith
rounds_length (suc n) (p ∷ q ∷ ps) = let g = rounds_length n (plus p q ∷ pairs plus ps) in let h = pairs_length (p ∷ q ∷ ps) in omega arith

lengths-append : (ps qs : List Sum) → lengths (ps ++ qs) ≡ lengths ps + lengths qs
lengths-append [] qs = omega arith
lengths-append (p ∷ ps) qs = let h = lengths-append ps qs in omega arith

row_lengths : (m : Monomial) (q : Sum) → lengths (products_with m q) ≡ length q
row_lengths m [] = refl
row_lengths m (n ∷ q) = let h = row_lengths m q in omega arith

rows_lengths : (p q : Sum) → lengths (flat_map (λ m. products_with m q) p) ≡ length p * length q
rows_lengths [] q = omega arith
rows_lengths (m ∷ p) q =
    let a = lengths-append (products_with m q) (flat_map (λ m. products_with m q) p) in
    let b = row_lengths m q in
    let h = rows_lengths p q in
    omega arith

-- a product has at most as many monomials as are multiplied
pub times_length : (p q : Sum) → length (times p q) ≤ length p * length q
times_length p q =
    let ps : List Sum = flat_map (λ (m : Monomial). products_with m q) p in
    let g : length (sum_of ps) ≤ lengths ps = rounds_length (length ps) ps in
    let h = rows_lengths p q in
    omega arith

-- ---- numbers

-- all numbers of a sum together
abbrev pub count : Sum → ℕ
count [] = 0
count (m ∷ p) = m.coefficient + count p

before_count : (m : Monomial) (p : Sum) → ((r : Sum) → count (plus p r) ≡ count p + count r) → (q : Sum) → count (before_monomial m (plus p) q) ≡ count (m ∷ p) + count q
before_count m p h [] = let g = h [] in omega arith
before_count m p h (n ∷ q) = by (compare_products m.atoms n.atoms) (before_count m p h q)
  where
    by : (o : Ordering) → count (before_monomial m (plus p) q) ≡ count (m ∷ p) + count q →
        count (match_ordering o (m ∷ plus p (n ∷ q)) (monomial (m.coefficient + n.coefficient) m.atoms ∷ plus p q) (n ∷ before_monomial m (plus p) q)) ≡ count (m ∷ p) + count (n ∷ q)
    by Less d = let g = h (n ∷ q) in omega arith
    by Equal d = let g = h q in omega arith
    by Greater d = omega arith

count_plus : (p q : Sum) → count (plus p q) ≡ count p + count q
count_plus [] q = omega arith
count_plus (m ∷ p) q = before_count m p (count_plus p) q

add_assoc : (a b c : ℕ) → a + b + c ≡ a + (b + c)
add_assoc a b c = omega arith

add_none : (a : ℕ) → a + 0 ≡ a
add_none a = omega arith

counts : (xs : List Item) → total count (λ a b. a + b) 0 (map item_length xs) ≡ length xs
counts [] = refl
counts (item.One p ∷ xs) = let h = counts xs in omega arith
counts (item.All x ∷ xs) = let h = counts xs in omega arith

items_count : (xs : List Item) → count (items_length xs) ≡ length xs
items_count xs = in_pairs_value count (λ a b. a + b) 0 plus [] count_plus refl add_assoc add_none (map item_length xs) ∙ counts xs

-- a number that is wide, or a wide one among the others
either_wide : (b : Bool) (n k : ℕ) → (b ≡ true → 2 ^ 128 ≤ n) → (q : Bool) → (q ≡ true → 2 ^ 128 ≤ k) → (b || q) ≡ true → 2 ^ 128 ≤ n + k
either_wide true n k h q g e = let a = h refl in omega arith
either_wide false n k h q g e = let a = g e in omega arith

wide_counts : (p : Sum) → has_wide p ≡ true → 2 ^ 128 ≤ count p
wide_counts [] e = cc
wide_counts (m ∷ p) e = either_wide (is_wide m.coefficient) m.coefficient (count p) (wide_is m.coefficient) (has_wide p) (wide_counts p) e

-- no length is wide
pub length_narrow : (xs : List Item) → length xs < 2 ^ 64 → has_wide (items_length xs) ≡ true → ⊥
length_narrow xs h e = let a = wide_counts (items_length xs) e in let b = items_count xs in omega arith
