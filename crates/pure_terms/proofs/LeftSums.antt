-- What is left of two sums that are gone through together, and how many monomials they have.
use Rattle.std.proofs.Common.{◌≡◌, ℕ, ◌+◌, ◌-◌, ◌*◌, ◌^◌, ◌<◌, ◌≤◌, min, nat_lt, true, false, [], ◌∷◌, length, Some, refl, sym, ◌∙◌, ap, arith, Ordering, Less, Equal, Greater}
use Rattle.std.proofs.lemmas.Bool.Decides.{nat_tests}
use Rattle.tht_tree.specs.declared.form.Monomial.{Monomial}
use Rattle.tht_tree.specs.Normal.Sums.{Sum, monomial, compare_products, plus}
use Rattle.pure_terms.proofs.NextMonomials.{left_first, right_first, both_first}
use Rattle.pure_terms.proofs.SumLengths.{plus_length}

not_above : (n : ℕ) → n ≤ 65536 → false ≡ nat_lt 65536 n
not_above n h = let e : nat_lt 65536 n ≡ false = grind (arith, nat_tests) in sym e

above : (n : ℕ) → 65536 < n → true ≡ nat_lt 65536 n
above n h = let e : nat_lt 65536 n ≡ true = grind (arith, nat_tests) in sym e

far_above : (n : ℕ) → (n < 2 ^ 64 → ⊥) → true ≡ nat_lt 65536 n
far_above n h = above n (omega arith)

-- ---- behind the first monomial, by how the first products stand

one_more : (m : Monomial) (p : Sum) → length (m ∷ p) ≡ length p + 1
one_more m p = omega arith

same_lengths : (xs ys ps qs : Sum) → xs ≡ ps → ys ≡ qs → length (plus xs ys) ≡ length (plus ps qs)
same_lengths xs ys ps qs a b = λ i. length (plus (a i) (b i))

more_lengths : (xs ys ps qs : Sum) → xs ≡ ps → ys ≡ qs → length (plus ps qs) + 1 ≡ length (plus xs ys) + 1
more_lengths xs ys ps qs a b = ap (λ (k : ℕ). k + 1) (sym (same_lengths xs ys ps qs a b))

pub behind_left : (m n : Monomial) (p q xs ys : Sum) → xs ≡ m ∷ p → ys ≡ n ∷ q → compare_products m.atoms n.atoms ≡ Less → length (plus xs ys) ≡ length (plus p ys) + 1
behind_left m n p q xs ys a b e =
    let g : length (plus (m ∷ p) (n ∷ q)) ≡ length (m ∷ plus p (n ∷ q)) = ap length (left_first m p (n ∷ q) (ap (λ (o : Ordering). Some o) e)) in
    same_lengths xs ys (m ∷ p) (n ∷ q) a b ∙ g ∙ one_more m (plus p (n ∷ q)) ∙ more_lengths p ys p (n ∷ q) refl b

pub behind_right : (m n : Monomial) (p q xs ys : Sum) → xs ≡ m ∷ p → ys ≡ n ∷ q → compare_products m.atoms n.atoms ≡ Greater → length (plus xs ys) ≡ length (plus xs q) + 1
behind_right m n p q xs ys a b e =
    let g : length (plus (m ∷ p) (n ∷ q)) ≡ length (n ∷ plus (m ∷ p) q) = ap length (right_first n (m ∷ p) q (ap (λ (o : Ordering). Some o) e)) in
    same_lengths xs ys (m ∷ p) (n ∷ q) a b ∙ g ∙ one_more n (plus (m ∷ p) q) ∙ more_lengths xs q (m ∷ p) q a refl

pub behind_both : (m n : Monomial) (p q xs ys : Sum) → xs ≡ m ∷ p → ys ≡ n ∷ q → compare_products m.atoms n.atoms ≡ Equal → length (plus xs ys) ≡ length (plus p q) + 1
behind_both m n p q xs ys a b e =
    let g : length (plus (m ∷ p) (n ∷ q)) ≡ length (monomial (m.coefficient + n.coefficient) m.atoms ∷ plus p q) = ap length (both_first m n p q (ap (λ (o : Ordering). Some o) e)) in
    same_lengths xs ys (m ∷ p) (n ∷ q) a b ∙ g ∙ one_more (monomial (m.coefficient + n.coefficient) m.atoms) (plus p q)

-- where one of them has none
pub behind_alone : (m : Monomial) (p xs ys : Sum) → xs ≡ m ∷ p → length ys ≡ 0 → length (plus xs ys) ≡ length (plus p ys) + 1
behind_alone m p xs [] a h = same_lengths xs [] (m ∷ p) [] a refl ∙ one_more m (plus p [])
behind_alone m p xs (n ∷ q) a h = absurd (omega arith)

pub behind_other : (n : Monomial) (q xs ys : Sum) → length xs ≡ 0 → ys ≡ n ∷ q → length (plus xs ys) ≡ length (plus xs q) + 1
behind_other n q [] ys h b = ap length b ∙ one_more n q
behind_other n q (m ∷ p) ys h b = absurd (omega arith)

pub none_behind : (xs ys : Sum) → length xs ≡ 0 → length ys ≡ 0 → plus xs ys ≡ []
none_behind [] [] h k = refl
none_behind [] (n ∷ q) h k = absurd (omega arith)
none_behind (m ∷ p) ys h k = absurd (omega arith)

-- ---- whether there are too many

pub few_together : (p q : Sum) (m n k : ℕ) → m ≡ length p → n ≡ length q → k ≡ min (m + n) (2 ^ 64 - 1) → k ≤ 65536 → false ≡ nat_lt 65536 (length (plus p q))
few_together p q m n k a b e h =
    let g = plus_length p q in
    let l : length (plus p q) ≤ 65536 = omega arith in
    not_above (length (plus p q)) l

-- nothing is left after so many turns
turns_all : (turns : ℕ) (rest whole : Sum) → turns + length rest ≡ length whole → rest ≡ [] → turns ≡ length whole
turns_all turns rest whole e r = let g : length rest ≡ 0 = ap length r in omega arith

pub few_before : (turns : ℕ) (rest whole : Sum) → turns + length rest ≡ length whole → rest ≡ [] → turns < 65536 → false ≡ nat_lt 65536 (length whole)
few_before turns rest whole e r h = let g = turns_all turns rest whole e r in not_above (length whole) (omega arith)

pub few_after : (turns : ℕ) (rest whole : Sum) → turns + length rest ≡ length whole → rest ≡ [] → turns ≤ 65536 → false ≡ nat_lt 65536 (length whole)
few_after turns rest whole e r h = let g = turns_all turns rest whole e r in not_above (length whole) (omega arith)

-- something is left after all turns
pub many_after : (turns left : ℕ) (rest whole : Sum) → turns + length rest ≡ length whole → length rest ≡ left + 1 → 65536 ≤ turns → true ≡ nat_lt 65536 (length whole)
many_after turns left rest whole e r h = above (length whole) (omega arith)

-- ---- whether there are too many to multiply

pub many_products : (p q : Sum) (m n : ℕ) → m ≡ length p → n ≡ length q → (m * n < 2 ^ 64 → ⊥) → true ≡ nat_lt 65536 (length p * length q)
many_products p q m n a b h =
    let e : m * n ≡ length p * length q = λ i. a i * b i in
    far_above (m * n) h ∙ ap (nat_lt 65536) e

pub as_many_products : (p q : Sum) (m n count : ℕ) → m ≡ length p → n ≡ length q → count ≡ m * n → nat_lt 65536 count ≡ nat_lt 65536 (length p * length q)
as_many_products p q m n count a b e =
    let f : m * n ≡ length p * length q = λ i. a i * b i in
    ap (nat_lt 65536) (e ∙ f)
