-- Sums that are within their limits, and what is answered of others.
use Rattle.std.proofs.Common.{◌≡◌, ◌≢◌, ℕ, zero, suc, ◌*◌, ◌^◌, ◌<◌, ◌≤◌, ◌||◌, nat_lt, ◌==◌, Bool, true, false, cond, List, [], ◌∷◌, map, length, Some, None, Ok, Err, refl, sym, ◌∙◌, ap, subst, arith, ◌⊎◌, inl, inr}
use Rattle.std.proofs.lemmas.Bool.Decides.{nat_tests}
use Rattle.tht_tree.specs.declared.term.Term.{Term}
use Rattle.tht_tree.specs.declared.term.Term.TheVariants.{Sub}
use Rattle.tht_tree.specs.declared.form.Form.TheVariants.{Nat}
use Rattle.tht_tree.specs.declared.form.Item.{Item}
use Rattle.tht_tree.specs.declared.form.Item.TheVariants as item
use Rattle.tht_tree.specs.declared.form.NormalEnd.{NormalEnd}
use Rattle.tht_tree.specs.declared.form.NormalEnd.TheVariants as end
use Rattle.tht_tree.specs.Normal.Sums.{Sum, monomial, number, atom, plus, times, minus_by, sum_of, sum_term}
use Rattle.tht_tree.specs.Normal.Forms.{Answer, within, product_within, item_length, items_length}
use Rattle.pure_terms.specs.Making.{has_wide, have_wide, IsMade}
use Rattle.pure_terms.proofs.WideTests.{not_wide}
use Rattle.pure_terms.proofs.SumLengths.{times_length, length_narrow}

abbrev by_tests : Sum → Bool → Bool → Answer
by_tests p many wide = cond many (Err end.Large) (cond wide (Err end.Wide) (Ok (Nat p)))

pub too_long : (p : Sum) → 65536 < length p → within p ≡ Err end.Large
too_long p h = let g : nat_lt 65536 (length p) ≡ true = grind (arith, nat_tests) in ap (λ b. by_tests p b (has_wide p)) g

not_long : (p : Sum) → length p ≤ 65536 → nat_lt 65536 (length p) ≡ false
not_long p h = grind (arith, nat_tests)

both : (p : Sum) (b : Bool) → length p ≤ 65536 → has_wide p ≡ b → within p ≡ by_tests p false b
both p b h e = λ i. by_tests p (not_long p h i) (e i)

pub is_within : (p : Sum) → length p ≤ 65536 → has_wide p ≡ false → within p ≡ Ok (Nat p)
is_within p h e = both p false h e

pub not_within : (p : Sum) → length p ≤ 65536 → has_wide p ≡ true → within p ≡ Err end.Wide
not_within p h e = both p true h e

-- a sum that was made, and why one was not
pub made_within : (p s : Sum) → length p ≤ 65536 → s ≡ p → has_wide p ≡ false → within p ≡ Ok (Nat s)
made_within p s h e n = is_within p h n ∙ ap (λ z. Ok (Nat z)) (sym e)

pub end_within : (p : Sum) (e : NormalEnd) → length p ≤ 65536 → IsMade (Err e) p → (e ≡ end.Memory) ⊎ (within p ≡ Err e)
end_within p e h (inl m) = inl m
end_within p e h (inr w) = inr (not_within p h w.1 ∙ ap (λ z. Err z) (sym w.0))

-- the same, by a test whether there are too many
pub sum_large : (p : Sum) (b : Bool) → b ≡ nat_lt 65536 (length p) → b ≡ true → within p ≡ Err end.Large
sum_large p b e g = ap (λ z. by_tests p z (has_wide p)) (sym e ∙ g)

pub sum_made : (p s : Sum) (b : Bool) → b ≡ nat_lt 65536 (length p) → b ≡ false → s ≡ p → has_wide p ≡ false → within p ≡ Ok (Nat s)
sum_made p s b e g f n =
    let many : nat_lt 65536 (length p) ≡ false = sym e ∙ g in
    let made : within p ≡ Ok (Nat p) = λ i. by_tests p (many i) (n i) in
    made ∙ ap (λ z. Ok (Nat z)) (sym f)

sum_end : (p : Sum) (e : NormalEnd) (b : Bool) → b ≡ nat_lt 65536 (length p) → b ≡ false → IsMade (Err e) p → (e ≡ end.Memory) ⊎ (within p ≡ Err e)
sum_end p e b f g (inl m) = inl m
sum_end p e b f g (inr w) =
    let many : nat_lt 65536 (length p) ≡ false = sym f ∙ g in
    let made : within p ≡ Err end.Wide = λ i. by_tests p (many i) (w.1 i) in
    inr (made ∙ ap (λ z. Err z) (sym w.0))

-- the same, where the test was of slices of both sums
pub sum_end_of : (p q ps qs : Sum) (e : NormalEnd) (b : Bool) → ps ≡ p → qs ≡ q → b ≡ nat_lt 65536 (length (plus ps qs)) → b ≡ false → IsMade (Err e) (plus p q) →
    (e ≡ end.Memory) ⊎ (within (plus p q) ≡ Err e)
sum_end_of p q ps qs e b a c f g m =
    let same : nat_lt 65536 (length (plus ps qs)) ≡ nat_lt 65536 (length (plus p q)) = λ i. nat_lt 65536 (length (plus (a i) (c i))) in
    sum_end (plus p q) e b (f ∙ same) g m

-- ---- products

abbrev by_count : Sum → Sum → Bool → Answer
by_count p q b = cond b (Err end.Large) (within (times p q))

pub product_large : (p q : Sum) (b : Bool) → b ≡ nat_lt 65536 (length p * length q) → b ≡ true → product_within p q ≡ Err end.Large
product_large p q b e g = ap (by_count p q) (sym e ∙ g)

product_small : (p q : Sum) (b : Bool) → b ≡ nat_lt 65536 (length p * length q) → b ≡ false → product_within p q ≡ within (times p q)
product_small p q b e g = ap (by_count p q) (sym e ∙ g)

not_above : (n : ℕ) → nat_lt 65536 n ≡ false → n ≤ 65536
not_above n e = grind (arith, nat_tests)

few_products : (p q : Sum) (b : Bool) → b ≡ nat_lt 65536 (length p * length q) → b ≡ false → length (times p q) ≤ 65536
few_products p q b e g =
    let k = not_above (length p * length q) (sym e ∙ g) in
    let l = times_length p q in
    omega arith

pub product_made : (p q s : Sum) (b : Bool) → b ≡ nat_lt 65536 (length p * length q) → b ≡ false → s ≡ times p q → has_wide (times p q) ≡ false → product_within p q ≡ Ok (Nat s)
product_made p q s b f g e n = product_small p q b f g ∙ made_within (times p q) s (few_products p q b f g) e n

product_end : (p q : Sum) (e : NormalEnd) (b : Bool) → b ≡ nat_lt 65536 (length p * length q) → b ≡ false → IsMade (Err e) (times p q) → (e ≡ end.Memory) ⊎ (product_within p q ≡ Err e)
product_end p q e b f g m = by (end_within (times p q) e (few_products p q b f g) m)
  where
    by : (e ≡ end.Memory) ⊎ (within (times p q) ≡ Err e) → (e ≡ end.Memory) ⊎ (product_within p q ≡ Err e)
    by (inl x) = inl x
    by (inr x) = inr (product_small p q b f g ∙ x)

-- the same, where the test and the product were of slices of both sums
pub product_end_of : (p q ps qs xs ys : Sum) (e : NormalEnd) (b : Bool) → ps ≡ p → qs ≡ q → xs ≡ p → ys ≡ q → b ≡ nat_lt 65536 (length ps * length qs) → b ≡ false → IsMade (Err e) (times xs ys) →
    (e ≡ end.Memory) ⊎ (product_within p q ≡ Err e)
product_end_of p q ps qs xs ys e b a c h k f g m =
    let same : nat_lt 65536 (length ps * length qs) ≡ nat_lt 65536 (length p * length q) = λ i. nat_lt 65536 (length (a i) * length (c i)) in
    product_end p q e b (f ∙ same) g (subst (λ (z : Sum). IsMade (Err e) (times p z)) k (subst (λ (z : Sum). IsMade (Err e) (times z ys)) h m))

-- ---- lengths

-- no length is wide
pub length_end : (xs : List Item) (ps : List Sum) (e : NormalEnd) → length xs < 2 ^ 64 → ps ≡ map item_length xs → IsMade (Err e) (sum_of ps) → (e ≡ end.Memory) ⊎ (within (items_length xs) ≡ Err e)
length_end xs ps e h g (inl m) = inl m
length_end xs ps e h g (inr w) = absurd (length_narrow xs h (ap (λ (z : List Sum). has_wide (sum_of z)) (sym g) ∙ w.1))

-- ---- numbers and atoms

pub number_narrow : (n : ℕ) → n < 2 ^ 128 → has_wide (number n) ≡ false
number_narrow n h = by (n == 0)
  where
    by : (b : Bool) → has_wide (cond b [] (monomial n [] ∷ [])) ≡ false
    by true = refl
    by false = ap (λ z. z || false) (not_wide n h)

pub atom_answer : (x : Term) → within (atom x) ≡ Ok (Nat (atom x))
atom_answer x = refl

pub lengths_narrow : (xs : List Item) → have_wide (map item_length xs) ≡ false
lengths_narrow [] = refl
lengths_narrow (item.One p ∷ xs) = lengths_narrow xs
lengths_narrow (item.All x ∷ xs) = lengths_narrow xs

-- ---- differences

-- what is not a number, less a number above 0
pub kept_minus : (n : ℕ) (p q : Sum) → n ≢ 0 → minus_by None (Some n) p q ≡ atom (Sub (sum_term p) (sum_term q))
kept_minus zero p q h = absurd (h refl)
kept_minus (suc n) p q h = refl
