-- Where a number of a sum is wide, one of each sum that it is added to is: numbers only grow.
use Rattle.std.proofs.Common.{◌≡◌, ℕ, zero, suc, ◌+◌, ◌||◌, Bool, true, false, List, [], ◌∷◌, length, refl, Ordering, Less, Equal, Greater}
use Rattle.std.specs.Ordering.{match_ordering}
use Rattle.tht_tree.specs.declared.form.Monomial.{Monomial}
use Rattle.tht_tree.specs.Normal.InPairs.{pairs, chain, rounds}
use Rattle.tht_tree.specs.Normal.Sums.{Sum, monomial, compare_products, before_monomial, plus, sum_of}
use Rattle.tht_tree.specs.Normal.Forms.{is_wide}
use Rattle.pure_terms.specs.Making.{has_wide, have_wide}
use Rattle.pure_terms.proofs.WideTests.{neither, none_or, first_narrow, second_narrow}

before_narrow : (m : Monomial) (p : Sum) → ((r : Sum) → has_wide (plus p r) ≡ false → (has_wide p ≡ false) × (has_wide r ≡ false)) →
    (q : Sum) → has_wide (before_monomial m (plus p) q) ≡ false → (has_wide (m ∷ p) ≡ false) × (has_wide q ≡ false)
before_narrow m p h [] e =
    let g = neither (is_wide m.coefficient) (has_wide (plus p [])) e in
    (none_or (is_wide m.coefficient) (has_wide p) g.0 (h [] g.1).0, refl)
before_narrow m p h (n ∷ q) e = by (compare_products m.atoms n.atoms) (before_narrow m p h q) e
  where
    by : (o : Ordering) → (has_wide (before_monomial m (plus p) q) ≡ false → (has_wide (m ∷ p) ≡ false) × (has_wide q ≡ false)) →
        has_wide (match_ordering o (m ∷ plus p (n ∷ q)) (monomial (m.coefficient + n.coefficient) m.atoms ∷ plus p q) (n ∷ before_monomial m (plus p) q)) ≡ false →
        (has_wide (m ∷ p) ≡ false) × (has_wide (n ∷ q) ≡ false)
    by Less d f =
        let g = neither (is_wide m.coefficient) (has_wide (plus p (n ∷ q))) f in
        let k = h (n ∷ q) g.1 in
        (none_or (is_wide m.coefficient) (has_wide p) g.0 k.0, k.1)
    by Equal d f =
        let g = neither (is_wide (m.coefficient + n.coefficient)) (has_wide (plus p q)) f in
        let a = first_narrow m.coefficient n.coefficient g.0 in
        let b = second_narrow m.coefficient n.coefficient g.0 in
        let k = h q g.1 in
        (none_or (is_wide m.coefficient) (has_wide p) a k.0, none_or (is_wide n.coefficient) (has_wide q) b k.1)
    by Greater d f =
        let g = neither (is_wide n.coefficient) (has_wide (before_monomial m (plus p) q)) f in
        let k = d g.1 in
        (k.0, none_or (is_wide n.coefficient) (has_wide q) g.0 k.1)

pub plus_narrow : (p q : Sum) → has_wide (plus p q) ≡ false → (has_wide p ≡ false) × (has_wide q ≡ false)
plus_narrow [] q e = (refl, e)
plus_narrow (m ∷ p) q e = before_narrow m p (plus_narrow p) q e

pairs_narrow : (ps : List Sum) → have_wide (pairs plus ps) ≡ false → have_wide ps ≡ false
pairs_narrow [] e = refl
pairs_narrow (p ∷ []) e = e
pairs_narrow (p ∷ q ∷ ps) e =
    let g = neither (has_wide (plus p q)) (have_wide (pairs plus ps)) e in
    let k = plus_narrow p q g.0 in
    none_or (has_wide p) (has_wide q || have_wide ps) k.0 (none_or (has_wide q) (have_wide ps) k.1 (pairs_narrow ps g.1))

chain_narrow : (ps : List Sum) → has_wide (chain plus [] ps) ≡ false → have_wide ps ≡ false
chain_narrow [] e = refl
chain_narrow (p ∷ ps) e =
    let k = plus_narrow p (chain plus [] ps) e in
    none_or (has_wide p) (have_wide ps) k.0 (chain_narrow ps k.1)

rounds_narrow : (n : ℕ) (ps : List Sum) → has_wide (rounds plus n [] ps) ≡ false → have_wide ps ≡ false
rounds_narrow zero ps e = chain_narrow ps e
rounds_narrow (suc n) [] e = refl
rounds_narrow (suc n) (p ∷ []) e = none_or (has_wide p) false e refl
rounds_narrow (suc n) (p ∷ q ∷ ps) e = pairs_narrow (p ∷ q ∷ ps) (rounds_narrow n (plus p q ∷ pairs plus ps) e)

pub sum_of_narrow : (ps : List Sum) → has_wide (sum_of ps) ≡ false → have_wide ps ≡ false
sum_of_narrow ps e = rounds_narrow (length ps) ps e

-- so what is wide stays so
contrary : (a b : Bool) → (b ≡ false → a ≡ false) → a ≡ true → b ≡ true
contrary a true h e = refl
contrary a false h e = let f = h refl in cc

pub wide_left : (p q : Sum) → has_wide p ≡ true → has_wide (plus p q) ≡ true
wide_left p q e = contrary (has_wide p) (has_wide (plus p q)) (λ f. (plus_narrow p q f).0) e

pub wide_sum_of : (ps : List Sum) → have_wide ps ≡ true → has_wide (sum_of ps) ≡ true
wide_sum_of ps e = contrary (have_wide ps) (has_wide (sum_of ps)) (sum_of_narrow ps) e

pub wide_right : (p q : Sum) → has_wide q ≡ true → has_wide (plus p q) ≡ true
wide_right p q e = contrary (has_wide q) (has_wide (plus p q)) (λ f. (plus_narrow p q f).1) e
