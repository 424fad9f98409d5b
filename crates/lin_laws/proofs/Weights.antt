-- Sums of numbers that are read off the inequalities of rows, each times its multiplier.
use Rattle.std.proofs.Common.{◌≡◌, ℕ, ◌*◌, ◌<◌, List, [], ◌∷◌, fold, ℤ, pos, ◌+ℤ◌, ◌*ℤ◌, ◌≤ℤ◌, refl, sym, ◌∙◌, ap, arith}
use Rattle.std.proofs.Math.IntN.{*ℤ-zero, zero-*ℤ, *ℤ_comm}
use Rattle.std.proofs.lemmas.Int.{ints}
use borrow.Author.Differences.{up, down, same_in, product_is, sum_is_lem}
use Rattle.lin_certs.proofs.Sums.{times_nonpos}
use Rattle.tht_tree.specs.Normal.Sums.{Product}
use Rattle.tht_tree.specs.Normal.Linear.{Inequality, coefficient_of}
use Rattle.tht_tree.specs.Rules.Inequalities.{Row, column, total}
use Rattle.lin_laws.proofs.Columns.{Each}
use Rattle.lin_laws.proofs.Values.{across}

mul_add : (a b c : ℤ) → a *ℤ (b +ℤ c) ≡ a *ℤ b +ℤ a *ℤ c
mul_add a b c =
    let s = sum_is_lem b c in
    let by = λ (k : ℕ). ap (λ x. k * x) s in
    same_in _ _ (omega (arith, product_is a (b +ℤ c), product_is a b, product_is a c, sum_is_lem (a *ℤ b) (a *ℤ c), by (up a), by (down a)))

add_mul : (a b c : ℤ) → (a +ℤ b) *ℤ c ≡ a *ℤ c +ℤ b *ℤ c
add_mul a b c = *ℤ_comm (a +ℤ b) c ∙ mul_add c a b ∙ (λ i. *ℤ_comm c a i +ℤ *ℤ_comm c b i)

mul_assoc : (a b c : ℤ) → a *ℤ (b *ℤ c) ≡ (a *ℤ b) *ℤ c
mul_assoc a b c =
    let ab = product_is a b in
    let bc = product_is b c in
    let by = λ (k : ℕ) (m n : ℕ) (e : m ≡ n). ap (λ x. x * k) e in
    same_in _ _ (omega (arith, product_is (a *ℤ b) c, product_is a (b *ℤ c), by (up c) _ _ ab.0, by (down c) _ _ ab.1, by (down c) _ _ ab.0, by (up c) _ _ ab.1, by (up a) _ _ bc.0, by (down a) _ _ bc.1, by (down a) _ _ bc.0, by (up a) _ _ bc.1))

fold_from : (a : ℤ) (xs : List ℤ) → fold ◌+ℤ◌ a xs ≡ a +ℤ total xs
fold_from a [] = omega (arith, ints)
fold_from a (x ∷ xs) =
    let e = fold_from (a +ℤ x) xs in
    let f = fold_from (pos 0 +ℤ x) xs in
    omega (arith, ints, e, f)

-- the sum of each inequality's number times its multiplier
abbrev pub weigh : (Inequality → ℤ) → List Row → ℤ
weigh g [] = pos 0
weigh g (r ∷ rows) = pos r.by *ℤ g r.form +ℤ weigh g rows

pub column-is : (p : Product) (rows : List Row) → total (column rows p) ≡ weigh (coefficient_of p) rows
column-is p [] = refl
column-is p (r ∷ rows) =
    let e = fold_from (pos 0 +ℤ pos r.by *ℤ coefficient_of p r.form) (column rows p) in
    let i = column-is p rows in
    omega (arith, ints, e, i)

weigh-zero : (rows : List Row) → weigh (λ x. pos 0) rows ≡ pos 0
weigh-zero [] = refl
weigh-zero (r ∷ rows) =
    let e = *ℤ-zero (pos r.by) in
    let i = weigh-zero rows in
    omega (arith, ints, e, i)

weigh-add : (g h : Inequality → ℤ) (rows : List Row) → weigh (λ x. g x +ℤ h x) rows ≡ weigh g rows +ℤ weigh h rows
weigh-add g h [] = refl
weigh-add g h (r ∷ rows) =
    let e = mul_add (pos r.by) (g r.form) (h r.form) in
    let i = weigh-add g h rows in
    omega (arith, ints, e, i)

weigh-mul : (g : Inequality → ℤ) (z : ℤ) (rows : List Row) → weigh (λ x. g x *ℤ z) rows ≡ weigh g rows *ℤ z
weigh-mul g z [] = sym (zero-*ℤ z)
weigh-mul g z (r ∷ rows) = (λ i. mul_assoc (pos r.by) (g r.form) z i +ℤ weigh-mul g z rows i) ∙ sym (add_mul (pos r.by *ℤ g r.form) (weigh g rows) z)

pub weigh-same : (g h : Inequality → ℤ) (rows : List Row) → Each (λ r. g r.form ≡ h r.form) rows → weigh g rows ≡ weigh h rows
weigh-same g h [] a = refl
weigh-same g h (r ∷ rows) a = λ i. pos r.by *ℤ a.0 i +ℤ weigh-same g h rows a.1 i

-- what is added up over products may be weighed product by product
pub weigh-across : (w : Product → ℤ) (ps : List Product) (rows : List Row) →
    weigh (λ x. across w (λ p. coefficient_of p x) ps) rows ≡ across w (λ p. weigh (coefficient_of p) rows) ps
weigh-across w [] rows = weigh-zero rows
weigh-across w (p ∷ ps) rows =
    weigh-add (λ x. coefficient_of p x *ℤ w p) (λ x. across w (λ q. coefficient_of q x) ps) rows
    ∙ (λ i. weigh-mul (coefficient_of p) (w p) rows i +ℤ weigh-across w ps rows i)

-- P of each inequality whose multiplier is positive
abbrev pub AllBy : (Inequality → Type 0) → List Row → Type 0
AllBy P = Each (λ r. 0 < r.by → P r.form)

pub weigh_nonpos : (g : Inequality → ℤ) (rows : List Row) → AllBy (λ x. g x ≤ℤ pos 0) rows → weigh g rows ≤ℤ pos 0
weigh_nonpos g [] a = omega (arith, ints)
weigh_nonpos g (r ∷ rows) a =
    let p = times_nonpos r.by (g r.form) a.0 in
    let q = weigh_nonpos g rows a.1 in
    omega (arith, ints, p, q)
