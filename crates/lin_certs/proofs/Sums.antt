-- Sums of products over forms and their multipliers, of any number that is read off a form.
use Rattle.std.proofs.Common.{◌≡◌, ℕ, zero, suc, ◌*◌, ◌<◌, List, [], ◌∷◌, fold, ℤ, pos, negsuc, ◌+ℤ◌, ◌*ℤ◌, ◌≤ℤ◌, Option, refl, sym, ◌∙◌, ap, arith, All}
use Rattle.std.proofs.Math.IntN.{*ℤ-zero, zero-*ℤ, *ℤ_comm}
use Rattle.std.proofs.lemmas.Int.{ints}
use borrow.Author.Differences.{up, down, same_in, product_is, sum_is_lem}
use Rattle.lin_certs.specs.declared.form.LinForm.{LinForm}
use Rattle.lin_certs.specs.Columns.{entry, products, sum, column_sum}

mul_add : (a b c : ℤ) → a *ℤ (b +ℤ c) ≡ a *ℤ b +ℤ a *ℤ c
mul_add a b c =
    let s = sum_is_lem b c in
    let by = λ (k : ℕ). ap (λ x. k * x) s in
    same_in _ _ (omega (arith, product_is a (b +ℤ c), product_is a b, product_is a c, sum_is_lem (a *ℤ b) (a *ℤ c), by (up a), by (down a)))

add_mul : (a b c : ℤ) → (a +ℤ b) *ℤ c ≡ a *ℤ c +ℤ b *ℤ c
add_mul a b c = *ℤ_comm (a +ℤ b) c ∙ mul_add c a b ∙ (λ i. *ℤ_comm c a i +ℤ *ℤ_comm c b i)

mul_assoc : (a b c : ℤ) → a *ℤ (b *ℤ c) ≡ (a *ℤ b) *ℤ c
mul_assoc a b c =
    let ab = product_is a b in
    let bc = product_is b c in
    let by = λ (k : ℕ) (m n : ℕ) (e : m ≡ n). ap (λ x. x * k) e in
    same_in _ _ (omega (arith, product_is (a *ℤ b) c, product_is a (b *ℤ c), by (up c) _ _ ab.0, by (down c) _ _ ab.1, by (down c) _ _ ab.0, by (up c) _ _ ab.1, by (up a) _ _ bc.0, by (down a) _ _ bc.1, by (down a) _ _ bc.0, by (up a) _ _ bc.1))

-- the sum of each form's number times its multiplier
abbrev pub weigh : (LinForm → ℤ) → List LinForm → List ℕ → ℤ
weigh g [] by = pos 0
weigh g (f ∷ forms) [] = pos 0
weigh g (f ∷ forms) (m ∷ by) = pos m *ℤ g f +ℤ weigh g forms by

fold_from : (a : ℤ) (xs : List ℤ) → fold ◌+ℤ◌ a xs ≡ a +ℤ sum xs
fold_from a [] = omega (arith, ints)
fold_from a (x ∷ xs) =
    let e = fold_from (a +ℤ x) xs in
    let f = fold_from (pos 0 +ℤ x) xs in
    omega (arith, ints, e, f)

pub column_sum-is : (column : Option ℕ) (forms : List LinForm) (by : List ℕ) → column_sum column forms by ≡ weigh (entry column) forms by
column_sum-is column [] by = refl
column_sum-is column (f ∷ forms) [] = refl
column_sum-is column (f ∷ forms) (m ∷ by) =
    let e = fold_from (pos 0 +ℤ pos m *ℤ entry column f) (products column forms by) in
    let i = column_sum-is column forms by in
    omega (arith, ints, e, i)

pub weigh-add : (g h : LinForm → ℤ) (forms : List LinForm) (by : List ℕ) → weigh (λ f. g f +ℤ h f) forms by ≡ weigh g forms by +ℤ weigh h forms by
weigh-add g h [] by = refl
weigh-add g h (f ∷ forms) [] = refl
weigh-add g h (f ∷ forms) (m ∷ by) =
    let e = mul_add (pos m) (g f) (h f) in
    let i = weigh-add g h forms by in
    omega (arith, ints, e, i)

pub weigh-mul : (g : LinForm → ℤ) (x : ℤ) (forms : List LinForm) (by : List ℕ) → weigh (λ f. g f *ℤ x) forms by ≡ weigh g forms by *ℤ x
weigh-mul g x [] by = sym (zero-*ℤ x)
weigh-mul g x (f ∷ forms) [] = sym (zero-*ℤ x)
weigh-mul g x (f ∷ forms) (m ∷ by) =
    (λ i. mul_assoc (pos m) (g f) x i +ℤ weigh-mul g x forms by i) ∙ sym (add_mul (pos m *ℤ g f) (weigh g forms by) x)

pub weigh-same : (g h : LinForm → ℤ) (forms : List LinForm) (by : List ℕ) → All (λ f. g f ≡ h f) forms → weigh g forms by ≡ weigh h forms by
weigh-same g h [] by a = refl
weigh-same g h (f ∷ forms) [] a = refl
weigh-same g h (f ∷ forms) (m ∷ by) a =
    let e : g f ≡ h f = a 0 f (omega arith) in
    λ i. pos m *ℤ e i +ℤ weigh-same g h forms by (λ k d l. a (suc k) d (omega arith)) i

-- a product with a number that is at most 0
pub times_nonpos : (m : ℕ) (v : ℤ) → (0 < m → v ≤ℤ pos 0) → (pos m *ℤ v) ≤ℤ pos 0
times_nonpos zero v h = let e = zero-*ℤ v in omega (arith, ints, e)
times_nonpos (suc m) (pos zero) h = let e = *ℤ-zero (pos (suc m)) in omega (arith, ints, e)
times_nonpos (suc m) (pos (suc n)) h = let q = h (omega arith) in absurd (omega (arith, ints, q))
times_nonpos (suc m) (negsuc n) h = let p = product_is (pos (suc m)) (negsuc n) in omega (arith, ints, p)
