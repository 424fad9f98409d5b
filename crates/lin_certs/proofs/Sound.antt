-- A refutation is sound: no whole numbers make every form with a positive multiplier at most 0.
use Rattle.std.proofs.Common.{◌≡◌, ℕ, zero, suc, ◌<◌, List, [], ◌∷◌, length, slice_index_or, ℤ, pos, ◌+ℤ◌, ◌*ℤ◌, ◌≤ℤ◌, None, Some, refl, sym, ◌∙◌, ap, arith}
use Rattle.std.specs.List.{AllZip}
use Rattle.std.proofs.Math.IntN.{zero-*ℤ}
use Rattle.std.proofs.lemmas.Int.{ints}
use Rattle.lin_certs.specs.declared.form.LinForm.{LinForm}
use Rattle.lin_certs.specs.Columns.{entry}
use Rattle.lin_certs.specs.LinForm.{coefficient, combination, value_at, width, HaveOneWidth, IsInfeasible}
use Rattle.lin_certs.specs.LinSaid.{IsRefutation}
use Rattle.lin_certs.proofs.Sums.{weigh, column_sum-is, weigh-add, weigh-mul, weigh-same, times_nonpos}

-- the combination of the first n coefficients
abbrev upto : ℕ → (ℕ → ℤ) → (ℕ → ℤ) → ℤ
upto zero g x = pos 0
upto (suc n) g x = g 0 *ℤ x 0 +ℤ upto n (λ k. g (suc k)) (λ k. x (suc k))

combination-is : (n : ℕ) (coeffs : List ℤ) (x : ℕ → ℤ) → length coeffs ≡ n → combination coeffs x ≡ upto n (λ k. slice_index_or coeffs k (pos 0)) x
combination-is zero [] x e = refl
combination-is (suc n) [] x e = absurd (omega arith)
combination-is zero (a ∷ coeffs) x e = absurd (omega arith)
combination-is (suc n) (a ∷ coeffs) x e = ap (λ y. a *ℤ x 0 +ℤ y) (combination-is n coeffs (λ k. x (suc k)) (omega arith))

-- where each variable cancels out, so do all of them
upto_cancels : (forms : List LinForm) (by : List ℕ) (n : ℕ) (g : ℕ → LinForm → ℤ) (x : ℕ → ℤ) → ((k : ℕ) → weigh (g k) forms by ≡ pos 0)
    → weigh (λ f. upto n (λ k. g k f) x) forms by ≡ pos 0
upto_cancels forms by zero g x z =
    let e = weigh-add (λ f. pos 0) (λ f. pos 0) forms by in
    omega (arith, ints, e)
upto_cancels forms by (suc n) g x z =
    weigh-add (λ f. g 0 f *ℤ x 0) (λ f. upto n (λ k. g (suc k) f) (λ k. x (suc k))) forms by
    ∙ (λ i. (weigh-mul (g 0) (x 0) forms by ∙ ap (λ y. y *ℤ x 0) (z 0) ∙ zero-*ℤ (x 0)) i +ℤ upto_cancels forms by n (λ k. g (suc k)) (λ k. x (suc k)) (λ k. z (suc k)) i)

weigh_nonpos : (g : LinForm → ℤ) (forms : List LinForm) (by : List ℕ) → AllZip (λ f m. 0 < m → g f ≤ℤ pos 0) forms by → weigh g forms by ≤ℤ pos 0
weigh_nonpos g [] [] a = omega (arith, ints)
weigh_nonpos g [] (m ∷ by) a = absurd a
weigh_nonpos g (f ∷ forms) [] a = absurd a
weigh_nonpos g (f ∷ forms) (m ∷ by) a =
    let p = times_nonpos m (g f) a.0 in
    let q = weigh_nonpos g forms by a.1 in
    omega (arith, ints, p, q)

pub refutation_sound : (forms : List LinForm) (by : List ℕ) → HaveOneWidth forms → IsRefutation forms by → IsInfeasible forms by
refutation_sound forms by one r x a =
    let n = width forms in
    let same = weigh-same (λ f. combination f.coeffs.items x) (λ f. upto n (λ k. coefficient k f) x) forms by (λ i d l. combination-is n _ x (one i d l)) in
    let gone = upto_cancels forms by n coefficient x (λ k. sym (column_sum-is (Some k) forms by) ∙ r.cancels k) in
    let whole = weigh-add (entry None) (λ f. combination f.coeffs.items x) forms by in
    let constants = column_sum-is None forms by in
    let low : weigh (value_at x) forms by ≤ℤ pos 0 = weigh_nonpos (value_at x) forms by a in
    let high = r.positive in
    omega (arith, ints, same, gone, whole, constants, low, high)
