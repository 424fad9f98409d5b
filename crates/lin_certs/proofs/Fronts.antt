-- The forms at the front at which no column leaves i128, column by column.
use Rattle.std.proofs.Common.{◌≡◌, ℕ, zero, suc, ◌+◌, ◌<◌, ◌≤◌, min, List, [], ◌∷◌, length, take, fold, slice_index_or, ℤ, pos, ◌+ℤ◌, ◌*ℤ◌, FitsSigned, Option, None, Some, refl, sym, ◌∙◌, ap, subst, arith, inl, inr, All, lit<}
use Rattle.std.specs.Int.{w128}
use Rattle.std.proofs.Math.IntN.{*ℤ-zero}
use Rattle.std.proofs.lemmas.Bool.{cases_lt}
use Rattle.lin_certs.specs.declared.form.LinForm.{LinForm}
use Rattle.lin_certs.specs.Columns.{products, sum, StaysWithin}
use Rattle.lin_certs.specs.LinForm.{width, HaveOneWidth}
use Rattle.lin_certs.specs.LinSaid.{IsFirstWide, IsNarrow, Cancels}

abbrev AllZero : List ℤ → Type 0
AllZero [] = Unit {0}
AllZero (x ∷ xs) = (x ≡ pos 0) × AllZero xs

zero_at : (xs : List ℤ) (i : ℕ) → AllZero xs → slice_index_or xs i (pos 0) ≡ pos 0
zero_at [] i z = refl
zero_at (x ∷ xs) zero z = z.0
zero_at (x ∷ xs) (suc i) z = zero_at xs i z.1

zero_sum : (xs : List ℤ) → AllZero xs → sum xs ≡ pos 0
zero_sum [] z = refl
zero_sum (x ∷ xs) z = ap (λ y. fold ◌+ℤ◌ (pos 0 +ℤ y) xs) z.0 ∙ zero_sum xs z.1

zero_take : (xs : List ℤ) (i : ℕ) → AllZero xs → AllZero (take i xs)
zero_take [] zero z = tt
zero_take [] (suc i) z = tt
zero_take (x ∷ xs) zero z = tt
zero_take (x ∷ xs) (suc i) z = (z.0, zero_take xs i z.1)

past : (xs : List ℤ) (k : ℕ) → length xs ≤ k → slice_index_or xs k (pos 0) ≡ pos 0
past [] k h = refl
past (x ∷ xs) zero h = absurd (omega arith)
past (x ∷ xs) (suc k) h = past xs k (omega arith)

-- a variable beyond the coefficients
zeros : (k : ℕ) (forms : List LinForm) (by : List ℕ) → All (λ form. length form.coeffs.items ≤ k) forms → AllZero (products (Some k) forms by)
zeros k [] by a = tt
zeros k (f ∷ forms) [] a = tt
zeros k (f ∷ forms) (m ∷ by) a =
    (ap (λ x. pos m *ℤ x) (past f.coeffs.items k (a 0 f (omega arith))) ∙ *ℤ-zero (pos m), zeros k forms by (λ i d l. a (suc i) d (omega arith)))

module _ (forms : List LinForm) (by : List ℕ) (one : HaveOneWidth forms) (k : ℕ) (h : width forms ≤ k) where
  beyond : AllZero (products (Some k) forms by)
  beyond = zeros k forms by (λ i d l. let e = one i d l in omega arith)

  pub beyond_cancels : Cancels forms by k
  beyond_cancels = zero_sum _ beyond

  pub beyond_stays : (i : ℕ) → StaysWithin (Some k) forms by i
  beyond_stays i =
      let z : FitsSigned w128 (pos 0) = record { sfits = lit< tt } in
      (subst (FitsSigned w128) (sym (zero_at _ i beyond)) z, subst (FitsSigned w128) (sym (zero_sum _ (zero_take _ (i + 1) beyond))) z)

-- the column is of the constants, or of a variable below v
abbrev pub Reached : ℕ → Option ℕ → Type 0
Reached v None = Unit {0}
Reached v (Some k) = k < v

-- n is the number of forms at the front at which the constants and the variables below v stay within i128
pub record IsFront (forms : List LinForm) (by : List ℕ) (v n : ℕ) : Type 0 where
  pub within : n ≤ length forms
  pub before : (i : ℕ) (column : Option ℕ) → i < n → Reached v column → StaysWithin column forms by i
  pub leaves : n < length forms → (column : Option ℕ) × (StaysWithin column forms by n → ⊥)

module _ (forms : List LinForm) (by : List ℕ) where
  -- one variable more
  pub front_more : (v n m : ℕ) → IsFront forms by v n → m ≤ length forms → ((i : ℕ) → i < m → StaysWithin (Some v) forms by i) → (m < length forms → StaysWithin (Some v) forms by m → ⊥)
      → IsFront forms by (v + 1) (min n m)
  front_more v n m f w b l =
      elim (cases_lt n m) [
        | inl h ↦ let e : n ≡ min n m = omega arith in subst (λ (x : ℕ). IsFront forms by (v + 1) x) e
            (record { within = f.within; before = (λ i c q r. before n (omega arith) i c q r); leaves = f.leaves })
        | inr h ↦ let e : m ≡ min n m = omega arith in subst (λ (x : ℕ). IsFront forms by (v + 1) x) e
            (record { within = w; before = (λ i c q r. before m (omega arith) i c q r); leaves = λ g. (Some v, l g) })
      ]
    where
      before : (x : ℕ) → x ≤ min n m → (i : ℕ) (column : Option ℕ) → i < x → Reached (v + 1) column → StaysWithin column forms by i
      before x g i None h r = f.before i None (omega arith) tt
      before x g i (Some k) h r =
          elim (cases_lt k v) [ inl p ↦ f.before i (Some k) (omega arith) p | inr p ↦ let e : v ≡ k = omega arith in subst (λ (y : ℕ). StaysWithin (Some y) forms by i) e (b i (omega arith)) ]

  -- all columns
  module _ (one : HaveOneWidth forms) (v n : ℕ) (all : width forms ≤ v) (f : IsFront forms by v n) where
    stays : (i : ℕ) (column : Option ℕ) → i < n → StaysWithin column forms by i
    stays i None h = f.before i None h tt
    stays i (Some k) h = elim (cases_lt k v) [ inl p ↦ f.before i (Some k) h p | inr p ↦ beyond_stays forms by one k (omega arith) i ]

    pub front_narrow : length forms ≤ n → IsNarrow forms by
    front_narrow h i column l = stays i column (omega arith)

    pub front_wide : n < length forms → IsFirstWide forms by n
    front_wide h = let w = f.leaves h in record { within = h; column = w.0; leaves = w.1; before = λ j other l. stays j other l }
