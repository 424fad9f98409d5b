-- A column's products and sums, form by form.
use Rattle.std.proofs.Common.{◌≡◌, ℕ, zero, suc, ◌+◌, ◌<◌, ◌≤◌, List, [], ◌∷◌, length, take, take_all, slice_index_or, ℤ, pos, ◌+ℤ◌, ◌*ℤ◌, FitsSigned, Option, refl, sym, ◌∙◌, ap, subst, arith, inl, inr}
use Rattle.std.specs.Int.{w128}
use Rattle.std.proofs.lemmas.Bool.{cases_lt}
use Rattle.std.proofs.lemmas.List.Sums.{fold_more}
use Rattle.lin_certs.specs.declared.form.LinForm.{LinForm}
use Rattle.lin_certs.specs.Columns.{entry, products, product_at, prefix_sum, sum, column_sum, StaysWithin}

module _ (column : Option ℕ) where
  pub length-products : (forms : List LinForm) (by : List ℕ) → length forms ≡ length by → length (products column forms by) ≡ length forms
  length-products [] by e = refl
  length-products (f ∷ forms) [] e = absurd (omega arith)
  length-products (f ∷ forms) (m ∷ by) e = ap suc (length-products forms by (omega arith))

  -- the product of a form
  pub product_at-is : (forms : List LinForm) (by : List ℕ) (i : ℕ) (d : LinForm) (n : ℕ) → length forms ≡ length by → i < length forms
      → product_at column forms by i ≡ pos (slice_index_or by i n) *ℤ entry column (slice_index_or forms i d)
  product_at-is [] by i d n e h = absurd (omega arith)
  product_at-is (f ∷ forms) [] i d n e h = absurd (omega arith)
  product_at-is (f ∷ forms) (m ∷ by) zero d n e h = refl
  product_at-is (f ∷ forms) (m ∷ by) (suc i) d n e h = product_at-is forms by i d n (omega arith) (omega arith)

  -- a prefix sum is the sum before it and the product
  pub prefix_sum-is : (forms : List LinForm) (by : List ℕ) (i : ℕ) → length forms ≡ length by → i < length forms
      → prefix_sum column forms by i ≡ sum (take i (products column forms by)) +ℤ product_at column forms by i
  prefix_sum-is forms by i e h =
      let l = length-products forms by e in
      fold_more ◌+ℤ◌ (pos 0) (products column forms by) i (pos 0) (omega arith)

  -- what a sum that is computed step by step is before the form i
  pub record SumsTo (forms : List LinForm) (by : List ℕ) (i : ℕ) (s : ℤ) : Type 0 where
    pub sums : s ≡ sum (take i (products column forms by))
    pub before : (j : ℕ) → j < i → StaysWithin column forms by j

  -- the form i, its multiplier m and its entry a
  module _ (forms : List LinForm) (by : List ℕ) (i : ℕ) (s m a : ℤ) (d : LinForm) (e : length forms ≡ length by) (h : i < length forms) (m_is : m ≡ pos (slice_index_or by i 0)) (a_is : a ≡ entry column (slice_index_or forms i d)) (so : SumsTo forms by i s) where
    abbrev product : ℤ
    product = m *ℤ a

    product_is : product_at column forms by i ≡ product
    product_is = product_at-is forms by i d 0 e h ∙ (λ j. sym m_is j *ℤ sym a_is j)

    prefix_is : prefix_sum column forms by i ≡ s +ℤ product
    prefix_is = prefix_sum-is forms by i e h ∙ (λ j. sym so.sums j +ℤ product_is j)

    to_stays : FitsSigned w128 product × FitsSigned w128 (s +ℤ product) → StaysWithin column forms by i
    to_stays k = (subst (FitsSigned w128) (sym product_is) k.0, subst (FitsSigned w128) (sym prefix_is) k.1)

    pub from_stays : StaysWithin column forms by i → FitsSigned w128 product × FitsSigned w128 (s +ℤ product)
    from_stays k = (subst (FitsSigned w128) product_is k.0, subst (FitsSigned w128) prefix_is k.1)

    last_or_before : (j : ℕ) → j < i + 1 → StaysWithin column forms by i → StaysWithin column forms by j
    last_or_before j l k = elim (cases_lt j i) [ inl m ↦ so.before j m | inr m ↦ let q : i ≡ j = omega arith in subst (λ (x : ℕ). StaysWithin column forms by x) q k ]

    -- one form further
    pub further : (t : ℤ) → (FitsSigned w128 product × FitsSigned w128 (s +ℤ product)) × (t ≡ s +ℤ product) → SumsTo forms by (i + 1) t
    further t k = record { sums = k.1 ∙ sym prefix_is; before = λ j l. last_or_before j l (to_stays k.0) }

  -- after the last form
  pub summed : (forms : List LinForm) (by : List ℕ) (i : ℕ) (s : ℤ) → length forms ≡ length by → length forms ≤ i → SumsTo forms by i s → s ≡ column_sum column forms by
  summed forms by i s e h so =
      let l = length-products forms by e in
      so.sums ∙ ap sum (take_all i (products column forms by) (omega arith))
