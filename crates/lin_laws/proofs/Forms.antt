-- What the check of forms answers is what is refused of the rows that the forms are made of.
use Rattle.std.proofs.Common.{◌≡◌, ◌↔◌, inl, inr, ℕ, zero, suc, ◌<◌, ◌≤◌, Bool, true, false, not, ◌&&◌, cond, ℤ, pos, negsuc, ◌+ℤ◌, ◌*ℤ◌, ◌≤ℤ◌, List, [], ◌∷◌, length, map, take, fold, slice_index_or, Option, Some, None, FitsSigned, refl, sym, ◌∙◌, ap, subst, arith, add-one}
use Rattle.std.specs.Prelude.{int_le}
use Rattle.std.specs.List.{list_all}
use Rattle.std.specs.Int.{w128}
use Rattle.std.proofs.lemmas.Bool.{cases_lt}
use Rattle.std.proofs.lemmas.Bool.Decides.{nat_tests}
use Rattle.std.proofs.lemmas.Int.{ints}
use Rattle.lin_certs.specs.declared.form.LinForm.{LinForm}
use Rattle.lin_certs.specs.declared.check.LinSaid.{LinSaid}
use Rattle.lin_certs.specs.declared.check.LinSaid.TheVariants as said
use Rattle.lin_certs.specs.Columns.{entry, products as form_products, sum, StaysWithin}
use Rattle.lin_certs.specs.LinForm.{width, HaveOneWidth}
use Rattle.lin_certs.specs.LinSaid.{IsFirstWide, IsNarrow, Cancels, IsRefutation, FailsFirstAt}
use Rattle.lin_certs.proofs.Columns.{length-products}
use Rattle.lin_certs.proofs.Fronts.{beyond_cancels, beyond_stays}
use Rattle.tht_tree.specs.Normal.Sums.{Product}
use Rattle.tht_tree.specs.Normal.Linear.{Inequality, is_i128, coefficient_of}
use Rattle.tht_tree.specs.declared.rule.RuleCode.TheVariants.{R6, R7}
use Rattle.tht_tree.specs.Rules.Inequalities.{Row, variables_of, column, total, stays_within, is_narrow, is_zero, is_refutation, refused_rows}
use Rattle.lin_laws.specs.Forms.{form_over, forms_of, plain, code_of}
use Rattle.lin_laws.proofs.Columns.{In}
use Rattle.lin_laws.proofs.RowsSound.{both, zero_is, one_is}

-- ---- the range

abbrev Fits128 : ℤ → Type 0
Fits128 = FitsSigned w128

fits_of : (z : ℤ) → is_i128 z ≡ true → Fits128 z
fits_of (pos n) e = record { sfits = grind (arith, nat_tests) }
fits_of (negsuc n) e = record { sfits = grind (arith, nat_tests) }

of_fits : (z : ℤ) → Fits128 z → is_i128 z ≡ true
of_fits (pos n) f = let h = f.sfits in grind (arith, nat_tests)
of_fits (negsuc n) f = let h = f.sfits in grind (arith, nat_tests)

and_true : (a b : Bool) → a ≡ true → b ≡ true → (a && b) ≡ true
and_true a b e f = rw (e, f) refl

-- ---- a list of numbers stays within the range

-- at the place i, the number fits, and the sum from s up to it
abbrev Stays : ℤ → List ℤ → ℕ → Type 0
Stays s zs i = Fits128 (slice_index_or zs i (pos 0)) × Fits128 (fold ◌+ℤ◌ s (take (suc i) zs))

stays_to : (s : ℤ) (zs : List ℤ) → stays_within s zs ≡ true → (i : ℕ) → i < length zs → Stays s zs i
stays_to s [] e i h = absurd (omega arith)
stays_to s (z ∷ zs) e zero h =
    let p = both (is_i128 z && is_i128 (s +ℤ z)) (stays_within (s +ℤ z) zs) e in
    let q = both (is_i128 z) (is_i128 (s +ℤ z)) p.0 in
    (fits_of z q.0, fits_of (s +ℤ z) q.1)
stays_to s (z ∷ zs) e (suc i) h =
    let p = both (is_i128 z && is_i128 (s +ℤ z)) (stays_within (s +ℤ z) zs) e in
    stays_to (s +ℤ z) zs p.1 i (omega arith)

stays_from : (s : ℤ) (zs : List ℤ) → ((i : ℕ) → i < length zs → Stays s zs i) → stays_within s zs ≡ true
stays_from s [] h = refl
stays_from s (z ∷ zs) h =
    let first = h zero (omega arith) in
    and_true (is_i128 z && is_i128 (s +ℤ z)) (stays_within (s +ℤ z) zs) (and_true (is_i128 z) (is_i128 (s +ℤ z)) (of_fits z first.0) (of_fits (s +ℤ z) first.1))
    (stays_from (s +ℤ z) zs (λ i l. h (suc i) (omega arith)))

-- ---- the entries of forms

-- the multipliers of rows
abbrev pub multipliers : List Row → List ℕ
multipliers = map (λ r. r.by)

-- forms made of rows, over these variables
abbrev Made : List Product → List LinForm → List Row → Type 0
Made ps forms rows = map plain forms ≡ map (λ r. form_over ps r.form) rows

made_head : (ps : List Product) (f : LinForm) (forms : List LinForm) (r : Row) (rows : List Row) → Made ps (f ∷ forms) (r ∷ rows) → plain f ≡ form_over ps r.form
made_head ps f forms r rows e = cc

made_tail : (ps : List Product) (f : LinForm) (forms : List LinForm) (r : Row) (rows : List Row) → Made ps (f ∷ forms) (r ∷ rows) → Made ps forms rows
made_tail ps f forms r rows e = cc

made_length : (ps : List Product) (forms : List LinForm) (rows : List Row) → Made ps forms rows → length forms ≡ length (multipliers rows)
made_length ps [] [] e = refl
made_length ps [] (r ∷ rows) e = cc
made_length ps (f ∷ forms) [] e = cc
made_length ps (f ∷ forms) (r ∷ rows) e = ap suc (made_length ps forms rows (made_tail ps f forms r rows e))

products_are : (ps : List Product) (col : Option ℕ) (p : Product) → ((f : LinForm) (x : Inequality) → plain f ≡ form_over ps x → entry col f ≡ coefficient_of p x) →
    (forms : List LinForm) (rows : List Row) → Made ps forms rows → form_products col forms (multipliers rows) ≡ column rows p
products_are ps col p h [] [] e = refl
products_are ps col p h [] (r ∷ rows) e = cc
products_are ps col p h (f ∷ forms) [] e = cc
products_are ps col p h (f ∷ forms) (r ∷ rows) e =
    λ i. (pos r.by *ℤ h f r.form (made_head ps f forms r rows e) i) ∷ products_are ps col p h forms rows (made_tail ps f forms r rows e) i

constant_is : (ps : List Product) (f : LinForm) (x : Inequality) → plain f ≡ form_over ps x → entry None f ≡ coefficient_of [] x
constant_is ps f x e = ap (λ g. g.constant) e

nth_map : (c : Product → ℤ) (ps : List Product) (k : ℕ) → k < length ps → slice_index_or (map c ps) k (pos 0) ≡ c (slice_index_or ps k [])
nth_map c [] k h = absurd (omega arith)
nth_map c (p ∷ ps) zero h = refl
nth_map c (p ∷ ps) (suc k) h = nth_map c ps k (omega arith)

entry_is : (ps : List Product) (k : ℕ) → k < length ps → (f : LinForm) (x : Inequality) → plain f ≡ form_over ps x → entry (Some k) f ≡ coefficient_of (slice_index_or ps k []) x
entry_is ps k h f x e = ap (λ g. slice_index_or g.coefficients k (pos 0)) e ∙ nth_map (λ p. coefficient_of p x) ps k h

length_coefficients : (c : Product → ℤ) (ps : List Product) → length (map c ps) ≡ length ps
length_coefficients c [] = refl
length_coefficients c (p ∷ ps) = ap suc (length_coefficients c ps)

form_width : (ps : List Product) (f : LinForm) (x : Inequality) → plain f ≡ form_over ps x → length f.coeffs.items ≡ length ps
form_width ps f x e = ap (λ g. length g.coefficients) e ∙ length_coefficients (λ p. coefficient_of p x) ps

widths : (ps : List Product) (forms : List LinForm) (rows : List Row) → Made ps forms rows → (i : ℕ) (d : LinForm) → i < length forms → length (slice_index_or forms i d).coeffs.items ≡ length ps
widths ps [] rows e i d h = absurd (omega arith)
widths ps (f ∷ forms) [] e i d h = cc
widths ps (f ∷ forms) (r ∷ rows) e zero d h = form_width ps f r.form (made_head ps f forms r rows e)
widths ps (f ∷ forms) (r ∷ rows) e (suc i) d h = widths ps forms rows (made_tail ps f forms r rows e) i d (omega arith)

first_width : (ps : List Product) (forms : List LinForm) (rows : List Row) → Made ps forms rows → width forms ≤ length ps
first_width ps [] rows e = omega arith
first_width ps (f ∷ forms) [] e = cc
first_width ps (f ∷ forms) (r ∷ rows) e = let l = form_width ps f r.form (made_head ps f forms r rows e) in omega arith

all_width : (ps : List Product) (forms : List LinForm) (rows : List Row) → Made ps forms rows → HaveOneWidth forms
all_width ps [] rows e = λ i d h. absurd (omega arith)
all_width ps (f ∷ forms) [] e = cc
all_width ps (f ∷ forms) (r ∷ rows) e = λ i d h. widths ps (f ∷ forms) (r ∷ rows) e i d h ∙ sym (form_width ps f r.form (made_head ps f forms r rows e))

-- ---- columns by their numbers

index_of : (p : Product) (ps : List Product) → In p ps → (k : ℕ) × (k < length ps) × (slice_index_or ps k [] ≡ p)
index_of p [] i = absurd i
index_of p (q ∷ ps) (inl e) = (zero, omega arith, sym e)
index_of p (q ∷ ps) (inr i) = let r = index_of p ps i in (suc r.0, (let l = r.1 in omega arith), r.2)

nth_in : (ps : List Product) (k : ℕ) → k < length ps → In (slice_index_or ps k []) ps
nth_in [] k h = absurd (omega arith)
nth_in (p ∷ ps) zero h = inl refl
nth_in (p ∷ ps) (suc k) h = inr (nth_in ps k (omega arith))

all_true : (f : Product → Bool) (ps : List Product) → ((p : Product) → In p ps → f p ≡ true) → list_all f ps ≡ true
all_true f [] h = refl
all_true f (p ∷ ps) h = and_true (f p) (list_all f ps) (h p (inl refl)) (all_true f ps (λ q i. h q (inr i)))

each_true : (f : Product → Bool) (ps : List Product) → list_all f ps ≡ true → (p : Product) → In p ps → f p ≡ true
each_true f [] e p i = absurd i
each_true f (q ∷ ps) e p (inl g) = ap f g ∙ (both (f q) (list_all f ps) e).0
each_true f (q ∷ ps) e p (inr i) = each_true f ps (both (f q) (list_all f ps) e).1 p i

-- ---- tests

is_zero_at : (z : ℤ) → z ≡ pos 0 → is_zero z ≡ true
is_zero_at z e = ap is_zero e

one_from : (z : ℤ) → pos 1 ≤ℤ z → int_le (pos 1) z ≡ true
one_from z e = grind (arith, ints)

module _ (forms : List LinForm) (rows : List Row) (made : map plain forms ≡ forms_of rows) where
  abbrev by : List ℕ
  by = multipliers rows

  abbrev ps : List Product
  ps = variables_of rows

  -- The law: each form that is made of rows has one multiplier, and all have as many coefficients as each other.
  pub paired : length forms ≡ length (multipliers rows)
  paired = made_length ps forms rows made

  pub one_width : HaveOneWidth forms
  one_width = all_width ps forms rows made

  constants_are : form_products None forms by ≡ column rows []
  constants_are = products_are ps None [] (constant_is ps) forms rows made

  column_is : (k : ℕ) → k < length ps → form_products (Some k) forms by ≡ column rows (slice_index_or ps k [])
  column_is k h = products_are ps (Some k) (slice_index_or ps k []) (entry_is ps k h) forms rows made

  -- ---- within the range

  stays_in : (col : Option ℕ) (p : Product) → form_products col forms by ≡ column rows p → stays_within (pos 0) (column rows p) ≡ true → (i : ℕ) → i < length forms →
      StaysWithin col forms by i
  stays_in col p e s i h =
      let l = length-products col forms by paired in
      let w = stays_to (pos 0) (form_products col forms by) (ap (stays_within (pos 0)) e ∙ s) i (omega (arith, l)) in
      (w.0, subst (λ n. Fits128 (sum (take n (form_products col forms by)))) (sym (add-one i)) w.1)

  stays_if : (col : Option ℕ) (p : Product) → form_products col forms by ≡ column rows p → ((i : ℕ) → i < length forms → StaysWithin col forms by i) →
      stays_within (pos 0) (column rows p) ≡ true
  stays_if col p e h =
      let l = length-products col forms by paired in
      ap (stays_within (pos 0)) (sym e)
      ∙ stays_from (pos 0) (form_products col forms by)
      (λ i q. let w = h i (omega (arith, l)) in (w.0, subst (λ n. Fits128 (sum (take n (form_products col forms by)))) (add-one i) w.1))

  narrow_to : is_narrow rows ≡ true → IsNarrow forms by
  narrow_to e i None h = stays_in None [] constants_are (both (stays_within (pos 0) (column rows [])) (list_all (λ p. stays_within (pos 0) (column rows p)) ps) e).0 i h
  narrow_to e i (Some k) h =
      elim (cases_lt k (length ps)) [
        | inl l ↦ stays_in (Some k) (slice_index_or ps k []) (column_is k l)
            (each_true (λ p. stays_within (pos 0) (column rows p)) ps (both (stays_within (pos 0) (column rows [])) (list_all (λ p. stays_within (pos 0) (column rows p)) ps) e).1 (slice_index_or ps k []) (nth_in ps k l))
            i h
        | inr l ↦ let f = first_width ps forms rows made in beyond_stays forms by one_width k (omega arith) i
      ]

  narrow_from : IsNarrow forms by → is_narrow rows ≡ true
  narrow_from h =
      and_true (stays_within (pos 0) (column rows [])) (list_all (λ p. stays_within (pos 0) (column rows p)) ps) (stays_if None [] constants_are (λ i l. h i None l))
      (all_true (λ p. stays_within (pos 0) (column rows p)) ps (λ p i. let r = index_of p ps i in
      subst (λ q. stays_within (pos 0) (column rows q) ≡ true) r.2 (stays_if (Some r.0) (slice_index_or ps r.0 []) (column_is r.0 r.1) (λ j l. h j (Some r.0) l))))

  -- ---- sums

  cancels_to : list_all (λ x. is_zero (total (column rows x))) ps ≡ true → (k : ℕ) → Cancels forms by k
  cancels_to e k =
      elim (cases_lt k (length ps)) [
        | inl l ↦ ap sum (column_is k l) ∙ zero_is (total (column rows (slice_index_or ps k []))) (each_true (λ x. is_zero (total (column rows x))) ps e (slice_index_or ps k []) (nth_in ps k l))
        | inr l ↦ let f = first_width ps forms rows made in beyond_cancels forms by one_width k (omega arith)
      ]

  cancels_from : ((k : ℕ) → Cancels forms by k) → list_all (λ x. is_zero (total (column rows x))) ps ≡ true
  cancels_from h =
      all_true (λ x. is_zero (total (column rows x))) ps (λ p i. let r = index_of p ps i in
      subst (λ q. is_zero (total (column rows q)) ≡ true) r.2 (is_zero_at (total (column rows (slice_index_or ps r.0 []))) (ap sum (sym (column_is r.0 r.1)) ∙ h r.0)))

  -- ---- what is said

  refused_by : (a b : Bool) → is_narrow rows ≡ a → is_refutation rows ≡ b → refused_rows rows ≡ cond (not a) (Some R7) (cond (not b) (Some R6) None)
  refused_by a b e f = rw (e, f) refl

  wide_said : (i : ℕ) → IsFirstWide forms by i → refused_rows rows ≡ Some R7
  wide_said i w = from (is_narrow rows) refl
    where
      from : (a : Bool) → is_narrow rows ≡ a → refused_rows rows ≡ Some R7
      from true e = absurd (w.leaves (narrow_to e i w.column w.within))
      from false e = refused_by false (is_refutation rows) e refl

  refutes_said : IsRefutation forms by → refused_rows rows ≡ None
  refutes_said r =
      refused_by true true (narrow_from r.narrow)
      (and_true (list_all (λ x. is_zero (total (column rows x))) ps) (int_le (pos 1) (total (column rows []))) (cancels_from r.cancels)
      (one_from (total (column rows [])) (subst (λ z. pos 1 ≤ℤ z) (ap sum constants_are) r.positive)))

  fails_refuted : (v : Option ℕ) (s : ℤ) → FailsFirstAt forms by v s → is_refutation rows ≡ true → ⊥
  fails_refuted (Some k) s f e =
      let c = cancels_to (both (list_all (λ x. is_zero (total (column rows x))) ps) (int_le (pos 1) (total (column rows []))) e).0 k in
      f.1 (sym f.0 ∙ c)
  fails_refuted None s f e =
      let p = one_is (total (column rows [])) (both (list_all (λ x. is_zero (total (column rows x))) ps) (int_le (pos 1) (total (column rows []))) e).1 in
      let q = ap sum constants_are in
      let r = f.0 in
      let l = f.1 in
      omega (arith, ints, p, q, r, l)

  not_said : (v : Option ℕ) (s : ℤ) → IsNarrow forms by → FailsFirstAt forms by v s → refused_rows rows ≡ Some R6
  not_said v s n f = from (is_refutation rows) refl
    where
      from : (b : Bool) → is_refutation rows ≡ b → refused_rows rows ≡ Some R6
      from true e = absurd (fails_refuted v s f e)
      from false e = refused_by true false (narrow_from n) e

  -- The law: what is refused of the rows is as the check of their forms answers.
  pub said_is : (r : LinSaid) → ((i : ℕ) → (r ≡ said.Wide i) ↔ IsFirstWide forms (multipliers rows) i) → ((r ≡ said.Refutes) ↔ IsRefutation forms (multipliers rows)) →
      ((v : Option ℕ) (s : ℤ) → (r ≡ said.Not v s) ↔ (IsNarrow forms (multipliers rows) × FailsFirstAt forms (multipliers rows) v s)) → refused_rows rows ≡ code_of r
  said_is (said.Wide i) w f n = wide_said i ((w i).0 refl)
  said_is said.Refutes w f n = refutes_said (f.0 refl)
  said_is (said.Not v s) w f n = let h = (n v s).0 refl in not_said v s h.0 h.1
