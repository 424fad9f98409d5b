-- Rows that are not refused are sound: no values of products make every inequality with a positive multiplier true.
use Rattle.std.proofs.Common.{◌≡◌, inl, inr, Bool, true, false, not, ◌&&◌, cond, ℤ, pos, ◌+ℤ◌, ◌*ℤ◌, ◌≤ℤ◌, List, [], ◌∷◌, map, Option, Some, None, refl, sym, ◌∙◌, ap, arith}
use Rattle.std.specs.Prelude.{int_le}
use Rattle.std.specs.List.{list_all}
use Rattle.std.proofs.lemmas.Int.{ints}
use Rattle.tht_tree.specs.Normal.Sums.{Product}
use Rattle.tht_tree.specs.Normal.Linear.{Inequality, coefficient_of}
use Rattle.tht_tree.specs.declared.rule.RuleCode.{RuleCode}
use Rattle.tht_tree.specs.declared.rule.RuleCode.TheVariants.{R6, R7}
use Rattle.tht_tree.specs.Rules.Inequalities.{Row, variables_of, column, total, is_narrow, is_zero, is_refutation, refused_rows}
use Rattle.lin_laws.proofs.Columns.{In, Each, AllAscend}
use Rattle.lin_laws.proofs.Values.{worth, across, across-same, across-zero, across-is, one_times, all_columns, all_ascend, all_cover, OneOf}
use Rattle.lin_laws.proofs.Weights.{weigh, column-is, weigh-same, weigh-across, weigh_nonpos, AllBy}

-- ---- what it says that nothing is refused

abbrev no_code : Option RuleCode
no_code = None

refuted_by : (a b : Bool) → cond (not a) (Some R7) (cond (not b) (Some R6) None) ≡ no_code → b ≡ true
refuted_by true true e = refl
refuted_by true false e = cc
refuted_by false b e = cc

pub both : (a b : Bool) → (a && b) ≡ true → (a ≡ true) × (b ≡ true)
both true true e = (refl, refl)
both true false e = cc
both false b e = cc

pub zero_is : (z : ℤ) → is_zero z ≡ true → z ≡ pos 0
zero_is z e =
    let h = both (int_le z (pos 0)) (int_le (pos 0) z) e in
    let low = h.0 in
    let high = h.1 in
    grind (arith, ints)

pub one_is : (z : ℤ) → int_le (pos 1) z ≡ true → pos 1 ≤ℤ z
one_is z e = grind (arith, ints)

each_zero : (f : Product → ℤ) (ps : List Product) → list_all (λ p. is_zero (f p)) ps ≡ true → (p : Product) → In p ps → f p ≡ pos 0
each_zero f [] e p i = absurd i
each_zero f (q ∷ ps) e p (inl g) = ap f g ∙ zero_is (f q) (both (is_zero (f q)) (list_all (λ p. is_zero (f p)) ps) e).0
each_zero f (q ∷ ps) e p (inr i) = each_zero f ps (both (is_zero (f q)) (list_all (λ p. is_zero (f p)) ps) e).1 p i

-- ---- all inequalities

abbrev inequalities : List Row → List Inequality
inequalities = map (λ r. r.form)

each_is : (w : Product → ℤ) (all : List Inequality) → AllAscend all → (rows : List Row) → AllAscend (inequalities rows) → ((x : Inequality) → OneOf x (inequalities rows) → OneOf x all) →
    Each (λ r. worth w r.form ≡ across w (λ p. coefficient_of p r.form) (all_columns all)) rows
each_is w all a [] b h = tt
each_is w all a (r ∷ rows) b h =
    (sym (across-is w (all_columns all) (all_ascend all a) r.form b.0 (all_cover all r.form (h r.form (inl refl)))), each_is w all a rows b.1 (λ y o. h y (inr o)))

module _ (w : Product → ℤ) (one : w [] ≡ pos 1) where
  -- what the sums of all inequalities add up to, where each variable cancels out
  added_up : (rows : List Row) → AllAscend (inequalities rows) → ((p : Product) → In p (variables_of rows) → weigh (coefficient_of p) rows ≡ pos 0) →
      weigh (worth w) rows ≡ weigh (coefficient_of []) rows *ℤ w []
  added_up rows a z =
      weigh-same (worth w) (λ x. across w (λ p. coefficient_of p x) (all_columns (inequalities rows))) rows (each_is w (inequalities rows) a rows a (λ x o. o))
      ∙ weigh-across w (all_columns (inequalities rows)) rows
      ∙ ap (λ s. weigh (coefficient_of []) rows *ℤ w [] +ℤ s) (across-same w (λ p. weigh (coefficient_of p) rows) (λ p. pos 0) (variables_of rows) z ∙ across-zero w (variables_of rows))
      ∙ no_more (weigh (coefficient_of []) rows *ℤ w [])
    where
      no_more : (a : ℤ) → a +ℤ pos 0 ≡ a
      no_more a = omega (arith, ints)

  -- The law: the inequalities of rows that are not refused, with positive multipliers, are not all true.
  pub rows_sound : (rows : List Row) → AllAscend (map (λ r. r.form) rows) → refused_rows rows ≡ no_code → AllBy (λ x. worth w x ≤ℤ pos 0) rows → ⊥
  rows_sound rows a e h =
      let r = both (list_all (λ x. is_zero (total (column rows x))) (variables_of rows)) (int_le (pos 1) (total (column rows []))) (refuted_by (is_narrow rows) (is_refutation rows) e) in
      let whole = added_up rows a (λ p i. sym (column-is p rows) ∙ each_zero (λ q. total (column rows q)) (variables_of rows) r.0 p i) in
      let constants = column-is [] rows in
      let times = one_times (weigh (coefficient_of []) rows) (w []) one in
      let low : weigh (worth w) rows ≤ℤ pos 0 = weigh_nonpos (worth w) rows h in
      let high = one_is (total (column rows [])) r.1 in
      omega (arith, ints, whole, constants, times, low, high)
