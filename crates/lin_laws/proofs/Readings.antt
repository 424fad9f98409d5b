-- A reading says what its comparison says, in every environment that fits the scope.
use Rattle.std.proofs.Common.{◌≡◌, ◌↔◌, ℕ, ◌+◌, ◌≤◌, Bool, true, false, cond, ℤ, pos, ◌≤ℤ◌, Ok, Err, refl, ap, subst, arith}
use Rattle.std.specs.List.{list_all}
use Rattle.tht_tree.specs.declared.plain.Sort.TheVariants as sort
use Rattle.tht_tree.specs.declared.term.Term.{Term}
use Rattle.tht_tree.specs.Values.{Val, Env, nat_of}
use Rattle.tht_tree.specs.Syntax.{Names}
use Rattle.tht_tree.specs.Rules.Context.{Scope}
use Rattle.tht_tree.specs.Terms.{value}
use Rattle.tht_tree.specs.Rules.Scoping.{sort_of}
use Rattle.tht_tree.specs.Normal.Sums.{number, Sum}
use Rattle.tht_tree.specs.declared.form.Form.{Form}
use Rattle.tht_tree.specs.Normal.Forms.{Answer, sum_in, normal}
use Rattle.tht_tree.specs.declared.form.NormalEnd.TheVariants.{Wide}
use Rattle.tht_tree.specs.declared.form.Comparison.{Comparison}
use Rattle.tht_tree.specs.Normal.Linear.{Inequality, take_away, left_side, is_i128, Reading, in_range, with_form, reading}
use Rattle.normal_laws.proofs.OrderTells.{products_tell}
use Rattle.normal_laws.proofs.SumValues.{sum_value}
use Rattle.normal_laws.proofs.SumsAscend.{Ascends, plus_ascends}
use Rattle.normal_laws.proofs.FormValues.{n_of, Means}
use Rattle.normal_laws.proofs.NormalSteps.{an_answer}
use Rattle.normal_laws.proofs.NormalValues.{Has, Fits, keeps_value}
use Rattle.normal_laws.proofs.LinearValues.{one_if, inequality_says}
use Rattle.proof_laws.proofs.LinNeeds.{HasSides, Compares, Says}
use Rattle.lin_laws.proofs.Columns.{Ascending, products}
use Rattle.lin_laws.proofs.Values.{worth}
use Rattle.lin_laws.proofs.NormalAscends.{Good, normal_ascends}
use Rattle.lin_laws.proofs.TakeAway.{take_away_ascends, whole, worth_says}
use Rattle.tht_tree.specs.declared.form.Form.TheVariants as form
use Rattle.tht_tree.specs.declared.form.PlaceForm.TheVariants as place

-- ---- what a reading is made of

abbrev pub a_reading : Inequality → Reading
a_reading xs = Ok xs

-- the normal forms of two sides, and the inequality that is made of them
pub record MadeOf (a b : Answer) (make : Form → Form → Inequality) (xs : Inequality) : Type 0 where
  pub left : Form
  pub right : Form
  pub left_is : a ≡ an_answer left
  pub right_is : b ≡ an_answer right
  pub is : make left right ≡ xs

in_range_is : (xs ys : Inequality) → in_range xs ≡ a_reading ys → xs ≡ ys
in_range_is xs ys = by (list_all (λ x. is_i128 x.coefficient) xs)
  where
    by : (c : Bool) → cond c (Ok xs) (Err Wide) ≡ a_reading ys → xs ≡ ys
    by true e = cc
    by false e = cc

made_of : (a b : Answer) (make : Form → Form → Inequality) (xs : Inequality) → with_form a (λ m. with_form b (λ n. in_range (make m n))) ≡ a_reading xs → MadeOf a b make xs
made_of (Ok m) (Ok n) make xs e = record { left = m; right = n; left_is = refl; right_is = refl; is = in_range_is (make m n) xs e }
made_of (Ok m) (Err d) make xs e = cc
made_of (Err d) b make xs e = cc

abbrev difference : Bool → Form → Form → Inequality
difference strict m n = take_away (left_side strict (sum_in m)) (sum_in n)

read_from : (scope : Scope) (c : Comparison) (xs : Inequality) → reading scope c ≡ a_reading xs → MadeOf (normal scope c.left) (normal scope c.right) (difference c.strict) xs
read_from scope c xs e = made_of (normal scope c.left) (normal scope c.right) (difference c.strict) xs e

-- ---- its products

side_ascends : (strict : Bool) (p : Sum) → Ascends p → Ascends (left_side strict p)
side_ascends true p h = plus_ascends (number 1) p (tt, tt) h
side_ascends false p h = h

-- The law: the products of a reading strictly ascend.
pub reading_ascends : (scope : Scope) (c : Comparison) (xs : Inequality) → reading scope c ≡ a_reading xs → Ascending (products xs)
reading_ascends scope c xs e =
    let made = read_from scope c xs e in
    let left : Ascends (sum_in made.left) = subst Good made.left_is (normal_ascends scope c.left) in
    let right : Ascends (sum_in made.right) = subst Good made.right_is (normal_ascends scope c.right) in
    subst (λ z. Ascending (products z)) made.is (take_away_ascends (left_side c.strict (sum_in made.left)) (sum_in made.right) (side_ascends c.strict (sum_in made.left) left) right)

-- ---- what it says

compares_by : (v : Term → ℕ) (strict : Bool) (m n : ℕ) → (one_if v products_tell strict + m ≤ n) ↔ Compares strict m n
compares_by v true m n = (λ h. omega arith, λ h. omega arith)
compares_by v false m n = (λ h. omega arith, λ h. omega arith)

module _ (roots : Names) (scope : Scope) (env : Env) (fits : Fits roots scope env) where
  abbrev v : Term → ℕ
  v = n_of roots env

  -- the number that a normal form means
  number_is : (m : Form) (x : Val) → Means roots env m x → nat_of x ≡ sum_value v (sum_in m)
  number_is (form.Nat p) x e = ap nat_of e
  number_is (form.Seq xs) x e = ap nat_of e
  number_is (form.Loc place.Null) x e = ap nat_of e
  number_is (form.Loc (place.Root r)) x e = ap nat_of e.2
  number_is (form.Loc (place.At y k)) x e = ap nat_of e
  number_is form.Unit x e = ap nat_of e
  number_is (form.Bool u) x e = ap nat_of e.1

  side_is : (u : Term) (m : Form) → Has (sort_of roots scope u) → normal scope u ≡ an_answer m → v u ≡ sum_value v (sum_in m)
  side_is u m h e = number_is m (value roots env u) (keeps_value roots scope env fits u h m e)

  -- the values of the products that this environment gives
  abbrev pub of_env : Inequality → ℤ
  of_env = worth (whole v)

  both_ways : {A B C D : Type 0} → (A ↔ B) → (B ↔ C) → (C ↔ D) → (A ↔ D)
  both_ways f g h = (λ a. h.0 (g.0 (f.0 a)), λ d. f.1 (g.1 (h.1 d)))

  -- The law: the reading of a comparison is at most 0 where the comparison is true.
  pub reading_says : (c : Comparison) → HasSides roots scope c → (xs : Inequality) → reading scope c ≡ a_reading xs → (of_env xs ≤ℤ pos 0) ↔ Says roots env c
  reading_says c s xs e =
      let made = read_from scope c xs e in
      let left = side_is c.left made.left (sort.Nat, s.left) made.left_is in
      let right = side_is c.right made.right (sort.Nat, s.right) made.right_is in
      subst (λ z. (of_env z ≤ℤ pos 0) ↔ Says roots env c) made.is
      (both_ways (worth_says v (difference c.strict made.left made.right)) (inequality_says v products_tell c.strict (sum_in made.left) (sum_in made.right))
      (subst (λ z. (one_if v products_tell c.strict + z ≤ sum_value v (sum_in made.right)) ↔ Says roots env c) left
      (subst (λ z. (one_if v products_tell c.strict + v c.left ≤ z) ↔ Says roots env c) right
      (compares_by v c.strict (v c.left) (v c.right)))))
