-- Each operation on normal forms answers a form of the value that the operation gives.
use Rattle.std.proofs.Common.{◌≡◌, ℕ, zero, suc, ◌+◌, ◌*◌, ◌-◌, ◌==◌, ◌≤◌, nat_lt, nat_le, Bool, true, false, cond, not, ◌&&◌, ◌||◌, List, [], ◌∷◌, ◌++◌, length, map, Option, Some, None, Ok, Err, refl, sym, ◌∙◌, ap, subst, arith, length-append, append_assoc, bytes_eq}
use Rattle.std.specs.List.{list_any}
use Rattle.std.proofs.lemmas.Bool.{eqb-true, eq-eqb}
use Rattle.std.proofs.lemmas.Bool.Decides.{nat_tests}
use Rattle.std.proofs.lemmas.Slice.Eq.{bytes_eq-Decides}
use Rattle.tht_tree.specs.declared.plain.Place.TheVariants.{Null, Root}
use Rattle.tht_tree.specs.declared.plain.Value.{Value}
use Rattle.tht_tree.specs.declared.plain.Value.TheVariants as v
use Rattle.tht_tree.specs.declared.term.Term.{Term, out-Term, roll-Term, roll-out-Term}
use Rattle.tht_tree.specs.declared.term.Term.TheVariants as t
use Rattle.tht_tree.specs.declared.term.Term.TheOpen.{Term-F}
use Rattle.tht_tree.specs.declared.term.Term.TheOpen as f
use Rattle.tht_tree.specs.Values.{Val, is, seq as a_seq, same_val, same_value, same_bool, Env}
use Rattle.tht_tree.specs.Syntax.{Names, position, add, sub, mul, cons, cat, eq, lt, le, conj, disj, imp}
use Rattle.tht_tree.specs.SameTree.{same_of}
use Rattle.tht_tree.proofs.Cells.{same_here}
use Rattle.tht_tree.proofs.SameTerm.{same_of-true}
use Rattle.tht_tree.specs.Values.{nat_of, bool_of, place_of, seq_of, a_nat, a_bool, a_place}
use Rattle.tht_tree.specs.Terms.{offset_by, implies, apply}
use Rattle.tht_tree.specs.Normal.Sums.{Product, Sum, atom, plus, times, minus_by, minus, number_at, number_in, sum_term}
use Rattle.tht_tree.specs.declared.form.Form.{Form}
use Rattle.tht_tree.specs.declared.form.Form.TheVariants.{Nat as nat, Seq as seq, Loc as loc, Unit as unit, Bool as bool}
use Rattle.tht_tree.specs.declared.form.Item.{Item}
use Rattle.tht_tree.specs.declared.form.Item.TheVariants.{One as one, All as all}
use Rattle.tht_tree.specs.declared.form.NormalEnd.TheVariants.{Large, Wide}
use Rattle.tht_tree.specs.declared.form.PlaceForm.TheVariants.{Null as null, Root as root, At as at}
use Rattle.tht_tree.specs.Normal.Forms.{Answer, term_of, sum_in, items_in, place_form_in, formula_in, most_monomials, is_wide, within, product_within, item_length, items_length, moved, truth_at, truth, literal, not_by, negated, and_by, or_by, imp_by, iff_by, is_some_literal, is_literal, kept_equation, equation, less_by, less, at_most_by, at_most}
use Rattle.normal_laws.proofs.PairsValue.{total}
use Rattle.normal_laws.proofs.SumValues.{plus_value, times_value, sum_of_value, number_value, atom_value, number_in_value}
use Rattle.normal_laws.proofs.OrderTells.{products_tell}
use Rattle.normal_laws.proofs.TermLevels.{computing}
use Rattle.normal_laws.proofs.TermMeanings.{value-True, value-False, value-Len, value-Sub, value-Eq, value-Lt, value-Le, value-Not, value-And, value-Or, value-Imp}
use Rattle.normal_laws.proofs.FormValues.{offset_twice, of, n_of, worth, sum_term_value, items_value, Means, term_of_is}

-- ---- values that are the same

same_value-refl : (w : Value) → same_value w w ≡ true
same_value-refl (v.Nat n) = eq-eqb n n refl
same_value-refl (v.Bool true) = refl
same_value-refl (v.Bool false) = refl
same_value-refl (v.Loc p) = same_here p
same_value-refl v.Unit = refl

same_val-refl : (w : Val) → same_val w w ≡ true
same_val-refl (is w) = same_value-refl w
same_val-refl (a_seq s) = (bytes_eq-Decides s s).1 refl

-- ---- literals

literal_from : (x : Term-F Term) (b : Bool) → truth_at x ≡ Some b → roll-Term x ≡ literal b
literal_from f.True true e = t.rolls-True
literal_from f.False false e = t.rolls-False
literal_from f.True false e = cc
literal_from f.False true e = cc
literal_from _ b e = cc

pub truth_literal : (u : Term) (b : Bool) → truth u ≡ Some b → u ≡ literal b
truth_literal u b e = sym (roll-out-Term u) ∙ literal_from (out-Term u) b e

number_term : (p : Sum) (n : ℕ) → number_in p ≡ Some n → sum_term p ≡ t.Num n
number_term [] n e = let g : 0 ≡ n = cc in ap t.Num g
number_term (m ∷ []) n e = one_term m.coefficient m.atoms e
  where
    one_term : (c : ℕ) (xs : Product) → number_at c xs ≡ Some n → sum_term (record { coefficient = c; atoms = xs } ∷ []) ≡ t.Num n
    one_term c [] e = let g : c ≡ n = cc in ap t.Num g
    one_term c (x ∷ xs) e = cc
number_term (m ∷ k ∷ p) n e = cc

-- ---- what is within the limits

abbrev pub an_answer : Form → Answer
an_answer k = Ok k

pub ok_is : (m n : Form) → an_answer m ≡ an_answer n → m ≡ n
ok_is m n e = cc

within_by : (c d : Bool) (p : Sum) (k : Form) → cond c (Err Large) (cond d (Err Wide) (Ok (nat p))) ≡ an_answer k → k ≡ nat p
within_by true d p k e = cc
within_by false true p k e = cc
within_by false false p k e = sym (ok_is (nat p) k e)

pub within_is : (p : Sum) (k : Form) → within p ≡ an_answer k → k ≡ nat p
within_is p k e = within_by (nat_lt most_monomials (length p)) (list_any (λ m. is_wide m.coefficient) p) p k e

product_by : (c : Bool) (a : Answer) (k : Form) → cond c (Err Large) a ≡ an_answer k → a ≡ an_answer k
product_by true a k e = cc
product_by false a k e = e

pub product_is : (p q : Sum) (k : Form) → product_within p q ≡ an_answer k → k ≡ nat (times p q)
product_is p q k e = within_is (times p q) k (product_by (nat_lt most_monomials (length p * length q)) (within (times p q)) k e)

wide_by : (c : Bool) (m k : Form) → cond c (Err Wide) (Ok m) ≡ an_answer k → k ≡ m
wide_by true m k e = cc
wide_by false m k e = sym (ok_is m k e)

-- ---- roots

some_is : (a b : ℕ) → Some a ≡ Some b → a ≡ b
some_is a b e = cc

bound_from : (k : ℕ) (xs : Names) (x : List ℕ) (r : ℕ) → position k xs x ≡ Some r → k ≤ r
bound_from k [] x r e = cc
bound_from k (y ∷ ys) x r e = by (bytes_eq y x) (bound_from (suc k) ys x r) e
  where
    by : (c : Bool) → (position (suc k) ys x ≡ Some r → suc k ≤ r) → cond c (Some k) (position (suc k) ys x) ≡ Some r → k ≤ r
    by true l h = let g : k ≡ r = some_is k r h in omega arith
    by false l h = let g : suc k ≤ r = l h in omega arith

-- two names at one place are one name
one_name : (k : ℕ) (xs : Names) (x y : List ℕ) (r : ℕ) → position k xs x ≡ Some r → position k xs y ≡ Some r → x ≡ y
one_name k [] x y r e g = cc
one_name k (z ∷ zs) x y r e g = by (bytes_eq z x) (bytes_eq z y) refl refl (one_name (suc k) zs x y r) e g
  where
    by : (c d : Bool) → bytes_eq z x ≡ c → bytes_eq z y ≡ d → (position (suc k) zs x ≡ Some r → position (suc k) zs y ≡ Some r → x ≡ y) →
        cond c (Some k) (position (suc k) zs x) ≡ Some r → cond d (Some k) (position (suc k) zs y) ≡ Some r → x ≡ y
    by true true c d l e g = sym ((bytes_eq-Decides z x).0 c) ∙ (bytes_eq-Decides z y).0 d
    by true false c d l e g =
        let h : k ≡ r = some_is k r e in
        let l : suc k ≤ r = bound_from (suc k) zs y r g in
        absurd (omega arith)
    by false true c d l e g =
        let h : k ≡ r = some_is k r g in
        let l : suc k ≤ r = bound_from (suc k) zs x r e in
        absurd (omega arith)
    by false false c d l e g = l e g

-- ---- the two sides of a test

both_true : (a b : Bool) → (a && b) ≡ true → (a ≡ true) × (b ≡ true)
both_true true b e = (refl, e)
both_true false b e = cc

some_of : {A : Type 0} (o : Option A) → is_some_literal o ≡ true → (z : A) × (o ≡ Some z)
some_of None e = cc
some_of (Some z) e = (z, refl)

and_last : (a : Bool) → a ≡ (a && true)
and_last true = refl
and_last false = refl

and_none : (a : Bool) → false ≡ (a && false)
and_none true = refl
and_none false = refl

or_last : (a : Bool) → a ≡ (a || false)
or_last true = refl
or_last false = refl

or_all : (a : Bool) → true ≡ (a || true)
or_all true = refl
or_all false = refl

imp_last : (a : Bool) → not a ≡ implies a false
imp_last true = refl
imp_last false = refl

imp_all : (a : Bool) → true ≡ implies a true
imp_all true = refl
imp_all false = refl

iff_last : (a : Bool) → a ≡ same_bool a true
iff_last true = refl
iff_last false = refl

iff_not : (a : Bool) → not a ≡ same_bool a false
iff_not true = refl
iff_not false = refl

not_less : (n : ℕ) → nat_lt n n ≡ false
not_less n = grind (arith, nat_tests)

at_most_itself : (n : ℕ) → nat_le n n ≡ true
at_most_itself n = grind (arith, nat_tests)

from_zero : (n : ℕ) → nat_le 0 n ≡ true
from_zero n = grind (arith, nat_tests)

same_number : (m n : ℕ) → same_of (t.Num m) (t.Num n) ≡ (m == n)
same_number m n = simp computing

same_name : (x y : List ℕ) → same_of (t.Var x) (t.Var y) ≡ bytes_eq x y
same_name x y = simp computing

same_null : same_of t.Null t.Null ≡ true
same_null = simp computing

same_literal : (a : Bool) → same_of (literal a) (literal a) ≡ true
same_literal true = simp computing
same_literal false = simp computing

other_bool : (a b : Bool) → same_of (literal a) (literal b) ≡ false → same_bool a b ≡ false
other_bool true true e = let h = sym (same_literal true) ∙ e in cc
other_bool true false e = refl
other_bool false true e = refl
other_bool false false e = let h = sym (same_literal false) ∙ e in cc

module _ (roots : Names) (env : Env) where
  abbrev val : Term → Val
  val = of roots env

  abbrev sum_is : Sum → ℕ
  sum_is = worth roots env

  abbrev M : Form → Val → Type 0
  M = Means roots env

  -- ---- a form as one of a sort

  number_is : (m : Form) (x : Val) → M m x → nat_of x ≡ sum_is (sum_in m)
  number_is (nat p) x e = ap nat_of e
  number_is (seq xs) x e = ap nat_of e
  number_is (loc null) x e = ap nat_of e
  number_is (loc (root r)) x e = ap nat_of e.2
  number_is (loc (at y k)) x e = ap nat_of e
  number_is unit x e = ap nat_of e
  number_is (bool u) x e = ap nat_of e.1

  items_are : (m : Form) (x : Val) → M m x → seq_of x ≡ items_value roots env (items_in m)
  items_are (nat p) x e = ap seq_of e
  items_are (seq xs) x e = ap seq_of e
  items_are (loc null) x e = ap seq_of e
  items_are (loc (root r)) x e = ap seq_of e.2
  items_are (loc (at y k)) x e = ap seq_of e
  items_are unit x e = ap seq_of e
  items_are (bool u) x e = ap seq_of e.1

  formula_is : (m : Form) (x : Val) → M m x → val (formula_in m) ≡ a_bool (bool_of x)
  formula_is (nat p) x e = value-False roots env ∙ ap a_bool (sym (ap bool_of e))
  formula_is (seq xs) x e = value-False roots env ∙ ap a_bool (sym (ap bool_of e))
  formula_is (loc null) x e = value-False roots env ∙ ap a_bool (sym (ap bool_of e))
  formula_is (loc (root r)) x e = value-False roots env ∙ ap a_bool (sym (ap bool_of e.2))
  formula_is (loc (at y k)) x e = value-False roots env ∙ ap a_bool (sym (ap bool_of e))
  formula_is unit x e = value-False roots env ∙ ap a_bool (sym (ap bool_of e))
  formula_is (bool u) x e = e.2 ∙ ap a_bool (sym (ap bool_of e.1))

  -- ---- numbers

  a_number : (k : Form) (p : Sum) (w : Val) → k ≡ nat p → w ≡ a_nat (sum_is p) → M k w
  a_number k p w e h = subst (λ z. M z w) (sym e) h

  pub add_means : (m n : Form) (x y : Val) → M m x → M n y → (k : Form) → within (plus (sum_in m) (sum_in n)) ≡ an_answer k → M k (apply add x y)
  add_means m n x y a b k e =
      a_number k (plus (sum_in m) (sum_in n)) (apply add x y) (within_is (plus (sum_in m) (sum_in n)) k e)
      ((λ i. a_nat (number_is m x a i + number_is n y b i)) ∙ ap a_nat (sym (plus_value (n_of roots env) products_tell (sum_in m) (sum_in n))))

  pub mul_means : (m n : Form) (x y : Val) → M m x → M n y → (k : Form) → product_within (sum_in m) (sum_in n) ≡ an_answer k → M k (apply mul x y)
  mul_means m n x y a b k e =
      a_number k (times (sum_in m) (sum_in n)) (apply mul x y) (product_is (sum_in m) (sum_in n) k e)
      ((λ i. a_nat (number_is m x a i * number_is n y b i)) ∙ ap a_nat (sym (times_value (n_of roots env) products_tell (sum_in m) (sum_in n))))

  difference_value : (p q : Sum) → sum_is (atom (t.Sub (sum_term p) (sum_term q))) ≡ sum_is p - sum_is q
  difference_value p q =
      atom_value (n_of roots env) (t.Sub (sum_term p) (sum_term q))
      ∙ ap nat_of (value-Sub roots env (sum_term p) (sum_term q))
      ∙ (λ i. sum_term_value roots env p i - sum_term_value roots env q i)

  minus_by_value : (o r : Option ℕ) (p q : Sum) → number_in p ≡ o → number_in q ≡ r → sum_is (minus_by o r p q) ≡ sum_is p - sum_is q
  minus_by_value (Some m) (Some n) p q e g =
      number_value (n_of roots env) (m - n) ∙ (λ i. sym (number_in_value (n_of roots env) p m e) i - sym (number_in_value (n_of roots env) q n g) i)
  minus_by_value None (Some zero) p q e g = let none : sum_is q ≡ 0 = number_in_value (n_of roots env) q 0 g in omega arith
  minus_by_value _ _ p q e g = difference_value p q

  pub sub_means : (m n : Form) (x y : Val) → M m x → M n y → (k : Form) → within (minus (sum_in m) (sum_in n)) ≡ an_answer k → M k (apply sub x y)
  sub_means m n x y a b k e =
      a_number k (minus (sum_in m) (sum_in n)) (apply sub x y) (within_is (minus (sum_in m) (sum_in n)) k e)
      ((λ i. a_nat (number_is m x a i - number_is n y b i)) ∙ ap a_nat (sym (minus_by_value (number_in (sum_in m)) (number_in (sum_in n)) (sum_in m) (sum_in n) refl refl)))

  -- ---- sequences

  item_value : (x : Item) (rest : List Item) → sum_is (item_length x) + length (items_value roots env rest) ≡ length (items_value roots env (x ∷ rest))
  item_value (one p) rest = rw (number_value (n_of roots env) 1) (omega arith)
  item_value (all y) rest =
      ap (λ z. z + length (items_value roots env rest)) (atom_value (n_of roots env) (t.Len (t.Var y)) ∙ ap nat_of (value-Len roots env (t.Var y)))
      ∙ sym (length-append (seq_of (val (t.Var y))) (items_value roots env rest))

  lengths : (xs : List Item) → total sum_is (λ a b. a + b) 0 (map item_length xs) ≡ length (items_value roots env xs)
  lengths [] = refl
  lengths (x ∷ xs) = ap (λ z. sum_is (item_length x) + z) (lengths xs) ∙ item_value x xs

  pub len_means : (m : Form) (x : Val) → M m x → (k : Form) → within (items_length (items_in m)) ≡ an_answer k → M k (a_nat (length (seq_of x)))
  len_means m x a k e =
      a_number k (items_length (items_in m)) (a_nat (length (seq_of x))) (within_is (items_length (items_in m)) k e)
      (ap (λ s. a_nat (length s)) (items_are m x a) ∙ ap a_nat (sym (sum_of_value (n_of roots env) products_tell (map item_length (items_in m)) ∙ lengths (items_in m))))

  items_append : (xs ys : List Item) → items_value roots env (xs ++ ys) ≡ items_value roots env xs ++ items_value roots env ys
  items_append [] ys = refl
  items_append (one p ∷ xs) ys = ap (λ s. sum_is p ∷ s) (items_append xs ys)
  items_append (all x ∷ xs) ys = ap (λ s. seq_of (val (t.Var x)) ++ s) (items_append xs ys) ∙ sym (append_assoc (seq_of (val (t.Var x))) (items_value roots env xs) (items_value roots env ys))

  pub cons_means : (m n : Form) (x y : Val) → M m x → M n y → (k : Form) → an_answer (seq (one (sum_in m) ∷ items_in n)) ≡ an_answer k → M k (apply cons x y)
  cons_means m n x y a b k e = subst (λ z. M z (apply cons x y)) (ok_is (seq (one (sum_in m) ∷ items_in n)) k e) (λ i. a_seq (number_is m x a i ∷ items_are n y b i))

  pub cat_means : (m n : Form) (x y : Val) → M m x → M n y → (k : Form) → an_answer (seq (items_in m ++ items_in n)) ≡ an_answer k → M k (apply cat x y)
  cat_means m n x y a b k e =
      subst (λ z. M z (apply cat x y)) (ok_is (seq (items_in m ++ items_in n)) k e) ((λ i. a_seq (items_are m x a i ++ items_are n y b i)) ∙ ap a_seq (sym (items_append (items_in m) (items_in n))))

  -- ---- places

  null_means : (k : ℕ) (n : Form) (w : Val) → an_answer (loc null) ≡ an_answer n → w ≡ a_place Null → M n w
  null_means k n w e h = subst (λ z. M z w) (ok_is (loc null) n e) h

  root_means : (c : Bool) (y : List ℕ) (r : ℕ) → position 0 roots y ≡ Some r → M (loc (cond c (root y) null)) (a_place (cond c (Root r) Null))
  root_means true y r h = (r, h, refl)
  root_means false y r h = refl

  pub moved_means : (k : ℕ) (m : Form) (x : Val) → M m x → (n : Form) → moved k (place_form_in m) ≡ an_answer n → M n (a_place (offset_by k (place_of x)))
  moved_means k (nat p) x a n e = null_means k n (a_place (offset_by k (place_of x))) e (λ i. a_place (offset_by k (place_of (a i))))
  moved_means k (seq xs) x a n e = null_means k n (a_place (offset_by k (place_of x))) e (λ i. a_place (offset_by k (place_of (a i))))
  moved_means k (loc null) x a n e = null_means k n (a_place (offset_by k (place_of x))) e (λ i. a_place (offset_by k (place_of (a i))))
  moved_means k (loc (root y)) x a n e =
      let there : M (loc (cond (k == 0) (root y) null)) (a_place (offset_by k (place_of x))) =
      subst (λ w. M (loc (cond (k == 0) (root y) null)) (a_place (offset_by k (place_of w)))) (sym a.2) (root_means (k == 0) y a.0 a.1) in
      subst (λ z. M z (a_place (offset_by k (place_of x)))) (ok_is (loc (cond (k == 0) (root y) null)) n e) there
  moved_means k (loc (at y m)) x a n e =
      subst (λ z. M z (a_place (offset_by k (place_of x)))) (sym (wide_by (is_wide (m + k)) (loc (at y (m + k))) n e))
      ((λ i. a_place (offset_by k (place_of (a i)))) ∙ ap a_place (offset_twice (place_of (val (t.Var y))) m k))
  moved_means k unit x a n e = null_means k n (a_place (offset_by k (place_of x))) e (λ i. a_place (offset_by k (place_of (a i))))
  moved_means k (bool u) x a n e = null_means k n (a_place (offset_by k (place_of x))) e (λ i. a_place (offset_by k (place_of (a.1 i))))

  -- ---- connectives

  literal_value : (b : Bool) → val (literal b) ≡ a_bool b
  literal_value true = value-True roots env
  literal_value false = value-False roots env

  -- a formula that is a literal has its value
  told : (u : Term) (a c : Bool) → val u ≡ a_bool a → truth u ≡ Some c → c ≡ a
  told u a c e h = ap bool_of (sym (ap val (truth_literal u c h) ∙ literal_value c) ∙ e)

  not_value : (o : Option Bool) (u : Term) (a : Bool) → val u ≡ a_bool a → truth u ≡ o → val (not_by o u) ≡ a_bool (not a)
  not_value (Some c) u a e h = literal_value (not c) ∙ ap (λ z. a_bool (not z)) (told u a c e h)
  not_value None u a e h = value-Not roots env u ∙ ap (λ z. a_bool (not (bool_of z))) e

  module _ (u w : Term) (a b : Bool) (e : val u ≡ a_bool a) (g : val w ≡ a_bool b) where
    and_value : (o r : Option Bool) → truth u ≡ o → truth w ≡ r → val (and_by o r u w) ≡ a_bool (a && b)
    and_value (Some true) r h l = g ∙ ap (λ z. a_bool (z && b)) (told u a true e h)
    and_value (Some false) r h l = value-False roots env ∙ ap (λ z. a_bool (z && b)) (told u a false e h)
    and_value None (Some true) h l = e ∙ ap a_bool (and_last a) ∙ ap (λ z. a_bool (a && z)) (told w b true g l)
    and_value None (Some false) h l = value-False roots env ∙ ap a_bool (and_none a) ∙ ap (λ z. a_bool (a && z)) (told w b false g l)
    and_value None None h l = value-And roots env u w ∙ (λ i. a_bool (bool_of (e i) && bool_of (g i)))

    or_value : (o r : Option Bool) → truth u ≡ o → truth w ≡ r → val (or_by o r u w) ≡ a_bool (a || b)
    or_value (Some true) r h l = value-True roots env ∙ ap (λ z. a_bool (z || b)) (told u a true e h)
    or_value (Some false) r h l = g ∙ ap (λ z. a_bool (z || b)) (told u a false e h)
    or_value None (Some true) h l = value-True roots env ∙ ap a_bool (or_all a) ∙ ap (λ z. a_bool (a || z)) (told w b true g l)
    or_value None (Some false) h l = e ∙ ap a_bool (or_last a) ∙ ap (λ z. a_bool (a || z)) (told w b false g l)
    or_value None None h l = value-Or roots env u w ∙ (λ i. a_bool (bool_of (e i) || bool_of (g i)))

    imp_value : (o r : Option Bool) → truth u ≡ o → truth w ≡ r → val (imp_by o r u w) ≡ a_bool (implies a b)
    imp_value (Some true) r h l = g ∙ ap (λ z. a_bool (implies z b)) (told u a true e h)
    imp_value (Some false) r h l = value-True roots env ∙ ap (λ z. a_bool (implies z b)) (told u a false e h)
    imp_value None (Some true) h l = value-True roots env ∙ ap a_bool (imp_all a) ∙ ap (λ z. a_bool (implies a z)) (told w b true g l)
    imp_value None (Some false) h l =
        value-Not roots env u ∙ ap (λ z. a_bool (not (bool_of z))) e ∙ ap a_bool (imp_last a) ∙ ap (λ z. a_bool (implies a z)) (told w b false g l)
    imp_value None None h l = value-Imp roots env u w ∙ (λ i. a_bool (implies (bool_of (e i)) (bool_of (g i))))

    iff_value : (o r : Option Bool) → truth u ≡ o → truth w ≡ r → val (iff_by o r u w) ≡ a_bool (same_bool a b)
    iff_value (Some true) r h l = g ∙ ap (λ z. a_bool (same_bool z b)) (told u a true e h)
    iff_value (Some false) r h l = value-Not roots env w ∙ ap (λ z. a_bool (not (bool_of z))) g ∙ ap (λ z. a_bool (same_bool z b)) (told u a false e h)
    iff_value None (Some true) h l = e ∙ ap a_bool (iff_last a) ∙ ap (λ z. a_bool (same_bool a z)) (told w b true g l)
    iff_value None (Some false) h l =
        value-Not roots env u ∙ ap (λ z. a_bool (not (bool_of z))) e ∙ ap a_bool (iff_not a) ∙ ap (λ z. a_bool (same_bool a z)) (told w b false g l)
    iff_value None None h l = value-Eq roots env u w ∙ (λ i. a_bool (same_val (e i) (g i)))

  a_formula : (u : Term) (b : Bool) (k : Form) → an_answer (bool u) ≡ an_answer k → val u ≡ a_bool b → M k (a_bool b)
  a_formula u b k e h = subst (λ z. M z (a_bool b)) (ok_is (bool u) k e) (b, refl, h)

  pub not_means : (m : Form) (x : Val) → M m x → (k : Form) → an_answer (bool (negated (formula_in m))) ≡ an_answer k → M k (a_bool (not (bool_of x)))
  not_means m x a k e = a_formula (negated (formula_in m)) (not (bool_of x)) k e (not_value (truth (formula_in m)) (formula_in m) (bool_of x) (formula_is m x a) refl)

  pub and_means : (m n : Form) (x y : Val) → M m x → M n y → (k : Form) →
      an_answer (bool (and_by (truth (formula_in m)) (truth (formula_in n)) (formula_in m) (formula_in n))) ≡ an_answer k → M k (apply conj x y)
  and_means m n x y a b k e =
      let u = formula_in m in
      let w = formula_in n in
      a_formula (and_by (truth u) (truth w) u w) (bool_of x && bool_of y) k e
      (and_value u w (bool_of x) (bool_of y) (formula_is m x a) (formula_is n y b) (truth u) (truth w) refl refl)

  pub or_means : (m n : Form) (x y : Val) → M m x → M n y → (k : Form) →
      an_answer (bool (or_by (truth (formula_in m)) (truth (formula_in n)) (formula_in m) (formula_in n))) ≡ an_answer k → M k (apply disj x y)
  or_means m n x y a b k e =
      let u = formula_in m in
      let w = formula_in n in
      a_formula (or_by (truth u) (truth w) u w) (bool_of x || bool_of y) k e
      (or_value u w (bool_of x) (bool_of y) (formula_is m x a) (formula_is n y b) (truth u) (truth w) refl refl)

  pub imp_means : (m n : Form) (x y : Val) → M m x → M n y → (k : Form) →
      an_answer (bool (imp_by (truth (formula_in m)) (truth (formula_in n)) (formula_in m) (formula_in n))) ≡ an_answer k → M k (apply imp x y)
  imp_means m n x y a b k e =
      let u = formula_in m in
      let w = formula_in n in
      a_formula (imp_by (truth u) (truth w) u w) (implies (bool_of x) (bool_of y)) k e
      (imp_value u w (bool_of x) (bool_of y) (formula_is m x a) (formula_is n y b) (truth u) (truth w) refl refl)

  -- ---- comparisons

  less_value : (o r : Option ℕ) (p q : Sum) → number_in p ≡ o → number_in q ≡ r → val (less_by o r (sum_term p) (sum_term q)) ≡ a_bool (nat_lt (sum_is p) (sum_is q))
  less_value (Some m) (Some n) p q e g =
      literal_value (nat_lt m n) ∙ (λ i. a_bool (nat_lt (sym (number_in_value (n_of roots env) p m e) i) (sym (number_in_value (n_of roots env) q n g) i)))
  less_value _ _ p q e g = value-Lt roots env (sum_term p) (sum_term q) ∙ (λ i. a_bool (nat_lt (sum_term_value roots env p i) (sum_term_value roots env q i)))

  at_most_value : (o r : Option ℕ) (p q : Sum) → number_in p ≡ o → number_in q ≡ r → val (at_most_by o r (sum_term p) (sum_term q)) ≡ a_bool (nat_le (sum_is p) (sum_is q))
  at_most_value (Some zero) r p q e g =
      value-True roots env ∙ ap a_bool (sym (from_zero (sum_is q))) ∙ ap (λ z. a_bool (nat_le z (sum_is q))) (sym (number_in_value (n_of roots env) p 0 e))
  at_most_value (Some (suc m)) (Some n) p q e g =
      literal_value (nat_le (suc m) n) ∙ (λ i. a_bool (nat_le (sym (number_in_value (n_of roots env) p (suc m) e) i) (sym (number_in_value (n_of roots env) q n g) i)))
  at_most_value _ _ p q e g = value-Le roots env (sum_term p) (sum_term q) ∙ (λ i. a_bool (nat_le (sum_term_value roots env p i) (sum_term_value roots env q i)))

  same_sums : (p q : Sum) → same_of (sum_term p) (sum_term q) ≡ true → sum_is p ≡ sum_is q
  same_sums p q e = sym (sum_term_value roots env p) ∙ ap (n_of roots env) (same_of-true (sum_term p) (sum_term q) e) ∙ sum_term_value roots env q

  less_is : (p q : Sum) → val (less p q) ≡ a_bool (nat_lt (sum_is p) (sum_is q))
  less_is p q = by (same_of (sum_term p) (sum_term q)) refl
    where
      by : (c : Bool) → same_of (sum_term p) (sum_term q) ≡ c →
          val (cond c t.False (less_by (number_in p) (number_in q) (sum_term p) (sum_term q))) ≡ a_bool (nat_lt (sum_is p) (sum_is q))
      by true e = value-False roots env ∙ ap a_bool (sym (not_less (sum_is p)) ∙ ap (nat_lt (sum_is p)) (same_sums p q e))
      by false e = less_value (number_in p) (number_in q) p q refl refl

  at_most_is : (p q : Sum) → val (at_most p q) ≡ a_bool (nat_le (sum_is p) (sum_is q))
  at_most_is p q = by (same_of (sum_term p) (sum_term q)) refl
    where
      by : (c : Bool) → same_of (sum_term p) (sum_term q) ≡ c →
          val (cond c t.True (at_most_by (number_in p) (number_in q) (sum_term p) (sum_term q))) ≡ a_bool (nat_le (sum_is p) (sum_is q))
      by true e = value-True roots env ∙ ap a_bool (sym (at_most_itself (sum_is p)) ∙ ap (nat_le (sum_is p)) (same_sums p q e))
      by false e = at_most_value (number_in p) (number_in q) p q refl refl

  pub lt_means : (m n : Form) (x y : Val) → M m x → M n y → (k : Form) → an_answer (bool (less (sum_in m) (sum_in n))) ≡ an_answer k → M k (apply lt x y)
  lt_means m n x y a b k e =
      a_formula (less (sum_in m) (sum_in n)) (nat_lt (nat_of x) (nat_of y)) k e (less_is (sum_in m) (sum_in n) ∙ (λ i. a_bool (nat_lt (sym (number_is m x a) i) (sym (number_is n y b) i))))

  pub le_means : (m n : Form) (x y : Val) → M m x → M n y → (k : Form) → an_answer (bool (at_most (sum_in m) (sum_in n))) ≡ an_answer k → M k (apply le x y)
  le_means m n x y a b k e =
      a_formula (at_most (sum_in m) (sum_in n)) (nat_le (nat_of x) (nat_of y)) k e
      (at_most_is (sum_in m) (sum_in n) ∙ (λ i. a_bool (nat_le (sym (number_is m x a) i) (sym (number_is n y b) i))))

  -- ---- equations

  kept_value : (m n : Form) (x y : Val) → M m x → M n y → val (kept_equation m n) ≡ a_bool (same_val x y)
  kept_value (bool u) (bool w) x y a b = iff_value u w a.0 b.0 a.2 b.2 (truth u) (truth w) refl refl ∙ (λ i. a_bool (same_val (sym a.1 i) (sym b.1 i)))
  kept_value m n x y a b = value-Eq roots env (term_of m) (term_of n) ∙ (λ i. a_bool (same_val (term_of_is roots env m x a i) (term_of_is roots env n y b i)))

  other_numbers : (p q : Sum) (i j : ℕ) → number_in p ≡ Some i → number_in q ≡ Some j → same_of (sum_term p) (sum_term q) ≡ false → (sum_is p == sum_is q) ≡ false
  other_numbers p q i j e g s =
      (λ k. number_in_value (n_of roots env) p i e k == number_in_value (n_of roots env) q j g k)
      ∙ sym (same_number i j)
      ∙ (λ k. same_of (sym (number_term p i e) k) (sym (number_term q j g) k))
      ∙ s

  other_truths : (u w : Term) (a b : Bool) → val u ≡ a_bool a → val w ≡ a_bool b → (c d : Bool) → truth u ≡ Some c → truth w ≡ Some d → same_of u w ≡ false → same_bool a b ≡ false
  other_truths u w a b e g c d h l s =
      (λ k. same_bool (sym (told u a c e h) k) (sym (told w b d g l) k))
      ∙ other_bool c d ((λ k. same_of (sym (truth_literal u c h) k) (sym (truth_literal w d l) k)) ∙ s)

  other_roots : (x y : List ℕ) (r q : ℕ) → position 0 roots x ≡ Some r → position 0 roots y ≡ Some q → same_of (t.Var x) (t.Var y) ≡ false → (r == q) ≡ false
  other_roots x y r q e g s = by (r == q) refl
    where
      by : (c : Bool) → (r == q) ≡ c → c ≡ false
      by false h = refl
      by true h =
          let same : x ≡ y = one_name 0 roots x y q (e ∙ ap (λ z. Some z) (eqb-true r q h)) g in
          let told : bytes_eq x y ≡ true = (bytes_eq-Decides x y).1 same in
          let clash : true ≡ false = sym told ∙ sym (same_name x y) ∙ s in
          cc

  -- literals whose terms are not the same have different values
  different : (m n : Form) (x y : Val) → M m x → M n y → is_literal m ≡ true → is_literal n ≡ true → same_of (term_of m) (term_of n) ≡ false → same_val x y ≡ false
  different (nat p) (nat q) x y a b l k s =
      let i = some_of (number_in p) l in
      let j = some_of (number_in q) k in
      (λ z. same_val (a z) (b z)) ∙ other_numbers p q i.0 j.0 i.1 j.1 s
  different (bool u) (bool w) x y a b l k s =
      let i = some_of (truth u) l in
      let j = some_of (truth w) k in
      (λ z. same_val (a.1 z) (b.1 z)) ∙ other_truths u w a.0 b.0 a.2 b.2 i.0 j.0 i.1 j.1 s
  different (loc null) (loc null) x y a b l k s = let clash : true ≡ false = sym same_null ∙ s in cc
  different (loc null) (loc (root r)) x y a b l k s = λ z. same_val (a z) (b.2 z)
  different (loc (root r)) (loc null) x y a b l k s = λ z. same_val (a.2 z) (b z)
  different (loc (root r)) (loc (root q)) x y a b l k s = (λ z. same_val (a.2 z) (b.2 z)) ∙ other_roots r q a.0 b.0 a.1 b.1 s
  different (nat p) (bool w) x y a b l k s = λ z. same_val (a z) (b.1 z)
  different (nat p) (loc null) x y a b l k s = λ z. same_val (a z) (b z)
  different (nat p) (loc (root r)) x y a b l k s = λ z. same_val (a z) (b.2 z)
  different (bool u) (nat q) x y a b l k s = λ z. same_val (a.1 z) (b z)
  different (bool u) (loc null) x y a b l k s = λ z. same_val (a.1 z) (b z)
  different (bool u) (loc (root r)) x y a b l k s = λ z. same_val (a.1 z) (b.2 z)
  different (loc null) (nat q) x y a b l k s = λ z. same_val (a z) (b z)
  different (loc null) (bool w) x y a b l k s = λ z. same_val (a z) (b.1 z)
  different (loc (root r)) (nat q) x y a b l k s = λ z. same_val (a.2 z) (b z)
  different (loc (root r)) (bool w) x y a b l k s = λ z. same_val (a.2 z) (b.1 z)
  different m n x y a b l k s = cc

  equation_value : (m n : Form) (x y : Val) → M m x → M n y → val (equation m n) ≡ a_bool (same_val x y)
  equation_value m n x y a b = by (same_of (term_of m) (term_of n)) (is_literal m && is_literal n) refl refl
    where
      by : (c d : Bool) → same_of (term_of m) (term_of n) ≡ c → (is_literal m && is_literal n) ≡ d → val (cond c t.True (cond d t.False (kept_equation m n))) ≡ a_bool (same_val x y)
      by true d e g =
          let one : x ≡ y = sym (term_of_is roots env m x a) ∙ ap val (same_of-true (term_of m) (term_of n) e) ∙ term_of_is roots env n y b in
          value-True roots env ∙ ap a_bool (sym (same_val-refl x) ∙ ap (same_val x) one)
      by false true e g =
          let literals = both_true (is_literal m) (is_literal n) g in
          value-False roots env ∙ ap a_bool (sym (different m n x y a b literals.0 literals.1 e))
      by false false e g = kept_value m n x y a b

  pub eq_means : (m n : Form) (x y : Val) → M m x → M n y → (k : Form) → an_answer (bool (equation m n)) ≡ an_answer k → M k (apply eq x y)
  eq_means m n x y a b k e = a_formula (equation m n) (same_val x y) k e (equation_value m n x y a b)
