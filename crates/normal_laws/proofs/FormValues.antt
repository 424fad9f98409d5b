-- What a normal form means, and that its term has that value.
use Rattle.std.proofs.Common.{◌≡◌, ℕ, zero, suc, ◌+◌, ◌*◌, ◌/◌, ◌%◌, ◌==◌, Bool, false, List, [], ◌∷◌, ◌++◌, length, map, Some, refl, sym, ◌∙◌, ap, arith, add_assoc, mul-one, zero-add, add-zero}
use Rattle.std.proofs.lemmas.Nat.{div-add-mod'}
use Rattle.std.proofs.lemmas.Bool.Decides.{nat_tests}
use Rattle.tht_tree.specs.declared.plain.Place.{Place}
use Rattle.tht_tree.specs.declared.plain.Place.TheVariants.{Null, Root, Cell}
use Rattle.tht_tree.specs.declared.plain.Value.TheVariants as v
use Rattle.tht_tree.specs.declared.term.Term.{Term}
use Rattle.tht_tree.specs.declared.term.Term.TheVariants as t
use Rattle.tht_tree.specs.Values.{Val, is, seq as a_seq, Env}
use Rattle.tht_tree.specs.Syntax.{Names, position, root_or_free}
use Rattle.tht_tree.specs.Values.{nat_of, place_of, seq_of, a_nat, a_bool, a_place}
use Rattle.tht_tree.specs.Terms.{offset_by, value_of, value}
use Rattle.tht_tree.specs.Normal.InPairs.{pairs, chain, rounds, in_pairs}
use Rattle.tht_tree.specs.Normal.Sums.{Product, Sum, monomial_term, sum_term}
use Rattle.tht_tree.specs.declared.form.Form.{Form}
use Rattle.tht_tree.specs.declared.form.Form.TheVariants.{Nat as nat, Seq as seq, Loc as loc, Unit as unit, Bool as bool}
use Rattle.tht_tree.specs.declared.form.Item.{Item}
use Rattle.tht_tree.specs.declared.form.Item.TheVariants.{One as one, All as all}
use Rattle.tht_tree.specs.declared.form.PlaceForm.TheVariants.{Null as null, Root as root, At as at}
use Rattle.tht_tree.specs.Normal.Forms.{items_term, sevens, place_term, term_of}
use Rattle.normal_laws.proofs.PairsValue.{total, in_pairs_value}
use Rattle.normal_laws.proofs.SumValues.{product_value, sum_value}
use Rattle.normal_laws.proofs.TermMeanings.{value-Num, value-Unit, value-Null, value-Nil, value-Var, value-Mul, value-Add, value-Offset, value-Cons, value-Cat}

-- what is joined in pairs is of a kind, where all that f gives is, and what is joined
module _ {A : Type 0} (P : A → Type 0) (f : A → A → A) (d : A) (makes : (x y : A) → P (f x y)) (ends : P d) where
  abbrev Each : List A → Type 0
  Each [] = Unit {0}
  Each (x ∷ xs) = P x × Each xs

  each_pair : (xs : List A) → Each xs → Each (pairs f xs)
  each_pair [] e = tt
  each_pair (x ∷ []) e = e
  each_pair (x ∷ y ∷ rest) e = (makes x y, each_pair rest e.1.1)

  chain_is : (xs : List A) → P (chain f d xs)
  chain_is [] = ends
  chain_is (x ∷ xs) = makes x (chain f d xs)

  rounds_are : (n : ℕ) (xs : List A) → Each xs → P (rounds f n d xs)
  rounds_are zero xs e = chain_is xs
  rounds_are (suc n) [] e = ends
  rounds_are (suc n) (x ∷ []) e = e.0
  rounds_are (suc n) (x ∷ y ∷ rest) e = rounds_are n (f x y ∷ pairs f rest) (makes x y, each_pair rest e.1.1)

  in_pairs_is : (xs : List A) → Each xs → P (in_pairs f d xs)
  in_pairs_is xs e = rounds_are (length xs) xs e

-- ---- places

pub offset_none : (p : Place) → offset_by 0 p ≡ p
offset_none Null = refl
offset_none (Root r) = refl
offset_none (Cell a i) = ap (λ j. Cell a j) (add-zero i)

pub offset_twice : (p : Place) (m k : ℕ) → offset_by k (offset_by m p) ≡ offset_by (m + k) p
offset_twice Null m k = refl
offset_twice (Root r) zero k = rw zero-add refl
offset_twice (Root r) (suc m) k = rw (not_zero m, later m k) refl
  where
    not_zero : (m : ℕ) → (suc m == 0) ≡ false
    not_zero m = grind (arith, nat_tests)

    later : (m k : ℕ) → (suc m + k == 0) ≡ false
    later m k = grind (arith, nat_tests)
offset_twice (Cell a i) m k = ap (λ j. Cell a j) (add_assoc i m k)

module _ (roots : Names) (env : Env) where
  abbrev pub of : Term → Val
  of = value roots env

  -- the number that a term is
  abbrev pub n_of : Term → ℕ
  n_of u = nat_of (of u)

  abbrev pub worth : Sum → ℕ
  worth = sum_value n_of

  -- ---- sums

  IsNat : Term → Type 0
  IsNat u = of u ≡ a_nat (n_of u)

  product_total : (xs : Product) → total n_of (λ a b. a * b) 1 xs ≡ product_value n_of xs
  product_total [] = refl
  product_total (x ∷ xs) = ap (λ z. n_of x * z) (product_total xs)

  mul_value : (a b : Term) → n_of (t.Mul a b) ≡ n_of a * n_of b
  mul_value a b = ap nat_of (value-Mul roots env a b)

  add_value : (a b : Term) → n_of (t.Add a b) ≡ n_of a + n_of b
  add_value a b = ap nat_of (value-Add roots env a b)

  pub num_value : (n : ℕ) → n_of (t.Num n) ≡ n
  num_value n = ap nat_of (value-Num roots env n)

  times_assoc : (a b c : ℕ) → a * b * c ≡ a * (b * c)
  times_assoc a b c = omega arith

  monomial_term_value : (c : ℕ) (xs : Product) → n_of (monomial_term c xs) ≡ c * product_value n_of xs
  monomial_term_value c [] = num_value c ∙ sym (mul-one c)
  monomial_term_value c (x ∷ xs) =
      mul_value (t.Num c) (in_pairs t.Mul (t.Num 1) (x ∷ xs))
      ∙ (λ i. num_value c i * (in_pairs_value n_of (λ a b. a * b) 1 t.Mul (t.Num 1) mul_value (num_value 1) times_assoc mul-one (x ∷ xs) ∙ product_total (x ∷ xs)) i)

  abbrev terms : Sum → List Term
  terms = map (λ m. monomial_term m.coefficient m.atoms)

  sum_total : (p : Sum) → total n_of (λ a b. a + b) 0 (terms p) ≡ worth p
  sum_total [] = refl
  sum_total (m ∷ p) = λ i. monomial_term_value m.coefficient m.atoms i + sum_total p i

  pub sum_term_value : (p : Sum) → n_of (sum_term p) ≡ worth p
  sum_term_value p = in_pairs_value n_of (λ a b. a + b) 0 t.Add (t.Num 0) add_value (num_value 0) add_assoc add-zero (terms p) ∙ sum_total p

  is_nat : (u : Term) (n : ℕ) → of u ≡ a_nat n → of u ≡ a_nat (n_of u)
  is_nat u n e = e ∙ ap a_nat (sym (ap nat_of e))

  sum_is : (a b : Term) → of (t.Add a b) ≡ a_nat (n_of (t.Add a b))
  sum_is a b = is_nat (t.Add a b) (n_of a + n_of b) (value-Add roots env a b)

  monomial_is : (c : ℕ) (xs : Product) → of (monomial_term c xs) ≡ a_nat (n_of (monomial_term c xs))
  monomial_is c [] = is_nat (t.Num c) c (value-Num roots env c)
  monomial_is c (x ∷ xs) =
      let rest = in_pairs t.Mul (t.Num 1) (x ∷ xs) in
      is_nat (t.Mul (t.Num c) rest) (n_of (t.Num c) * n_of rest) (value-Mul roots env (t.Num c) rest)

  each_is : (p : Sum) → Each (λ u. of u ≡ a_nat (n_of u)) t.Add (t.Num 0) sum_is (is_nat (t.Num 0) 0 (value-Num roots env 0)) (terms p)
  each_is [] = tt
  each_is (m ∷ p) = (monomial_is m.coefficient m.atoms, each_is p)

  -- the term of a sum has its value
  pub sum_term_is : (p : Sum) → of (sum_term p) ≡ a_nat (worth p)
  sum_term_is p =
      in_pairs_is (λ u. of u ≡ a_nat (n_of u)) t.Add (t.Num 0) sum_is (is_nat (t.Num 0) 0 (value-Num roots env 0)) (terms p) (each_is p)
      ∙ ap a_nat (sum_term_value p)

  -- ---- sequences and places

  abbrev pub items_value : List Item → List ℕ
  items_value [] = []
  items_value (one p ∷ xs) = worth p ∷ items_value xs
  items_value (all x ∷ xs) = seq_of (of (t.Var x)) ++ items_value xs

  pub items_term_is : (xs : List Item) → of (items_term xs) ≡ a_seq (items_value xs)
  items_term_is [] = value-Nil roots env
  items_term_is (one p ∷ xs) = value-Cons roots env (sum_term p) (items_term xs) ∙ (λ i. a_seq (sum_term_value p i ∷ ap seq_of (items_term_is xs) i))
  items_term_is (all x ∷ xs) = value-Cat roots env (t.Var x) (items_term xs) ∙ (λ i. a_seq (seq_of (of (t.Var x)) ++ ap seq_of (items_term_is xs) i))

  sevens_value : (n : ℕ) (u : Term) → place_of (of (sevens n u)) ≡ offset_by (n * 7) (place_of (of u))
  sevens_value zero u = sym (offset_none (place_of (of u)))
  sevens_value (suc n) u =
      ap place_of (value-Offset roots env (sevens n u) 7)
      ∙ ap (offset_by 7) (sevens_value n u)
      ∙ offset_twice (place_of (of u)) (n * 7) 7
      ∙ ap (λ k. offset_by k (place_of (of u))) more
    where
      more : n * 7 + 7 ≡ suc n * 7
      more = omega arith

  pub offset_term_is : (x : List ℕ) (k : ℕ) → of (place_term (at x k)) ≡ a_place (offset_by k (place_of (of (t.Var x))))
  offset_term_is x k =
      value-Offset roots env (sevens (k / 7) (t.Var x)) (k % 7)
      ∙ ap (λ p. a_place (offset_by (k % 7) p)) (sevens_value (k / 7) (t.Var x))
      ∙ ap a_place (offset_twice (place_of (of (t.Var x))) (k / 7 * 7) (k % 7))
      ∙ ap (λ j. a_place (offset_by j (place_of (of (t.Var x))))) (div-add-mod' k 7)

  pub root_value : (x : List ℕ) (r : ℕ) → position 0 roots x ≡ Some r → of (t.Var x) ≡ a_place (Root r)
  root_value x r e = value-Var roots env x ∙ ap (λ o. value_of env [] (root_or_free x o)) e

  -- ---- normal forms

  -- a value is the one that the form means
  abbrev pub Means : Form → Val → Type 0
  Means (nat p) w = w ≡ a_nat (worth p)
  Means (seq xs) w = w ≡ a_seq (items_value xs)
  Means (loc null) w = w ≡ a_place Null
  Means (loc (root x)) w = (r : ℕ) × (position 0 roots x ≡ Some r) × (w ≡ a_place (Root r))
  Means (loc (at x k)) w = w ≡ a_place (offset_by k (place_of (of (t.Var x))))
  Means unit w = w ≡ is v.Unit
  Means (bool u) w = (b : Bool) × (w ≡ a_bool b) × (of u ≡ a_bool b)

  -- the term of a form has the value that the form means
  pub term_of_is : (m : Form) (w : Val) → Means m w → of (term_of m) ≡ w
  term_of_is (nat p) w e = sum_term_is p ∙ sym e
  term_of_is (seq xs) w e = items_term_is xs ∙ sym e
  term_of_is (loc null) w e = value-Null roots env ∙ sym e
  term_of_is (loc (root x)) w e = root_value x e.0 e.1 ∙ sym e.2
  term_of_is (loc (at x k)) w e = offset_term_is x k ∙ sym e
  term_of_is unit w e = value-Unit roots env ∙ sym e
  term_of_is (bool u) w e = e.2 ∙ sym e.1
