-- The products of a normal form's sum strictly ascend.
use Rattle.std.proofs.Common.{◌≡◌, ℕ, zero, suc, ◌+◌, ◌*◌, ◌==◌, Bool, true, false, cond, List, [], ◌∷◌, ◌++◌, length, map, flat_map, Option, Some, None, Ok, Err, sym, ◌∙◌, ap, subst}
use Rattle.std.specs.List.{list_any}
use Rattle.std.specs.Prelude.{nat_lt}
use Rattle.tht_tree.specs.declared.plain.Sort.{Sort}
use Rattle.tht_tree.specs.declared.plain.Sort.TheVariants as sort
use Rattle.tht_tree.specs.declared.term.Term.{Term}
use Rattle.tht_tree.specs.declared.term.Term.TheVariants as t
use Rattle.tht_tree.specs.Rules.Context.{Scope}
use Rattle.tht_tree.specs.Rules.Scoping.{variable_sort}
use Rattle.tht_tree.proofs.TermFolds.{Len, Offset, Not, Mul, Add, Sub, Cons, Cat, Eq, Lt, Le, And, Or, Imp, Len-is, Offset-is, Not-is, Mul-is, Add-is, Sub-is, Cons-is, Cat-is, Eq-is, Lt-is, Le-is, And-is, Or-is, Imp-is, at-Num, at-True, at-False, at-Null, at-Nil, at-Unit, at-Var, at-Len, at-Offset, at-Not, at-Mul, at-Add, at-Sub, at-Cons, at-Cat, at-Eq, at-Lt, at-Le, at-And, at-Or, at-Imp}
use Rattle.tht_tree.specs.declared.form.Monomial.{Monomial}
use Rattle.tht_tree.specs.Normal.Sums.{Sum, monomial, number, plus, times, sum_of, minus, minus_by, number_in, monomial_product}
use Rattle.tht_tree.specs.declared.form.Form.{Form}
use Rattle.tht_tree.specs.declared.form.PlaceForm.{PlaceForm}
use Rattle.tht_tree.specs.declared.form.Item.{Item}
use Rattle.tht_tree.specs.Normal.Forms.{Answer, sum_in, items_in, place_form_in, most_monomials, is_wide, within, product_within, item_length, items_length, moved, name_form, with_part, with_parts, normal_at, normal}
use Rattle.tht_tree.specs.declared.form.NormalEnd.TheVariants.{Large, Wide}
use Rattle.normal_laws.proofs.SumsAscend.{Ascends, plus_ascends}
use Rattle.lin_laws.proofs.Columns.{Each, in_pairs_keeps}
use Rattle.tht_tree.specs.declared.form.Form.TheVariants as form
use Rattle.tht_tree.specs.declared.form.Item.TheVariants as item
use Rattle.tht_tree.specs.declared.form.PlaceForm.TheVariants as place

-- ---- sums

number_ascends : (n : ℕ) → Ascends (number n)
number_ascends n = by (n == 0)
  where
    by : (c : Bool) → Ascends (cond c [] (monomial n [] ∷ []))
    by true = tt
    by false = (tt, tt)

sum_of_ascends : (ps : List Sum) → Each Ascends ps → Ascends (sum_of ps)
sum_of_ascends ps e = in_pairs_keeps Ascends plus [] plus_ascends tt ps e

minus_ascends : (a b : Option ℕ) (p q : Sum) → Ascends p → Ascends (minus_by a b p q)
minus_ascends (Some m) (Some n) p q h = number_ascends _
minus_ascends (Some m) None p q h = (tt, tt)
minus_ascends None (Some zero) p q h = h
minus_ascends None (Some (suc n)) p q h = (tt, tt)
minus_ascends None None p q h = (tt, tt)

-- a sum of one monomial ascends
row : (m : Monomial) (q rest : Sum) (ps : List Sum) → Each Ascends ps → Each Ascends (map (λ n. monomial_product m n ∷ []) q ++ ps)
row m [] rest ps e = e
row m (n ∷ q) rest ps e = ((tt, tt), row m q rest ps e)

rows : (p q : Sum) → Each Ascends (flat_map (λ m. map (λ n. monomial_product m n ∷ []) q) p)
rows [] q = tt
rows (m ∷ p) q = row m q p (flat_map (λ m. map (λ n. monomial_product m n ∷ []) q) p) (rows p q)

times_ascends : (p q : Sum) → Ascends (times p q)
times_ascends p q = sum_of_ascends (flat_map (λ m. map (λ n. monomial_product m n ∷ []) q) p) (rows p q)

lengths : (xs : List Item) → Each Ascends (map item_length xs)
lengths [] = tt
lengths (item.One p ∷ xs) = (number_ascends 1, lengths xs)
lengths (item.All x ∷ xs) = ((tt, tt), lengths xs)

-- ---- answers

-- the products of the sum of an answer's form strictly ascend
abbrev pub Good : Answer → Type 0
Good (Ok m) = Ascends (sum_in m)
Good (Err e) = Unit {0}

of_part : (a : Answer) (make : Form → Answer) → ((m : Form) → Ascends (sum_in m) → Good (make m)) → Good a → Good (with_part a make)
of_part (Ok m) make h g = h m g
of_part (Err e) make h g = tt

of_parts : (a b : Answer) (make : Form → Form → Answer) → ((m n : Form) → Ascends (sum_in m) → Ascends (sum_in n) → Good (make m n)) → Good a → Good b → Good (with_parts a b make)
of_parts a b make h g k = of_part a (λ m. with_part b (make m)) (λ m x. of_part b (make m) (λ n y. h m n x y) k) g

within_good : (p : Sum) → Ascends p → Good (within p)
within_good p h = by (nat_lt most_monomials (length p)) (list_any (λ m. is_wide m.coefficient) p)
  where
    by : (c d : Bool) → Good (cond c (Err Large) (cond d (Err Wide) (Ok (form.Nat p))))
    by true d = tt
    by false true = tt
    by false false = h

product_good : (p q : Sum) → Good (product_within p q)
product_good p q = by (nat_lt most_monomials (length p * length q))
  where
    by : (c : Bool) → Good (cond c (Err Large) (within (times p q)))
    by true = tt
    by false = within_good (times p q) (times_ascends p q)

moved_good : (k : ℕ) (s : PlaceForm) → Good (moved k s)
moved_good k place.Null = tt
moved_good k (place.Root x) = tt
moved_good k (place.At x m) = by (is_wide (m + k))
  where
    by : (c : Bool) → Good (cond c (Err Wide) (Ok (form.Loc (place.At x (m + k)))))
    by true = tt
    by false = tt

name_good : (o : Option Sort) (x : List ℕ) → Ascends (sum_in (name_form o x))
name_good (Some sort.Nat) x = (tt, tt)
name_good (Some sort.Bool) x = tt
name_good (Some sort.Loc) x = tt
name_good (Some sort.Unit) x = tt
name_good (Some sort.Seq) x = tt
name_good None x = tt

-- ---- terms

module _ (scope : Scope) where
  abbrev N : Term → Answer
  N = normal scope

  leaf : (u : Term) (a : Answer) → N u ≡ a → Good a → Good (N u)
  leaf u a e g = subst Good (sym e) g

  of_one : (a c : Term) (make : Form → Answer) → N c ≡ with_part (N a) make → ((m : Form) → Ascends (sum_in m) → Good (make m)) → Good (N a) → Good (N c)
  of_one a c make e h g = subst Good (sym e) (of_part (N a) make h g)

  of_two : (a b c : Term) (make : Form → Form → Answer) → N c ≡ with_parts (N a) (N b) make → ((m n : Form) → Ascends (sum_in m) → Ascends (sum_in n) → Good (make m n)) →
      Good (N a) → Good (N b) → Good (N c)
  of_two a b c make e h g k = subst Good (sym e) (of_parts (N a) (N b) make h g k)

  -- The law: the products of the sum of a term's normal form strictly ascend.
  pub normal_ascends : (u : Term) → Good (N u)
  normal_ascends (t.Num n) = leaf (t.Num n) (within (number n)) (at-Num Answer (normal_at scope) n) (within_good (number n) (number_ascends n))
  normal_ascends t.True = leaf t.True (Ok (form.Bool t.True)) (at-True Answer (normal_at scope)) tt
  normal_ascends t.False = leaf t.False (Ok (form.Bool t.False)) (at-False Answer (normal_at scope)) tt
  normal_ascends t.Null = leaf t.Null (Ok (form.Loc place.Null)) (at-Null Answer (normal_at scope)) tt
  normal_ascends t.Nil = leaf t.Nil (Ok (form.Seq [])) (at-Nil Answer (normal_at scope)) tt
  normal_ascends t.Unit = leaf t.Unit (Ok form.Unit) (at-Unit Answer (normal_at scope)) tt
  normal_ascends (t.Var x) = leaf (t.Var x) (Ok (name_form (variable_sort (scope x)) x)) (at-Var Answer (normal_at scope) x) (name_good (variable_sort (scope x)) x)
  normal_ascends (Len a) =
      of_one a (Len a) _ (ap N (sym (Len-is a)) ∙ at-Len Answer (normal_at scope) a)
      (λ m h. within_good (items_length (items_in m)) (sum_of_ascends (map item_length (items_in m)) (lengths (items_in m)))) (normal_ascends a)
  normal_ascends (Offset a k) = of_one a (Offset a k) _ (ap N (sym (Offset-is a k)) ∙ at-Offset Answer (normal_at scope) a k) (λ m h. moved_good k (place_form_in m)) (normal_ascends a)
  normal_ascends (Not a) = of_one a (Not a) _ (ap N (sym (Not-is a)) ∙ at-Not Answer (normal_at scope) a) (λ m h. tt) (normal_ascends a)
  normal_ascends (Mul a b) =
      of_two a b (Mul a b) _ (ap N (sym (Mul-is a b)) ∙ at-Mul Answer (normal_at scope) a b) (λ m n g h. product_good (sum_in m) (sum_in n)) (normal_ascends a) (normal_ascends b)
  normal_ascends (Add a b) =
      of_two a b (Add a b) _ (ap N (sym (Add-is a b)) ∙ at-Add Answer (normal_at scope) a b)
      (λ m n g h. within_good (plus (sum_in m) (sum_in n)) (plus_ascends (sum_in m) (sum_in n) g h)) (normal_ascends a) (normal_ascends b)
  normal_ascends (Sub a b) =
      of_two a b (Sub a b) _ (ap N (sym (Sub-is a b)) ∙ at-Sub Answer (normal_at scope) a b)
      (λ m n g h. within_good (minus (sum_in m) (sum_in n)) (minus_ascends (number_in (sum_in m)) (number_in (sum_in n)) (sum_in m) (sum_in n) g)) (normal_ascends a) (normal_ascends b)
  normal_ascends (Cons a b) = of_two a b (Cons a b) _ (ap N (sym (Cons-is a b)) ∙ at-Cons Answer (normal_at scope) a b) (λ m n g h. tt) (normal_ascends a) (normal_ascends b)
  normal_ascends (Cat a b) = of_two a b (Cat a b) _ (ap N (sym (Cat-is a b)) ∙ at-Cat Answer (normal_at scope) a b) (λ m n g h. tt) (normal_ascends a) (normal_ascends b)
  normal_ascends (Eq a b) = of_two a b (Eq a b) _ (ap N (sym (Eq-is a b)) ∙ at-Eq Answer (normal_at scope) a b) (λ m n g h. tt) (normal_ascends a) (normal_ascends b)
  normal_ascends (Lt a b) = of_two a b (Lt a b) _ (ap N (sym (Lt-is a b)) ∙ at-Lt Answer (normal_at scope) a b) (λ m n g h. tt) (normal_ascends a) (normal_ascends b)
  normal_ascends (Le a b) = of_two a b (Le a b) _ (ap N (sym (Le-is a b)) ∙ at-Le Answer (normal_at scope) a b) (λ m n g h. tt) (normal_ascends a) (normal_ascends b)
  normal_ascends (And a b) = of_two a b (And a b) _ (ap N (sym (And-is a b)) ∙ at-And Answer (normal_at scope) a b) (λ m n g h. tt) (normal_ascends a) (normal_ascends b)
  normal_ascends (Or a b) = of_two a b (Or a b) _ (ap N (sym (Or-is a b)) ∙ at-Or Answer (normal_at scope) a b) (λ m n g h. tt) (normal_ascends a) (normal_ascends b)
  normal_ascends (Imp a b) = of_two a b (Imp a b) _ (ap N (sym (Imp-is a b)) ∙ at-Imp Answer (normal_at scope) a b) (λ m n g h. tt) (normal_ascends a) (normal_ascends b)
