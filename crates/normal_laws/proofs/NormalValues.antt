-- A term and its normal form have one value in every environment.
use Rattle.std.proofs.Common.{◌≡◌, ℕ, true, false, not, length, List, [], Option, Some, None, Result, Ok, Err, refl, sym, ◌∙◌, ap, subst, append-nil}
use Rattle.tht_tree.specs.declared.plain.Sort.{Sort}
use Rattle.tht_tree.specs.declared.plain.Sort.TheVariants as sort
use Rattle.tht_tree.specs.declared.plain.Value.TheVariants as v
use Rattle.tht_tree.specs.declared.term.Term.{Term}
use Rattle.tht_tree.specs.declared.term.Term.TheVariants as t
use Rattle.tht_tree.specs.Values.{Val, is, seq as a_seq, Env}
use Rattle.tht_tree.specs.Syntax.{Names, position, mul, add, sub, cons, cat, eq, lt, le, conj, disj, imp}
use Rattle.tht_tree.specs.Rules.Context.{Scope}
use Rattle.tht_tree.specs.Rules.Scoping.{variable_sort, equation_sort, both_of, cons_sort, len_sort, offset_sort, not_sort, name_sort, sort_at, sort_of}
use Rattle.tht_tree.proofs.TermFolds.{Len, Offset, Not, Mul, Add, Sub, Cons, Cat, Eq, Lt, Le, And, Or, Imp, Len-is, Offset-is, Not-is, Mul-is, Add-is, Sub-is, Cons-is, Cat-is, Eq-is, Lt-is, Le-is, And-is, Or-is, Imp-is, at-Num, at-True, at-False, at-Null, at-Nil, at-Unit, at-Var, at-Len, at-Offset, at-Not, at-Mul, at-Add, at-Sub, at-Cons, at-Cat, at-Eq, at-Lt, at-Le, at-And, at-Or, at-Imp}
use Rattle.tht_tree.specs.Values.{nat_of, bool_of, place_of, seq_of, a_nat, a_bool, a_place, has_sort_val}
use Rattle.tht_tree.specs.Terms.{offset_by, apply, value}
use Rattle.tht_tree.specs.Normal.Sums.{number}
use Rattle.tht_tree.specs.declared.form.Form.{Form}
use Rattle.tht_tree.specs.declared.form.Form.TheVariants.{Seq as seq, Loc as loc, Unit as unit, Bool as bool}
use Rattle.tht_tree.specs.declared.form.NormalEnd.{NormalEnd}
use Rattle.tht_tree.specs.declared.form.PlaceForm.TheVariants.{Null as null}
use Rattle.tht_tree.specs.Normal.Forms.{Answer, term_of, name_form, with_part, with_parts, normal_at, normal, in_term, normal_term}
use Rattle.normal_laws.proofs.SumValues.{number_value, atom_value}
use Rattle.normal_laws.proofs.TermMeanings.{value-Num, value-True, value-False, value-Null, value-Nil, value-Unit, value-Var, value-Len, value-Offset, value-Not, value-Mul, value-Add, value-Sub, value-Cons, value-Cat, value-Eq, value-Lt, value-Le, value-And, value-Or, value-Imp}
use Rattle.normal_laws.proofs.FormValues.{offset_none, n_of, root_value, Means, term_of_is}
use Rattle.normal_laws.proofs.NormalSteps.{an_answer, ok_is, within_is, mul_means, add_means, sub_means, cons_means, cat_means, eq_means, lt_means, le_means, and_means, or_means, imp_means, len_means, moved_means, not_means}

-- ---- parts that have a sort, and an answer

abbrev pub Has : Option Sort → Type 0
Has o = (s : Sort) × (o ≡ Some s)

both_parts : (r : Sort) (a b : Option Sort) (q : Sort) → Has (both_of r a b q) → Has a × Has b
both_parts r (Some a) (Some b) q h = ((a, refl), (b, refl))
both_parts r (Some a) None q h = let e = h.1 in cc
both_parts r None b q h = let e = h.1 in cc

equation_parts : (a b : Option Sort) → Has (equation_sort a b) → Has a × Has b
equation_parts (Some a) (Some b) h = ((a, refl), (b, refl))
equation_parts (Some a) None h = let e = h.1 in cc
equation_parts None b h = let e = h.1 in cc

cons_parts : (a b : Option Sort) → Has (cons_sort a b) → Has a × Has b
cons_parts (Some sort.Nat) (Some b) h = ((sort.Nat, refl), (b, refl))
cons_parts _ _ h = let e = h.1 in cc

len_part : (a : Option Sort) → Has (len_sort a) → Has a
len_part (Some s) h = (s, refl)
len_part None h = let e = h.1 in cc

offset_part : (a : Option Sort) → Has (offset_sort a) → Has a
offset_part (Some s) h = (s, refl)
offset_part None h = let e = h.1 in cc

not_part : (a : Option Sort) → Has (not_sort a) → Has a
not_part (Some s) h = (s, refl)
not_part None h = let e = h.1 in cc

part : (a : Answer) (make : Form → Answer) (k : Form) → with_part a make ≡ an_answer k → (m : Form) × (a ≡ an_answer m) × (make m ≡ an_answer k)
part (Ok m) make k e = (m, refl, e)
part (Err d) make k e = cc

-- ---- variables

a_number_of : (w : Val) → has_sort_val sort.Nat w ≡ true → w ≡ a_nat (nat_of w)
a_number_of (is (v.Nat n)) e = refl
a_number_of _ e = cc

a_truth_of : (w : Val) → has_sort_val sort.Bool w ≡ true → w ≡ a_bool (bool_of w)
a_truth_of (is (v.Bool b)) e = refl
a_truth_of _ e = cc

a_place_of : (w : Val) → has_sort_val sort.Loc w ≡ true → w ≡ a_place (place_of w)
a_place_of (is (v.Loc p)) e = refl
a_place_of _ e = cc

a_unit_of : (w : Val) → has_sort_val sort.Unit w ≡ true → w ≡ is v.Unit
a_unit_of (is v.Unit) e = refl
a_unit_of _ e = cc

a_seq_of : (w : Val) → has_sort_val sort.Seq w ≡ true → w ≡ a_seq (seq_of w)
a_seq_of (a_seq xs) e = refl
a_seq_of (is (v.Nat n)) e = cc
a_seq_of (is _) e = cc

-- each variable in scope has a value of its sort, and none has the name of a root
pub record Fits (roots : Names) (scope : Scope) (env : Env) : Type 0 where
  pub sorts : (x : List ℕ) (s : Sort) → variable_sort (scope x) ≡ Some s → has_sort_val s (env x) ≡ true
  pub apart : (x : List ℕ) (s : Sort) → variable_sort (scope x) ≡ Some s → position 0 roots x ≡ None

module _ (roots : Names) (scope : Scope) (env : Env) (fits : Fits roots scope env) where
  abbrev val : Term → Val
  val = value roots env

  abbrev M : Form → Val → Type 0
  M = Means roots env

  abbrev the_sort : Term → Option Sort
  the_sort = sort_of roots scope

  variable_value : (x : List ℕ) (s : Sort) → variable_sort (scope x) ≡ Some s → val (t.Var x) ≡ env x
  variable_value x s e = value-Var roots env x ∙ (rw (fits.apart x s e) refl)

  a_sorted : (x : List ℕ) (s : Sort) → variable_sort (scope x) ≡ Some s → has_sort_val s (val (t.Var x)) ≡ true
  a_sorted x s e = ap (has_sort_val s) (variable_value x s e) ∙ fits.sorts x s e

  variable_means : (s : Sort) (x : List ℕ) → has_sort_val s (val (t.Var x)) ≡ true → M (name_form (Some s) x) (val (t.Var x))
  variable_means sort.Nat x e = a_number_of (val (t.Var x)) e ∙ ap a_nat (sym (atom_value (n_of roots env) (t.Var x)))
  variable_means sort.Bool x e = (bool_of (val (t.Var x)), a_truth_of (val (t.Var x)) e, a_truth_of (val (t.Var x)) e)
  variable_means sort.Loc x e = a_place_of (val (t.Var x)) e ∙ ap a_place (sym (offset_none (place_of (val (t.Var x)))))
  variable_means sort.Unit x e = a_unit_of (val (t.Var x)) e
  variable_means sort.Seq x e = a_seq_of (val (t.Var x)) e ∙ ap a_seq (sym (append-nil (seq_of (val (t.Var x)))))

  name_means : (x : List ℕ) (o : Option Sort) (r : Option ℕ) → variable_sort (scope x) ≡ o → position 0 roots x ≡ r → Has (name_sort o r) → M (name_form o x) (val (t.Var x))
  name_means x (Some s) r e g h = variable_means s x (a_sorted x s e)
  name_means x None (Some r) e g h = (r, g, root_value roots env x r g)
  name_means x None None e g h = let c = h.1 in cc

  -- ---- terms

  -- the normal form of a term that has a sort means the term's value
  abbrev pub Keeps : Term → Type 0
  Keeps u = Has (the_sort u) → (k : Form) → normal scope u ≡ an_answer k → M k (val u)

  leaf : (u : Term) (m : Form) → normal scope u ≡ an_answer m → M m (val u) → Keeps u
  leaf u m e means h k g = subst (λ z. M z (val u)) (ok_is m k (sym e ∙ g)) means

  of_one : (a c : Term) (make : Form → Answer) (g : Val → Val) → ((m : Form) (x : Val) → M m x → (k : Form) → make m ≡ an_answer k → M k (g x)) →
      normal scope c ≡ with_part (normal scope a) make → val c ≡ g (val a) → (Has (the_sort c) → Has (the_sort a)) → Keeps a → Keeps c
  of_one a c make g step n w sorts keeps h k e =
      let p = part (normal scope a) make k (sym n ∙ e) in
      subst (M k) (sym w) (step p.0 (val a) (keeps (sorts h) p.0 p.1) k p.2)

  of_two : (a b c : Term) (make : Form → Form → Answer) (g : Val → Val → Val) →
      ((m n : Form) (x y : Val) → M m x → M n y → (k : Form) → make m n ≡ an_answer k → M k (g x y)) →
      normal scope c ≡ with_parts (normal scope a) (normal scope b) make → val c ≡ g (val a) (val b) → (Has (the_sort c) → Has (the_sort a) × Has (the_sort b)) →
      Keeps a → Keeps b → Keeps c
  of_two a b c make g step n w sorts first second h k e =
      let p = part (normal scope a) (λ m. with_part (normal scope b) (make m)) k (sym n ∙ e) in
      let q = part (normal scope b) (make p.0) k p.2 in
      let s = sorts h in
      subst (M k) (sym w) (step p.0 q.0 (val a) (val b) (first s.0 p.0 p.1) (second s.1 q.0 q.1) k q.2)

  num_keeps : (n : ℕ) → Keeps (t.Num n)
  num_keeps n h k g =
      subst (λ z. M z (val (t.Num n))) (sym (within_is (number n) k (sym (at-Num Answer (normal_at scope) n) ∙ g)))
      (value-Num roots env n ∙ ap a_nat (sym (number_value (n_of roots env) n)))

  sort_is : (u : Term) (o : Option Sort) → the_sort u ≡ o → Has (the_sort u) → Has o
  sort_is u o e h = (h.0, sym e ∙ h.1)

  pub keeps_value : (u : Term) → Keeps u
  keeps_value (t.Num n) = num_keeps n
  keeps_value t.True = leaf t.True (bool t.True) (at-True Answer (normal_at scope)) (true, value-True roots env, value-True roots env)
  keeps_value t.False = leaf t.False (bool t.False) (at-False Answer (normal_at scope)) (false, value-False roots env, value-False roots env)
  keeps_value t.Null = leaf t.Null (loc null) (at-Null Answer (normal_at scope)) (value-Null roots env)
  keeps_value t.Nil = leaf t.Nil (seq []) (at-Nil Answer (normal_at scope)) (value-Nil roots env)
  keeps_value t.Unit = leaf t.Unit unit (at-Unit Answer (normal_at scope)) (value-Unit roots env)
  keeps_value (t.Var x) = λ h.
      leaf (t.Var x) (name_form (variable_sort (scope x)) x) (at-Var Answer (normal_at scope) x)
      (name_means x (variable_sort (scope x)) (position 0 roots x) refl refl (sort_is (t.Var x) (name_sort (variable_sort (scope x)) (position 0 roots x)) (at-Var (Option Sort) (sort_at roots scope) x) h))
      h
  keeps_value (Len a) =
      of_one a (Len a) _ (λ x. a_nat (length (seq_of x))) (len_means roots env)
      (ap (normal scope) (sym (Len-is a)) ∙ at-Len Answer (normal_at scope) a)
      (ap val (sym (Len-is a)) ∙ value-Len roots env a)
      (λ h. len_part (the_sort a) (sort_is (Len a) (len_sort (the_sort a)) (ap the_sort (sym (Len-is a)) ∙ at-Len (Option Sort) (sort_at roots scope) a) h))
      (keeps_value a)
  keeps_value (Offset a k) =
      of_one a (Offset a k) _ (λ x. a_place (offset_by k (place_of x))) (moved_means roots env k)
      (ap (normal scope) (sym (Offset-is a k)) ∙ at-Offset Answer (normal_at scope) a k)
      (ap val (sym (Offset-is a k)) ∙ value-Offset roots env a k)
      (λ h. offset_part (the_sort a) (sort_is (Offset a k) (offset_sort (the_sort a)) (ap the_sort (sym (Offset-is a k)) ∙ at-Offset (Option Sort) (sort_at roots scope) a k) h))
      (keeps_value a)
  keeps_value (Not a) =
      of_one a (Not a) _ (λ x. a_bool (not (bool_of x))) (not_means roots env)
      (ap (normal scope) (sym (Not-is a)) ∙ at-Not Answer (normal_at scope) a)
      (ap val (sym (Not-is a)) ∙ value-Not roots env a)
      (λ h. not_part (the_sort a) (sort_is (Not a) (not_sort (the_sort a)) (ap the_sort (sym (Not-is a)) ∙ at-Not (Option Sort) (sort_at roots scope) a) h))
      (keeps_value a)
  keeps_value (Mul a b) =
      of_two a b (Mul a b) _ (apply mul) (mul_means roots env)
      (ap (normal scope) (sym (Mul-is a b)) ∙ at-Mul Answer (normal_at scope) a b)
      (ap val (sym (Mul-is a b)) ∙ value-Mul roots env a b)
      (λ h. both_parts sort.Nat (the_sort a) (the_sort b) sort.Nat (sort_is (Mul a b) (both_of sort.Nat (the_sort a) (the_sort b) sort.Nat) (ap the_sort (sym (Mul-is a b)) ∙ at-Mul (Option Sort) (sort_at roots scope) a b) h))
      (keeps_value a) (keeps_value b)
  keeps_value (Add a b) =
      of_two a b (Add a b) _ (apply add) (add_means roots env)
      (ap (normal scope) (sym (Add-is a b)) ∙ at-Add Answer (normal_at scope) a b)
      (ap val (sym (Add-is a b)) ∙ value-Add roots env a b)
      (λ h. both_parts sort.Nat (the_sort a) (the_sort b) sort.Nat (sort_is (Add a b) (both_of sort.Nat (the_sort a) (the_sort b) sort.Nat) (ap the_sort (sym (Add-is a b)) ∙ at-Add (Option Sort) (sort_at roots scope) a b) h))
      (keeps_value a) (keeps_value b)
  keeps_value (Sub a b) =
      of_two a b (Sub a b) _ (apply sub) (sub_means roots env)
      (ap (normal scope) (sym (Sub-is a b)) ∙ at-Sub Answer (normal_at scope) a b)
      (ap val (sym (Sub-is a b)) ∙ value-Sub roots env a b)
      (λ h. both_parts sort.Nat (the_sort a) (the_sort b) sort.Nat (sort_is (Sub a b) (both_of sort.Nat (the_sort a) (the_sort b) sort.Nat) (ap the_sort (sym (Sub-is a b)) ∙ at-Sub (Option Sort) (sort_at roots scope) a b) h))
      (keeps_value a) (keeps_value b)
  keeps_value (Cons a b) =
      of_two a b (Cons a b) _ (apply cons) (cons_means roots env)
      (ap (normal scope) (sym (Cons-is a b)) ∙ at-Cons Answer (normal_at scope) a b)
      (ap val (sym (Cons-is a b)) ∙ value-Cons roots env a b)
      (λ h. cons_parts (the_sort a) (the_sort b) (sort_is (Cons a b) (cons_sort (the_sort a) (the_sort b)) (ap the_sort (sym (Cons-is a b)) ∙ at-Cons (Option Sort) (sort_at roots scope) a b) h))
      (keeps_value a) (keeps_value b)
  keeps_value (Cat a b) =
      of_two a b (Cat a b) _ (apply cat) (cat_means roots env)
      (ap (normal scope) (sym (Cat-is a b)) ∙ at-Cat Answer (normal_at scope) a b)
      (ap val (sym (Cat-is a b)) ∙ value-Cat roots env a b)
      (λ h. both_parts sort.Seq (the_sort a) (the_sort b) sort.Seq (sort_is (Cat a b) (both_of sort.Seq (the_sort a) (the_sort b) sort.Seq) (ap the_sort (sym (Cat-is a b)) ∙ at-Cat (Option Sort) (sort_at roots scope) a b) h))
      (keeps_value a) (keeps_value b)
  keeps_value (Eq a b) =
      of_two a b (Eq a b) _ (apply eq) (eq_means roots env)
      (ap (normal scope) (sym (Eq-is a b)) ∙ at-Eq Answer (normal_at scope) a b)
      (ap val (sym (Eq-is a b)) ∙ value-Eq roots env a b)
      (λ h. equation_parts (the_sort a) (the_sort b) (sort_is (Eq a b) (equation_sort (the_sort a) (the_sort b)) (ap the_sort (sym (Eq-is a b)) ∙ at-Eq (Option Sort) (sort_at roots scope) a b) h))
      (keeps_value a) (keeps_value b)
  keeps_value (Lt a b) =
      of_two a b (Lt a b) _ (apply lt) (lt_means roots env)
      (ap (normal scope) (sym (Lt-is a b)) ∙ at-Lt Answer (normal_at scope) a b)
      (ap val (sym (Lt-is a b)) ∙ value-Lt roots env a b)
      (λ h. both_parts sort.Nat (the_sort a) (the_sort b) sort.Bool (sort_is (Lt a b) (both_of sort.Nat (the_sort a) (the_sort b) sort.Bool) (ap the_sort (sym (Lt-is a b)) ∙ at-Lt (Option Sort) (sort_at roots scope) a b) h))
      (keeps_value a) (keeps_value b)
  keeps_value (Le a b) =
      of_two a b (Le a b) _ (apply le) (le_means roots env)
      (ap (normal scope) (sym (Le-is a b)) ∙ at-Le Answer (normal_at scope) a b)
      (ap val (sym (Le-is a b)) ∙ value-Le roots env a b)
      (λ h. both_parts sort.Nat (the_sort a) (the_sort b) sort.Bool (sort_is (Le a b) (both_of sort.Nat (the_sort a) (the_sort b) sort.Bool) (ap the_sort (sym (Le-is a b)) ∙ at-Le (Option Sort) (sort_at roots scope) a b) h))
      (keeps_value a) (keeps_value b)
  keeps_value (And a b) =
      of_two a b (And a b) _ (apply conj) (and_means roots env)
      (ap (normal scope) (sym (And-is a b)) ∙ at-And Answer (normal_at scope) a b)
      (ap val (sym (And-is a b)) ∙ value-And roots env a b)
      (λ h. both_parts sort.Bool (the_sort a) (the_sort b) sort.Bool (sort_is (And a b) (both_of sort.Bool (the_sort a) (the_sort b) sort.Bool) (ap the_sort (sym (And-is a b)) ∙ at-And (Option Sort) (sort_at roots scope) a b) h))
      (keeps_value a) (keeps_value b)
  keeps_value (Or a b) =
      of_two a b (Or a b) _ (apply disj) (or_means roots env)
      (ap (normal scope) (sym (Or-is a b)) ∙ at-Or Answer (normal_at scope) a b)
      (ap val (sym (Or-is a b)) ∙ value-Or roots env a b)
      (λ h. both_parts sort.Bool (the_sort a) (the_sort b) sort.Bool (sort_is (Or a b) (both_of sort.Bool (the_sort a) (the_sort b) sort.Bool) (ap the_sort (sym (Or-is a b)) ∙ at-Or (Option Sort) (sort_at roots scope) a b) h))
      (keeps_value a) (keeps_value b)
  keeps_value (Imp a b) =
      of_two a b (Imp a b) _ (apply imp) (imp_means roots env)
      (ap (normal scope) (sym (Imp-is a b)) ∙ at-Imp Answer (normal_at scope) a b)
      (ap val (sym (Imp-is a b)) ∙ value-Imp roots env a b)
      (λ h. both_parts sort.Bool (the_sort a) (the_sort b) sort.Bool (sort_is (Imp a b) (both_of sort.Bool (the_sort a) (the_sort b) sort.Bool) (ap the_sort (sym (Imp-is a b)) ∙ at-Imp (Option Sort) (sort_at roots scope) a b) h))
      (keeps_value a) (keeps_value b)

abbrev a_term : Term → Result Term NormalEnd
a_term u = Ok u

-- The law: where a term has a sort, it and its normal form have one value in every environment that fits the scope.
pub normal_value : (roots : Names) (scope : Scope) (env : Env) → Fits roots scope env → (u : Term) (s : Sort) → sort_of roots scope u ≡ Some s →
    (w : Term) → normal_term scope u ≡ a_term w → value roots env w ≡ value roots env u
normal_value roots scope env fits u s e w g = from (normal scope u) refl g
  where
    from : (a : Answer) → normal scope u ≡ a → in_term a ≡ a_term w → value roots env w ≡ value roots env u
    from (Ok m) h f =
        let same : term_of m ≡ w = cc in
        ap (value roots env) (sym same) ∙ term_of_is roots env m (value roots env u) (keeps_value roots scope env fits u (s, e) m h)
    from (Err d) h f = cc
