-- Putting terms in: the value of what it makes, its size, and what it is in nameless terms.
use Rattle.std.proofs.Common.{◌≡◌, ℕ, ◌+◌, max, not, length, List, [], Option, Some, None, refl, sym, ◌∙◌, ap}
use Rattle.tht_tree.specs.declared.term.Term.{Term}
use Rattle.tht_tree.specs.declared.term.Term.TheVariants as t
use Rattle.tht_tree.specs.Values.{Val, Env, bool_of, place_of, seq_of, a_nat, a_bool, a_place}
use Rattle.tht_tree.specs.Syntax.{Names, position, Trm, lit, free, bound, len, off, neg, op, mul, add, sub, cons, cat, eq, lt, le, conj, disj, imp, root_or_free, named, trm_at, trm}
use Rattle.tht_tree.specs.Rules.Sizes.{nodes_at, nodes, levels_at, levels, is_within, formula_fits}
use Rattle.tht_tree.proofs.TermFolds.{Len, Offset, Not, Mul, Add, Sub, Cons, Cat, Eq, Lt, Le, And, Or, Imp, Len-is, Not-is, Offset-is, Mul-is, Add-is, Sub-is, Cons-is, Cat-is, Eq-is, Lt-is, Le-is, And-is, Or-is, Imp-is, at-Num, at-True, at-False, at-Null, at-Nil, at-Unit, at-Var, at-Len, at-Not, at-Offset, at-Mul, at-Add, at-Sub, at-Cons, at-Cat, at-Eq, at-Lt, at-Le, at-And, at-Or, at-Imp}
use Rattle.tht_tree.specs.Terms.{offset_by, apply, value_of, value}
use Rattle.tht_tree.specs.Normal.Putting.{Puts, put_name, put_at, put_in, put_nodes_at, put_nodes, put_levels_at, put_levels, put, over}

-- ---- in nameless terms

-- putting in has the value in the environment with the values of what is put in, which no bound variable changes
module _ (env : Env) (by : List ℕ → Trm) (vs : List Val) (closed : (x : List ℕ) → value_of env vs (by x) ≡ value_of env [] (by x)) where
  pub put_value : (u : Trm) → value_of env vs (put by u) ≡ value_of (λ x. value_of env [] (by x)) vs u
  put_value (lit v) = refl
  put_value (free x) = closed x
  put_value (bound k) = refl
  put_value (len a) = ap (λ w. a_nat (length (seq_of w))) (put_value a)
  put_value (off k a) = ap (λ w. a_place (offset_by k (place_of w))) (put_value a)
  put_value (neg a) = ap (λ w. a_bool (not (bool_of w))) (put_value a)
  put_value (op o a b) = λ i. apply o (put_value a i) (put_value b i)

-- what is put in by names is what is put in without names, where each name fares so
module _ (roots xs : Names) (pairs : Puts) (by : List ℕ → Trm) (names : (x : List ℕ) → trm roots xs (put_name pairs x) ≡ put by (named roots x (position 0 xs x))) where
  abbrev made : Term → Term
  made = put_in pairs

  pub trm-put : (u : Term) → trm roots xs (put_in pairs u) ≡ put by (trm roots xs u)
  trm-put (t.Num n) = ap (trm roots xs) (at-Num Term (put_at pairs) n) ∙ at-Num Trm (trm_at roots xs) n ∙ ap (put by) (sym (at-Num Trm (trm_at roots xs) n))
  trm-put t.True = ap (trm roots xs) (at-True Term (put_at pairs)) ∙ at-True Trm (trm_at roots xs) ∙ ap (put by) (sym (at-True Trm (trm_at roots xs)))
  trm-put t.False = ap (trm roots xs) (at-False Term (put_at pairs)) ∙ at-False Trm (trm_at roots xs) ∙ ap (put by) (sym (at-False Trm (trm_at roots xs)))
  trm-put t.Null = ap (trm roots xs) (at-Null Term (put_at pairs)) ∙ at-Null Trm (trm_at roots xs) ∙ ap (put by) (sym (at-Null Trm (trm_at roots xs)))
  trm-put t.Nil = ap (trm roots xs) (at-Nil Term (put_at pairs)) ∙ at-Nil Trm (trm_at roots xs) ∙ ap (put by) (sym (at-Nil Trm (trm_at roots xs)))
  trm-put t.Unit = ap (trm roots xs) (at-Unit Term (put_at pairs)) ∙ at-Unit Trm (trm_at roots xs) ∙ ap (put by) (sym (at-Unit Trm (trm_at roots xs)))
  trm-put (t.Var x) = ap (trm roots xs) (at-Var Term (put_at pairs) x) ∙ names x ∙ ap (put by) (sym (at-Var Trm (trm_at roots xs) x))
  trm-put (Len a) =
      ap (trm roots xs) (ap made (sym (Len-is a)) ∙ at-Len Term (put_at pairs) a) ∙ at-Len Trm (trm_at roots xs) (made a)
      ∙ ap len (trm-put a)
      ∙ ap (put by) (sym (ap (trm roots xs) (sym (Len-is a)) ∙ at-Len Trm (trm_at roots xs) a))
  trm-put (Not a) =
      ap (trm roots xs) (ap made (sym (Not-is a)) ∙ at-Not Term (put_at pairs) a) ∙ at-Not Trm (trm_at roots xs) (made a)
      ∙ ap neg (trm-put a)
      ∙ ap (put by) (sym (ap (trm roots xs) (sym (Not-is a)) ∙ at-Not Trm (trm_at roots xs) a))
  trm-put (Offset a k) =
      ap (trm roots xs) (ap made (sym (Offset-is a k)) ∙ at-Offset Term (put_at pairs) a k) ∙ at-Offset Trm (trm_at roots xs) (made a) k
      ∙ ap (off k) (trm-put a)
      ∙ ap (put by) (sym (ap (trm roots xs) (sym (Offset-is a k)) ∙ at-Offset Trm (trm_at roots xs) a k))
  trm-put (Mul a b) =
      ap (trm roots xs) (ap made (sym (Mul-is a b)) ∙ at-Mul Term (put_at pairs) a b) ∙ at-Mul Trm (trm_at roots xs) (made a) (made b)
      ∙ (λ i. op mul (trm-put a i) (trm-put b i))
      ∙ ap (put by) (sym (ap (trm roots xs) (sym (Mul-is a b)) ∙ at-Mul Trm (trm_at roots xs) a b))
  trm-put (Add a b) =
      ap (trm roots xs) (ap made (sym (Add-is a b)) ∙ at-Add Term (put_at pairs) a b) ∙ at-Add Trm (trm_at roots xs) (made a) (made b)
      ∙ (λ i. op add (trm-put a i) (trm-put b i))
      ∙ ap (put by) (sym (ap (trm roots xs) (sym (Add-is a b)) ∙ at-Add Trm (trm_at roots xs) a b))
  trm-put (Sub a b) =
      ap (trm roots xs) (ap made (sym (Sub-is a b)) ∙ at-Sub Term (put_at pairs) a b) ∙ at-Sub Trm (trm_at roots xs) (made a) (made b)
      ∙ (λ i. op sub (trm-put a i) (trm-put b i))
      ∙ ap (put by) (sym (ap (trm roots xs) (sym (Sub-is a b)) ∙ at-Sub Trm (trm_at roots xs) a b))
  trm-put (Cons a b) =
      ap (trm roots xs) (ap made (sym (Cons-is a b)) ∙ at-Cons Term (put_at pairs) a b) ∙ at-Cons Trm (trm_at roots xs) (made a) (made b)
      ∙ (λ i. op cons (trm-put a i) (trm-put b i))
      ∙ ap (put by) (sym (ap (trm roots xs) (sym (Cons-is a b)) ∙ at-Cons Trm (trm_at roots xs) a b))
  trm-put (Cat a b) =
      ap (trm roots xs) (ap made (sym (Cat-is a b)) ∙ at-Cat Term (put_at pairs) a b) ∙ at-Cat Trm (trm_at roots xs) (made a) (made b)
      ∙ (λ i. op cat (trm-put a i) (trm-put b i))
      ∙ ap (put by) (sym (ap (trm roots xs) (sym (Cat-is a b)) ∙ at-Cat Trm (trm_at roots xs) a b))
  trm-put (Eq a b) =
      ap (trm roots xs) (ap made (sym (Eq-is a b)) ∙ at-Eq Term (put_at pairs) a b) ∙ at-Eq Trm (trm_at roots xs) (made a) (made b)
      ∙ (λ i. op eq (trm-put a i) (trm-put b i))
      ∙ ap (put by) (sym (ap (trm roots xs) (sym (Eq-is a b)) ∙ at-Eq Trm (trm_at roots xs) a b))
  trm-put (Lt a b) =
      ap (trm roots xs) (ap made (sym (Lt-is a b)) ∙ at-Lt Term (put_at pairs) a b) ∙ at-Lt Trm (trm_at roots xs) (made a) (made b)
      ∙ (λ i. op lt (trm-put a i) (trm-put b i))
      ∙ ap (put by) (sym (ap (trm roots xs) (sym (Lt-is a b)) ∙ at-Lt Trm (trm_at roots xs) a b))
  trm-put (Le a b) =
      ap (trm roots xs) (ap made (sym (Le-is a b)) ∙ at-Le Term (put_at pairs) a b) ∙ at-Le Trm (trm_at roots xs) (made a) (made b)
      ∙ (λ i. op le (trm-put a i) (trm-put b i))
      ∙ ap (put by) (sym (ap (trm roots xs) (sym (Le-is a b)) ∙ at-Le Trm (trm_at roots xs) a b))
  trm-put (And a b) =
      ap (trm roots xs) (ap made (sym (And-is a b)) ∙ at-And Term (put_at pairs) a b) ∙ at-And Trm (trm_at roots xs) (made a) (made b)
      ∙ (λ i. op conj (trm-put a i) (trm-put b i))
      ∙ ap (put by) (sym (ap (trm roots xs) (sym (And-is a b)) ∙ at-And Trm (trm_at roots xs) a b))
  trm-put (Or a b) =
      ap (trm roots xs) (ap made (sym (Or-is a b)) ∙ at-Or Term (put_at pairs) a b) ∙ at-Or Trm (trm_at roots xs) (made a) (made b)
      ∙ (λ i. op disj (trm-put a i) (trm-put b i))
      ∙ ap (put by) (sym (ap (trm roots xs) (sym (Or-is a b)) ∙ at-Or Trm (trm_at roots xs) a b))
  trm-put (Imp a b) =
      ap (trm roots xs) (ap made (sym (Imp-is a b)) ∙ at-Imp Term (put_at pairs) a b) ∙ at-Imp Trm (trm_at roots xs) (made a) (made b)
      ∙ (λ i. op imp (trm-put a i) (trm-put b i))
      ∙ ap (put by) (sym (ap (trm roots xs) (sym (Imp-is a b)) ∙ at-Imp Trm (trm_at roots xs) a b))

-- ---- in the terms of a source

-- The law: the term with terms put in has the value of the term where each name has the value of what stands for it. The
-- names that are replaced are no roots' names.
module _ (roots : Names) (env : Env) (pairs : Puts) (roots_stay : (x : List ℕ) (r : ℕ) → position 0 roots x ≡ Some r → put_name pairs x ≡ t.Var x) where
  by_name : (x : List ℕ) (o : Option ℕ) → position 0 roots x ≡ o → trm roots [] (put_name pairs x) ≡ put (λ y. trm roots [] (put_name pairs y)) (root_or_free x o)
  by_name x (Some r) e = ap (trm roots []) (roots_stay x r e) ∙ at-Var Trm (trm_at roots []) x ∙ ap (root_or_free x) e
  by_name x None e = refl

  pub put_in_value : (u : Term) → value roots env (put_in pairs u) ≡ value roots (over roots env pairs) u
  put_in_value u =
      ap (value_of env []) (trm-put roots [] pairs (λ y. trm roots [] (put_name pairs y)) (λ x. by_name x (position 0 roots x) refl) u)
      ∙ put_value env (λ y. trm roots [] (put_name pairs y)) [] (λ x. refl) (trm roots [] u)

-- ---- its size

module _ (pairs : Puts) where
  abbrev now : Term → Term
  now = put_in pairs

  pub put_nodes_is : (u : Term) → nodes (put_in pairs u) ≡ put_nodes pairs u
  put_nodes_is (t.Num n) = ap nodes (at-Num Term (put_at pairs) n) ∙ at-Num ℕ nodes_at n ∙ sym (at-Num ℕ (put_nodes_at pairs) n)
  put_nodes_is t.True = ap nodes (at-True Term (put_at pairs)) ∙ at-True ℕ nodes_at ∙ sym (at-True ℕ (put_nodes_at pairs))
  put_nodes_is t.False = ap nodes (at-False Term (put_at pairs)) ∙ at-False ℕ nodes_at ∙ sym (at-False ℕ (put_nodes_at pairs))
  put_nodes_is t.Null = ap nodes (at-Null Term (put_at pairs)) ∙ at-Null ℕ nodes_at ∙ sym (at-Null ℕ (put_nodes_at pairs))
  put_nodes_is t.Nil = ap nodes (at-Nil Term (put_at pairs)) ∙ at-Nil ℕ nodes_at ∙ sym (at-Nil ℕ (put_nodes_at pairs))
  put_nodes_is t.Unit = ap nodes (at-Unit Term (put_at pairs)) ∙ at-Unit ℕ nodes_at ∙ sym (at-Unit ℕ (put_nodes_at pairs))
  put_nodes_is (t.Var x) = ap nodes (at-Var Term (put_at pairs) x) ∙ sym (at-Var ℕ (put_nodes_at pairs) x)
  put_nodes_is (Len a) =
      ap nodes (ap now (sym (Len-is a)) ∙ at-Len Term (put_at pairs) a) ∙ at-Len ℕ nodes_at (now a) ∙ ap (λ n. n + 1) (put_nodes_is a) ∙ sym (ap (put_nodes pairs) (sym (Len-is a)) ∙ at-Len ℕ (put_nodes_at pairs) a)
  put_nodes_is (Not a) =
      ap nodes (ap now (sym (Not-is a)) ∙ at-Not Term (put_at pairs) a) ∙ at-Not ℕ nodes_at (now a) ∙ ap (λ n. n + 1) (put_nodes_is a) ∙ sym (ap (put_nodes pairs) (sym (Not-is a)) ∙ at-Not ℕ (put_nodes_at pairs) a)
  put_nodes_is (Offset a k) =
      ap nodes (ap now (sym (Offset-is a k)) ∙ at-Offset Term (put_at pairs) a k) ∙ at-Offset ℕ nodes_at (now a) k ∙ ap (λ n. n + 1) (put_nodes_is a) ∙ sym (ap (put_nodes pairs) (sym (Offset-is a k)) ∙ at-Offset ℕ (put_nodes_at pairs) a k)
  put_nodes_is (Mul a b) =
      ap nodes (ap now (sym (Mul-is a b)) ∙ at-Mul Term (put_at pairs) a b) ∙ at-Mul ℕ nodes_at (now a) (now b) ∙ (λ i. put_nodes_is a i + put_nodes_is b i + 1) ∙ sym (ap (put_nodes pairs) (sym (Mul-is a b)) ∙ at-Mul ℕ (put_nodes_at pairs) a b)
  put_nodes_is (Add a b) =
      ap nodes (ap now (sym (Add-is a b)) ∙ at-Add Term (put_at pairs) a b) ∙ at-Add ℕ nodes_at (now a) (now b) ∙ (λ i. put_nodes_is a i + put_nodes_is b i + 1) ∙ sym (ap (put_nodes pairs) (sym (Add-is a b)) ∙ at-Add ℕ (put_nodes_at pairs) a b)
  put_nodes_is (Sub a b) =
      ap nodes (ap now (sym (Sub-is a b)) ∙ at-Sub Term (put_at pairs) a b) ∙ at-Sub ℕ nodes_at (now a) (now b) ∙ (λ i. put_nodes_is a i + put_nodes_is b i + 1) ∙ sym (ap (put_nodes pairs) (sym (Sub-is a b)) ∙ at-Sub ℕ (put_nodes_at pairs) a b)
  put_nodes_is (Cons a b) =
      ap nodes (ap now (sym (Cons-is a b)) ∙ at-Cons Term (put_at pairs) a b) ∙ at-Cons ℕ nodes_at (now a) (now b) ∙ (λ i. put_nodes_is a i + put_nodes_is b i + 1) ∙ sym (ap (put_nodes pairs) (sym (Cons-is a b)) ∙ at-Cons ℕ (put_nodes_at pairs) a b)
  put_nodes_is (Cat a b) =
      ap nodes (ap now (sym (Cat-is a b)) ∙ at-Cat Term (put_at pairs) a b) ∙ at-Cat ℕ nodes_at (now a) (now b) ∙ (λ i. put_nodes_is a i + put_nodes_is b i + 1) ∙ sym (ap (put_nodes pairs) (sym (Cat-is a b)) ∙ at-Cat ℕ (put_nodes_at pairs) a b)
  put_nodes_is (Eq a b) =
      ap nodes (ap now (sym (Eq-is a b)) ∙ at-Eq Term (put_at pairs) a b) ∙ at-Eq ℕ nodes_at (now a) (now b) ∙ (λ i. put_nodes_is a i + put_nodes_is b i + 1) ∙ sym (ap (put_nodes pairs) (sym (Eq-is a b)) ∙ at-Eq ℕ (put_nodes_at pairs) a b)
  put_nodes_is (Lt a b) =
      ap nodes (ap now (sym (Lt-is a b)) ∙ at-Lt Term (put_at pairs) a b) ∙ at-Lt ℕ nodes_at (now a) (now b) ∙ (λ i. put_nodes_is a i + put_nodes_is b i + 1) ∙ sym (ap (put_nodes pairs) (sym (Lt-is a b)) ∙ at-Lt ℕ (put_nodes_at pairs) a b)
  put_nodes_is (Le a b) =
      ap nodes (ap now (sym (Le-is a b)) ∙ at-Le Term (put_at pairs) a b) ∙ at-Le ℕ nodes_at (now a) (now b) ∙ (λ i. put_nodes_is a i + put_nodes_is b i + 1) ∙ sym (ap (put_nodes pairs) (sym (Le-is a b)) ∙ at-Le ℕ (put_nodes_at pairs) a b)
  put_nodes_is (And a b) =
      ap nodes (ap now (sym (And-is a b)) ∙ at-And Term (put_at pairs) a b) ∙ at-And ℕ nodes_at (now a) (now b) ∙ (λ i. put_nodes_is a i + put_nodes_is b i + 1) ∙ sym (ap (put_nodes pairs) (sym (And-is a b)) ∙ at-And ℕ (put_nodes_at pairs) a b)
  put_nodes_is (Or a b) =
      ap nodes (ap now (sym (Or-is a b)) ∙ at-Or Term (put_at pairs) a b) ∙ at-Or ℕ nodes_at (now a) (now b) ∙ (λ i. put_nodes_is a i + put_nodes_is b i + 1) ∙ sym (ap (put_nodes pairs) (sym (Or-is a b)) ∙ at-Or ℕ (put_nodes_at pairs) a b)
  put_nodes_is (Imp a b) =
      ap nodes (ap now (sym (Imp-is a b)) ∙ at-Imp Term (put_at pairs) a b) ∙ at-Imp ℕ nodes_at (now a) (now b) ∙ (λ i. put_nodes_is a i + put_nodes_is b i + 1) ∙ sym (ap (put_nodes pairs) (sym (Imp-is a b)) ∙ at-Imp ℕ (put_nodes_at pairs) a b)

  pub put_levels_is : (u : Term) → levels (put_in pairs u) ≡ put_levels pairs u
  put_levels_is (t.Num n) = ap levels (at-Num Term (put_at pairs) n) ∙ at-Num ℕ levels_at n ∙ sym (at-Num ℕ (put_levels_at pairs) n)
  put_levels_is t.True = ap levels (at-True Term (put_at pairs)) ∙ at-True ℕ levels_at ∙ sym (at-True ℕ (put_levels_at pairs))
  put_levels_is t.False = ap levels (at-False Term (put_at pairs)) ∙ at-False ℕ levels_at ∙ sym (at-False ℕ (put_levels_at pairs))
  put_levels_is t.Null = ap levels (at-Null Term (put_at pairs)) ∙ at-Null ℕ levels_at ∙ sym (at-Null ℕ (put_levels_at pairs))
  put_levels_is t.Nil = ap levels (at-Nil Term (put_at pairs)) ∙ at-Nil ℕ levels_at ∙ sym (at-Nil ℕ (put_levels_at pairs))
  put_levels_is t.Unit = ap levels (at-Unit Term (put_at pairs)) ∙ at-Unit ℕ levels_at ∙ sym (at-Unit ℕ (put_levels_at pairs))
  put_levels_is (t.Var x) = ap levels (at-Var Term (put_at pairs) x) ∙ sym (at-Var ℕ (put_levels_at pairs) x)
  put_levels_is (Len a) =
      ap levels (ap now (sym (Len-is a)) ∙ at-Len Term (put_at pairs) a) ∙ at-Len ℕ levels_at (now a) ∙ ap (λ n. n + 1) (put_levels_is a) ∙ sym (ap (put_levels pairs) (sym (Len-is a)) ∙ at-Len ℕ (put_levels_at pairs) a)
  put_levels_is (Not a) =
      ap levels (ap now (sym (Not-is a)) ∙ at-Not Term (put_at pairs) a) ∙ at-Not ℕ levels_at (now a) ∙ ap (λ n. n + 1) (put_levels_is a) ∙ sym (ap (put_levels pairs) (sym (Not-is a)) ∙ at-Not ℕ (put_levels_at pairs) a)
  put_levels_is (Offset a k) =
      ap levels (ap now (sym (Offset-is a k)) ∙ at-Offset Term (put_at pairs) a k) ∙ at-Offset ℕ levels_at (now a) k ∙ ap (λ n. n + 1) (put_levels_is a) ∙ sym (ap (put_levels pairs) (sym (Offset-is a k)) ∙ at-Offset ℕ (put_levels_at pairs) a k)
  put_levels_is (Mul a b) =
      ap levels (ap now (sym (Mul-is a b)) ∙ at-Mul Term (put_at pairs) a b) ∙ at-Mul ℕ levels_at (now a) (now b) ∙ (λ i. max (put_levels_is a i) (put_levels_is b i) + 1) ∙ sym (ap (put_levels pairs) (sym (Mul-is a b)) ∙ at-Mul ℕ (put_levels_at pairs) a b)
  put_levels_is (Add a b) =
      ap levels (ap now (sym (Add-is a b)) ∙ at-Add Term (put_at pairs) a b) ∙ at-Add ℕ levels_at (now a) (now b) ∙ (λ i. max (put_levels_is a i) (put_levels_is b i) + 1) ∙ sym (ap (put_levels pairs) (sym (Add-is a b)) ∙ at-Add ℕ (put_levels_at pairs) a b)
  put_levels_is (Sub a b) =
      ap levels (ap now (sym (Sub-is a b)) ∙ at-Sub Term (put_at pairs) a b) ∙ at-Sub ℕ levels_at (now a) (now b) ∙ (λ i. max (put_levels_is a i) (put_levels_is b i) + 1) ∙ sym (ap (put_levels pairs) (sym (Sub-is a b)) ∙ at-Sub ℕ (put_levels_at pairs) a b)
  put_levels_is (Cons a b) =
      ap levels (ap now (sym (Cons-is a b)) ∙ at-Cons Term (put_at pairs) a b) ∙ at-Cons ℕ levels_at (now a) (now b) ∙ (λ i. max (put_levels_is a i) (put_levels_is b i) + 1) ∙ sym (ap (put_levels pairs) (sym (Cons-is a b)) ∙ at-Cons ℕ (put_levels_at pairs) a b)
  put_levels_is (Cat a b) =
      ap levels (ap now (sym (Cat-is a b)) ∙ at-Cat Term (put_at pairs) a b) ∙ at-Cat ℕ levels_at (now a) (now b) ∙ (λ i. max (put_levels_is a i) (put_levels_is b i) + 1) ∙ sym (ap (put_levels pairs) (sym (Cat-is a b)) ∙ at-Cat ℕ (put_levels_at pairs) a b)
  put_levels_is (Eq a b) =
      ap levels (ap now (sym (Eq-is a b)) ∙ at-Eq Term (put_at pairs) a b) ∙ at-Eq ℕ levels_at (now a) (now b) ∙ (λ i. max (put_levels_is a i) (put_levels_is b i) + 1) ∙ sym (ap (put_levels pairs) (sym (Eq-is a b)) ∙ at-Eq ℕ (put_levels_at pairs) a b)
  put_levels_is (Lt a b) =
      ap levels (ap now (sym (Lt-is a b)) ∙ at-Lt Term (put_at pairs) a b) ∙ at-Lt ℕ levels_at (now a) (now b) ∙ (λ i. max (put_levels_is a i) (put_levels_is b i) + 1) ∙ sym (ap (put_levels pairs) (sym (Lt-is a b)) ∙ at-Lt ℕ (put_levels_at pairs) a b)
  put_levels_is (Le a b) =
      ap levels (ap now (sym (Le-is a b)) ∙ at-Le Term (put_at pairs) a b) ∙ at-Le ℕ levels_at (now a) (now b) ∙ (λ i. max (put_levels_is a i) (put_levels_is b i) + 1) ∙ sym (ap (put_levels pairs) (sym (Le-is a b)) ∙ at-Le ℕ (put_levels_at pairs) a b)
  put_levels_is (And a b) =
      ap levels (ap now (sym (And-is a b)) ∙ at-And Term (put_at pairs) a b) ∙ at-And ℕ levels_at (now a) (now b) ∙ (λ i. max (put_levels_is a i) (put_levels_is b i) + 1) ∙ sym (ap (put_levels pairs) (sym (And-is a b)) ∙ at-And ℕ (put_levels_at pairs) a b)
  put_levels_is (Or a b) =
      ap levels (ap now (sym (Or-is a b)) ∙ at-Or Term (put_at pairs) a b) ∙ at-Or ℕ levels_at (now a) (now b) ∙ (λ i. max (put_levels_is a i) (put_levels_is b i) + 1) ∙ sym (ap (put_levels pairs) (sym (Or-is a b)) ∙ at-Or ℕ (put_levels_at pairs) a b)
  put_levels_is (Imp a b) =
      ap levels (ap now (sym (Imp-is a b)) ∙ at-Imp Term (put_at pairs) a b) ∙ at-Imp ℕ levels_at (now a) (now b) ∙ (λ i. max (put_levels_is a i) (put_levels_is b i) + 1) ∙ sym (ap (put_levels pairs) (sym (Imp-is a b)) ∙ at-Imp ℕ (put_levels_at pairs) a b)

  -- so whether it fits is known before it is made
  pub put_fits : (u : Term) → formula_fits (put_in pairs u) ≡ is_within (put_nodes pairs u) (put_levels pairs u)
  put_fits u = λ i. is_within (put_nodes_is u i) (put_levels_is u i)
