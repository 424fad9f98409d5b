-- Whether two terms are the same tree.
use Rattle.std.specs.Prelude.{ℕ, ◌==◌, Bool, true, false, ◌&&◌, bytes_eq, List}
use Rattle.tht_tree.specs.declared.term.Term.{Term, fold-Term, out-Term}
use Rattle.tht_tree.specs.declared.term.Term.TheOpen as t

abbrev pub is_num : ℕ → t.Term-F Term → Bool
is_num n (t.Num m) = n == m
is_num n _ = false

abbrev pub is_true : t.Term-F Term → Bool
is_true t.True = true
is_true _ = false

abbrev pub is_false : t.Term-F Term → Bool
is_false t.False = true
is_false _ = false

abbrev pub is_null : t.Term-F Term → Bool
is_null t.Null = true
is_null _ = false

abbrev pub is_nil_term : t.Term-F Term → Bool
is_nil_term t.Nil = true
is_nil_term _ = false

abbrev pub is_unit : t.Term-F Term → Bool
is_unit t.Unit = true
is_unit _ = false

abbrev pub is_var : List ℕ → t.Term-F Term → Bool
is_var x (t.Var y) = bytes_eq x y
is_var x _ = false

abbrev pub is_len : (Term → Bool) → t.Term-F Term → Bool
is_len f (t.Len a) = f a
is_len f _ = false

abbrev pub is_offset : (Term → Bool) → ℕ → t.Term-F Term → Bool
is_offset f k (t.Offset a l) = (k == l) && f a
is_offset f k _ = false

abbrev pub is_product : (Term → Bool) → (Term → Bool) → t.Term-F Term → Bool
is_product f g (t.Mul a b) = f a && g b
is_product f g _ = false

abbrev pub is_sum : (Term → Bool) → (Term → Bool) → t.Term-F Term → Bool
is_sum f g (t.Add a b) = f a && g b
is_sum f g _ = false

abbrev pub is_difference : (Term → Bool) → (Term → Bool) → t.Term-F Term → Bool
is_difference f g (t.Sub a b) = f a && g b
is_difference f g _ = false

abbrev pub is_cons : (Term → Bool) → (Term → Bool) → t.Term-F Term → Bool
is_cons f g (t.Cons a b) = f a && g b
is_cons f g _ = false

abbrev pub is_cat : (Term → Bool) → (Term → Bool) → t.Term-F Term → Bool
is_cat f g (t.Cat a b) = f a && g b
is_cat f g _ = false

abbrev pub is_equation : (Term → Bool) → (Term → Bool) → t.Term-F Term → Bool
is_equation f g (t.Eq a b) = f a && g b
is_equation f g _ = false

abbrev pub is_less : (Term → Bool) → (Term → Bool) → t.Term-F Term → Bool
is_less f g (t.Lt a b) = f a && g b
is_less f g _ = false

abbrev pub is_at_most : (Term → Bool) → (Term → Bool) → t.Term-F Term → Bool
is_at_most f g (t.Le a b) = f a && g b
is_at_most f g _ = false

abbrev pub is_negation : (Term → Bool) → t.Term-F Term → Bool
is_negation f (t.Not a) = f a
is_negation f _ = false

abbrev pub is_and : (Term → Bool) → (Term → Bool) → t.Term-F Term → Bool
is_and f g (t.And a b) = f a && g b
is_and f g _ = false

abbrev pub is_or : (Term → Bool) → (Term → Bool) → t.Term-F Term → Bool
is_or f g (t.Or a b) = f a && g b
is_or f g _ = false

abbrev pub is_implication : (Term → Bool) → (Term → Bool) → t.Term-F Term → Bool
is_implication f g (t.Imp a b) = f a && g b
is_implication f g _ = false

abbrev pub same_at : t.Term-F (Term → Bool) → Term → Bool
same_at (t.Num n) u = is_num n (out-Term u)
same_at t.True u = is_true (out-Term u)
same_at t.False u = is_false (out-Term u)
same_at t.Null u = is_null (out-Term u)
same_at t.Nil u = is_nil_term (out-Term u)
same_at t.Unit u = is_unit (out-Term u)
same_at (t.Var x) u = is_var x (out-Term u)
same_at (t.Len f) u = is_len f (out-Term u)
same_at (t.Offset f k) u = is_offset f k (out-Term u)
same_at (t.Mul f g) u = is_product f g (out-Term u)
same_at (t.Add f g) u = is_sum f g (out-Term u)
same_at (t.Sub f g) u = is_difference f g (out-Term u)
same_at (t.Cons f g) u = is_cons f g (out-Term u)
same_at (t.Cat f g) u = is_cat f g (out-Term u)
same_at (t.Eq f g) u = is_equation f g (out-Term u)
same_at (t.Lt f g) u = is_less f g (out-Term u)
same_at (t.Le f g) u = is_at_most f g (out-Term u)
same_at (t.Not f) u = is_negation f (out-Term u)
same_at (t.And f g) u = is_and f g (out-Term u)
same_at (t.Or f g) u = is_or f g (out-Term u)
same_at (t.Imp f g) u = is_implication f g (out-Term u)

-- whether two terms are the same tree
abbrev pub same_of : Term → Term → Bool
same_of = fold-Term (Term → Bool) same_at
