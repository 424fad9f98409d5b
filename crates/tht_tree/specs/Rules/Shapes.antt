-- What a formula says, by its shape: the parts of one that has the shape, or nothing.
use Rattle.std.specs.Prelude.{Bool, true, false, ◌&&◌, Option, Some, None, option_and_then, if◌then◌else◌}
use Rattle.tht_tree.specs.declared.term.Term.{Term, out-Term}
use Rattle.tht_tree.specs.declared.term.Term.TheVariants as term
use Rattle.tht_tree.specs.declared.term.Term.TheOpen as t
use Rattle.tht_tree.specs.SameTree.{same_of, is_num, is_null, is_nil_term}

-- two terms: the sides of an equation, say
abbrev pub Pair : Type 0
Pair = Term × Term

-- ---- connectives

abbrev pub conjunction_at : t.Term-F Term → Option Pair
conjunction_at (t.And a b) = Some (a, b)
conjunction_at _ = None

-- `a and b`
abbrev pub as_conjunction : Term → Option Pair
as_conjunction u = conjunction_at (out-Term u)

abbrev pub disjunction_at : t.Term-F Term → Option Pair
disjunction_at (t.Or a b) = Some (a, b)
disjunction_at _ = None

-- `a or b`
abbrev pub as_disjunction : Term → Option Pair
as_disjunction u = disjunction_at (out-Term u)

abbrev pub implication_at : t.Term-F Term → Option Pair
implication_at (t.Imp a b) = Some (a, b)
implication_at (t.Not a) = Some (a, term.False)
implication_at _ = None

-- `a imp b`; and `not a`, which says that a implies `false`
abbrev pub as_implication : Term → Option Pair
as_implication u = implication_at (out-Term u)

-- ---- equations

abbrev pub equation_at : t.Term-F Term → Option Pair
equation_at (t.Eq a b) = Some (a, b)
equation_at _ = None

-- `a = b`
abbrev pub as_equation : Term → Option Pair
as_equation u = equation_at (out-Term u)

abbrev pub disequation_at : t.Term-F Term → Option Pair
disequation_at (t.Not u) = as_equation u
disequation_at _ = None

-- `not (a = b)`
abbrev pub as_disequation : Term → Option Pair
as_disequation u = disequation_at (out-Term u)

abbrev pub is_some_cons : t.Term-F Term → Bool
is_some_cons (t.Cons x s) = true
is_some_cons _ = false

abbrev pub says_nocons : Pair → Bool
says_nocons p = is_nil_term (out-Term p.0) && is_some_cons (out-Term p.1)

abbrev pub some_holds : {A : Type 0} → (A → Bool) → Option A → Bool
some_holds test None = false
some_holds test (Some x) = test x

-- `not (nil = (x :: s))`
abbrev pub is_nocons : Term → Bool
is_nocons u = some_holds says_nocons (as_disequation u)

abbrev pub left_of_null : Pair → Option Term
left_of_null p = if is_null (out-Term p.1) then Some p.0 else None

-- the a of `not (a = null)`
abbrev pub as_nonnull : Term → Option Term
as_nonnull u = option_and_then left_of_null (as_disequation u)

-- ---- differences

abbrev pub difference_at : t.Term-F Term → Option Pair
difference_at (t.Sub a b) = Some (a, b)
difference_at _ = None

-- of `(a - b) + c = d`, where c is b and d is a
abbrev pub restored : Term → Term → Pair → Option Pair
restored c d p = if same_of c p.1 && same_of d p.0 then Some (p.1, p.0) else None

-- the left side of an equation by its shape, and the right one
abbrev pub monus_at : t.Term-F Term → Term → Option Pair
monus_at (t.Add u c) d = option_and_then (restored c d) (difference_at (out-Term u))
monus_at (t.Sub a b) d = if is_num 0 (out-Term d) then Some (a, b) else None
monus_at _ d = None

-- What must be at most what: b and a for `(a - b) + b = a`, and a and b for `a - b = 0`.
abbrev pub as_monus : Term → Option Pair
as_monus u = option_and_then (λ p. monus_at (out-Term p.0) p.1) (as_equation u)
