-- The value of an expression, where it and each part of it fit the machine.
use Rattle.std.specs.Prelude.{ℕ, ◌+◌, ◌-◌, ◌*◌, nat_lt, nat_le, not, ◌&&◌, ◌||◌, ltb, List, [], ◌∷◌, length, slice_index_or, Option, Some, None, if◌then◌else◌}
use Rattle.tht_tree.specs.declared.plain.Value.{Value}
use Rattle.tht_tree.specs.declared.plain.Value.TheVariants as v
use Rattle.tht_tree.specs.Values.{unit_value, nat_in, bool_in, place_in, same_value, is_small}
use Rattle.tht_tree.specs.Terms.{offset_by, implies}
use Rattle.code_form.specs.declared.expr.Op.{Op}
use Rattle.code_form.specs.declared.expr.Op.TheVariants as op
use Rattle.code_form.specs.declared.expr.Expr.{Expr, fold-Expr}
use Rattle.code_form.specs.declared.expr.Expr.TheOpen as e

-- the value, if it fits the machine
abbrev pub fitting : Value → Option Value
fitting w = if is_small w then Some w else None

abbrev pub one : (Value → Option Value) → Option Value → Option Value
one f (Some a) = f a
one f None = None

abbrev pub both : (Value → Value → Option Value) → Option Value → Option Value → Option Value
both f (Some a) (Some b) = f a b
both f _ _ = None

-- the value that an operation gives, if it fits the machine
abbrev pub applied : Op → Value → Value → Option Value
applied op.Mul = λ x y. fitting (v.Nat (nat_in x * nat_in y))
applied op.Add = λ x y. fitting (v.Nat (nat_in x + nat_in y))
applied op.Sub = λ x y. fitting (v.Nat (nat_in x - nat_in y))
applied op.Eq = λ x y. Some (v.Bool (same_value x y))
applied op.Lt = λ x y. Some (v.Bool (nat_lt (nat_in x) (nat_in y)))
applied op.Le = λ x y. Some (v.Bool (nat_le (nat_in x) (nat_in y)))
applied op.And = λ x y. Some (v.Bool (bool_in x && bool_in y))
applied op.Or = λ x y. Some (v.Bool (bool_in x || bool_in y))
applied op.Imp = λ x y. Some (v.Bool (implies (bool_in x) (bool_in y)))

-- the value of the variable after which k were bound; the values stand in the order in which their variables were bound
abbrev pub var_in : List Value → ℕ → Value
var_in env k = if ltb k (length env) then slice_index_or env (length env - 1 - k) unit_value else unit_value

abbrev pub eval_at : e.Expr-F (List Value → Option Value) → List Value → Option Value
eval_at (e.Lit w) env = fitting w
eval_at (e.Var k) env = fitting (var_in env k)
eval_at (e.Len a) env = one (λ x. Some (v.Nat 0)) (a env)
eval_at (e.Offset a k) env = one (λ x. fitting (v.Loc (offset_by k (place_in x)))) (a env)
eval_at (e.Not a) env = one (λ x. Some (v.Bool (not (bool_in x)))) (a env)
eval_at (e.Both o a b) env = both (applied o) (a env) (b env)

-- the value of an expression, where the variables have these values
abbrev pub eval_of : Expr → List Value → Option Value
eval_of = fold-Expr (List Value → Option Value) eval_at

-- the values of expressions, where each of them has one
abbrev pub with_first : Option Value → Option (List Value) → Option (List Value)
with_first (Some w) (Some ws) = Some (w ∷ ws)
with_first _ _ = None

abbrev pub all_of : List Value → List Expr → Option (List Value)
all_of env [] = Some []
all_of env (e ∷ es) = with_first (eval_of e env) (all_of env es)
