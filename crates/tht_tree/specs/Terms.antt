-- The value of a term, and whether the machine can hold it with all its parts.
use Rattle.std.specs.Prelude.{ℕ, zero, suc, ◌+◌, ◌-◌, ◌*◌, ◌==◌, nat_lt, nat_le, Bool, ◌&&◌, ◌||◌, not, List, [], ◌∷◌, ◌++◌, length, if◌then◌else◌}
use Rattle.tht_tree.specs.declared.plain.Place.{Place}
use Rattle.tht_tree.specs.declared.plain.Place.TheVariants.{Null, Root, Cell}
use Rattle.tht_tree.specs.declared.term.Term.{Term}
use Rattle.tht_tree.specs.Values.{Val, is, seq, unit_value, nat_of, bool_of, place_of, seq_of, a_nat, a_bool, a_place, same_val, is_small_val, Env}
use Rattle.tht_tree.specs.Syntax.{Names, Op, add, sub, mul, cons, cat, eq, lt, le, conj, disj, imp, Trm, lit, free, bound, len, off, neg, op, trm}

-- the place so many cells further; null stays null, and a root has none but itself
abbrev pub offset_by : ℕ → Place → Place
offset_by k Null = Null
offset_by k (Root r) = if k == 0 then Root r else Null
offset_by k (Cell a i) = Cell a (i + k)

abbrev pub implies : Bool → Bool → Bool
implies a b = not a || b

-- what an operation answers; `-` stops at 0
abbrev pub apply : Op → Val → Val → Val
apply add x y = a_nat (nat_of x + nat_of y)
apply sub x y = a_nat (nat_of x - nat_of y)
apply mul x y = a_nat (nat_of x * nat_of y)
apply cons x y = seq (nat_of x ∷ seq_of y)
apply cat x y = seq (seq_of x ++ seq_of y)
apply eq x y = a_bool (same_val x y)
apply lt x y = a_bool (nat_lt (nat_of x) (nat_of y))
apply le x y = a_bool (nat_le (nat_of x) (nat_of y))
apply conj x y = a_bool (bool_of x && bool_of y)
apply disj x y = a_bool (bool_of x || bool_of y)
apply imp x y = a_bool (implies (bool_of x) (bool_of y))

-- the value of a bound variable, the innermost first
abbrev pub nth : List Val → ℕ → Val
nth [] k = is unit_value
nth (v ∷ vs) zero = v
nth (v ∷ vs) (suc k) = nth vs k

-- the value of a term, given the values of the free names and of the bound variables
abbrev pub value_of : Env → List Val → Trm → Val
value_of env vs (lit v) = v
value_of env vs (free x) = env x
value_of env vs (bound k) = nth vs k
value_of env vs (len a) = a_nat (length (seq_of (value_of env vs a)))
value_of env vs (off k a) = a_place (offset_by k (place_of (value_of env vs a)))
value_of env vs (neg a) = a_bool (not (bool_of (value_of env vs a)))
value_of env vs (op o a b) = apply o (value_of env vs a) (value_of env vs b)

-- the value of a term of a source in which no name is bound
abbrev pub value : Names → Env → Term → Val
value roots env t = value_of env [] (trm roots [] t)

-- A term of a program fits where the machine can hold it and each part of it. All parts count, whether they decide the value or
-- not. Sequences are of the logic alone, and no program has one.
abbrev pub fits : Env → List Val → Trm → Bool
fits env vs (len a) = fits env vs a && is_small_val (value_of env vs (len a))
fits env vs (off k a) = fits env vs a && is_small_val (value_of env vs (off k a))
fits env vs (neg a) = fits env vs a && is_small_val (value_of env vs (neg a))
fits env vs (op o a b) = fits env vs a && (fits env vs b && is_small_val (value_of env vs (op o a b)))
fits env vs t = is_small_val (value_of env vs t)
