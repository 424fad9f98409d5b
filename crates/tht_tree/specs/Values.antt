-- Values of the logic and of the machine, and environments.
use Rattle.std.specs.Prelude.{ℕ, ◌^◌, ◌==◌, nat_lt, Bool, true, false, ◌&&◌, not, bytes_eq, List, [], if◌then◌else◌}
use Rattle.tht_tree.specs.declared.plain.Place.{Place}
use Rattle.tht_tree.specs.declared.plain.Place.TheVariants.{Null, Root, Cell}
use Rattle.tht_tree.specs.declared.plain.Sort.{Sort}
use Rattle.tht_tree.specs.declared.plain.Sort.TheVariants as sort
use Rattle.tht_tree.specs.declared.plain.Value.{Value}
use Rattle.tht_tree.specs.declared.plain.Value.TheVariants as v

-- the first number that the machine cannot hold
abbrev pub number_limit : ℕ
number_limit = 2 ^ 64

-- a value of the logic: one that a cell can hold, or a sequence of numbers; the numbers of the logic have no end
pub data Val : Type 0 where
  is : Value → Val
  seq : List ℕ → Val

abbrev pub unit_value : Value
unit_value = v.Unit

abbrev pub has_sort : Sort → Value → Bool
has_sort sort.Nat (v.Nat n) = true
has_sort sort.Bool (v.Bool b) = true
has_sort sort.Loc (v.Loc p) = true
has_sort sort.Unit v.Unit = true
has_sort _ _ = false

-- a value of the logic has this sort
abbrev pub has_sort_val : Sort → Val → Bool
has_sort_val s (is v) = has_sort s v
has_sort_val sort.Seq (seq xs) = true
has_sort_val _ (seq xs) = false

-- The sorts of cells and of results: no cell can hold a sequence.
abbrev pub is_storable : Sort → Bool
is_storable sort.Seq = false
is_storable _ = true

abbrev pub same_place : Place → Place → Bool
same_place Null Null = true
same_place (Root r) (Root s) = r == s
same_place (Cell a i) (Cell b j) = (a == b) && (i == j)
same_place _ _ = false

abbrev pub same_bool : Bool → Bool → Bool
same_bool true b = b
same_bool false b = not b

abbrev pub same_value : Value → Value → Bool
same_value (v.Nat m) (v.Nat n) = m == n
same_value (v.Bool a) (v.Bool b) = same_bool a b
same_value (v.Loc p) (v.Loc q) = same_place p q
same_value v.Unit v.Unit = true
same_value _ _ = false

abbrev pub same_val : Val → Val → Bool
same_val (is v) (is w) = same_value v w
same_val (seq s) (seq t) = bytes_eq s t
same_val _ _ = false

-- What a value is as a stored value, a number, a truth, a place and a sequence. One of another kind counts as (), 0, false, null
-- and the empty sequence.
abbrev pub value_in : Val → Value
value_in (is v) = v
value_in (seq s) = unit_value

abbrev pub nat_in : Value → ℕ
nat_in (v.Nat n) = n
nat_in _ = 0

abbrev pub bool_in : Value → Bool
bool_in (v.Bool b) = b
bool_in _ = false

abbrev pub place_in : Value → Place
place_in (v.Loc p) = p
place_in _ = Null

abbrev pub nat_of : Val → ℕ
nat_of x = nat_in (value_in x)

abbrev pub bool_of : Val → Bool
bool_of x = bool_in (value_in x)

abbrev pub place_of : Val → Place
place_of x = place_in (value_in x)

abbrev pub seq_of : Val → List ℕ
seq_of (is v) = []
seq_of (seq s) = s

-- a number, a truth and a place as values of the logic
abbrev pub a_nat : ℕ → Val
a_nat n = is (v.Nat n)

abbrev pub a_bool : Bool → Val
a_bool b = is (v.Bool b)

abbrev pub a_place : Place → Val
a_place p = is (v.Loc p)

-- the machine holds the value: no number and no index of a cell reaches the limit
abbrev pub is_small : Value → Bool
is_small (v.Nat n) = nat_lt n number_limit
is_small (v.Loc (Cell a i)) = nat_lt i number_limit
is_small _ = true

abbrev pub is_small_val : Val → Bool
is_small_val (is v) = is_small v
is_small_val (seq s) = true

-- an environment gives each name a value
abbrev pub Env : Type 0
Env = List ℕ → Val

abbrev pub bind : Env → List ℕ → Val → Env
bind env x v y = if bytes_eq x y then v else env y
