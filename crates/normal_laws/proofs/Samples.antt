-- Normal forms of small terms, each worked out by hand from the rules.
use Rattle.std.proofs.Common.{◌≡◌, ℕ, ◌^◌, ◌-◌, ℤ, pos, negsuc, List, [], ◌∷◌, Option, Some, None, Ok, Err}
use Rattle.tht_tree.specs.declared.plain.Sort.TheVariants as sort
use Rattle.tht_tree.specs.declared.state.Local.TheVariants.{Variable}
use Rattle.tht_tree.specs.declared.term.Term.{Term}
use Rattle.tht_tree.specs.declared.term.Term.TheVariants as t
use Rattle.tht_tree.specs.Rules.Context.{Scope, no_locals, with_local}
use Rattle.normal_laws.proofs.TermLevels.{computing}
use Rattle.tht_tree.specs.declared.form.Comparison.{Comparison}
use Rattle.tht_tree.specs.declared.form.Form.TheVariants.{Nat as nat, Seq as seq, Loc as loc, Bool as bool}
use Rattle.tht_tree.specs.declared.form.Item.TheVariants.{One as one, All as all}
use Rattle.tht_tree.specs.declared.form.LinearTerm.{LinearTerm}
use Rattle.tht_tree.specs.declared.form.Monomial.{Monomial}
use Rattle.tht_tree.specs.declared.form.NormalEnd.TheVariants.{Wide}
use Rattle.tht_tree.specs.declared.form.PlaceForm.TheVariants.{Null as null, Root as root, At as at}
use Rattle.tht_tree.specs.Normal.Sums.{Sum, monomial}
use Rattle.tht_tree.specs.Normal.Linear.{at_most, below, comparison_of, linear_term, Reading, reading}
use Rattle.tht_tree.specs.Normal.Putting.{put_in, put_nodes}
use Rattle.tht_tree.specs.Normal.Forms.{Answer, normal}

-- the numbers x and y, the sequences s and u, the place p, the truth b and the unit e; g and h are roots
abbrev x : List ℕ
x = 120 ∷ []

abbrev y : List ℕ
y = 121 ∷ []

abbrev s : List ℕ
s = 115 ∷ []

abbrev u : List ℕ
u = 117 ∷ []

abbrev p : List ℕ
p = 112 ∷ []

abbrev b : List ℕ
b = 98 ∷ []

abbrev e : List ℕ
e = 101 ∷ []

abbrev g : List ℕ
g = 103 ∷ []

abbrev h : List ℕ
h = 104 ∷ []

abbrev scope : Scope
scope =
    with_local (with_local (with_local (with_local (with_local (with_local (with_local no_locals x (Variable sort.Nat)) y (Variable sort.Nat)) s (Variable sort.Seq)) u (Variable sort.Seq)) p (Variable sort.Loc)) b (Variable sort.Bool)) e (Variable sort.Unit)

abbrev of : Term → Answer
of = normal scope

abbrev num : ℕ → Term
num = t.Num

abbrev var : List ℕ → Term
var = t.Var

abbrev a_sum : Sum → Answer
a_sum q = Ok (nat q)

abbrev formula : Term → Answer
formula q = Ok (bool q)

-- a coefficient alone, and with one or two factors
abbrev c : ℕ → Monomial
c n = monomial n []

abbrev cx : ℕ → Term → Monomial
cx n v = monomial n (v ∷ [])

abbrev cxy : ℕ → Term → Term → Monomial
cxy n v w = monomial n (v ∷ w ∷ [])

-- ---- sums and products

zero : of (num 0) ≡ a_sum []
zero = simp computing

seven : of (num 7) ≡ a_sum (c 7 ∷ [])
seven = simp computing

variable : of (var x) ≡ a_sum (cx 1 (var x) ∷ [])
variable = simp computing

-- y + x + 2 + x is 2 + 2x + y
sum : of (t.Add (t.Add (t.Add (var y) (var x)) (num 2)) (var x)) ≡ a_sum (c 2 ∷ cx 2 (var x) ∷ cx 1 (var y) ∷ [])
sum = simp computing

-- x + 0 is x
no_more : of (t.Add (var x) (num 0)) ≡ a_sum (cx 1 (var x) ∷ [])
no_more = simp computing

-- x * 0 is 0
nothing : of (t.Mul (var x) (num 0)) ≡ a_sum []
nothing = simp computing

-- (x + 1) * (x + 1) is 1 + 2x + x * x
square : of (t.Mul (t.Add (var x) (num 1)) (t.Add (var x) (num 1))) ≡ a_sum (c 1 ∷ cx 2 (var x) ∷ cxy 1 (var x) (var x) ∷ [])
square = simp computing

-- (y + 2) * (x + 3) is 6 + 2x + x * y + 3y: a product stands before those that follow it in the order of their factors
foil : of (t.Mul (t.Add (var y) (num 2)) (t.Add (var x) (num 3))) ≡ a_sum (c 6 ∷ cx 2 (var x) ∷ cxy 1 (var x) (var y) ∷ cx 3 (var y) ∷ [])
foil = simp computing

-- x * y and y * x are one
turned : of (t.Mul (var x) (var y)) ≡ of (t.Mul (var y) (var x))
turned = simp computing

-- ---- differences

-- 7 - 3, and 3 - 7
numbers : of (t.Sub (num 7) (num 3)) ≡ a_sum (c 4 ∷ [])
numbers = simp computing

stops : of (t.Sub (num 3) (num 7)) ≡ a_sum []
stops = simp computing

-- x - 0, and x - (3 - 3)
less_nothing : of (t.Sub (var x) (num 0)) ≡ a_sum (cx 1 (var x) ∷ [])
less_nothing = simp computing

less_no_more : of (t.Sub (var x) (t.Sub (num 3) (num 3))) ≡ of (var x)
less_no_more = simp computing

-- x - x is kept, and so is 0 - x
abbrev one_x : Term
one_x = t.Mul (num 1) (var x)

itself : of (t.Sub (var x) (var x)) ≡ a_sum (cx 1 (t.Sub one_x one_x) ∷ [])
itself = simp computing

from_nothing : of (t.Sub (num 0) (var x)) ≡ a_sum (cx 1 (t.Sub (num 0) one_x) ∷ [])
from_nothing = simp computing

-- (x - 10) + 10 + (x - 10) is 10 + 2 (x - 10)
apart : of (t.Add (t.Add (t.Sub (var x) (num 10)) (num 10)) (t.Sub (var x) (num 10))) ≡ a_sum (c 10 ∷ cx 2 (t.Sub one_x (num 10)) ∷ [])
apart = simp computing

-- ---- sequences

-- len nil, len (x :: s), len (s ++ (7 :: s))
no_length : of (t.Len t.Nil) ≡ a_sum []
no_length = simp computing

len_cons : of (t.Len (t.Cons (var x) (var s))) ≡ a_sum (c 1 ∷ cx 1 (t.Len (var s)) ∷ [])
len_cons = simp computing

len_cat : of (t.Len (t.Cat (var s) (t.Cons (num 7) (var s)))) ≡ a_sum (c 1 ∷ cx 2 (t.Len (var s)) ∷ [])
len_cat = simp computing

-- (s ++ nil) ++ (x + 0 :: u) is s, x, u
items : of (t.Cat (t.Cat (var s) t.Nil) (t.Cons (t.Add (var x) (num 0)) (var u))) ≡ Ok (seq (all s ∷ one (cx 1 (var x) ∷ []) ∷ all u ∷ []))
items = simp computing

-- nil = (x :: s) is kept
not_literal : of (t.Eq t.Nil (t.Cons (var x) (var s))) ≡ formula (t.Eq t.Nil (t.Cons one_x (t.Cat (var s) t.Nil)))
not_literal = simp computing

-- ---- places

-- null.3, g.0, g.0.2, p.3.7
null_offset : of (t.Offset t.Null 3) ≡ Ok (loc null)
null_offset = simp computing

root_itself : of (t.Offset (var g) 0) ≡ Ok (loc (root g))
root_itself = simp computing

past_root : of (t.Offset (t.Offset (var g) 0) 2) ≡ Ok (loc null)
past_root = simp computing

offsets : of (t.Offset (t.Offset (var p) 3) 7) ≡ Ok (loc (at p 10))
offsets = simp computing

-- g = g, g = h, g = null, g.1 = null, p = null, p.1 = p
same_root : of (t.Eq (var g) (var g)) ≡ formula t.True
same_root = simp computing

other_root : of (t.Eq (var g) (var h)) ≡ formula t.False
other_root = simp computing

root_null : of (t.Eq (var g) t.Null) ≡ formula t.False
root_null = simp computing

root_past : of (t.Eq (t.Offset (var g) 1) t.Null) ≡ formula t.True
root_past = simp computing

place_null : of (t.Eq (var p) t.Null) ≡ formula (t.Eq (t.Offset (var p) 0) t.Null)
place_null = simp computing

place_offset : of (t.Eq (t.Offset (var p) 1) (t.Offset (t.Offset (var p) 0) 1)) ≡ formula t.True
place_offset = simp computing

-- ---- comparisons

-- 3 = 4, x = x + 0, () = e, x = 4
other_number : of (t.Eq (num 3) (num 4)) ≡ formula t.False
other_number = simp computing

same_number : of (t.Eq (var x) (t.Add (var x) (num 0))) ≡ formula t.True
same_number = simp computing

units : of (t.Eq t.Unit (var e)) ≡ formula t.True
units = simp computing

kept : of (t.Eq (var x) (num 4)) ≡ formula (t.Eq one_x (num 4))
kept = simp computing

-- b = true, false = b, true = false, b = b
is_true : of (t.Eq (var b) t.True) ≡ formula (var b)
is_true = simp computing

is_false : of (t.Eq t.False (var b)) ≡ formula (t.Not (var b))
is_false = simp computing

different : of (t.Eq t.True t.False) ≡ formula t.False
different = simp computing

same_truth : of (t.Eq (var b) (var b)) ≡ formula t.True
same_truth = simp computing

-- 0 <= x, x <= 0, x + y <= y + x, 3 <= 2, 2 <= 2
from_zero : of (t.Le (num 0) (var x)) ≡ formula t.True
from_zero = simp computing

to_zero : of (t.Le (var x) (num 0)) ≡ formula (t.Le one_x (num 0))
to_zero = simp computing

same_sides : of (t.Le (t.Add (var x) (var y)) (t.Add (var y) (var x))) ≡ formula t.True
same_sides = simp computing

too_much : of (t.Le (num 3) (num 2)) ≡ formula t.False
too_much = simp computing

-- x < x, 0 < x, 2 < 3
not_less : of (t.Lt (var x) (var x)) ≡ formula t.False
not_less = simp computing

positive : of (t.Lt (num 0) (var x)) ≡ formula (t.Lt (num 0) one_x)
positive = simp computing

two_three : of (t.Lt (num 2) (num 3)) ≡ formula t.True
two_three = simp computing

-- ---- connectives

not_true : of (t.Not (t.Le (num 0) (var x))) ≡ formula t.False
not_true = simp computing

not_not : of (t.Not (t.Not (var b))) ≡ formula (t.Not (t.Not (var b)))
not_not = simp computing

and_true : of (t.And t.True (var b)) ≡ formula (var b)
and_true = simp computing

and_false : of (t.And (var b) t.False) ≡ formula t.False
and_false = simp computing

and_kept : of (t.And (var b) (var b)) ≡ formula (t.And (var b) (var b))
and_kept = simp computing

or_true : of (t.Or (var b) t.True) ≡ formula t.True
or_true = simp computing

or_false : of (t.Or t.False (var b)) ≡ formula (var b)
or_false = simp computing

imp_false : of (t.Imp (var b) t.False) ≡ formula (t.Not (var b))
imp_false = simp computing

imp_true : of (t.Imp (var b) t.True) ≡ formula t.True
imp_true = simp computing

from_false : of (t.Imp t.False (var b)) ≡ formula t.True
from_false = simp computing

from_true : of (t.Imp t.True (var b)) ≡ formula (var b)
from_true = simp computing

-- ---- numbers that are too wide

abbrev greatest : Term
greatest = num (2 ^ 64 - 1)

-- (2^64 - 1) * (2^64 - 1) is 2^128 - 2^65 + 1, which fits
still_fits : of (t.Mul greatest greatest) ≡ a_sum (c 340282366920938463426481119284349108225 ∷ [])
still_fits = simp computing

too_wide : of (t.Mul (t.Mul greatest greatest) (num 2)) ≡ Err Wide
too_wide = simp computing

-- a part's end counts, also where the whole folds
wide_part : of (t.And t.False (t.Eq (t.Mul (t.Mul greatest greatest) (num 2)) (num 0))) ≡ Err Wide
wide_part = simp computing

-- ---- linear readings

abbrev read_as : Term → Option Comparison
read_as = comparison_of (g ∷ h ∷ []) scope

abbrev reads : Comparison → Reading
reads = reading scope

abbrev lx : ℤ → Term → LinearTerm
lx z v = linear_term z (v ∷ [])

abbrev l : ℤ → LinearTerm
l z = linear_term z []

-- not (x <= y) is y < x, and p = null has no reading
read_not : read_as (t.Not (t.Le (var x) (var y))) ≡ Some (below (var y) (var x))
read_not = simp computing

read_equation : read_as (t.Eq (var x) (num 3)) ≡ Some (at_most (var x) (num 3))
read_equation = simp computing

no_reading : read_as (t.Eq (var p) t.Null) ≡ None
no_reading = simp computing

-- 2 + x <= y + x + 5: -3 + 0 x - y <= 0
linear : reads (at_most (t.Add (num 2) (var x)) (t.Add (t.Add (var y) (var x)) (num 5))) ≡ Ok (l (negsuc 2) ∷ lx (pos 0) (var x) ∷ lx (negsuc 0) (var y) ∷ [])
linear = simp computing

-- x < 1: 0 + x <= 0
strictly : reads (below (var x) (num 1)) ≡ Ok (l (pos 0) ∷ lx (pos 1) (var x) ∷ [])
strictly = simp computing

-- (2^64 - 1) * (2^64 - 1) <= (2^64 - 1) * (2^64 - 1): each side is past i128, and 0 is not
both_wide : reads (at_most (t.Mul greatest greatest) (t.Mul greatest greatest)) ≡ Ok (l (pos 0) ∷ [])
both_wide = simp computing

-- (2^64 - 1) * (2^64 - 1) <= x is too wide
one_wide : reads (at_most (t.Mul greatest greatest) (var x)) ≡ Err Wide
one_wide = simp computing

-- ---- terms put in

-- x + y with y for x and x for y is y + x, and has five nodes with y + 1 for x
swapped : put_in ((x, var y) ∷ (y, var x) ∷ []) (t.Add (var x) (var y)) ≡ t.Add (var y) (var x)
swapped = simp computing

nodes_of_put : put_nodes ((x, t.Add (var y) (num 1)) ∷ []) (t.Add (var x) (var y)) ≡ 5
nodes_of_put = simp computing
