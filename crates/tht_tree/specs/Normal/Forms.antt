-- Normal forms of terms. They are terms of a source: a term binds no name, so names stay as they are.
use Rattle.std.specs.Prelude.{ℕ, zero, suc, ◌+◌, ◌*◌, ◌^◌, ◌/◌, ◌%◌, ◌==◌, nat_lt, nat_le, Bool, true, false, ◌&&◌, not, List, [], ◌∷◌, ◌++◌, length, map, Option, Some, None, Result, Ok, Err, if◌then◌else◌}
use Rattle.std.specs.List.{list_any}
use Rattle.tht_tree.specs.declared.plain.Sort.{Sort}
use Rattle.tht_tree.specs.declared.plain.Sort.TheVariants as sort
use Rattle.tht_tree.specs.declared.term.Term.{Term, fold-Term, out-Term}
use Rattle.tht_tree.specs.declared.term.Term.TheVariants as term
use Rattle.tht_tree.specs.declared.term.Term.TheOpen as t
use Rattle.tht_tree.specs.declared.form.Form.{Form}
use Rattle.tht_tree.specs.declared.form.Form.TheVariants as form
use Rattle.tht_tree.specs.declared.form.Item.{Item}
use Rattle.tht_tree.specs.declared.form.Item.TheVariants as item
use Rattle.tht_tree.specs.declared.form.PlaceForm.{PlaceForm}
use Rattle.tht_tree.specs.declared.form.PlaceForm.TheVariants as place
use Rattle.tht_tree.specs.declared.form.NormalEnd.{NormalEnd}
use Rattle.tht_tree.specs.declared.form.NormalEnd.TheVariants.{Large, Wide}
use Rattle.tht_tree.specs.SameTree.{same_of}
use Rattle.tht_tree.specs.Rules.Context.{Scope}
use Rattle.tht_tree.specs.Rules.Scoping.{variable_sort}
use Rattle.tht_tree.specs.Normal.Sums.{Sum, number, atom, plus, times, minus, sum_of, number_in, sum_term}

-- A normal form, or why there is none: too many monomials, or a number above 2^128 - 1. Want of memory is no answer here.
abbrev pub Answer : Type 0
Answer = Result Form NormalEnd

-- ---- normal forms as terms

abbrev pub items_term : List Item → Term
items_term [] = term.Nil
items_term (item.One p ∷ xs) = term.Cons (sum_term p) (items_term xs)
items_term (item.All x ∷ xs) = term.Cat (term.Var x) (items_term xs)

-- so many offsets of 7, one after the other
abbrev pub sevens : ℕ → Term → Term
sevens zero u = u
sevens (suc n) u = term.Offset (sevens n u) 7

abbrev pub place_term : PlaceForm → Term
place_term place.Null = term.Null
place_term (place.Root x) = term.Var x
place_term (place.At x k) = term.Offset (sevens (k / 7) (term.Var x)) (k % 7)

abbrev pub term_of : Form → Term
term_of (form.Nat p) = sum_term p
term_of (form.Seq xs) = items_term xs
term_of (form.Loc p) = place_term p
term_of form.Unit = term.Unit
term_of (form.Bool u) = u

-- ---- parts: what a form is as one of a sort, where it has that sort

abbrev pub sum_in : Form → Sum
sum_in (form.Nat p) = p
sum_in _ = []

abbrev pub items_in : Form → List Item
items_in (form.Seq xs) = xs
items_in _ = []

abbrev pub place_form_in : Form → PlaceForm
place_form_in (form.Loc p) = p
place_form_in _ = place.Null

abbrev pub formula_in : Form → Term
formula_in (form.Bool u) = u
formula_in _ = term.False

-- ---- limits

abbrev pub most_monomials : ℕ
most_monomials = 65536

abbrev pub is_wide : ℕ → Bool
is_wide n = nat_le (2 ^ 128) n

-- a sum that was made: Large comes before Wide
abbrev pub within : Sum → Answer
within p =
    if nat_lt most_monomials (length p) then Err Large
    else if list_any (λ m. is_wide m.coefficient) p then Err Wide
    else Ok (form.Nat p)

-- a product is refused by the numbers of monomials of its sides, before it is made
abbrev pub product_within : Sum → Sum → Answer
product_within p q = if nat_lt most_monomials (length p * length q) then Err Large else within (times p q)

-- ---- sequences and places

abbrev pub item_length : Item → Sum
item_length (item.One p) = number 1
item_length (item.All x) = atom (term.Len (term.Var x))

abbrev pub items_length : List Item → Sum
items_length xs = sum_of (map item_length xs)

-- `null` with any offset is `null`, and a root with a positive one is `null`
abbrev pub moved : ℕ → PlaceForm → Answer
moved k place.Null = Ok (form.Loc place.Null)
moved k (place.Root x) = Ok (form.Loc (if k == 0 then place.Root x else place.Null))
moved k (place.At x m) = if is_wide (m + k) then Err Wide else Ok (form.Loc (place.At x (m + k)))

-- ---- connectives: folded where an operand is `true` or `false`, and else kept

abbrev pub truth_at : t.Term-F Term → Option Bool
truth_at t.True = Some true
truth_at t.False = Some false
truth_at _ = None

abbrev pub truth : Term → Option Bool
truth u = truth_at (out-Term u)

abbrev pub literal : Bool → Term
literal true = term.True
literal false = term.False

abbrev pub not_by : Option Bool → Term → Term
not_by (Some b) u = literal (not b)
not_by None u = term.Not u

abbrev pub negated : Term → Term
negated u = not_by (truth u) u

abbrev pub and_by : Option Bool → Option Bool → Term → Term → Term
and_by (Some true) b u w = w
and_by (Some false) b u w = term.False
and_by None (Some true) u w = u
and_by None (Some false) u w = term.False
and_by None None u w = term.And u w

abbrev pub or_by : Option Bool → Option Bool → Term → Term → Term
or_by (Some true) b u w = term.True
or_by (Some false) b u w = w
or_by None (Some true) u w = term.True
or_by None (Some false) u w = u
or_by None None u w = term.Or u w

abbrev pub imp_by : Option Bool → Option Bool → Term → Term → Term
imp_by (Some true) b u w = w
imp_by (Some false) b u w = term.True
imp_by None (Some true) u w = term.True
imp_by None (Some false) u w = term.Not u
imp_by None None u w = term.Imp u w

-- two formulas that are not the same, nor both literals
abbrev pub iff_by : Option Bool → Option Bool → Term → Term → Term
iff_by (Some true) b u w = w
iff_by (Some false) b u w = term.Not w
iff_by None (Some true) u w = u
iff_by None (Some false) u w = term.Not u
iff_by None None u w = term.Eq u w

-- ---- comparisons

abbrev pub is_some_literal : {A : Type 0} → Option A → Bool
is_some_literal (Some x) = true
is_some_literal None = false

-- numbers, `true`, `false`, `null` and roots
abbrev pub is_literal : Form → Bool
is_literal (form.Nat p) = is_some_literal (number_in p)
is_literal (form.Bool u) = is_some_literal (truth u)
is_literal (form.Loc (place.At x k)) = false
is_literal (form.Loc p) = true
is_literal _ = false

abbrev pub kept_equation : Form → Form → Term
kept_equation (form.Bool u) (form.Bool w) = iff_by (truth u) (truth w) u w
kept_equation m n = term.Eq (term_of m) (term_of n)

-- `a = b`: true where the sides are the same, and false where they are different literals
abbrev pub equation : Form → Form → Term
equation m n =
    if same_of (term_of m) (term_of n) then term.True
    else if is_literal m && is_literal n then term.False
    else kept_equation m n

abbrev pub less_by : Option ℕ → Option ℕ → Term → Term → Term
less_by (Some m) (Some n) u w = literal (nat_lt m n)
less_by _ _ u w = term.Lt u w

-- `a < b`: false where the sides are the same, and computed on numbers
abbrev pub less : Sum → Sum → Term
less p q = if same_of (sum_term p) (sum_term q) then term.False else less_by (number_in p) (number_in q) (sum_term p) (sum_term q)

-- of `a <= b`: true where a is 0, and computed on numbers
abbrev pub at_most_by : Option ℕ → Option ℕ → Term → Term → Term
at_most_by (Some zero) n u w = term.True
at_most_by (Some (suc m)) (Some n) u w = literal (nat_le (suc m) n)
at_most_by _ _ u w = term.Le u w

-- `a <= b`: true where the sides are the same
abbrev pub at_most : Sum → Sum → Term
at_most p q = if same_of (sum_term p) (sum_term q) then term.True else at_most_by (number_in p) (number_in q) (sum_term p) (sum_term q)

-- ---- terms

-- a name is a variable of the scope, and any other is a root's
abbrev pub name_form : Option Sort → List ℕ → Form
name_form (Some sort.Nat) x = form.Nat (atom (term.Var x))
name_form (Some sort.Bool) x = form.Bool (term.Var x)
name_form (Some sort.Loc) x = form.Loc (place.At x 0)
name_form (Some sort.Unit) x = form.Unit
name_form (Some sort.Seq) x = form.Seq (item.All x ∷ [])
name_form None x = form.Loc (place.Root x)

-- what is made of one part; of two, where the first one's end counts before the second one's
abbrev pub with_part : Answer → (Form → Answer) → Answer
with_part (Ok m) make = make m
with_part (Err e) make = Err e

abbrev pub with_parts : Answer → Answer → (Form → Form → Answer) → Answer
with_parts a b make = with_part a (λ m. with_part b (make m))

abbrev pub normal_at : Scope → t.Term-F Answer → Answer
normal_at scope (t.Num n) = within (number n)
normal_at scope t.True = Ok (form.Bool term.True)
normal_at scope t.False = Ok (form.Bool term.False)
normal_at scope t.Null = Ok (form.Loc place.Null)
normal_at scope t.Nil = Ok (form.Seq [])
normal_at scope t.Unit = Ok form.Unit
normal_at scope (t.Var x) = Ok (name_form (variable_sort (scope x)) x)
normal_at scope (t.Len a) = with_part a (λ m. within (items_length (items_in m)))
normal_at scope (t.Offset a k) = with_part a (λ m. moved k (place_form_in m))
normal_at scope (t.Mul a b) = with_parts a b (λ m n. product_within (sum_in m) (sum_in n))
normal_at scope (t.Add a b) = with_parts a b (λ m n. within (plus (sum_in m) (sum_in n)))
normal_at scope (t.Sub a b) = with_parts a b (λ m n. within (minus (sum_in m) (sum_in n)))
normal_at scope (t.Cons a b) = with_parts a b (λ m n. Ok (form.Seq (item.One (sum_in m) ∷ items_in n)))
normal_at scope (t.Cat a b) = with_parts a b (λ m n. Ok (form.Seq (items_in m ++ items_in n)))
normal_at scope (t.Eq a b) = with_parts a b (λ m n. Ok (form.Bool (equation m n)))
normal_at scope (t.Lt a b) = with_parts a b (λ m n. Ok (form.Bool (less (sum_in m) (sum_in n))))
normal_at scope (t.Le a b) = with_parts a b (λ m n. Ok (form.Bool (at_most (sum_in m) (sum_in n))))
normal_at scope (t.Not a) = with_part a (λ m. Ok (form.Bool (negated (formula_in m))))
normal_at scope (t.And a b) = with_parts a b (λ m n. Ok (form.Bool (and_by (truth (formula_in m)) (truth (formula_in n)) (formula_in m) (formula_in n))))
normal_at scope (t.Or a b) = with_parts a b (λ m n. Ok (form.Bool (or_by (truth (formula_in m)) (truth (formula_in n)) (formula_in m) (formula_in n))))
normal_at scope (t.Imp a b) = with_parts a b (λ m n. Ok (form.Bool (imp_by (truth (formula_in m)) (truth (formula_in n)) (formula_in m) (formula_in n))))

-- the normal form of a term, where the scope tells the sorts of its variables
abbrev pub normal : Scope → Term → Answer
normal scope = fold-Term Answer (normal_at scope)

abbrev pub in_term : Answer → Result Term NormalEnd
in_term (Ok m) = Ok (term_of m)
in_term (Err e) = Err e

-- the same, as a term: two terms have one normal form where these are the same tree
abbrev pub normal_term : Scope → Term → Result Term NormalEnd
normal_term scope u = in_term (normal scope u)
