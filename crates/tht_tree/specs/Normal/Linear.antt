-- The linear reading of a comparison: an inequality whose variables are the products of monomials.
use Rattle.std.specs.Prelude.{◌^◌, nat_lt, Bool, true, false, ℤ, pos, negsuc, neg_ℤ, ◌-ℤ◌, List, [], ◌∷◌, map, Option, Some, None, Result, Ok, Err, if◌then◌else◌}
use Rattle.std.specs.List.{list_all}
use Rattle.std.specs.Ordering.{is_eq, match_ordering}
use Rattle.std.specs.Set.{sorted_merge}
use Rattle.tht_tree.specs.declared.plain.Sort.TheVariants as sort
use Rattle.tht_tree.specs.declared.term.Term.{Term, out-Term}
use Rattle.tht_tree.specs.declared.term.Term.TheOpen as t
use Rattle.tht_tree.specs.Syntax.{Names}
use Rattle.tht_tree.specs.Rules.Context.{Scope}
use Rattle.tht_tree.specs.Rules.Scoping.{is_of, sort_of}
use Rattle.tht_tree.specs.Normal.InPairs.{in_pairs}
use Rattle.tht_tree.specs.declared.form.Comparison.{Comparison}
use Rattle.tht_tree.specs.declared.form.Form.{Form}
use Rattle.tht_tree.specs.declared.form.LinearTerm.{LinearTerm}
use Rattle.tht_tree.specs.declared.form.Monomial.{Monomial}
use Rattle.tht_tree.specs.declared.form.NormalEnd.{NormalEnd}
use Rattle.tht_tree.specs.declared.form.NormalEnd.TheVariants.{Wide}
use Rattle.tht_tree.specs.Normal.Sums.{Product, Sum, number, compare_products, plus}
use Rattle.tht_tree.specs.Normal.Forms.{Answer, sum_in, normal}

-- ---- which comparison a formula is

-- left is at most right, or below it where strict
abbrev pub at_most : Term → Term → Comparison
at_most a b = record { left = a; right = b; strict = false }

abbrev pub below : Term → Term → Comparison
below a b = record { left = a; right = b; strict = true }

-- the negation of a comparison is one; nothing else has a negation here
abbrev pub negation_at : t.Term-F Term → Option Comparison
negation_at (t.Le a b) = Some (below b a)
negation_at (t.Lt a b) = Some (at_most b a)
negation_at _ = None

abbrev pub negation_of : Term → Option Comparison
negation_of u = negation_at (out-Term u)

-- an equation of numbers reads one way only
abbrev pub comparison_at : Names → Scope → t.Term-F Term → Option Comparison
comparison_at roots scope (t.Le a b) = Some (at_most a b)
comparison_at roots scope (t.Lt a b) = Some (below a b)
comparison_at roots scope (t.Eq a b) = if is_of sort.Nat (sort_of roots scope a) then Some (at_most a b) else None
comparison_at roots scope (t.Not a) = negation_of a
comparison_at roots scope _ = None

-- the comparison that a formula has as its reading, if it has one
abbrev pub comparison_of : Names → Scope → Term → Option Comparison
comparison_of roots scope u = comparison_at roots scope (out-Term u)

-- ---- inequalities

-- the sum of these is at most 0; the products strictly ascend
abbrev pub Inequality : Type 0
Inequality = List LinearTerm

abbrev pub linear_term : ℤ → Product → LinearTerm
linear_term c xs = record { coefficient = c; atoms = xs }

abbrev pub positive : Monomial → LinearTerm
positive m = linear_term (pos m.coefficient) m.atoms

abbrev pub negative : Monomial → LinearTerm
negative m = linear_term (neg_ℤ (pos m.coefficient)) m.atoms

-- m and what `rest` takes the others away from, once those of lower products are through
abbrev pub before_term : Monomial → (Sum → Inequality) → Sum → Inequality
before_term m rest [] = positive m ∷ rest []
before_term m rest (n ∷ q) =
    match_ordering (compare_products m.atoms n.atoms) (positive m ∷ rest (n ∷ q)) (linear_term (pos m.coefficient -ℤ pos n.coefficient) m.atoms ∷ rest q) (negative n ∷ before_term m rest q)

-- the first sum less the second one, whatever is the greater
abbrev pub take_away : Sum → Sum → Inequality
take_away [] q = map negative q
take_away (m ∷ p) q = before_term m (take_away p) q

-- one more on the left where the left is below the right
abbrev pub left_side : Bool → Sum → Sum
left_side true p = plus (number 1) p
left_side false p = p

-- from -2^127 to 2^127 - 1
abbrev pub is_i128 : ℤ → Bool
is_i128 (pos n) = nat_lt n (2 ^ 127)
is_i128 (negsuc n) = nat_lt n (2 ^ 127)

abbrev pub Reading : Type 0
Reading = Result Inequality NormalEnd

-- the coefficients count once both sides are taken together
abbrev pub in_range : Inequality → Reading
in_range xs = if list_all (λ x. is_i128 x.coefficient) xs then Ok xs else Err Wide

abbrev pub with_form : Answer → (Form → Reading) → Reading
with_form (Ok m) make = make m
with_form (Err e) make = Err e

-- the inequality of a comparison: its left side is made before its right one
abbrev pub reading : Scope → Comparison → Reading
reading scope c = with_form (normal scope c.left) (λ m. with_form (normal scope c.right) (λ n. in_range (take_away (left_side c.strict (sum_in m)) (sum_in n))))

-- ---- the columns of many inequalities

abbrev pub has_factor : Product → Bool
has_factor [] = false
has_factor (x ∷ xs) = true

abbrev pub variables : Inequality → List Product
variables [] = []
variables (x ∷ xs) = if has_factor x.atoms then x.atoms ∷ variables xs else variables xs

-- each product that is a variable of one of them, in ascending order
abbrev pub columns : List Inequality → List Product
columns xs = in_pairs (sorted_merge compare_products true) [] (map variables xs)

-- the coefficient of a product, 0 where it does not stand there; that of the empty product is the constant
abbrev pub coefficient_of : Product → Inequality → ℤ
coefficient_of p [] = pos 0
coefficient_of p (x ∷ xs) = if is_eq (compare_products p x.atoms) then x.coefficient else coefficient_of p xs
