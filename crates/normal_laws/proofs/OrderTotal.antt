-- The order of terms is total, and so is that of products.
use Rattle.std.proofs.Common.{◌≡◌, ℕ, List, [], ◌∷◌, map, refl, sym, ◌∙◌, ap, subst, Ordering, Less, Equal, Greater, nat_cmp}
use Rattle.std.specs.Ordering.{ordering_then, ordering_reverse}
use Rattle.std.specs.Cmp.{IsTotalOrder}
use Rattle.std.specs.Cmp.Lexicographic.{slice_cmp, lists_total, nat_list_cmp_total}
use Rattle.tht_tree.specs.declared.term.Term.{Term, out-Term}
use Rattle.tht_tree.specs.declared.term.Term.TheVariants as t
use Rattle.tht_tree.specs.declared.term.Term.TheOpen.{Term-F}
use Rattle.tht_tree.specs.declared.term.Term.TheOpen as f
use Rattle.tht_tree.proofs.TermFolds.{Len, Offset, Not, Mul, Add, Sub, Cons, Cat, Eq, Lt, Le, And, Or, Imp, Len-is, Offset-is, Not-is, Mul-is, Add-is, Sub-is, Cons-is, Cat-is, Eq-is, Lt-is, Le-is, And-is, Or-is, Imp-is, at-Num, at-True, at-False, at-Null, at-Nil, at-Unit, at-Var, at-Len, at-Offset, at-Not, at-Mul, at-Add, at-Sub, at-Cons, at-Cat, at-Eq, at-Lt, at-Le, at-And, at-Or, at-Imp}
use Rattle.tht_tree.specs.Normal.Order.{label, parts, compare_at, compare}
use Rattle.normal_laws.proofs.TermLevels.{out-Num, out-True, out-False, out-Null, out-Nil, out-Unit, out-Var, out-Len, out-Offset, out-Not, out-Mul, out-Add, out-Sub, out-Cons, out-Cat, out-Eq, out-Lt, out-Le, out-And, out-Or, out-Imp}
use Rattle.normal_laws.proofs.OrderTells.{compare_tells}

-- ---- by levels

abbrev by_level : Term-F Term → Term-F Term → Ordering
by_level x y = ordering_then (slice_cmp nat_cmp (label x) (label y)) (slice_cmp compare (parts x) (parts y))

applied : (xs ys : List Term) → slice_cmp (λ g v. g v) (map compare xs) ys ≡ slice_cmp compare xs ys
applied [] [] = refl
applied [] (y ∷ ys) = refl
applied (x ∷ xs) [] = refl
applied (x ∷ xs) (y ∷ ys) = ap (ordering_then (compare x y)) (applied xs ys)

from_step : (a u : Term) (x : Term-F Term) (g : Term → Ordering) → compare a ≡ g →
    g u ≡ ordering_then (slice_cmp nat_cmp (label x) (label (out-Term u))) (slice_cmp (λ h v. h v) (map compare (parts x)) (parts (out-Term u))) →
    out-Term a ≡ x → compare a u ≡ by_level (out-Term a) (out-Term u)
from_step a u x g e h l =
    ap (λ k. k u) e ∙ h
    ∙ ap (ordering_then (slice_cmp nat_cmp (label x) (label (out-Term u)))) (applied (parts x) (parts (out-Term u)))
    ∙ ap (λ z. by_level z (out-Term u)) (sym l)

compare_is : (a u : Term) → compare a u ≡ by_level (out-Term a) (out-Term u)
compare_is (t.Num n) u = from_step (t.Num n) u (f.Num n) (compare_at (f.Num n)) (at-Num (Term → Ordering) compare_at n) refl (out-Num n)
compare_is t.True u = from_step t.True u f.True (compare_at f.True) (at-True (Term → Ordering) compare_at) refl (out-True)
compare_is t.False u = from_step t.False u f.False (compare_at f.False) (at-False (Term → Ordering) compare_at) refl (out-False)
compare_is t.Null u = from_step t.Null u f.Null (compare_at f.Null) (at-Null (Term → Ordering) compare_at) refl (out-Null)
compare_is t.Nil u = from_step t.Nil u f.Nil (compare_at f.Nil) (at-Nil (Term → Ordering) compare_at) refl (out-Nil)
compare_is t.Unit u = from_step t.Unit u f.Unit (compare_at f.Unit) (at-Unit (Term → Ordering) compare_at) refl (out-Unit)
compare_is (t.Var x) u = from_step (t.Var x) u (f.Var x) (compare_at (f.Var x)) (at-Var (Term → Ordering) compare_at x) refl (out-Var x)
compare_is (Len a) u = from_step (Len a) u (f.Len a) (compare_at (f.Len (compare a))) (ap compare (sym (Len-is a)) ∙ at-Len (Term → Ordering) compare_at a) refl (ap out-Term (sym (Len-is a)) ∙ out-Len a)
compare_is (Not a) u = from_step (Not a) u (f.Not a) (compare_at (f.Not (compare a))) (ap compare (sym (Not-is a)) ∙ at-Not (Term → Ordering) compare_at a) refl (ap out-Term (sym (Not-is a)) ∙ out-Not a)
compare_is (Offset a k) u = from_step (Offset a k) u (f.Offset a k) (compare_at (f.Offset (compare a) k)) (ap compare (sym (Offset-is a k)) ∙ at-Offset (Term → Ordering) compare_at a k) refl (ap out-Term (sym (Offset-is a k)) ∙ out-Offset a k)
compare_is (Mul a b) u = from_step (Mul a b) u (f.Mul a b) (compare_at (f.Mul (compare a) (compare b))) (ap compare (sym (Mul-is a b)) ∙ at-Mul (Term → Ordering) compare_at a b) refl (ap out-Term (sym (Mul-is a b)) ∙ out-Mul a b)
compare_is (Add a b) u = from_step (Add a b) u (f.Add a b) (compare_at (f.Add (compare a) (compare b))) (ap compare (sym (Add-is a b)) ∙ at-Add (Term → Ordering) compare_at a b) refl (ap out-Term (sym (Add-is a b)) ∙ out-Add a b)
compare_is (Sub a b) u = from_step (Sub a b) u (f.Sub a b) (compare_at (f.Sub (compare a) (compare b))) (ap compare (sym (Sub-is a b)) ∙ at-Sub (Term → Ordering) compare_at a b) refl (ap out-Term (sym (Sub-is a b)) ∙ out-Sub a b)
compare_is (Cons a b) u = from_step (Cons a b) u (f.Cons a b) (compare_at (f.Cons (compare a) (compare b))) (ap compare (sym (Cons-is a b)) ∙ at-Cons (Term → Ordering) compare_at a b) refl (ap out-Term (sym (Cons-is a b)) ∙ out-Cons a b)
compare_is (Cat a b) u = from_step (Cat a b) u (f.Cat a b) (compare_at (f.Cat (compare a) (compare b))) (ap compare (sym (Cat-is a b)) ∙ at-Cat (Term → Ordering) compare_at a b) refl (ap out-Term (sym (Cat-is a b)) ∙ out-Cat a b)
compare_is (Eq a b) u = from_step (Eq a b) u (f.Eq a b) (compare_at (f.Eq (compare a) (compare b))) (ap compare (sym (Eq-is a b)) ∙ at-Eq (Term → Ordering) compare_at a b) refl (ap out-Term (sym (Eq-is a b)) ∙ out-Eq a b)
compare_is (Lt a b) u = from_step (Lt a b) u (f.Lt a b) (compare_at (f.Lt (compare a) (compare b))) (ap compare (sym (Lt-is a b)) ∙ at-Lt (Term → Ordering) compare_at a b) refl (ap out-Term (sym (Lt-is a b)) ∙ out-Lt a b)
compare_is (Le a b) u = from_step (Le a b) u (f.Le a b) (compare_at (f.Le (compare a) (compare b))) (ap compare (sym (Le-is a b)) ∙ at-Le (Term → Ordering) compare_at a b) refl (ap out-Term (sym (Le-is a b)) ∙ out-Le a b)
compare_is (And a b) u = from_step (And a b) u (f.And a b) (compare_at (f.And (compare a) (compare b))) (ap compare (sym (And-is a b)) ∙ at-And (Term → Ordering) compare_at a b) refl (ap out-Term (sym (And-is a b)) ∙ out-And a b)
compare_is (Or a b) u = from_step (Or a b) u (f.Or a b) (compare_at (f.Or (compare a) (compare b))) (ap compare (sym (Or-is a b)) ∙ at-Or (Term → Ordering) compare_at a b) refl (ap out-Term (sym (Or-is a b)) ∙ out-Or a b)
compare_is (Imp a b) u = from_step (Imp a b) u (f.Imp a b) (compare_at (f.Imp (compare a) (compare b))) (ap compare (sym (Imp-is a b)) ∙ at-Imp (Term → Ordering) compare_at a b) refl (ap out-Term (sym (Imp-is a b)) ∙ out-Imp a b)

-- ---- induction by parts

module _ (P : Term → Type 0) where
  abbrev Each : List Term → Type 0
  Each [] = Unit {0}
  Each (x ∷ xs) = P x × Each xs

  module _ (step : (a : Term) → Each (parts (out-Term a)) → P a) where
    at_level : (a : Term) (x : Term-F Term) → out-Term a ≡ x → Each (parts x) → P a
    at_level a x e h = step a (subst (λ z. Each (parts z)) (sym e) h)

    by_parts : (a : Term) → P a
    by_parts (t.Num n) = at_level (t.Num n) (f.Num n) (out-Num n) tt
    by_parts t.True = at_level t.True f.True out-True tt
    by_parts t.False = at_level t.False f.False out-False tt
    by_parts t.Null = at_level t.Null f.Null out-Null tt
    by_parts t.Nil = at_level t.Nil f.Nil out-Nil tt
    by_parts t.Unit = at_level t.Unit f.Unit out-Unit tt
    by_parts (t.Var x) = at_level (t.Var x) (f.Var x) (out-Var x) tt
    by_parts (Len a) = at_level (Len a) (f.Len a) (ap out-Term (sym (Len-is a)) ∙ out-Len a) (by_parts a, tt)
    by_parts (Not a) = at_level (Not a) (f.Not a) (ap out-Term (sym (Not-is a)) ∙ out-Not a) (by_parts a, tt)
    by_parts (Offset a k) = at_level (Offset a k) (f.Offset a k) (ap out-Term (sym (Offset-is a k)) ∙ out-Offset a k) (by_parts a, tt)
    by_parts (Mul a b) = at_level (Mul a b) (f.Mul a b) (ap out-Term (sym (Mul-is a b)) ∙ out-Mul a b) (by_parts a, (by_parts b, tt))
    by_parts (Add a b) = at_level (Add a b) (f.Add a b) (ap out-Term (sym (Add-is a b)) ∙ out-Add a b) (by_parts a, (by_parts b, tt))
    by_parts (Sub a b) = at_level (Sub a b) (f.Sub a b) (ap out-Term (sym (Sub-is a b)) ∙ out-Sub a b) (by_parts a, (by_parts b, tt))
    by_parts (Cons a b) = at_level (Cons a b) (f.Cons a b) (ap out-Term (sym (Cons-is a b)) ∙ out-Cons a b) (by_parts a, (by_parts b, tt))
    by_parts (Cat a b) = at_level (Cat a b) (f.Cat a b) (ap out-Term (sym (Cat-is a b)) ∙ out-Cat a b) (by_parts a, (by_parts b, tt))
    by_parts (Eq a b) = at_level (Eq a b) (f.Eq a b) (ap out-Term (sym (Eq-is a b)) ∙ out-Eq a b) (by_parts a, (by_parts b, tt))
    by_parts (Lt a b) = at_level (Lt a b) (f.Lt a b) (ap out-Term (sym (Lt-is a b)) ∙ out-Lt a b) (by_parts a, (by_parts b, tt))
    by_parts (Le a b) = at_level (Le a b) (f.Le a b) (ap out-Term (sym (Le-is a b)) ∙ out-Le a b) (by_parts a, (by_parts b, tt))
    by_parts (And a b) = at_level (And a b) (f.And a b) (ap out-Term (sym (And-is a b)) ∙ out-And a b) (by_parts a, (by_parts b, tt))
    by_parts (Or a b) = at_level (Or a b) (f.Or a b) (ap out-Term (sym (Or-is a b)) ∙ out-Or a b) (by_parts a, (by_parts b, tt))
    by_parts (Imp a b) = at_level (Imp a b) (f.Imp a b) (ap out-Term (sym (Imp-is a b)) ∙ out-Imp a b) (by_parts a, (by_parts b, tt))

-- ---- turned round

reverse_then : (a b : Ordering) → ordering_then (ordering_reverse a) (ordering_reverse b) ≡ ordering_reverse (ordering_then a b)
reverse_then Less b = refl
reverse_then Equal b = refl
reverse_then Greater b = refl

lists_turn : (xs ys : List Term) → Each (λ a. (u : Term) → compare a u ≡ ordering_reverse (compare u a)) xs → slice_cmp compare xs ys ≡ ordering_reverse (slice_cmp compare ys xs)
lists_turn [] [] h = refl
lists_turn [] (y ∷ ys) h = refl
lists_turn (x ∷ xs) [] h = refl
lists_turn (x ∷ xs) (y ∷ ys) h = (λ i. ordering_then (h.0 y i) (lists_turn xs ys h.1 i)) ∙ reverse_then (compare y x) (slice_cmp compare ys xs)

turned : (a u : Term) → compare a u ≡ ordering_reverse (compare u a)
turned = by_parts (λ a. (u : Term) → compare a u ≡ ordering_reverse (compare u a)) (λ a h u.
    compare_is a u
    ∙ (λ i. ordering_then (nat_list_cmp_total.antisymm (label (out-Term a)) (label (out-Term u)) i) (lists_turn (parts (out-Term a)) (parts (out-Term u)) h i))
    ∙ reverse_then (slice_cmp nat_cmp (label (out-Term u)) (label (out-Term a))) (slice_cmp compare (parts (out-Term u)) (parts (out-Term a)))
    ∙ ap ordering_reverse (sym (compare_is u a)))

-- ---- in a row

-- the first unless it is Equal: Less in a row, where both parts are so
then_less : (a b c p q r : Ordering) → (a ≡ Less → b ≡ Less → c ≡ Less) → (a ≡ Equal → c ≡ b) → (b ≡ Equal → c ≡ a) → (p ≡ Less → q ≡ Less → r ≡ Less) →
    ordering_then a p ≡ Less → ordering_then b q ≡ Less → ordering_then c r ≡ Less
then_less Less Less c p q r f g h k e d = ap (λ z. ordering_then z r) (f refl refl)
then_less Less Equal c p q r f g h k e d = ap (λ z. ordering_then z r) (h refl)
then_less Equal Less c p q r f g h k e d = ap (λ z. ordering_then z r) (g refl)
then_less Equal Equal c p q r f g h k e d = ap (λ z. ordering_then z r) (g refl) ∙ k e d
then_less Greater b c p q r f g h k e d = cc
then_less Less Greater c p q r f g h k e d = cc
then_less Equal Greater c p q r f g h k e d = cc

left_same : (x y z : Term) → compare x y ≡ Equal → compare x z ≡ compare y z
left_same x y z e = ap (λ w. compare w z) (compare_tells x y e)

right_same : (x y z : Term) → compare y z ≡ Equal → compare x z ≡ compare x y
right_same x y z e = ap (compare x) (sym (compare_tells y z e))

lists_chain : (xs ys zs : List Term) → Each (λ a. (u w : Term) → compare a u ≡ Less → compare u w ≡ Less → compare a w ≡ Less) xs →
    slice_cmp compare xs ys ≡ Less → slice_cmp compare ys zs ≡ Less → slice_cmp compare xs zs ≡ Less
lists_chain [] [] zs h e d = d
lists_chain [] (y ∷ ys) [] h e d = cc
lists_chain [] (y ∷ ys) (z ∷ zs) h e d = refl
lists_chain (x ∷ xs) [] zs h e d = cc
lists_chain (x ∷ xs) (y ∷ ys) [] h e d = cc
lists_chain (x ∷ xs) (y ∷ ys) (z ∷ zs) h e d =
    then_less (compare x y) (compare y z) (compare x z) (slice_cmp compare xs ys) (slice_cmp compare ys zs) (slice_cmp compare xs zs)
    (h.0 y z) (left_same x y z) (right_same x y z) (lists_chain xs ys zs h.1) e d

labels : (x y z : List ℕ) → slice_cmp nat_cmp y z ≡ Equal → slice_cmp nat_cmp x z ≡ slice_cmp nat_cmp x y
labels x y z e =
    let o = nat_list_cmp_total in
    o.antisymm x z ∙ ap ordering_reverse (sym (o.congr y z x e)) ∙ sym (o.antisymm x y)

in_a_row : (a u w : Term) → compare a u ≡ Less → compare u w ≡ Less → compare a w ≡ Less
in_a_row = by_parts (λ a. (u w : Term) → compare a u ≡ Less → compare u w ≡ Less → compare a w ≡ Less) (λ a h u w e d.
    compare_is a w
    ∙ then_less (slice_cmp nat_cmp (label (out-Term a)) (label (out-Term u))) (slice_cmp nat_cmp (label (out-Term u)) (label (out-Term w)))
    (slice_cmp nat_cmp (label (out-Term a)) (label (out-Term w)))
    (slice_cmp compare (parts (out-Term a)) (parts (out-Term u))) (slice_cmp compare (parts (out-Term u)) (parts (out-Term w)))
    (slice_cmp compare (parts (out-Term a)) (parts (out-Term w)))
    (nat_list_cmp_total.trans (label (out-Term a)) (label (out-Term u)) (label (out-Term w)))
    (nat_list_cmp_total.congr (label (out-Term a)) (label (out-Term u)) (label (out-Term w)))
    (labels (label (out-Term a)) (label (out-Term u)) (label (out-Term w)))
    (lists_chain (parts (out-Term a)) (parts (out-Term u)) (parts (out-Term w)) h)
    (sym (compare_is a u) ∙ e) (sym (compare_is u w) ∙ d))

-- the order of terms is total, and terms that it does not tell apart are the same (`compare_tells`)
pub compare_total : IsTotalOrder compare
compare_total = record { antisymm = turned; trans = in_a_row; congr = left_same }

pub products_total : IsTotalOrder (slice_cmp compare)
products_total = lists_total compare_total
