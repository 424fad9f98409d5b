-- The order of terms tells them apart: terms that it does not are the same.
use Rattle.std.proofs.Common.{◌≡◌, ℕ, ◌==◌, Bool, cond, List, [], ◌∷◌, map, Option, Some, None, refl, sym, ◌∙◌, ap, Ordering, Less, Equal, Greater, nat_cmp}
use Rattle.std.specs.Ordering.{ordering_then, is_eq}
use Rattle.std.specs.Cmp.Lexicographic.{slice_cmp, texts_ties, same_text}
use Rattle.tht_tree.specs.declared.term.Term.{Term, out-Term, roll-Term, roll-out-Term}
use Rattle.tht_tree.specs.declared.term.Term.TheVariants as t
use Rattle.tht_tree.specs.declared.term.Term.TheOpen.{Term-F}
use Rattle.tht_tree.specs.declared.term.Term.TheOpen as f
use Rattle.tht_tree.proofs.TermFolds.{Len, Offset, Not, Mul, Add, Sub, Cons, Cat, Eq, Lt, Le, And, Or, Imp, Len-is, Offset-is, Not-is, Mul-is, Add-is, Sub-is, Cons-is, Cat-is, Eq-is, Lt-is, Le-is, And-is, Or-is, Imp-is, at-Num, at-Var, at-Len, at-Sub, at-Mul, at-Add, at-True, at-False, at-Null, at-Nil, at-Unit, at-Offset, at-Cons, at-Cat, at-Eq, at-Lt, at-Le, at-Not, at-And, at-Or, at-Imp}
use Rattle.tht_tree.specs.Normal.Order.{label, parts, compare_at, compare}

-- ---- a level from its label and its parts

abbrev head : List ℕ → ℕ
head [] = 0
head (k ∷ x) = k

abbrev or_else : {A : Type 0} → Bool → Term-F A → Option (Term-F A) → Option (Term-F A)
or_else c x o = cond c (Some x) o

abbrev by_number : {A : Type 0} → ℕ → List ℕ → List A → Option (Term-F A)
by_number k x [] = or_else (k == 0) (f.Num (head x)) (or_else (k == 1) (f.Var x) (or_else (k == 6) (f.True) (or_else (k == 7) (f.False) (or_else (k == 8) (f.Null) (or_else (k == 9) (f.Nil) (or_else (k == 10) (f.Unit) None))))))
by_number k x (a ∷ []) = or_else (k == 2) (f.Len a) (or_else (k == 11) (f.Offset a (head x)) (or_else (k == 17) (f.Not a) None))
by_number k x (a ∷ b ∷ []) = or_else (k == 4) (f.Mul a b) (or_else (k == 5) (f.Add a b) (or_else (k == 3) (f.Sub a b) (or_else (k == 12) (f.Cons a b) (or_else (k == 13) (f.Cat a b) (or_else (k == 14) (f.Eq a b) (or_else (k == 15) (f.Lt a b) (or_else (k == 16) (f.Le a b) (or_else (k == 18) (f.And a b) (or_else (k == 19) (f.Or a b) (or_else (k == 20) (f.Imp a b) None))))))))))
by_number k x (a ∷ b ∷ c ∷ ps) = None

abbrev level_of : {A : Type 0} → List ℕ → List A → Option (Term-F A)
level_of [] ps = None
level_of (k ∷ x) ps = by_number k x ps

is_level : {A : Type 0} (x : Term-F A) → level_of (label x) (parts x) ≡ Some x
is_level (f.Num n) = refl
is_level (f.Var x) = refl
is_level (f.Len a) = refl
is_level (f.Sub a b) = refl
is_level (f.Mul a b) = refl
is_level (f.Add a b) = refl
is_level f.True = refl
is_level f.False = refl
is_level f.Null = refl
is_level f.Nil = refl
is_level f.Unit = refl
is_level (f.Offset a k) = refl
is_level (f.Cons a b) = refl
is_level (f.Cat a b) = refl
is_level (f.Eq a b) = refl
is_level (f.Lt a b) = refl
is_level (f.Le a b) = refl
is_level (f.Not a) = refl
is_level (f.And a b) = refl
is_level (f.Or a b) = refl
is_level (f.Imp a b) = refl

some_same : {A : Type 0} (a b : A) → Some a ≡ Some b → a ≡ b
some_same a b e = cc

same_level : (x y : Term-F Term) → label x ≡ label y → parts x ≡ parts y → x ≡ y
same_level x y e g = some_same x y (sym (is_level x) ∙ (λ i. level_of (e i) (g i)) ∙ is_level y)

-- ---- what a comparison tells

then_equal : (a b : Ordering) → ordering_then a b ≡ Equal → (a ≡ Equal) × (b ≡ Equal)
then_equal Less b e = cc
then_equal Equal b e = (refl, e)
then_equal Greater b e = cc

same_numbers : (xs ys : List ℕ) → slice_cmp nat_cmp xs ys ≡ Equal → xs ≡ ys
same_numbers xs ys e = same_text xs ys (sym (texts_ties xs ys ∙ ap is_eq e))

abbrev Tells : Term → Type 0
Tells a = (u : Term) → compare a u ≡ Equal → a ≡ u

-- the order tells each of some terms apart
abbrev AllTell : List Term → Type 0
AllTell [] = Unit {0}
AllTell (a ∷ rest) = Tells a × AllTell rest

same_parts : (xs ys : List Term) → AllTell xs → slice_cmp (λ g v. g v) (map compare xs) ys ≡ Equal → xs ≡ ys
same_parts [] [] tell e = refl
same_parts [] (y ∷ ys) tell e = cc
same_parts (x ∷ xs) [] tell e = cc
same_parts (x ∷ xs) (y ∷ ys) tell e =
    let h = then_equal (compare x y) (slice_cmp (λ g v. g v) (map compare xs) ys) e in
    let first = tell.0 y h.0 in
    let rest = same_parts xs ys tell.1 h.1 in
    λ i. first i ∷ rest i

-- from the level of a term to the term
from_level : (x : Term-F Term) (u : Term) → AllTell (parts x) →
    ordering_then (slice_cmp nat_cmp (label x) (label (out-Term u))) (slice_cmp (λ g v. g v) (map compare (parts x)) (parts (out-Term u))) ≡ Equal → roll-Term x ≡ u
from_level x u tell e =
    let h = then_equal (slice_cmp nat_cmp (label x) (label (out-Term u))) (slice_cmp (λ g v. g v) (map compare (parts x)) (parts (out-Term u))) e in
    ap roll-Term (same_level x (out-Term u) (same_numbers (label x) (label (out-Term u)) h.0) (same_parts (parts x) (parts (out-Term u)) tell h.1)) ∙ roll-out-Term u

at : {x : Term → Ordering} (y : Term → Ordering) (u : Term) → x ≡ y → x u ≡ Equal → y u ≡ Equal
at y u e h = sym (ap (λ g. g u) e) ∙ h

pub compare_tells : (a : Term) → Tells a
compare_tells (t.Num n) u e = sym (t.rolls-Num n) ∙ from_level (f.Num n) u tt (at (compare_at (f.Num n)) u (at-Num (Term → Ordering) compare_at n) e)
compare_tells (t.Var x) u e = sym (t.rolls-Var x) ∙ from_level (f.Var x) u tt (at (compare_at (f.Var x)) u (at-Var (Term → Ordering) compare_at x) e)
compare_tells (Len a) u e = sym (Len-is a) ∙ sym (t.rolls-Len a) ∙ from_level (f.Len a) u (compare_tells a, tt) (at (compare_at (f.Len (compare a))) u (ap compare (sym (Len-is a)) ∙ at-Len (Term → Ordering) compare_at a) e)
compare_tells (Sub a b) u e =
    sym (Sub-is a b) ∙ sym (t.rolls-Sub a b) ∙ from_level (f.Sub a b) u (compare_tells a, (compare_tells b, tt)) (at (compare_at (f.Sub (compare a) (compare b))) u (ap compare (sym (Sub-is a b)) ∙ at-Sub (Term → Ordering) compare_at a b) e)
compare_tells (Mul a b) u e =
    sym (Mul-is a b) ∙ sym (t.rolls-Mul a b) ∙ from_level (f.Mul a b) u (compare_tells a, (compare_tells b, tt)) (at (compare_at (f.Mul (compare a) (compare b))) u (ap compare (sym (Mul-is a b)) ∙ at-Mul (Term → Ordering) compare_at a b) e)
compare_tells (Add a b) u e =
    sym (Add-is a b) ∙ sym (t.rolls-Add a b) ∙ from_level (f.Add a b) u (compare_tells a, (compare_tells b, tt)) (at (compare_at (f.Add (compare a) (compare b))) u (ap compare (sym (Add-is a b)) ∙ at-Add (Term → Ordering) compare_at a b) e)
compare_tells t.True u e = sym t.rolls-True ∙ from_level f.True u tt (at (compare_at f.True) u (at-True (Term → Ordering) compare_at) e)
compare_tells t.False u e = sym t.rolls-False ∙ from_level f.False u tt (at (compare_at f.False) u (at-False (Term → Ordering) compare_at) e)
compare_tells t.Null u e = sym t.rolls-Null ∙ from_level f.Null u tt (at (compare_at f.Null) u (at-Null (Term → Ordering) compare_at) e)
compare_tells t.Nil u e = sym t.rolls-Nil ∙ from_level f.Nil u tt (at (compare_at f.Nil) u (at-Nil (Term → Ordering) compare_at) e)
compare_tells t.Unit u e = sym t.rolls-Unit ∙ from_level f.Unit u tt (at (compare_at f.Unit) u (at-Unit (Term → Ordering) compare_at) e)
compare_tells (Offset a k) u e = sym (Offset-is a k) ∙ sym (t.rolls-Offset a k) ∙ from_level (f.Offset a k) u (compare_tells a, tt) (at (compare_at (f.Offset (compare a) k)) u (ap compare (sym (Offset-is a k)) ∙ at-Offset (Term → Ordering) compare_at a k) e)
compare_tells (Cons a b) u e =
    sym (Cons-is a b) ∙ sym (t.rolls-Cons a b) ∙ from_level (f.Cons a b) u (compare_tells a, (compare_tells b, tt)) (at (compare_at (f.Cons (compare a) (compare b))) u (ap compare (sym (Cons-is a b)) ∙ at-Cons (Term → Ordering) compare_at a b) e)
compare_tells (Cat a b) u e =
    sym (Cat-is a b) ∙ sym (t.rolls-Cat a b) ∙ from_level (f.Cat a b) u (compare_tells a, (compare_tells b, tt)) (at (compare_at (f.Cat (compare a) (compare b))) u (ap compare (sym (Cat-is a b)) ∙ at-Cat (Term → Ordering) compare_at a b) e)
compare_tells (Eq a b) u e =
    sym (Eq-is a b) ∙ sym (t.rolls-Eq a b) ∙ from_level (f.Eq a b) u (compare_tells a, (compare_tells b, tt)) (at (compare_at (f.Eq (compare a) (compare b))) u (ap compare (sym (Eq-is a b)) ∙ at-Eq (Term → Ordering) compare_at a b) e)
compare_tells (Lt a b) u e =
    sym (Lt-is a b) ∙ sym (t.rolls-Lt a b) ∙ from_level (f.Lt a b) u (compare_tells a, (compare_tells b, tt)) (at (compare_at (f.Lt (compare a) (compare b))) u (ap compare (sym (Lt-is a b)) ∙ at-Lt (Term → Ordering) compare_at a b) e)
compare_tells (Le a b) u e =
    sym (Le-is a b) ∙ sym (t.rolls-Le a b) ∙ from_level (f.Le a b) u (compare_tells a, (compare_tells b, tt)) (at (compare_at (f.Le (compare a) (compare b))) u (ap compare (sym (Le-is a b)) ∙ at-Le (Term → Ordering) compare_at a b) e)
compare_tells (Not a) u e = sym (Not-is a) ∙ sym (t.rolls-Not a) ∙ from_level (f.Not a) u (compare_tells a, tt) (at (compare_at (f.Not (compare a))) u (ap compare (sym (Not-is a)) ∙ at-Not (Term → Ordering) compare_at a) e)
compare_tells (And a b) u e =
    sym (And-is a b) ∙ sym (t.rolls-And a b) ∙ from_level (f.And a b) u (compare_tells a, (compare_tells b, tt)) (at (compare_at (f.And (compare a) (compare b))) u (ap compare (sym (And-is a b)) ∙ at-And (Term → Ordering) compare_at a b) e)
compare_tells (Or a b) u e =
    sym (Or-is a b) ∙ sym (t.rolls-Or a b) ∙ from_level (f.Or a b) u (compare_tells a, (compare_tells b, tt)) (at (compare_at (f.Or (compare a) (compare b))) u (ap compare (sym (Or-is a b)) ∙ at-Or (Term → Ordering) compare_at a b) e)
compare_tells (Imp a b) u e =
    sym (Imp-is a b) ∙ sym (t.rolls-Imp a b) ∙ from_level (f.Imp a b) u (compare_tells a, (compare_tells b, tt)) (at (compare_at (f.Imp (compare a) (compare b))) u (ap compare (sym (Imp-is a b)) ∙ at-Imp (Term → Ordering) compare_at a b) e)

-- products that the order does not tell apart are one
pub products_tell : (xs ys : List Term) → slice_cmp compare xs ys ≡ Equal → xs ≡ ys
products_tell [] [] e = refl
products_tell [] (y ∷ ys) e = cc
products_tell (x ∷ xs) [] e = cc
products_tell (x ∷ xs) (y ∷ ys) e =
    let h = then_equal (compare x y) (slice_cmp compare xs ys) e in
    let first = compare_tells x y h.0 in
    let rest = products_tell xs ys h.1 in
    λ i. first i ∷ rest i
