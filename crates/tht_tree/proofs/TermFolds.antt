-- Folds over terms, by the cases that clauses match on.
use Rattle.std.proofs.Common.{◌≡◌, ℕ, List, refl, sym, ◌∙◌, ap}
use Rattle.tht_tree.specs.declared.term.Term.{Term, fold-Term, fold-roll-Term, end_of-Term, more_of-Term}
use Rattle.tht_tree.specs.declared.term.Term.TheVariants as t
use Rattle.tht_tree.specs.declared.term.Term.TheOpen.{Term-F}
use Rattle.tht_tree.specs.declared.term.Term.TheOpen as f
use Rattle.tht_tree.specs.declared.term.Term.TheBlock.{shape-the_row-Term-0, hidden-the_row-Term-0}
use denote.Hole.Carrier

pattern abbrev pub Len : Term → Term
Len x = t.Len' tt (more_of-Term x end_of-Term)

pattern abbrev pub Offset : Term → ℕ → Term
Offset x k = t.Offset' tt (more_of-Term x end_of-Term) k

pattern abbrev pub Mul : Term → Term → Term
Mul x y = t.Mul' tt (more_of-Term x end_of-Term) tt (more_of-Term y end_of-Term)

pattern abbrev pub Add : Term → Term → Term
Add x y = t.Add' tt (more_of-Term x end_of-Term) tt (more_of-Term y end_of-Term)

pattern abbrev pub Sub : Term → Term → Term
Sub x y = t.Sub' tt (more_of-Term x end_of-Term) tt (more_of-Term y end_of-Term)

pattern abbrev pub Cons : Term → Term → Term
Cons x y = t.Cons' tt (more_of-Term x end_of-Term) tt (more_of-Term y end_of-Term)

pattern abbrev pub Cat : Term → Term → Term
Cat x y = t.Cat' tt (more_of-Term x end_of-Term) tt (more_of-Term y end_of-Term)

pattern abbrev pub Eq : Term → Term → Term
Eq x y = t.Eq' tt (more_of-Term x end_of-Term) tt (more_of-Term y end_of-Term)

pattern abbrev pub Lt : Term → Term → Term
Lt x y = t.Lt' tt (more_of-Term x end_of-Term) tt (more_of-Term y end_of-Term)

pattern abbrev pub Le : Term → Term → Term
Le x y = t.Le' tt (more_of-Term x end_of-Term) tt (more_of-Term y end_of-Term)

pattern abbrev pub Not : Term → Term
Not x = t.Not' tt (more_of-Term x end_of-Term)

pattern abbrev pub And : Term → Term → Term
And x y = t.And' tt (more_of-Term x end_of-Term) tt (more_of-Term y end_of-Term)

pattern abbrev pub Or : Term → Term → Term
Or x y = t.Or' tt (more_of-Term x end_of-Term) tt (more_of-Term y end_of-Term)

pattern abbrev pub Imp : Term → Term → Term
Imp x y = t.Imp' tt (more_of-Term x end_of-Term) tt (more_of-Term y end_of-Term)

pub Len-is : (a : Term) → t.Len a ≡ Len a
unfolding shape-the_row-Term-0 hidden-the_row-Term-0 Carrier.hidden
Len-is a = refl

pub Offset-is : (a : Term) (k : ℕ) → t.Offset a k ≡ Offset a k
unfolding shape-the_row-Term-0 hidden-the_row-Term-0 Carrier.hidden
Offset-is a k = refl

pub Mul-is : (a b : Term) → t.Mul a b ≡ Mul a b
unfolding shape-the_row-Term-0 hidden-the_row-Term-0 Carrier.hidden
Mul-is a b = refl

pub Add-is : (a b : Term) → t.Add a b ≡ Add a b
unfolding shape-the_row-Term-0 hidden-the_row-Term-0 Carrier.hidden
Add-is a b = refl

pub Sub-is : (a b : Term) → t.Sub a b ≡ Sub a b
unfolding shape-the_row-Term-0 hidden-the_row-Term-0 Carrier.hidden
Sub-is a b = refl

pub Cons-is : (a b : Term) → t.Cons a b ≡ Cons a b
unfolding shape-the_row-Term-0 hidden-the_row-Term-0 Carrier.hidden
Cons-is a b = refl

pub Cat-is : (a b : Term) → t.Cat a b ≡ Cat a b
unfolding shape-the_row-Term-0 hidden-the_row-Term-0 Carrier.hidden
Cat-is a b = refl

pub Eq-is : (a b : Term) → t.Eq a b ≡ Eq a b
unfolding shape-the_row-Term-0 hidden-the_row-Term-0 Carrier.hidden
Eq-is a b = refl

pub Lt-is : (a b : Term) → t.Lt a b ≡ Lt a b
unfolding shape-the_row-Term-0 hidden-the_row-Term-0 Carrier.hidden
Lt-is a b = refl

pub Le-is : (a b : Term) → t.Le a b ≡ Le a b
unfolding shape-the_row-Term-0 hidden-the_row-Term-0 Carrier.hidden
Le-is a b = refl

pub Not-is : (a : Term) → t.Not a ≡ Not a
unfolding shape-the_row-Term-0 hidden-the_row-Term-0 Carrier.hidden
Not-is a = refl

pub And-is : (a b : Term) → t.And a b ≡ And a b
unfolding shape-the_row-Term-0 hidden-the_row-Term-0 Carrier.hidden
And-is a b = refl

pub Or-is : (a b : Term) → t.Or a b ≡ Or a b
unfolding shape-the_row-Term-0 hidden-the_row-Term-0 Carrier.hidden
Or-is a b = refl

pub Imp-is : (a b : Term) → t.Imp a b ≡ Imp a b
unfolding shape-the_row-Term-0 hidden-the_row-Term-0 Carrier.hidden
Imp-is a b = refl

module _ (A : Type 0) (step : Term-F A → A) where
  abbrev of : Term → A
  of = fold-Term A step

  pub at-Num : (n : ℕ) → of (t.Num n) ≡ step (f.Num n)
  at-Num n = ap of (sym (t.rolls-Num n)) ∙ fold-roll-Term A step (f.Num n)

  pub at-True : of t.True ≡ step f.True
  at-True = ap of (sym t.rolls-True) ∙ fold-roll-Term A step f.True

  pub at-False : of t.False ≡ step f.False
  at-False = ap of (sym t.rolls-False) ∙ fold-roll-Term A step f.False

  pub at-Null : of t.Null ≡ step f.Null
  at-Null = ap of (sym t.rolls-Null) ∙ fold-roll-Term A step f.Null

  pub at-Nil : of t.Nil ≡ step f.Nil
  at-Nil = ap of (sym t.rolls-Nil) ∙ fold-roll-Term A step f.Nil

  pub at-Unit : of t.Unit ≡ step f.Unit
  at-Unit = ap of (sym t.rolls-Unit) ∙ fold-roll-Term A step f.Unit

  pub at-Var : (x : List ℕ) → of (t.Var x) ≡ step (f.Var x)
  at-Var x = ap of (sym (t.rolls-Var x)) ∙ fold-roll-Term A step (f.Var x)

  pub at-Len : (a : Term) → of (t.Len a) ≡ step (f.Len (of a))
  at-Len a = ap of (sym (t.rolls-Len a)) ∙ fold-roll-Term A step (f.Len a)

  pub at-Offset : (a : Term) (k : ℕ) → of (t.Offset a k) ≡ step (f.Offset (of a) k)
  at-Offset a k = ap of (sym (t.rolls-Offset a k)) ∙ fold-roll-Term A step (f.Offset a k)

  pub at-Mul : (a b : Term) → of (t.Mul a b) ≡ step (f.Mul (of a) (of b))
  at-Mul a b = ap of (sym (t.rolls-Mul a b)) ∙ fold-roll-Term A step (f.Mul a b)

  pub at-Add : (a b : Term) → of (t.Add a b) ≡ step (f.Add (of a) (of b))
  at-Add a b = ap of (sym (t.rolls-Add a b)) ∙ fold-roll-Term A step (f.Add a b)

  pub at-Sub : (a b : Term) → of (t.Sub a b) ≡ step (f.Sub (of a) (of b))
  at-Sub a b = ap of (sym (t.rolls-Sub a b)) ∙ fold-roll-Term A step (f.Sub a b)

  pub at-Cons : (a b : Term) → of (t.Cons a b) ≡ step (f.Cons (of a) (of b))
  at-Cons a b = ap of (sym (t.rolls-Cons a b)) ∙ fold-roll-Term A step (f.Cons a b)

  pub at-Cat : (a b : Term) → of (t.Cat a b) ≡ step (f.Cat (of a) (of b))
  at-Cat a b = ap of (sym (t.rolls-Cat a b)) ∙ fold-roll-Term A step (f.Cat a b)

  pub at-Eq : (a b : Term) → of (t.Eq a b) ≡ step (f.Eq (of a) (of b))
  at-Eq a b = ap of (sym (t.rolls-Eq a b)) ∙ fold-roll-Term A step (f.Eq a b)

  pub at-Lt : (a b : Term) → of (t.Lt a b) ≡ step (f.Lt (of a) (of b))
  at-Lt a b = ap of (sym (t.rolls-Lt a b)) ∙ fold-roll-Term A step (f.Lt a b)

  pub at-Le : (a b : Term) → of (t.Le a b) ≡ step (f.Le (of a) (of b))
  at-Le a b = ap of (sym (t.rolls-Le a b)) ∙ fold-roll-Term A step (f.Le a b)

  pub at-Not : (a : Term) → of (t.Not a) ≡ step (f.Not (of a))
  at-Not a = ap of (sym (t.rolls-Not a)) ∙ fold-roll-Term A step (f.Not a)

  pub at-And : (a b : Term) → of (t.And a b) ≡ step (f.And (of a) (of b))
  at-And a b = ap of (sym (t.rolls-And a b)) ∙ fold-roll-Term A step (f.And a b)

  pub at-Or : (a b : Term) → of (t.Or a b) ≡ step (f.Or (of a) (of b))
  at-Or a b = ap of (sym (t.rolls-Or a b)) ∙ fold-roll-Term A step (f.Or a b)

  pub at-Imp : (a b : Term) → of (t.Imp a b) ≡ step (f.Imp (of a) (of b))
  at-Imp a b = ap of (sym (t.rolls-Imp a b)) ∙ fold-roll-Term A step (f.Imp a b)
