-- Induction over terms, by one level at a time.
use Rattle.std.proofs.Common.{◌≡◌, ◌∙◌, subst}
use Rattle.tht_tree.specs.declared.term.Term.{Term, roll-Term, map-Term, fold-Term, fold-roll-Term}
use Rattle.tht_tree.specs.declared.term.Term.TheVariants as t
use Rattle.tht_tree.specs.declared.term.Term.TheOpen.{Term-F}
use Rattle.tht_tree.specs.declared.term.Term.TheOpen as f
use Rattle.tht_tree.proofs.TermFolds.{Len, Offset, Mul, Add, Sub, Cons, Cat, Eq, Lt, Le, Not, And, Or, Imp, Len-is, Offset-is, Mul-is, Add-is, Sub-is, Cons-is, Cat-is, Eq-is, Lt-is, Le-is, Not-is, And-is, Or-is, Imp-is}

-- a fold at one level
pub fold_level : {A : Type 0} (step : Term-F A → A) (x : Term-F Term) → fold-Term A step (roll-Term x) ≡ step (map-Term Term A (fold-Term A step) x)
fold_level {A} step x = fold-roll-Term A step x

module _ (P : Term → Type 0) where
  -- P holds of the parts at a level
  abbrev pub OfParts : Term-F Term → Type 0
  OfParts (f.Len a) = P a
  OfParts (f.Offset a k) = P a
  OfParts (f.Not a) = P a
  OfParts (f.Mul a b) = P a × P b
  OfParts (f.Add a b) = P a × P b
  OfParts (f.Sub a b) = P a × P b
  OfParts (f.Cons a b) = P a × P b
  OfParts (f.Cat a b) = P a × P b
  OfParts (f.Eq a b) = P a × P b
  OfParts (f.Lt a b) = P a × P b
  OfParts (f.Le a b) = P a × P b
  OfParts (f.And a b) = P a × P b
  OfParts (f.Or a b) = P a × P b
  OfParts (f.Imp a b) = P a × P b
  OfParts _ = Unit {0}

  module _ (step : (x : Term-F Term) → OfParts x → P (roll-Term x)) where
    pub by_parts : (t : Term) → P t
    by_parts (t.Num n) = subst P (t.rolls-Num n) (step (f.Num n) tt)
    by_parts t.True = subst P t.rolls-True (step f.True tt)
    by_parts t.False = subst P t.rolls-False (step f.False tt)
    by_parts t.Null = subst P t.rolls-Null (step f.Null tt)
    by_parts t.Nil = subst P t.rolls-Nil (step f.Nil tt)
    by_parts t.Unit = subst P t.rolls-Unit (step f.Unit tt)
    by_parts (t.Var x) = subst P (t.rolls-Var x) (step (f.Var x) tt)
    by_parts (Len a) = subst P (t.rolls-Len a ∙ Len-is a) (step (f.Len a) (by_parts a))
    by_parts (Offset a k) = subst P (t.rolls-Offset a k ∙ Offset-is a k) (step (f.Offset a k) (by_parts a))
    by_parts (Not a) = subst P (t.rolls-Not a ∙ Not-is a) (step (f.Not a) (by_parts a))
    by_parts (Mul a b) = subst P (t.rolls-Mul a b ∙ Mul-is a b) (step (f.Mul a b) (by_parts a, by_parts b))
    by_parts (Add a b) = subst P (t.rolls-Add a b ∙ Add-is a b) (step (f.Add a b) (by_parts a, by_parts b))
    by_parts (Sub a b) = subst P (t.rolls-Sub a b ∙ Sub-is a b) (step (f.Sub a b) (by_parts a, by_parts b))
    by_parts (Cons a b) = subst P (t.rolls-Cons a b ∙ Cons-is a b) (step (f.Cons a b) (by_parts a, by_parts b))
    by_parts (Cat a b) = subst P (t.rolls-Cat a b ∙ Cat-is a b) (step (f.Cat a b) (by_parts a, by_parts b))
    by_parts (Eq a b) = subst P (t.rolls-Eq a b ∙ Eq-is a b) (step (f.Eq a b) (by_parts a, by_parts b))
    by_parts (Lt a b) = subst P (t.rolls-Lt a b ∙ Lt-is a b) (step (f.Lt a b) (by_parts a, by_parts b))
    by_parts (Le a b) = subst P (t.rolls-Le a b ∙ Le-is a b) (step (f.Le a b) (by_parts a, by_parts b))
    by_parts (And a b) = subst P (t.rolls-And a b ∙ And-is a b) (step (f.And a b) (by_parts a, by_parts b))
    by_parts (Or a b) = subst P (t.rolls-Or a b ∙ Or-is a b) (step (f.Or a b) (by_parts a, by_parts b))
    by_parts (Imp a b) = subst P (t.rolls-Imp a b ∙ Imp-is a b) (step (f.Imp a b) (by_parts a, by_parts b))
