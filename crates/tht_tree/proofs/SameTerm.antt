-- Terms that the test of trees takes for the same are the same.
use Rattle.std.proofs.Common.{◌≡◌, ℕ, Bool, true, false, ◌&&◌, List, refl, sym, ◌∙◌, ap}
use Rattle.std.specs.Prelude.{bytes_eq}
use Rattle.std.proofs.lemmas.Bool.{eqb-true}
use Rattle.std.proofs.lemmas.Slice.Eq.{bytes_eq-Decides}
use Rattle.tht_tree.specs.declared.term.Term.{Term, out-Term, roll-Term, roll-out-Term}
use Rattle.tht_tree.specs.declared.term.Term.TheVariants as t
use Rattle.tht_tree.specs.declared.term.Term.TheOpen.{Term-F}
use Rattle.tht_tree.specs.declared.term.Term.TheOpen as f
use Rattle.tht_tree.specs.SameTree.{same_at, same_of, is_num, is_true, is_false, is_null, is_nil_term, is_unit, is_var, is_len, is_offset, is_product, is_sum, is_difference, is_cons, is_cat, is_equation, is_less, is_at_most, is_negation, is_and, is_or, is_implication}
use Rattle.tht_tree.proofs.TermFolds.{Len, Offset, Mul, Add, Sub, Cons, Cat, Eq, Lt, Le, Not, And, Or, Imp, Len-is, Offset-is, Mul-is, Add-is, Sub-is, Cons-is, Cat-is, Eq-is, Lt-is, Le-is, Not-is, And-is, Or-is, Imp-is, at-Num, at-True, at-False, at-Null, at-Nil, at-Unit, at-Var, at-Len, at-Offset, at-Mul, at-Add, at-Sub, at-Cons, at-Cat, at-Eq, at-Lt, at-Le, at-Not, at-And, at-Or, at-Imp}

-- a term is what is rolled from its outermost level
rolled : (x : Term-F Term) (u : Term) → x ≡ out-Term u → roll-Term x ≡ u
rolled x u e = ap roll-Term e ∙ roll-out-Term u

pub bytes_eq-true : (x y : List ℕ) → bytes_eq x y ≡ true → x ≡ y
bytes_eq-true x y e = (bytes_eq-Decides x y).0 e

and_both : (a b : Bool) → (a && b) ≡ true → (a ≡ true) × (b ≡ true)
and_both true b e = (refl, e)
and_both false b e = cc

-- ---- outermost levels that pass the test are the same

from_num : (n : ℕ) (x : Term-F Term) → is_num n x ≡ true → f.Num n ≡ x
from_num n (f.Num m) e = ap f.Num (eqb-true n m e)
from_num n _ e = cc

from_true : (x : Term-F Term) → is_true x ≡ true → f.True ≡ x
from_true f.True e = refl
from_true _ e = cc

from_false : (x : Term-F Term) → is_false x ≡ true → f.False ≡ x
from_false f.False e = refl
from_false _ e = cc

from_null : (x : Term-F Term) → is_null x ≡ true → f.Null ≡ x
from_null f.Null e = refl
from_null _ e = cc

from_nil : (x : Term-F Term) → is_nil_term x ≡ true → f.Nil ≡ x
from_nil f.Nil e = refl
from_nil _ e = cc

from_unit : (x : Term-F Term) → is_unit x ≡ true → f.Unit ≡ x
from_unit f.Unit e = refl
from_unit _ e = cc

from_var : (y : List ℕ) (x : Term-F Term) → is_var y x ≡ true → f.Var y ≡ x
from_var y (f.Var z) e = ap f.Var (bytes_eq-true y z e)
from_var y _ e = cc

module _ (a : Term) (left : (u : Term) → same_of a u ≡ true → a ≡ u) where
  from_len : (x : Term-F Term) → is_len (same_of a) x ≡ true → f.Len a ≡ x
  from_len (f.Len c) e = ap f.Len (left c e)
  from_len _ e = cc

  from_negation : (x : Term-F Term) → is_negation (same_of a) x ≡ true → f.Not a ≡ x
  from_negation (f.Not c) e = ap f.Not (left c e)
  from_negation _ e = cc

  from_offset : (k : ℕ) (x : Term-F Term) → is_offset (same_of a) k x ≡ true → f.Offset a k ≡ x
  from_offset k (f.Offset c l) e = let h = and_both _ _ e in λ i. f.Offset (left c h.1 i) (eqb-true k l h.0 i)
  from_offset k _ e = cc

  module _ (b : Term) (right : (u : Term) → same_of b u ≡ true → b ≡ u) where
    from_product : (x : Term-F Term) → is_product (same_of a) (same_of b) x ≡ true → f.Mul a b ≡ x
    from_product (f.Mul c d) e = let h = and_both (same_of a c) (same_of b d) e in λ i. f.Mul (left c h.0 i) (right d h.1 i)
    from_product _ e = cc

    from_sum : (x : Term-F Term) → is_sum (same_of a) (same_of b) x ≡ true → f.Add a b ≡ x
    from_sum (f.Add c d) e = let h = and_both (same_of a c) (same_of b d) e in λ i. f.Add (left c h.0 i) (right d h.1 i)
    from_sum _ e = cc

    from_difference : (x : Term-F Term) → is_difference (same_of a) (same_of b) x ≡ true → f.Sub a b ≡ x
    from_difference (f.Sub c d) e = let h = and_both (same_of a c) (same_of b d) e in λ i. f.Sub (left c h.0 i) (right d h.1 i)
    from_difference _ e = cc

    from_cons : (x : Term-F Term) → is_cons (same_of a) (same_of b) x ≡ true → f.Cons a b ≡ x
    from_cons (f.Cons c d) e = let h = and_both (same_of a c) (same_of b d) e in λ i. f.Cons (left c h.0 i) (right d h.1 i)
    from_cons _ e = cc

    from_cat : (x : Term-F Term) → is_cat (same_of a) (same_of b) x ≡ true → f.Cat a b ≡ x
    from_cat (f.Cat c d) e = let h = and_both (same_of a c) (same_of b d) e in λ i. f.Cat (left c h.0 i) (right d h.1 i)
    from_cat _ e = cc

    from_equation : (x : Term-F Term) → is_equation (same_of a) (same_of b) x ≡ true → f.Eq a b ≡ x
    from_equation (f.Eq c d) e = let h = and_both (same_of a c) (same_of b d) e in λ i. f.Eq (left c h.0 i) (right d h.1 i)
    from_equation _ e = cc

    from_less : (x : Term-F Term) → is_less (same_of a) (same_of b) x ≡ true → f.Lt a b ≡ x
    from_less (f.Lt c d) e = let h = and_both (same_of a c) (same_of b d) e in λ i. f.Lt (left c h.0 i) (right d h.1 i)
    from_less _ e = cc

    from_at_most : (x : Term-F Term) → is_at_most (same_of a) (same_of b) x ≡ true → f.Le a b ≡ x
    from_at_most (f.Le c d) e = let h = and_both (same_of a c) (same_of b d) e in λ i. f.Le (left c h.0 i) (right d h.1 i)
    from_at_most _ e = cc

    from_and : (x : Term-F Term) → is_and (same_of a) (same_of b) x ≡ true → f.And a b ≡ x
    from_and (f.And c d) e = let h = and_both (same_of a c) (same_of b d) e in λ i. f.And (left c h.0 i) (right d h.1 i)
    from_and _ e = cc

    from_or : (x : Term-F Term) → is_or (same_of a) (same_of b) x ≡ true → f.Or a b ≡ x
    from_or (f.Or c d) e = let h = and_both (same_of a c) (same_of b d) e in λ i. f.Or (left c h.0 i) (right d h.1 i)
    from_or _ e = cc

    from_implication : (x : Term-F Term) → is_implication (same_of a) (same_of b) x ≡ true → f.Imp a b ≡ x
    from_implication (f.Imp c d) e = let h = and_both (same_of a c) (same_of b d) e in λ i. f.Imp (left c h.0 i) (right d h.1 i)
    from_implication _ e = cc

-- ---- whole terms

pub same_of-true : (a u : Term) → same_of a u ≡ true → a ≡ u
same_of-true (t.Num n) u e = sym (t.rolls-Num n) ∙ rolled (f.Num n) u (from_num n (out-Term u) (sym (ap (λ g. g u) (at-Num (Term → Bool) same_at n)) ∙ e))
same_of-true t.True u e = sym t.rolls-True ∙ rolled f.True u (from_true (out-Term u) (sym (ap (λ g. g u) (at-True (Term → Bool) same_at)) ∙ e))
same_of-true t.False u e = sym t.rolls-False ∙ rolled f.False u (from_false (out-Term u) (sym (ap (λ g. g u) (at-False (Term → Bool) same_at)) ∙ e))
same_of-true t.Null u e = sym t.rolls-Null ∙ rolled f.Null u (from_null (out-Term u) (sym (ap (λ g. g u) (at-Null (Term → Bool) same_at)) ∙ e))
same_of-true t.Nil u e = sym t.rolls-Nil ∙ rolled f.Nil u (from_nil (out-Term u) (sym (ap (λ g. g u) (at-Nil (Term → Bool) same_at)) ∙ e))
same_of-true t.Unit u e = sym t.rolls-Unit ∙ rolled f.Unit u (from_unit (out-Term u) (sym (ap (λ g. g u) (at-Unit (Term → Bool) same_at)) ∙ e))
same_of-true (t.Var x) u e = sym (t.rolls-Var x) ∙ rolled (f.Var x) u (from_var x (out-Term u) (sym (ap (λ g. g u) (at-Var (Term → Bool) same_at x)) ∙ e))
same_of-true (Len a) u e =
    sym (Len-is a) ∙ sym (t.rolls-Len a) ∙ rolled (f.Len a) u (from_len a (same_of-true a) (out-Term u) (sym (ap (λ g. g u) (ap same_of (sym (Len-is a)) ∙ at-Len (Term → Bool) same_at a)) ∙ e))
same_of-true (Offset a k) u e =
    sym (Offset-is a k) ∙ sym (t.rolls-Offset a k) ∙ rolled (f.Offset a k) u (from_offset a (same_of-true a) k (out-Term u) (sym (ap (λ g. g u) (ap same_of (sym (Offset-is a k)) ∙ at-Offset (Term → Bool) same_at a k)) ∙ e))
same_of-true (Mul a b) u e =
    sym (Mul-is a b) ∙ sym (t.rolls-Mul a b)
    ∙ rolled (f.Mul a b) u (from_product a (same_of-true a) b (same_of-true b) (out-Term u) (sym (ap (λ g. g u) (ap same_of (sym (Mul-is a b)) ∙ at-Mul (Term → Bool) same_at a b)) ∙ e))
same_of-true (Add a b) u e =
    sym (Add-is a b) ∙ sym (t.rolls-Add a b)
    ∙ rolled (f.Add a b) u (from_sum a (same_of-true a) b (same_of-true b) (out-Term u) (sym (ap (λ g. g u) (ap same_of (sym (Add-is a b)) ∙ at-Add (Term → Bool) same_at a b)) ∙ e))
same_of-true (Sub a b) u e =
    sym (Sub-is a b) ∙ sym (t.rolls-Sub a b)
    ∙ rolled (f.Sub a b) u (from_difference a (same_of-true a) b (same_of-true b) (out-Term u) (sym (ap (λ g. g u) (ap same_of (sym (Sub-is a b)) ∙ at-Sub (Term → Bool) same_at a b)) ∙ e))
same_of-true (Cons a b) u e =
    sym (Cons-is a b) ∙ sym (t.rolls-Cons a b)
    ∙ rolled (f.Cons a b) u (from_cons a (same_of-true a) b (same_of-true b) (out-Term u) (sym (ap (λ g. g u) (ap same_of (sym (Cons-is a b)) ∙ at-Cons (Term → Bool) same_at a b)) ∙ e))
same_of-true (Cat a b) u e =
    sym (Cat-is a b) ∙ sym (t.rolls-Cat a b)
    ∙ rolled (f.Cat a b) u (from_cat a (same_of-true a) b (same_of-true b) (out-Term u) (sym (ap (λ g. g u) (ap same_of (sym (Cat-is a b)) ∙ at-Cat (Term → Bool) same_at a b)) ∙ e))
same_of-true (Eq a b) u e =
    sym (Eq-is a b) ∙ sym (t.rolls-Eq a b)
    ∙ rolled (f.Eq a b) u (from_equation a (same_of-true a) b (same_of-true b) (out-Term u) (sym (ap (λ g. g u) (ap same_of (sym (Eq-is a b)) ∙ at-Eq (Term → Bool) same_at a b)) ∙ e))
same_of-true (Lt a b) u e =
    sym (Lt-is a b) ∙ sym (t.rolls-Lt a b)
    ∙ rolled (f.Lt a b) u (from_less a (same_of-true a) b (same_of-true b) (out-Term u) (sym (ap (λ g. g u) (ap same_of (sym (Lt-is a b)) ∙ at-Lt (Term → Bool) same_at a b)) ∙ e))
same_of-true (Le a b) u e =
    sym (Le-is a b) ∙ sym (t.rolls-Le a b)
    ∙ rolled (f.Le a b) u (from_at_most a (same_of-true a) b (same_of-true b) (out-Term u) (sym (ap (λ g. g u) (ap same_of (sym (Le-is a b)) ∙ at-Le (Term → Bool) same_at a b)) ∙ e))
same_of-true (Not a) u e =
    sym (Not-is a) ∙ sym (t.rolls-Not a) ∙ rolled (f.Not a) u (from_negation a (same_of-true a) (out-Term u) (sym (ap (λ g. g u) (ap same_of (sym (Not-is a)) ∙ at-Not (Term → Bool) same_at a)) ∙ e))
same_of-true (And a b) u e =
    sym (And-is a b) ∙ sym (t.rolls-And a b)
    ∙ rolled (f.And a b) u (from_and a (same_of-true a) b (same_of-true b) (out-Term u) (sym (ap (λ g. g u) (ap same_of (sym (And-is a b)) ∙ at-And (Term → Bool) same_at a b)) ∙ e))
same_of-true (Or a b) u e =
    sym (Or-is a b) ∙ sym (t.rolls-Or a b)
    ∙ rolled (f.Or a b) u (from_or a (same_of-true a) b (same_of-true b) (out-Term u) (sym (ap (λ g. g u) (ap same_of (sym (Or-is a b)) ∙ at-Or (Term → Bool) same_at a b)) ∙ e))
same_of-true (Imp a b) u e =
    sym (Imp-is a b) ∙ sym (t.rolls-Imp a b)
    ∙ rolled (f.Imp a b) u (from_implication a (same_of-true a) b (same_of-true b) (out-Term u) (sym (ap (λ g. g u) (ap same_of (sym (Imp-is a b)) ∙ at-Imp (Term → Bool) same_at a b)) ∙ e))
