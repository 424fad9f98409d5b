-- The value of each form of term, from the values of its parts.
use Rattle.std.proofs.Common.{◌≡◌, ℕ, true, false, not, List, [], length, ap}
use Rattle.tht_tree.specs.declared.plain.Place.TheVariants.{Null}
use Rattle.tht_tree.specs.declared.plain.Value.TheVariants as v
use Rattle.tht_tree.specs.declared.term.Term.{Term}
use Rattle.tht_tree.specs.declared.term.Term.TheVariants as t
use Rattle.tht_tree.specs.Values.{Val, is, seq, Env, bool_of, place_of, seq_of, a_nat, a_bool, a_place}
use Rattle.tht_tree.specs.Syntax.{Names, position, Trm, mul, add, sub, cons, cat, eq, lt, le, conj, disj, imp, root_or_free, trm_at}
use Rattle.tht_tree.proofs.TermFolds.{at-Num, at-True, at-False, at-Null, at-Nil, at-Unit, at-Var, at-Len, at-Offset, at-Not, at-Mul, at-Add, at-Sub, at-Cons, at-Cat, at-Eq, at-Lt, at-Le, at-And, at-Or, at-Imp}
use Rattle.tht_tree.specs.Terms.{offset_by, apply, value_of, value}

module _ (roots : Names) (env : Env) where
  abbrev of : Term → Val
  of = value roots env

  pub value-Num : (n : ℕ) → of (t.Num n) ≡ a_nat n
  value-Num n = ap (value_of env []) (at-Num Trm (trm_at roots []) n)

  pub value-True : of (t.True) ≡ a_bool true
  value-True = ap (value_of env []) (at-True Trm (trm_at roots []))

  pub value-False : of (t.False) ≡ a_bool false
  value-False = ap (value_of env []) (at-False Trm (trm_at roots []))

  pub value-Null : of (t.Null) ≡ a_place Null
  value-Null = ap (value_of env []) (at-Null Trm (trm_at roots []))

  pub value-Nil : of (t.Nil) ≡ seq []
  value-Nil = ap (value_of env []) (at-Nil Trm (trm_at roots []))

  pub value-Unit : of (t.Unit) ≡ is v.Unit
  value-Unit = ap (value_of env []) (at-Unit Trm (trm_at roots []))

  pub value-Var : (x : List ℕ) → of (t.Var x) ≡ value_of env [] (root_or_free x (position 0 roots x))
  value-Var x = ap (value_of env []) (at-Var Trm (trm_at roots []) x)

  pub value-Len : (a : Term) → of (t.Len a) ≡ a_nat (length (seq_of (of a)))
  value-Len a = ap (value_of env []) (at-Len Trm (trm_at roots []) a)

  pub value-Offset : (a : Term) (k : ℕ) → of (t.Offset a k) ≡ a_place (offset_by k (place_of (of a)))
  value-Offset a k = ap (value_of env []) (at-Offset Trm (trm_at roots []) a k)

  pub value-Not : (a : Term) → of (t.Not a) ≡ a_bool (not (bool_of (of a)))
  value-Not a = ap (value_of env []) (at-Not Trm (trm_at roots []) a)

  pub value-Mul : (a b : Term) → of (t.Mul a b) ≡ apply mul (of a) (of b)
  value-Mul a b = ap (value_of env []) (at-Mul Trm (trm_at roots []) a b)

  pub value-Add : (a b : Term) → of (t.Add a b) ≡ apply add (of a) (of b)
  value-Add a b = ap (value_of env []) (at-Add Trm (trm_at roots []) a b)

  pub value-Sub : (a b : Term) → of (t.Sub a b) ≡ apply sub (of a) (of b)
  value-Sub a b = ap (value_of env []) (at-Sub Trm (trm_at roots []) a b)

  pub value-Cons : (a b : Term) → of (t.Cons a b) ≡ apply cons (of a) (of b)
  value-Cons a b = ap (value_of env []) (at-Cons Trm (trm_at roots []) a b)

  pub value-Cat : (a b : Term) → of (t.Cat a b) ≡ apply cat (of a) (of b)
  value-Cat a b = ap (value_of env []) (at-Cat Trm (trm_at roots []) a b)

  pub value-Eq : (a b : Term) → of (t.Eq a b) ≡ apply eq (of a) (of b)
  value-Eq a b = ap (value_of env []) (at-Eq Trm (trm_at roots []) a b)

  pub value-Lt : (a b : Term) → of (t.Lt a b) ≡ apply lt (of a) (of b)
  value-Lt a b = ap (value_of env []) (at-Lt Trm (trm_at roots []) a b)

  pub value-Le : (a b : Term) → of (t.Le a b) ≡ apply le (of a) (of b)
  value-Le a b = ap (value_of env []) (at-Le Trm (trm_at roots []) a b)

  pub value-And : (a b : Term) → of (t.And a b) ≡ apply conj (of a) (of b)
  value-And a b = ap (value_of env []) (at-And Trm (trm_at roots []) a b)

  pub value-Or : (a b : Term) → of (t.Or a b) ≡ apply disj (of a) (of b)
  value-Or a b = ap (value_of env []) (at-Or Trm (trm_at roots []) a b)

  pub value-Imp : (a b : Term) → of (t.Imp a b) ≡ apply imp (of a) (of b)
  value-Imp a b = ap (value_of env []) (at-Imp Trm (trm_at roots []) a b)
