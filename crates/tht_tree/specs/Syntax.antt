-- Terms with bound variables by position: which names an author gave them is gone. The name of a root is its place.
use Rattle.std.specs.Prelude.{ℕ, suc, true, false, bytes_eq, List, [], ◌∷◌, Option, Some, None, if◌then◌else◌}
use Rattle.tht_tree.specs.declared.plain.Place.TheVariants.{Null, Root}
use Rattle.tht_tree.specs.declared.plain.Value.TheVariants as v
use Rattle.tht_tree.specs.declared.term.Term.{Term, fold-Term}
use Rattle.tht_tree.specs.declared.term.Term.TheOpen as t
use Rattle.tht_tree.specs.Values.{Val, is, seq, a_nat, a_bool, a_place}

pub data Op : Type 0 where
  add : Op
  sub : Op
  mul : Op
  cons : Op
  cat : Op
  eq : Op
  lt : Op
  le : Op
  conj : Op
  disj : Op
  imp : Op

-- a term: a literal, a free name, a bound variable by the number of binders between, or an operation
pub data Trm : Type 0 where
  lit : Val → Trm
  free : List ℕ → Trm
  bound : ℕ → Trm
  len : Trm → Trm
  off : ℕ → Trm → Trm
  neg : Trm → Trm
  op : Op → Trm → Trm → Trm

-- names: those that are bound, the innermost first, or those of the roots, in their order
abbrev pub Names : Type 0
Names = List (List ℕ)

-- where a name stands in a list, from k on
abbrev pub position : ℕ → Names → List ℕ → Option ℕ
position k [] x = None
position k (y ∷ ys) x = if bytes_eq y x then Some k else position (suc k) ys x

-- a name that is not bound is a root's, which stands for its place, or free
abbrev pub root_or_free : List ℕ → Option ℕ → Trm
root_or_free x (Some r) = lit (a_place (Root r))
root_or_free x None = free x

abbrev pub named : Names → List ℕ → Option ℕ → Trm
named roots x (Some k) = bound k
named roots x None = root_or_free x (position 0 roots x)

abbrev pub trm_at : Names → Names → t.Term-F Trm → Trm
trm_at roots xs (t.Num n) = lit (a_nat n)
trm_at roots xs t.True = lit (a_bool true)
trm_at roots xs t.False = lit (a_bool false)
trm_at roots xs t.Null = lit (a_place Null)
trm_at roots xs t.Nil = lit (seq [])
trm_at roots xs t.Unit = lit (is v.Unit)
trm_at roots xs (t.Var x) = named roots x (position 0 xs x)
trm_at roots xs (t.Len a) = len a
trm_at roots xs (t.Offset a k) = off k a
trm_at roots xs (t.Mul a b) = op mul a b
trm_at roots xs (t.Add a b) = op add a b
trm_at roots xs (t.Sub a b) = op sub a b
trm_at roots xs (t.Cons a b) = op cons a b
trm_at roots xs (t.Cat a b) = op cat a b
trm_at roots xs (t.Eq a b) = op eq a b
trm_at roots xs (t.Lt a b) = op lt a b
trm_at roots xs (t.Le a b) = op le a b
trm_at roots xs (t.Not a) = neg a
trm_at roots xs (t.And a b) = op conj a b
trm_at roots xs (t.Or a b) = op disj a b
trm_at roots xs (t.Imp a b) = op imp a b

-- the term, where these are the roots and these names are bound
abbrev pub trm : Names → Names → Term → Trm
trm roots xs = fold-Term Trm (trm_at roots xs)
