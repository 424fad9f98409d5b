-- Terms put in for names, all at once. A term binds no name, so nothing is captured; under binders the nameless `put` says
-- what is meant.
use Rattle.std.specs.Prelude.{ℕ, List, [], ◌∷◌, Result, Ok, Err, bytes_eq, if◌then◌else◌}
use Rattle.tht_tree.specs.declared.term.Term.{Term, fold-Term}
use Rattle.tht_tree.specs.declared.term.Term.TheVariants as term
use Rattle.tht_tree.specs.declared.term.Term.TheOpen as t
use Rattle.tht_tree.specs.declared.form.PutEnd.{PutEnd}
use Rattle.tht_tree.specs.declared.form.PutEnd.TheVariants.{Large}
use Rattle.tht_tree.specs.Values.{Env}
use Rattle.tht_tree.specs.Syntax.{Names, Trm, lit, free, bound, len, off, neg, op}
use Rattle.tht_tree.specs.Rules.Sizes.{nodes_at, nodes, levels_at, levels, formula_fits}
use Rattle.tht_tree.specs.Terms.{value}

-- names, each with the term that is put in for it; the first of a name counts
abbrev pub Puts : Type 0
Puts = List (List ℕ × Term)

-- what stands for a name
abbrev pub put_name : Puts → List ℕ → Term
put_name [] x = term.Var x
put_name (p ∷ ps) x = if bytes_eq p.0 x then p.1 else put_name ps x

abbrev pub put_at : Puts → t.Term-F Term → Term
put_at by (t.Num n) = term.Num n
put_at by t.True = term.True
put_at by t.False = term.False
put_at by t.Null = term.Null
put_at by t.Nil = term.Nil
put_at by t.Unit = term.Unit
put_at by (t.Var x) = put_name by x
put_at by (t.Len a) = term.Len a
put_at by (t.Offset a k) = term.Offset a k
put_at by (t.Mul a b) = term.Mul a b
put_at by (t.Add a b) = term.Add a b
put_at by (t.Sub a b) = term.Sub a b
put_at by (t.Cons a b) = term.Cons a b
put_at by (t.Cat a b) = term.Cat a b
put_at by (t.Eq a b) = term.Eq a b
put_at by (t.Lt a b) = term.Lt a b
put_at by (t.Le a b) = term.Le a b
put_at by (t.Not a) = term.Not a
put_at by (t.And a b) = term.And a b
put_at by (t.Or a b) = term.Or a b
put_at by (t.Imp a b) = term.Imp a b

-- the term with these put in
abbrev pub put_in : Puts → Term → Term
put_in by = fold-Term Term (put_at by)

-- ---- its size, which is known before it is made

abbrev pub put_nodes_at : Puts → t.Term-F ℕ → ℕ
put_nodes_at by (t.Var x) = nodes (put_name by x)
put_nodes_at by u = nodes_at u

abbrev pub put_nodes : Puts → Term → ℕ
put_nodes by = fold-Term ℕ (put_nodes_at by)

abbrev pub put_levels_at : Puts → t.Term-F ℕ → ℕ
put_levels_at by (t.Var x) = levels (put_name by x)
put_levels_at by u = levels_at u

abbrev pub put_levels : Puts → Term → ℕ
put_levels by = fold-Term ℕ (put_levels_at by)

-- refused where what it makes passes the limits of a formula
abbrev pub put_within : Puts → Term → Result Term PutEnd
put_within by u = if formula_fits (put_in by u) then Ok (put_in by u) else Err Large

-- ---- in nameless terms

-- the term with these for its free names; what is put in has no bound variable, so binders change nothing in it
abbrev pub put : (List ℕ → Trm) → Trm → Trm
put by (lit v) = lit v
put by (free x) = by x
put by (bound k) = bound k
put by (len a) = len (put by a)
put by (off k a) = off k (put by a)
put by (neg a) = neg (put by a)
put by (op o a b) = op o (put by a) (put by b)

-- the environment in which each name has the value of what stands for it
abbrev pub over : Names → Env → Puts → Env
over roots env by x = value roots env (put_name by x)
