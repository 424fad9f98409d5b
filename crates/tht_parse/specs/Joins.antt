-- The operators, as the grammar has them.
use Rattle.std.specs.Prelude.{Option, Some, None}
use Rattle.tht_tree.specs.declared.term.Term.{Term}
use Rattle.tht_tree.specs.declared.term.Term.TheVariants as t
use Rattle.tht_parse.specs.declared.operators.Join.{Join}
use Rattle.tht_parse.specs.declared.operators.Join.TheVariants as j

-- the tree of an operator and its parts
abbrev pub node : Join → Term → Term → Term
node j.Imp = t.Imp
node j.Or = t.Or
node j.And = t.And
node j.Equal = t.Eq
node j.Less = t.Lt
node j.LessEqual = t.Le
node j.Cons = t.Cons
node j.Cat = t.Cat
node j.Add = t.Add
node j.Sub = t.Sub
node j.Mul = t.Mul

abbrev pub joins : Option Join → Option (Term → Term → Term)
joins None = None
joins (Some j) = Some (node j)
