-- How a normal form becomes a term, step by step.
use Rattle.tht_tree.specs.declared.term.Term.{Term}
use Rattle.tht_tree.specs.declared.term.Term.TheVariants as term
use Rattle.tht_tree.specs.declared.form.Item.{Item}
use Rattle.tht_tree.specs.declared.form.Item.TheVariants as item
use Rattle.tht_tree.specs.Normal.Sums.{sum_term}
use Rattle.pure_terms.specs.declared.trees.Join.{Join}
use Rattle.pure_terms.specs.declared.trees.Join.TheVariants as join

abbrev pub joined : Join → Term → Term → Term
joined join.Sum = term.Add
joined join.Product = term.Mul

-- what no terms give together
abbrev pub empty : Join → Term
empty join.Sum = term.Num 0
empty join.Product = term.Num 1

-- an item of a sequence before the term of the others
abbrev pub item_before : Item → Term → Term
item_before (item.One p) rest = term.Cons (sum_term p) rest
item_before (item.All x) rest = term.Cat (term.Var x) rest
