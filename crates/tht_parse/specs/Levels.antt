-- The chains of terms, as the grammar reads them.
use Rattle.tht_tree.specs.declared.term.Term.{Term}
use Rattle.tht_tree.specs.Productions.{Operators}
use Rattle.tht_tree.specs.Grammar.{Nested, Tree, ors, ands, adds, muls}
use Rattle.tht_grammar.specs.Steps.{Reader}
use Rattle.tht_grammar.specs.Reading as reading
use Rattle.tht_parse.specs.declared.operators.Level.{Level}
use Rattle.tht_parse.specs.declared.operators.Level.TheVariants as l

-- its operators
unfoldable pub operators_of : Level → Operators Term Term
operators_of l.Disj = ors
operators_of l.Conj = ands
operators_of l.Sum = adds
operators_of l.Prod = muls

-- the reader of its parts
unfoldable pub part_of : Level → ((n : Nested) → Reader (Tree n)) → Reader Term
part_of l.Disj = reading.conj
part_of l.Conj = reading.neg
part_of l.Sum = reading.prod
part_of l.Prod = reading.off

-- the reader of the chain
unfoldable pub chain_of : Level → ((n : Nested) → Reader (Tree n)) → Reader Term
chain_of l.Disj = reading.disj
chain_of l.Conj = reading.conj
chain_of l.Sum = reading.sum
chain_of l.Prod = reading.prod
