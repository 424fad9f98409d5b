use Rattle.tht_grammar.specs.Pieces.{split_from}
use Rattle.tht_grammar.proofs.Splits.{split_exact, split_once}
use Rattle.tht_lex.proofs.laws.one_split.Goals as goal

pub returns-clause-some : goal.returns-clause-some
returns-clause-some c spot bytes = (split_from 0 spot bytes, split_exact spot bytes)

pub returns-clause-only : goal.returns-clause-only
returns-clause-only c spot bytes s u h k = split_once h k
