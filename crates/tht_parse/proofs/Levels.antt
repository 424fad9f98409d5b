-- A chain of terms by its first part.
use Rattle.std.proofs.Common.{◌≡◌, refl, List, Ok, Err}
use Rattle.tht_tree.specs.declared.term.Term.{Term}
use Rattle.tht_tree.specs.Tokens.{Tok}
use Rattle.tht_tree.specs.Faults.{Fault}
use Rattle.tht_tree.specs.Grammar.{Nested, Tree}
use Rattle.tht_grammar.specs.Steps.{Reader, ◌>>=◌, chain}
use Rattle.tht_grammar.specs.Reading.{disj, conj, sum, prod}
use Rattle.tht_parse.specs.declared.operators.Level.{Level}
use Rattle.tht_parse.specs.declared.operators.Level.TheVariants as l
use Rattle.tht_parse.specs.Levels.{operators_of, part_of, chain_of}

module _ (inner : (n : Nested) → Reader (Tree n)) where
  as_chain : (level : Level) → chain_of level inner ≡ (part_of level inner >>= chain (operators_of level) (part_of level inner) 64)
  unfolding chain_of part_of operators_of disj conj sum prod
  as_chain l.Disj = refl
  as_chain l.Conj = refl
  as_chain l.Sum = refl
  as_chain l.Prod = refl

  pub level_first : (level : Level) (i : List Tok) (x : Term) (j : List Tok) → part_of level inner i ≡ Ok (x, j)
      → chain_of level inner i ≡ chain (operators_of level) (part_of level inner) 64 x j
  level_first level i x j e = rw (as_chain level, e) refl

  pub level_err : (level : Level) (i : List Tok) (f : Fault × List Tok) → part_of level inner i ≡ Err f → chain_of level inner i ≡ Err f
  level_err level i f e = rw (as_chain level, e) refl
