-- The lexer's classes, runs and pieces as the grammar has them.
use Rattle.std.specs.Prelude.{ℕ, suc, ◌+◌, Bool, List, [], ◌∷◌, Result, Ok, Err}
use Rattle.tht_tree.specs.declared.plain.Spot.{Spot}
use Rattle.tht_tree.specs.Splitting as spec
use Rattle.tht_grammar.specs.Pieces.{Piece, gap, token, fault}
use Rattle.tht_lex.specs.declared.pieces.Class.{Class}
use Rattle.tht_lex.specs.declared.pieces.Class.TheVariants as c
use Rattle.tht_lex.specs.declared.pieces.Run.{Run}
use Rattle.tht_lex.specs.declared.pieces.Run.TheVariants as r
use Rattle.tht_lex.specs.declared.pieces.Piece.{Piece as CodePiece}
use Rattle.tht_lex.specs.declared.pieces.Piece.TheVariants as p
use Rattle.tht_lex.specs.declared.token.Token.{Token}
use Rattle.tht_lex.specs.declared.end.LexEnd.{LexEnd}
use Rattle.tht_lex.specs.declared.end.LexEnd.TheVariants as e

abbrev pub class : Class → spec.Class
class c.Blank = spec.blank
class c.Hash = spec.hash
class c.Letter = spec.letter
class c.Digit = spec.digit
class c.Other = spec.other

abbrev pub goes_on : Run → ℕ → Bool
goes_on r.Word = spec.in_word
goes_on r.Number = spec.in_number
goes_on r.Comment = spec.in_comment

-- the error that tells a fault at a spot
abbrev pub end_of : spec.LexFault → Spot → LexEnd
end_of spec.bad_byte spot = e.BadByte spot
end_of spec.long_name spot = e.LongName spot
end_of spec.big_number spot = e.BigNumber spot

-- what a function answers that finds the piece at a spot
abbrev pub answer_of : Piece → Spot → Result CodePiece LexEnd
answer_of (gap n) spot = Ok (p.Gap n)
answer_of (token kind value n) spot = Ok (p.Token kind n)
answer_of (fault f) spot = Err (end_of f spot)

-- how many bytes a piece takes
abbrev pub size_of : CodePiece → ℕ
size_of (p.Gap n) = suc n
size_of (p.Token kind n) = suc n

-- the token that a piece is, if it is one, where it begins with this byte at this spot
abbrev pub tokens_at : ℕ → Spot → CodePiece → List Token
tokens_at from spot (p.Gap n) = []
tokens_at from spot (p.Token kind n) = record { kind = kind; from = from; to = from + suc n; spot = spot } ∷ []
