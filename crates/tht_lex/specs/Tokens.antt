-- The tokens of some bytes, and what the lexer answers.
use Rattle.std.specs.Prelude.{◌≡◌, ℕ, ◌≤◌, ◌<◌, List, length, take, fold, slice_range, Err}
use Rattle.std.specs.Str.{IsAscii}
use Rattle.tht_tree.specs.declared.token.TokenKind.{TokenKind}
use Rattle.tht_tree.specs.declared.token.TokenKind.TheVariants.{Num}
use Rattle.tht_tree.specs.Values.{number_limit}
use Rattle.tht_tree.specs.Tokens.{Tok}
use Rattle.tht_tree.specs.Splitting.{number_of, token_at, start_spot, after, bad_byte, long_name, big_number, Splits}
use Rattle.tht_lex.specs.declared.token.Token.{Token}
use Rattle.tht_lex.specs.declared.end.LexEnd.{LexEnd}
use Rattle.tht_lex.specs.declared.end.LexEnd.TheVariants.{BadByte, LongName, BigNumber, Memory}

-- the text of a token of these bytes
abbrev pub text_of : List ℕ → Token → List ℕ
text_of bytes t = slice_range bytes t.from t.to

-- the number that a text of this kind writes, or 0 where it is no number
abbrev pub value_of : TokenKind → List ℕ → ℕ
value_of Num text = number_of text
value_of _ text = 0

-- a token of these bytes as the grammar sees it, where every limit counts
abbrev pub seen : List ℕ → Token → Tok
seen bytes t = token_at t.kind t.spot (text_of bytes t) (value_of t.kind (text_of bytes t))

-- The range of the token is a range of these bytes and not empty, its spot is the one after the bytes before it, its text
-- is ASCII, and its number is below 2^64.
pub record IsTokenOf (bytes : List ℕ) (t : Token) : Type 0 where
  pub filled : t.from < t.to
  pub within : t.to ≤ length bytes
  pub placed : t.spot ≡ fold after start_spot (take t.from bytes)
  pub ascii : IsAscii (text_of bytes t)
  pub small : value_of t.kind (text_of bytes t) < number_limit

-- the first token ends where the second begins, or before it
abbrev pub Precedes : Token → Token → Type 0
Precedes t u = t.to ≤ u.from

-- what the error says is the first fault of these bytes; want of memory says nothing of them
abbrev pub IsFirstFault : List ℕ → LexEnd → Type 0
IsFirstFault bytes (BadByte spot) = Splits start_spot bytes (Err (bad_byte, spot))
IsFirstFault bytes (LongName spot) = Splits start_spot bytes (Err (long_name, spot))
IsFirstFault bytes (BigNumber spot) = Splits start_spot bytes (Err (big_number, spot))
IsFirstFault bytes Memory = Unit {0}
