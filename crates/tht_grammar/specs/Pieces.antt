-- How bytes are cut into tokens, piece by piece.
use Rattle.std.specs.Prelude.{ℕ, zero, suc, Bool, true, false, nat_le, nat_lt, List, [], ◌∷◌, take, fold, Option, Some, None, Ok, Err}
use Rattle.std.specs.List.{prefix_len}
use Rattle.tht_tree.specs.declared.plain.Spot.{Spot}
use Rattle.tht_tree.specs.declared.token.TokenKind.{TokenKind}
use Rattle.tht_tree.specs.declared.token.TokenKind.TheVariants as k
use Rattle.tht_tree.specs.Values.{number_limit}
use Rattle.tht_tree.specs.Tokens.{Tok}
use Rattle.tht_tree.specs.Splitting.{Class, blank, hash, letter, digit, other, class_of, in_word, in_number, in_comment, number_of, word_kind, pair_at, single_of, after, token_at, LexFault, bad_byte, long_name, big_number, Split, prepend}

-- What stands at the front of some bytes: a blank or a comment, a token with its value, or a fault. The count is of the
-- bytes after the first.
pub data Piece : Type 0 where
  gap : ℕ → Piece
  token : TokenKind → ℕ → ℕ → Piece
  fault : LexFault → Piece

abbrev pub word_by : TokenKind → ℕ → Bool → Piece
word_by kind n true = token kind 0 n
word_by kind n false = fault long_name

abbrev pub number_by : ℕ → ℕ → Bool → Piece
number_by value n true = token k.Num value n
number_by value n false = fault big_number

abbrev pub single_by : Option TokenKind → Piece
single_by (Some kind) = token kind 0 0
single_by None = fault bad_byte

abbrev pub symbol_by : Option TokenKind → Option TokenKind → Piece
symbol_by (Some kind) single = token kind 0 1
symbol_by None single = single_by single

-- the longest runs at the front of these bytes
unfoldable pub word_run : List ℕ → ℕ
word_run i = prefix_len in_word i

unfoldable pub number_run : List ℕ → ℕ
number_run i = prefix_len in_number i

unfoldable pub comment_run : List ℕ → ℕ
comment_run i = prefix_len in_comment i

-- by the class of the first byte
abbrev pub piece_by : ℕ → List ℕ → Class → Piece
piece_by b i blank = gap 0
piece_by b i hash = gap (comment_run i)
piece_by b i letter = word_by (word_kind (b ∷ take (word_run i) i)) (word_run i) (nat_le (suc (word_run i)) 64)
piece_by b i digit =
    number_by (number_of (b ∷ take (number_run i) i)) (number_run i) (nat_lt (number_of (b ∷ take (number_run i) i)) number_limit)
piece_by b i other = symbol_by (pair_at b i) (single_of b)

unfoldable pub piece : List ℕ → Piece
piece [] = gap 0
piece (b ∷ i) = piece_by b i (class_of b)

-- The tokens from a piece on, which stands at p at the front of the text, where more gives those after so many further bytes.
abbrev pub split_by : Spot → List ℕ → (ℕ → Split) → Piece → Split
split_by p text more (gap n) = more n
split_by p text more (token kind value n) = prepend (token_at kind p (take (suc n) text) value) (more n)
split_by p text more (fault f) = Err (f, p)

-- The tokens of bytes that stand at a spot, after so many that belong to the piece before.
unfoldable pub split_from : ℕ → Spot → List ℕ → Split
split_from n p [] = Ok []
split_from (suc n) p (b ∷ i) = split_from n (after p b) i
split_from zero p (b ∷ i) = split_by p (b ∷ i) (λ n. split_from n (after p b) i) (piece (b ∷ i))

-- ---- what a piece is

-- how many bytes it takes
abbrev pub size : Piece → ℕ
size (gap n) = suc n
size (token kind value n) = suc n
size (fault f) = 0

-- the token that it is, if it is one, where it stands at p with this text
abbrev pub made : Spot → List ℕ → Piece → List Tok
made p text (token kind value n) = token_at kind p text value ∷ []
made p text _ = []

-- the spot after some bytes
unfoldable pub after_all : Spot → List ℕ → Spot
after_all p w = fold after p w
