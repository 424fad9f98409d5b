-- How bytes split into tokens.
use Rattle.std.specs.Prelude.{◌≡◌, ℕ, ◌+◌, ◌-◌, ◌*◌, ◌≤◌, ◌<◌, ◌==◌, Bool, true, false, not, ◌||◌, ◌&&◌, nat_le, if◌then◌else◌, List, [], ◌∷◌, length, fold, codes, bytes_eq, Option, Some, None, Result, Ok, Err}
use Rattle.tht_tree.specs.declared.plain.Spot.{Spot}
use Rattle.tht_tree.specs.declared.token.TokenKind.{TokenKind}
use Rattle.tht_tree.specs.declared.token.TokenKind.TheVariants as k
use Rattle.tht_tree.specs.Values.{number_limit}
use Rattle.tht_tree.specs.Tokens.{counts, Tok, tok}

-- ---- words and symbols

-- the kind of the first row with this text
abbrev pub kind_in : List (List ℕ × TokenKind) → List ℕ → Option TokenKind
kind_in [] text = None
kind_in (row ∷ rows) text = if bytes_eq row.0 text then Some row.1 else kind_in rows text

unfoldable pub reserved : List (List ℕ × TokenKind)
reserved =
    (codes "tht", k.Tht) ∷ (codes "root", k.Root) ∷ (codes "invariant", k.Invariant) ∷ (codes "shared", k.Shared) ∷ (codes "pred", k.Pred) ∷
    (codes "lemma", k.Lemma) ∷ (codes "txn", k.Txn) ∷ (codes "proc", k.Proc) ∷ (codes "main", k.Main) ∷ (codes "on", k.On) ∷ (codes "nil", k.Nil) ∷
    (codes "cons", k.Cons) ∷ (codes "zero", k.Zero) ∷ (codes "next", k.Next) ∷ (codes "nat", k.Nat) ∷ (codes "bool", k.Bool) ∷ (codes "loc", k.Loc) ∷
    (codes "unit", k.Unit) ∷ (codes "seq", k.Seq) ∷ (codes "true", k.True) ∷ (codes "false", k.False) ∷ (codes "null", k.Null) ∷
    (codes "not", k.Not) ∷ (codes "and", k.And) ∷ (codes "or", k.Or) ∷ (codes "imp", k.Imp) ∷ (codes "len", k.Len) ∷ (codes "emp", k.Emp) ∷
    (codes "exists", k.Exists) ∷ (codes "either", k.Either) ∷ (codes "read", k.Read) ∷ (codes "write", k.Write) ∷ (codes "alloc", k.Alloc) ∷
    (codes "free", k.Free) ∷ (codes "call", k.Call) ∷ (codes "do", k.Do) ∷ (codes "atomic", k.Atomic) ∷ (codes "par", k.Par) ∷
    (codes "publish", k.Publish) ∷ (codes "retract", k.Retract) ∷ (codes "have", k.Have) ∷ (codes "open", k.Open) ∷ (codes "unfold", k.Unfold) ∷
    (codes "fold", k.Fold) ∷ (codes "rewrite", k.Rewrite) ∷ (codes "use", k.Use) ∷ (codes "ret", k.Ret) ∷ (codes "if", k.If) ∷
    (codes "else", k.Else) ∷ (codes "case", k.Case) ∷ (codes "dead", k.Dead) ∷ (codes "at", k.At) ∷ (codes "as", k.As) ∷ (codes "by", k.By) ∷
    (codes "to", k.To) ∷ (codes "hyp", k.Hyp) ∷ (codes "refl", k.Refl) ∷ (codes "calc", k.Calc) ∷ (codes "todo", k.Todo) ∷ (codes "sym", k.Sym) ∷
    (codes "both", k.Both) ∷ (codes "subst", k.Subst) ∷ (codes "pair", k.Pair) ∷ (codes "fst", k.Fst) ∷ (codes "snd", k.Snd) ∷ (codes "inl", k.Inl) ∷
    (codes "inr", k.Inr) ∷ (codes "cases", k.Cases) ∷ (codes "fun", k.Fun) ∷ (codes "app", k.App) ∷ (codes "neg", k.Neg) ∷
    (codes "absurd", k.Absurd) ∷ (codes "em", k.Em) ∷ (codes "lin", k.Lin) ∷ (codes "monus", k.Monus) ∷ (codes "head", k.Head) ∷
    (codes "tail", k.Tail) ∷ (codes "nocons", k.Nocons) ∷ (codes "apart", k.Apart) ∷ (codes "nonnull", k.Nonnull) ∷ (codes "ex", k.Ex) ∷
    (codes "left", k.Left) ∷ (codes "right", k.Right) ∷ []

unfoldable pub two_byte_symbols : List (List ℕ × TokenKind)
two_byte_symbols =
    (codes ":=", k.Assign) ∷ (codes "<-", k.LeftArrow) ∷ (codes "->", k.Arrow) ∷ (codes "=>", k.FatArrow) ∷ (codes "<=", k.LessEqual) ∷
    (codes "::", k.Link) ∷ (codes "++", k.Join) ∷ []

unfoldable pub one_byte_symbols : List (List ℕ × TokenKind)
one_byte_symbols =
    (codes "(", k.LParen) ∷ (codes ")", k.RParen) ∷ (codes "{", k.LBrace) ∷ (codes "}", k.RBrace) ∷ (codes "[", k.LBracket) ∷
    (codes "]", k.RBracket) ∷ (codes ",", k.Comma) ∷ (codes ";", k.Semicolon) ∷ (codes ":", k.Colon) ∷ (codes ".", k.Dot) ∷ (codes "@", k.AtSign) ∷
    (codes "*", k.Star) ∷ (codes "+", k.Plus) ∷ (codes "-", k.Minus) ∷ (codes "=", k.Equal) ∷ (codes "<", k.Less) ∷ []

abbrev pub or_name : Option TokenKind → TokenKind
or_name None = k.Name
or_name (Some kind) = kind

-- a word is a name where it is not reserved
abbrev pub word_kind : List ℕ → TokenKind
word_kind w = or_name (kind_in reserved w)

-- the symbol of two bytes that begins these bytes, and the symbol of one byte
abbrev pub pair_at : ℕ → List ℕ → Option TokenKind
pair_at b [] = None
pair_at b (c ∷ i) = kind_in two_byte_symbols (b ∷ c ∷ [])

abbrev pub single_of : ℕ → Option TokenKind
single_of b = kind_in one_byte_symbols (b ∷ [])

-- ---- classes of bytes

pub data Class : Type 0 where
  blank : Class
  hash : Class
  letter : Class
  digit : Class
  other : Class

abbrev pub is_between : ℕ → ℕ → ℕ → Bool
is_between low high b = nat_le low b && nat_le b high

-- space, tab, carriage return and line feed separate; a word begins with a letter or `_`
unfoldable pub class_of : ℕ → Class
class_of b =
    if b == 32 || b == 9 || b == 13 || b == 10 then blank
    else (if b == 35 then hash
    else (if is_between 65 90 b || is_between 97 122 b || b == 95 then letter
    else (if is_between 48 57 b then digit else other)))

abbrev pub is_in_word : Class → Bool
is_in_word letter = true
is_in_word digit = true
is_in_word _ = false

abbrev pub is_in_number : Class → Bool
is_in_number digit = true
is_in_number _ = false

unfoldable pub in_word : ℕ → Bool
in_word b = is_in_word (class_of b)

unfoldable pub in_number : ℕ → Bool
in_number b = is_in_number (class_of b)

-- a comment goes on up to the line feed, over any bytes
unfoldable pub in_comment : ℕ → Bool
in_comment b = not (b == 10)

-- the number that the digits write; leading zeros count for nothing
unfoldable pub number_of : List ℕ → ℕ
number_of = fold (λ n b. 10 * n + (b - 48)) 0

-- ---- spots and runs

-- the spot after a byte: lines and bytes of a line count from 1
abbrev pub after : Spot → ℕ → Spot
after p b = if b == 10 then record { line = p.line + 1; column = 1 } else record { line = p.line; column = p.column + 1 }

abbrev pub start_spot : Spot
start_spot = record { line = 1; column = 1 }

abbrev pub stops : (ℕ → Bool) → List ℕ → Bool
stops ok [] = true
stops ok (b ∷ i) = not (ok b)

-- Run ok p i w q j: w is the longest run of such bytes at the front of i, which stands at p; j is left, which stands at q
pub data Run (ok : ℕ → Bool) : Spot → List ℕ → List ℕ → Spot → List ℕ → Type 0 where
  run_end : {p : Spot} {i : List ℕ} → stops ok i ≡ true → Run ok p i [] p i
  run_more : {p q : Spot} {b : ℕ} {i j w : List ℕ} → ok b ≡ true → Run ok (after p b) i w q j → Run ok p (b ∷ i) (b ∷ w) q j

-- ---- tokens

pub data LexFault : Type 0 where
  bad_byte : LexFault
  long_name : LexFault
  big_number : LexFault

-- the tokens, or the first fault with its spot
abbrev pub Split : Type 0
Split = Result (List Tok) (LexFault × Spot)

abbrev pub prepend : Tok → Split → Split
prepend t (Ok ts) = Ok (t ∷ ts)
prepend t (Err e) = Err e

abbrev pub token_at : TokenKind → Spot → List ℕ → ℕ → Tok
token_at kind p w n = tok kind (record { mark = counts; spot = p; value = n; text = w })

-- Splits p i s: the bytes i, which stand at p, split into these tokens, or this is their first fault
pub data Splits : Spot → List ℕ → Split → Type 0 where
  no_bytes : {p : Spot} → Splits p [] (Ok [])
  a_blank : {p : Spot} {b : ℕ} {i : List ℕ} {s : Split} → class_of b ≡ blank → Splits (after p b) i s → Splits p (b ∷ i) s
  a_comment : {p q : Spot} {b : ℕ} {i j w : List ℕ} {s : Split} → class_of b ≡ hash → Run in_comment (after p b) i w q j → Splits q j s → Splits p (b ∷ i) s
  -- a word of at most 64 bytes is a token, and a longer one a fault at its first byte
  a_word : {p q : Spot} {b : ℕ} {i j w : List ℕ} {s : Split} → class_of b ≡ letter → Run in_word (after p b) i w q j → length (b ∷ w) ≤ 64 → Splits q j s
      → Splits p (b ∷ i) (prepend (token_at (word_kind (b ∷ w)) p (b ∷ w) 0) s)
  too_long : {p q : Spot} {b : ℕ} {i j w : List ℕ} → class_of b ≡ letter → Run in_word (after p b) i w q j → 64 < length (b ∷ w)
      → Splits p (b ∷ i) (Err (long_name, p))
  -- a number below 2^64 is a token, and a greater one a fault at its first byte
  a_number : {p q : Spot} {b : ℕ} {i j w : List ℕ} {s : Split} → class_of b ≡ digit → Run in_number (after p b) i w q j → number_of (b ∷ w) < number_limit → Splits q j s
      → Splits p (b ∷ i) (prepend (token_at k.Num p (b ∷ w) (number_of (b ∷ w))) s)
  too_big : {p q : Spot} {b : ℕ} {i j w : List ℕ} → class_of b ≡ digit → Run in_number (after p b) i w q j → number_limit ≤ number_of (b ∷ w)
      → Splits p (b ∷ i) (Err (big_number, p))
  -- the longest symbol counts; a byte that begins none is a fault
  a_pair : {p : Spot} {b c : ℕ} {i : List ℕ} {s : Split} {kind : TokenKind} → class_of b ≡ other → pair_at b (c ∷ i) ≡ Some kind → Splits (after (after p b) c) i s
      → Splits p (b ∷ c ∷ i) (prepend (token_at kind p (b ∷ c ∷ []) 0) s)
  a_single : {p : Spot} {b : ℕ} {i : List ℕ} {s : Split} {kind : TokenKind} → class_of b ≡ other → pair_at b i ≡ None → single_of b ≡ Some kind → Splits (after p b) i s
      → Splits p (b ∷ i) (prepend (token_at kind p (b ∷ []) 0) s)
  a_bad : {p : Spot} {b : ℕ} {i : List ℕ} → class_of b ≡ other → pair_at b i ≡ None → single_of b ≡ None → Splits p (b ∷ i) (Err (bad_byte, p))
