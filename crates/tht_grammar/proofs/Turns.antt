-- What one turn of a lexer gives: the size of the piece at the front, its text, and the tokens from it on.
use Rattle.std.proofs.Common.{◌≡◌, ℕ, zero, suc, ◌+◌, ◌≤◌, ◌<◌, ap, sym, subst, ◌∙◌, refl, arith, Bool, true, false, nat_lt, List, [], ◌∷◌, ◌++◌, length, take, drop, append-nil, one-add, add-one, bytes_eq, Option, Some, None, Ok, Err}
use Rattle.std.specs.List.{prefix_len, list_all}
use Rattle.std.specs.Str.{IsAscii}
use Rattle.std.proofs.lemmas.Bool.Decides.{nat_tests}
use Rattle.std.proofs.lemmas.List.Sums.{prefix_len-le-length}
use Rattle.std.proofs.lemmas.Slice.Eq.{bytes_eq-Decides}
use Rattle.std.proofs.lemmas.Str.Ascii.{IsAscii-nil, IsAscii-cons}
use Rattle.tht_tree.specs.declared.plain.Spot.{Spot}
use Rattle.tht_tree.specs.declared.token.TokenKind.{TokenKind}
use Rattle.tht_tree.specs.Tokens.{Tok}
use Rattle.tht_tree.specs.Splitting.{Class, blank, hash, letter, digit, other, class_of, in_word, in_number, in_comment, kind_in, two_byte_symbols, one_byte_symbols, pair_at, single_of, after, token_at, Split, prepend}
use Rattle.tht_grammar.specs.Pieces as pieces
use Rattle.tht_grammar.specs.Pieces.{Piece, gap, token, fault, piece, split_from, word_run, number_run, comment_run, size, made, after_all}
use Rattle.tht_grammar.proofs.Bools.{left_true, right_true}
use Rattle.tht_grammar.proofs.Splits.{split_gap, split_token}

-- ---- the piece lies within the bytes

word_within : (i : List ℕ) (kind : TokenKind) (n : ℕ) → n ≤ length i → (v : Bool) → size (pieces.word_by kind n v) ≤ suc (length i)
word_within i kind n h true = omega arith
word_within i kind n h false = omega arith

number_within : (i : List ℕ) (value n : ℕ) → n ≤ length i → (v : Bool) → size (pieces.number_by value n v) ≤ suc (length i)
number_within i value n h true = omega arith
number_within i value n h false = omega arith

single_within : (i : List ℕ) (o : Option TokenKind) → size (pieces.single_by o) ≤ suc (length i)
single_within i (Some kind) = omega arith
single_within i None = omega arith

symbol_within : (b : ℕ) (i : List ℕ) (o : Option TokenKind) → pair_at b i ≡ o → size (pieces.symbol_by o (single_of b)) ≤ suc (length i)
symbol_within b [] (Some kind) h = cc
symbol_within b (c ∷ i) (Some kind) h = omega arith
symbol_within b i None h = single_within i (single_of b)

class_within : (b : ℕ) (i : List ℕ) (c : Class) → size (pieces.piece_by b i c) ≤ suc (length i)
unfolding word_run number_run comment_run
class_within b i blank = omega arith
class_within b i hash = let h = prefix_len-le-length in_comment i in omega arith
class_within b i letter = word_within i _ _ (prefix_len-le-length in_word i) _
class_within b i digit = number_within i _ _ (prefix_len-le-length in_number i) _
class_within b i other = symbol_within b i (pair_at b i) refl

pub size_within : (i : List ℕ) → 0 < length i → size (piece i) ≤ length i
unfolding piece
size_within [] h = absurd (omega arith)
size_within (b ∷ i) h = class_within b i (class_of b)

-- ---- the text of a token is ASCII

letter_ascii : (b : ℕ) → class_of b ≡ letter → b < 128
unfolding class_of
letter_ascii b h = grind (arith, nat_tests)

digit_ascii : (b : ℕ) → class_of b ≡ digit → b < 128
unfolding class_of
digit_ascii b h = grind (arith, nat_tests)

word_ascii : (b : ℕ) → in_word b ≡ true → b < 128
unfolding in_word class_of
word_ascii b h = grind (arith, nat_tests)

number_ascii : (b : ℕ) → in_number b ≡ true → b < 128
unfolding in_number class_of
number_ascii b h = grind (arith, nat_tests)

module _ (ok : ℕ → Bool) (low : (b : ℕ) → ok b ≡ true → b < 128) where
  run_more_ascii : (b : ℕ) (i : List ℕ) → IsAscii (take (prefix_len ok i) i) → (v : Bool) → ok b ≡ v → IsAscii (take (prefix_len ok (b ∷ i)) (b ∷ i))
  run_more_ascii b i h true e = rw (e, one-add) (IsAscii-cons b (take (prefix_len ok i) i) (low b e) h)
  run_more_ascii b i h false e = rw e IsAscii-nil

  run_ascii : (i : List ℕ) → IsAscii (take (prefix_len ok i) i)
  run_ascii [] = IsAscii-nil
  run_ascii (b ∷ i) = run_more_ascii b i (run_ascii i) (ok b) refl

-- a symbol of a table whose symbols are ASCII
abbrev are_ascii : List (List ℕ × TokenKind) → Bool
are_ascii rows = list_all (λ r. list_all (λ b. nat_lt b 128) r.0) rows

row_ascii : (bs : List ℕ) → list_all (λ b. nat_lt b 128) bs ≡ true → IsAscii bs
row_ascii [] h = IsAscii-nil
row_ascii (b ∷ bs) h = IsAscii-cons b bs (below b (left_true _ _ h)) (row_ascii bs (right_true _ _ h))
  where
    below : (b : ℕ) → nat_lt b 128 ≡ true → b < 128
    below b h = grind (arith, nat_tests)

kind_ascii : (rows : List (List ℕ × TokenKind)) → are_ascii rows ≡ true → (text : List ℕ) (kind : TokenKind) → kind_in rows text ≡ Some kind → IsAscii text
kind_ascii [] low text kind h = cc
kind_ascii (row ∷ rows) low text kind h =
    go (λ e. kind_ascii rows (right_true _ _ low) text kind e) (bytes_eq row.0 text) refl
  where
    go : (kind_in rows text ≡ Some kind → IsAscii text) → (v : Bool) → bytes_eq row.0 text ≡ v → IsAscii text
    go more true e = let same : row.0 ≡ text = (bytes_eq-Decides row.0 text).0 e in subst IsAscii same (row_ascii row.0 (left_true _ _ low))
    go more false e = more (rw e at h)

abbrev AsciiAt : ℕ → List ℕ → Piece → Type 0
AsciiAt b i (token kind value n) = IsAscii (b ∷ take n i)
AsciiAt b i _ = Unit {0}

word_at : (b : ℕ) (i : List ℕ) (kind : TokenKind) (n : ℕ) → IsAscii (b ∷ take n i) → (v : Bool) → AsciiAt b i (pieces.word_by kind n v)
word_at b i kind n h true = h
word_at b i kind n h false = tt

number_at : (b : ℕ) (i : List ℕ) (value n : ℕ) → IsAscii (b ∷ take n i) → (v : Bool) → AsciiAt b i (pieces.number_by value n v)
number_at b i value n h true = h
number_at b i value n h false = tt

single_at : (b : ℕ) (i : List ℕ) (o : Option TokenKind) → single_of b ≡ o → AsciiAt b i (pieces.single_by o)
unfolding one_byte_symbols
single_at b i (Some kind) h = kind_ascii one_byte_symbols refl (b ∷ []) kind h
single_at b i None h = tt

symbol_at : (b : ℕ) (i : List ℕ) (o : Option TokenKind) → pair_at b i ≡ o → AsciiAt b i (pieces.symbol_by o (single_of b))
unfolding two_byte_symbols
symbol_at b [] (Some kind) h = cc
symbol_at b (c ∷ i) (Some kind) h = kind_ascii two_byte_symbols refl (b ∷ c ∷ []) kind h
symbol_at b i None h = single_at b i (single_of b) refl

class_at : (b : ℕ) (i : List ℕ) (c : Class) → class_of b ≡ c → AsciiAt b i (pieces.piece_by b i c)
unfolding word_run number_run
class_at b i blank e = tt
class_at b i hash e = tt
class_at b i letter e = word_at b i _ _ (IsAscii-cons b _ (letter_ascii b e) (run_ascii in_word word_ascii i)) _
class_at b i digit e = number_at b i _ _ (IsAscii-cons b _ (digit_ascii b e) (run_ascii in_number number_ascii i)) _
class_at b i other e = symbol_at b i (pair_at b i) refl

pub token_ascii : (i : List ℕ) (kind : TokenKind) (value n : ℕ) → 0 < length i → piece i ≡ token kind value n → IsAscii (take (n + 1) i)
unfolding piece
token_ascii [] kind value n some h = absurd (omega arith)
token_ascii (b ∷ i) kind value n some h = let P : Piece → Type 0 = AsciiAt b i in rw add-one (subst P h (class_at b i (class_of b) refl))

-- ---- the tokens so far, and those from a place on

abbrev pub with_front : List Tok → Split → Split
with_front [] s = s
with_front (t ∷ ts) s = prepend t (with_front ts s)

with_front-append : (ts : List Tok) (t : Tok) (s : Split) → with_front (ts ++ t ∷ []) s ≡ with_front ts (prepend t s)
with_front-append [] t s = refl
with_front-append (u ∷ ts) t s = ap (prepend u) (with_front-append ts t s)

pub with_front_end : (ts : List Tok) → with_front ts (Ok []) ≡ Ok ts
with_front_end [] = refl
with_front_end (t ∷ ts) = rw (with_front_end ts) refl

pub with_front_fault : (ts : List Tok) (e : _) → with_front ts (Err e) ≡ Err e
with_front_fault [] e = refl
with_front_fault (t ∷ ts) e = rw (with_front_fault ts e) refl

split_skip : (n : ℕ) (p : Spot) (i : List ℕ) → split_from n p i ≡ split_from 0 (after_all p (take n i)) (drop n i)
unfolding split_from after_all
split_skip zero p i = refl
split_skip (suc n) p [] = refl
split_skip (suc n) p (b ∷ i) = split_skip n (after p b) i

after_first : (p : Spot) (b : ℕ) (w : List ℕ) → after_all (after p b) w ≡ after_all p (b ∷ w)
unfolding after_all
after_first p b w = refl

-- a turn goes past the piece at the front, and keeps the token that it is
pub turn : (ts : List Tok) (p : Spot) (i : List ℕ) (q : Piece) → piece i ≡ q → 0 < length i → 0 < size q
    → with_front ts (split_from 0 p i) ≡ with_front (ts ++ made p (take (size q) i) q) (split_from 0 (after_all p (take (size q) i)) (drop (size q) i))
turn ts p [] q h some whole = absurd (omega arith)
turn ts p (b ∷ i) (gap n) h some whole = rw append-nil (ap (with_front ts) (split_gap p b i n h ∙ rw (split_skip, after_first) refl))
turn ts p (b ∷ i) (token kind value n) h some whole =
    ap (with_front ts) (split_token p b i kind value n h ∙ rw (split_skip n (after p b) i, after_first) refl)
    ∙ sym (with_front-append ts (token_at kind p (b ∷ take n i) value) (split_from 0 (after_all p (b ∷ take n i)) (drop n i)))
turn ts p (b ∷ i) (fault f) h some whole = absurd (omega arith)
