-- The value of the token at the front: the number that its text writes, or 0.
use Rattle.std.proofs.Common.{◌≡◌, ℕ, suc, ◌<◌, refl, subst, arith, Bool, true, false, nat_lt, List, [], ◌∷◌, length, take, bytes_eq, Option, Some, None}
use Rattle.std.specs.List.{list_all}
use Rattle.std.proofs.lemmas.Bool.Decides.{nat_tests}
use Rattle.tht_tree.specs.declared.token.TokenKind.{TokenKind}
use Rattle.tht_tree.specs.declared.token.TokenKind.TheVariants.{Num}
use Rattle.tht_tree.specs.Values.{number_limit}
use Rattle.tht_tree.specs.Splitting.{Class, blank, hash, letter, digit, other, class_of, number_of, kind_in, or_name, word_kind, reserved, two_byte_symbols, one_byte_symbols, pair_at, single_of}
use Rattle.tht_grammar.specs.Pieces as pieces
use Rattle.tht_grammar.specs.Pieces.{Piece, gap, token, fault, piece, word_run, number_run}
use Rattle.tht_grammar.proofs.Bools.{left_true, right_true}
use Rattle.tht_lex.specs.Tokens.{value_of}

-- ---- a word or a symbol has the value 0

abbrev is_text : TokenKind → Bool
is_text Num = false
is_text _ = true

abbrev are_texts : List (List ℕ × TokenKind) → Bool
are_texts rows = list_all (λ r. is_text r.1) rows

text_value : (kind : TokenKind) → is_text kind ≡ true → (w : List ℕ) → value_of kind w ≡ 0
text_value Num h w = cc
text_value _ h w = refl

found_text : (rows : List (List ℕ × TokenKind)) → are_texts rows ≡ true → (text : List ℕ) (kind : TokenKind)
    → kind_in rows text ≡ Some kind → is_text kind ≡ true
found_text [] texts text kind h = cc
found_text (row ∷ rows) texts text kind h = go (λ e. found_text rows (right_true _ _ texts) text kind e) (bytes_eq row.0 text) refl
  where
    go : (kind_in rows text ≡ Some kind → is_text kind ≡ true) → (v : Bool) → bytes_eq row.0 text ≡ v → is_text kind ≡ true
    go more true e =
        let found : Some row.1 ≡ Some kind = rw e at h in
        let same : row.1 ≡ kind = cc found in
        let first : is_text row.1 ≡ true = left_true _ _ texts in subst (λ k. is_text k ≡ true) same first
    go more false e = more (rw e at h)

word_value : (w : List ℕ) → value_of (word_kind w) w ≡ 0
unfolding reserved
word_value w = go (kind_in reserved w) refl
  where
    go : (o : Option TokenKind) → kind_in reserved w ≡ o → value_of (or_name o) w ≡ 0
    go None e = refl
    go (Some kind) e = text_value kind (found_text reserved refl w kind e) w

-- ---- the token at the front

pub record IsValue (kind : TokenKind) (text : List ℕ) (value : ℕ) : Type 0 where
  pub same : value ≡ value_of kind text
  pub small : value < number_limit

abbrev ValueAt : ℕ → List ℕ → Piece → Type 0
ValueAt b i (token kind value n) = IsValue kind (b ∷ take n i) value
ValueAt b i _ = Unit {0}

limit_some : 0 < number_limit
limit_some = grind arith

below_limit : (n : ℕ) → nat_lt n number_limit ≡ true → n < number_limit
below_limit n h = grind (arith, nat_tests)

text_at : (kind : TokenKind) (w : List ℕ) → value_of kind w ≡ 0 → IsValue kind w 0
text_at kind w e = record { same = rw e refl; small = limit_some }

word_at : (b : ℕ) (i : List ℕ) (n : ℕ) (v : Bool) → ValueAt b i (pieces.word_by (word_kind (b ∷ take n i)) n v)
word_at b i n true = text_at (word_kind (b ∷ take n i)) (b ∷ take n i) (word_value (b ∷ take n i))
word_at b i n false = tt

number_at : (b : ℕ) (i : List ℕ) (n : ℕ) (v : Bool) → nat_lt (number_of (b ∷ take n i)) number_limit ≡ v
    → ValueAt b i (pieces.number_by (number_of (b ∷ take n i)) n v)
number_at b i n true h = record { same = refl; small = below_limit (number_of (b ∷ take n i)) h }
number_at b i n false h = tt

single_at : (b : ℕ) (i : List ℕ) (o : Option TokenKind) → single_of b ≡ o → ValueAt b i (pieces.single_by o)
unfolding one_byte_symbols
single_at b i (Some kind) h = text_at kind (b ∷ []) (text_value kind (found_text one_byte_symbols refl (b ∷ []) kind h) (b ∷ []))
single_at b i None h = tt

symbol_at : (b : ℕ) (i : List ℕ) (o : Option TokenKind) → pair_at b i ≡ o → ValueAt b i (pieces.symbol_by o (single_of b))
unfolding two_byte_symbols
symbol_at b [] (Some kind) h = cc
symbol_at b (c ∷ i) (Some kind) h = text_at kind (b ∷ c ∷ []) (text_value kind (found_text two_byte_symbols refl (b ∷ c ∷ []) kind h) (b ∷ c ∷ []))
symbol_at b i None h = single_at b i (single_of b) refl

class_at : (b : ℕ) (i : List ℕ) (c : Class) → ValueAt b i (pieces.piece_by b i c)
class_at b i blank = tt
class_at b i hash = tt
class_at b i letter = word_at b i (word_run i) _
class_at b i digit = number_at b i (number_run i) _ refl
class_at b i other = symbol_at b i (pair_at b i) refl

-- its value is the one of its text, and below the limit
pub token_value : (i : List ℕ) (kind : TokenKind) (value n : ℕ) → 0 < length i → piece i ≡ token kind value n → IsValue kind (take (suc n) i) value
unfolding piece
token_value [] kind value n some h = absurd (omega arith)
token_value (b ∷ i) kind value n some h = let P : Piece → Type 0 = ValueAt b i in subst P h (class_at b i (class_of b))
