-- One turn of the lexer, beside the pieces that bytes are cut into.
use Rattle.std.proofs.Common.{◌≡◌, ℕ, suc, ◌+◌, ◌-◌, ◌≤◌, ◌<◌, ap, sym, subst, ◌∙◌, refl, arith, add-one, List, [], ◌∷◌, ◌++◌, length, take, drop, map, append-nil, slice_range, All, Ok, Err, fold}
use Rattle.std.specs.List.{AllPairs}
use Rattle.std.proofs.lemmas.List.{drop-drop, length-drop, map-append}
use Rattle.std.proofs.lemmas.List.Sums.{fold-append}
use Rattle.std.proofs.Math.Seq.{take-add}
use Rattle.std.proofs.lemmas.List.Elements.{All-push}
use Rattle.std.proofs.lemmas.List.Quantifiers.{all_pairs_push}
use Rattle.std.specs.Str.{IsAscii}
use Rattle.tht_tree.specs.declared.plain.Spot.{Spot}
use Rattle.tht_tree.specs.declared.token.TokenKind.{TokenKind}
use Rattle.tht_tree.specs.Values.{number_limit}
use Rattle.tht_tree.specs.Tokens.{Tok}
use Rattle.tht_tree.specs.Splitting.{LexFault, bad_byte, long_name, big_number, Split, Splits, start_spot, token_at, after}
use Rattle.tht_grammar.specs.Pieces.{Piece, gap, token, fault, piece, split_from, size, made, after_all}
use Rattle.tht_grammar.proofs.Splits.{split_fault, split_exact}
use Rattle.tht_grammar.proofs.Turns.{size_within, token_ascii, with_front, with_front_end, with_front_fault, turn}
use Rattle.tht_lex.specs.declared.token.Token.{Token}
use Rattle.tht_lex.specs.declared.end.LexEnd.{LexEnd}
use Rattle.tht_lex.specs.declared.pieces.Piece.{Piece as CodePiece}
use Rattle.tht_lex.specs.declared.pieces.Piece.TheVariants as p
use Rattle.tht_lex.specs.Tokens.{value_of, seen, IsTokenOf, Precedes, IsFirstFault}
use Rattle.tht_lex.specs.Pieces.{end_of, answer_of, size_of, tokens_at}
use Rattle.tht_lex.proofs.TokenValues.{token_value}

-- the piece with the value that its text has
abbrev piece_of : List ℕ → CodePiece → Piece
piece_of i (p.Gap n) = gap n
piece_of i (p.Token kind n) = token kind (value_of kind (take (suc n) i)) n

size_same : (i : List ℕ) (q : CodePiece) → size (piece_of i q) ≡ size_of q
size_same i (p.Gap n) = refl
size_same i (p.Token kind n) = refl

size_some : (q : CodePiece) → 0 < size_of q
size_some (p.Gap n) = omega arith
size_some (p.Token kind n) = omega arith

-- what was found is the piece at the front
found_piece : (i : List ℕ) (spot : Spot) (q : CodePiece) → 0 < length i → Ok q ≡ answer_of (piece i) spot → piece i ≡ piece_of i q
found_piece i spot q some h = go (piece i) refl h
  where
    go : (x : Piece) → piece i ≡ x → Ok q ≡ answer_of x spot → piece i ≡ piece_of i q
    go (gap n) e h = let same : q ≡ p.Gap n = cc in rw same e
    go (token kind value n) e h =
        let same : q ≡ p.Token kind n = cc in rw same (e ∙ ap (λ v. token kind v n) (token_value i kind value n some e).same)
    go (fault f) e h = cc

-- ---- the token that a piece is

range_text : (bytes : List ℕ) (at n : ℕ) → slice_range bytes at (at + suc n) ≡ take (suc n) (drop at bytes)
range_text bytes at n = let e : at + suc n - at ≡ suc n = omega arith in ap (λ m. take m (drop at bytes)) e

seen_made : (bytes : List ℕ) (at : ℕ) (spot : Spot) (q : CodePiece)
    → map (seen bytes) (tokens_at at spot q) ≡ made spot (take (size_of q) (drop at bytes)) (piece_of (drop at bytes) q)
seen_made bytes at spot (p.Gap n) = refl
seen_made bytes at spot (p.Token kind n) = ap (λ w. token_at kind spot w (value_of kind w) ∷ []) (range_text bytes at n)

left_some : (bytes : List ℕ) (at : ℕ) → at < length bytes → 0 < length (drop at bytes)
left_some bytes at some = let e = length-drop at bytes in omega arith

piece_ends : (bytes : List ℕ) (at : ℕ) (q : CodePiece) → at < length bytes
    → piece (drop at bytes) ≡ piece_of (drop at bytes) q → at + size_of q ≤ length bytes
piece_ends bytes at q some h =
    let P : Piece → Type 0 = λ x. size x ≤ length (drop at bytes) in
    let within = subst P h (size_within (drop at bytes) (left_some bytes at some)) in
    let e = size_same (drop at bytes) q in
    let l = length-drop at bytes in omega arith

-- the spot after so many bytes, and after so many more
pub after_more : (bytes : List ℕ) (at n : ℕ) (spot : Spot) → spot ≡ fold after start_spot (take at bytes)
    → after_all spot (take n (drop at bytes)) ≡ fold after start_spot (take (at + n) bytes)
unfolding after_all
after_more bytes at n spot e = rw (e, take-add at n bytes) (sym (fold-append after start_spot (take at bytes) (take n (drop at bytes))))

module _ (bytes : List ℕ) (at : ℕ) (spot : Spot) (placed : spot ≡ fold after start_spot (take at bytes)) where
  token_range : (kind : TokenKind) (n : ℕ) → at < length bytes → piece (drop at bytes) ≡ piece_of (drop at bytes) (p.Token kind n)
      → IsTokenOf bytes (record { kind = kind; from = at; to = at + suc n; spot = spot })
  token_range kind n some h =
      let i = drop at bytes in
      let left = left_some bytes at some in
      let ascii : IsAscii (take (suc n) i) = rw add-one at (token_ascii i kind (value_of kind (take (suc n) i)) n left h) in
      let small = (token_value i kind (value_of kind (take (suc n) i)) n left h).small in
      record {
        filled = omega arith;
        within = piece_ends bytes at (p.Token kind n) some h;
        placed = placed;
        ascii = subst IsAscii (sym (range_text bytes at n)) ascii;
        small = subst (λ w. value_of kind w < number_limit) (sym (range_text bytes at n)) small;
      }

  kept_ranges : (ts : List Token) (q : CodePiece) → at < length bytes → piece (drop at bytes) ≡ piece_of (drop at bytes) q
      → All (IsTokenOf bytes) ts → All (IsTokenOf bytes) (ts ++ tokens_at at spot q)
  kept_ranges ts (p.Gap n) some h all = rw append-nil all
  kept_ranges ts (p.Token kind n) some h all = All-push (IsTokenOf bytes) ts _ all (token_range kind n some h)

  kept_order : (ts : List Token) (q : CodePiece) → All (λ t. t.to ≤ at) ts → AllPairs Precedes ts → AllPairs Precedes (ts ++ tokens_at at spot q)
  kept_order ts (p.Gap n) before order = rw append-nil order
  kept_order ts (p.Token kind n) before order = all_pairs_push Precedes ts _ order before

  kept_before : (ts : List Token) (q : CodePiece) → All (λ t. t.to ≤ at) ts → All (λ t. t.to ≤ at + size_of q) (ts ++ tokens_at at spot q)
  kept_before ts (p.Gap n) before = rw append-nil (λ k d w. let b = before k d w in omega arith)
  kept_before ts (p.Token kind n) before =
      All-push (λ t. t.to ≤ at + suc n) ts _ (λ k d w. let b = before k d w in omega arith) (omega arith)

-- ---- a turn: the piece at this byte, which stands at this spot

module _ (bytes : List ℕ) (at : ℕ) (spot : Spot) (placed : spot ≡ fold after start_spot (take at bytes)) (q : CodePiece) (some : at < length bytes)
    (found : Ok q ≡ answer_of (piece (drop at bytes)) spot) where
  at_front : piece (drop at bytes) ≡ piece_of (drop at bytes) q
  at_front = found_piece (drop at bytes) spot q (left_some bytes at some) found

  pub piece_within : at + size_of q ≤ length bytes
  piece_within = piece_ends bytes at q some at_front

  pub turn_split : (ts : List Token) → with_front (map (seen bytes) ts) (split_from 0 spot (drop at bytes))
      ≡ with_front (map (seen bytes) (ts ++ tokens_at at spot q))
      (split_from 0 (after_all spot (take (size_of q) (drop at bytes))) (drop (at + size_of q) bytes))
  turn_split ts =
      let i = drop at bytes in
      let whole : 0 < size (piece_of i q) = rw (size_same i q) (size_some q) in
      turn (map (seen bytes) ts) spot i (piece_of i q) at_front (left_some bytes at some) whole
      ∙ rw (size_same i q, ← seen_made bytes at spot q, map-append (seen bytes) ts (tokens_at at spot q), drop-drop (size_of q) at bytes) refl

  pub turn_ranges : (ts : List Token) → All (IsTokenOf bytes) ts → All (IsTokenOf bytes) (ts ++ tokens_at at spot q)
  turn_ranges ts all = kept_ranges bytes at spot placed ts q some at_front all

  pub turn_order : (ts : List Token) → All (λ t. t.to ≤ at) ts → AllPairs Precedes ts → AllPairs Precedes (ts ++ tokens_at at spot q)
  turn_order ts before order = kept_order bytes at spot placed ts q before order

  pub turn_before : (ts : List Token) → All (λ t. t.to ≤ at) ts → All (λ t. t.to ≤ at + size_of q) (ts ++ tokens_at at spot q)
  turn_before ts before = kept_before bytes at spot placed ts q before

-- ---- the end

as_split : (bytes : List ℕ) (s : Split) → split_from 0 start_spot bytes ≡ s → Splits start_spot bytes s
as_split bytes s e = let P : Split → Type 0 = Splits start_spot bytes in subst P e (split_exact start_spot bytes)

-- where nothing is left, the tokens so far are all
pub ends_split : (bytes : List ℕ) (at : ℕ) (spot : Spot) (ts : List Tok)
    → split_from 0 start_spot bytes ≡ with_front ts (split_from 0 spot (drop at bytes))
    → length bytes ≤ at → Splits start_spot bytes (Ok ts)
unfolding split_from
ends_split bytes at spot ts so_far end =
    let none : drop at bytes ≡ [] = go (drop at bytes) (let e = length-drop at bytes in omega arith) in
    as_split bytes (Ok ts) (so_far ∙ rw none (with_front_end ts))
  where
    go : (i : List ℕ) → length i ≡ 0 → i ≡ []
    go [] h = refl
    go (b ∷ i) h = absurd (omega arith)

first_fault : (bytes : List ℕ) (f : LexFault) (spot : Spot) → Splits start_spot bytes (Err (f, spot)) → IsFirstFault bytes (end_of f spot)
first_fault bytes bad_byte spot h = h
first_fault bytes long_name spot h = h
first_fault bytes big_number spot h = h

split_at_fault : (ts : List Tok) (spot : Spot) (i : List ℕ) (f : LexFault) → 0 < length i → piece i ≡ fault f
    → with_front ts (split_from 0 spot i) ≡ Err (f, spot)
split_at_fault ts spot [] f some h = absurd (omega arith)
split_at_fault ts spot (b ∷ i) f some h = ap (with_front ts) (split_fault spot b i f h) ∙ with_front_fault ts (f, spot)

-- where a fault stands at the front, it is the first
pub faults_split : (bytes : List ℕ) (at : ℕ) (spot : Spot) (ts : List Tok) (e : LexEnd)
    → split_from 0 start_spot bytes ≡ with_front ts (split_from 0 spot (drop at bytes))
    → at < length bytes → Err e ≡ answer_of (piece (drop at bytes)) spot → IsFirstFault bytes e
faults_split bytes at spot ts e so_far some told = go (piece (drop at bytes)) refl told
  where
    go : (x : Piece) → piece (drop at bytes) ≡ x → Err e ≡ answer_of x spot → IsFirstFault bytes e
    go (gap n) h told = cc
    go (token kind value n) h told = cc
    go (fault f) h told =
        let same : end_of f spot ≡ e = cc in
        let split = so_far ∙ split_at_fault ts spot (drop at bytes) f (left_some bytes at some) h in
        subst (IsFirstFault bytes) same (first_fault bytes f spot (as_split bytes (Err (f, spot)) split))
