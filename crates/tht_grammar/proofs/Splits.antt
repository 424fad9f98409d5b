-- Cutting bytes piece by piece against how they split.
use Rattle.std.proofs.Common.{◌≡◌, ℕ, zero, suc, ◌≤◌, ◌<◌, ap, sym, subst, ◌∙◌, refl, arith, Bool, true, false, not, nat_le, nat_lt, List, [], ◌∷◌, length, take, Option, Some, None, Err}
use Rattle.std.proofs.lemmas.Bool.Decides.{nat_tests}
use Rattle.std.specs.List.{prefix_len}
use Rattle.tht_tree.specs.declared.plain.Spot.{Spot}
use Rattle.tht_tree.specs.declared.token.TokenKind.{TokenKind}
use Rattle.tht_tree.specs.declared.token.TokenKind.TheVariants as k
use Rattle.tht_tree.specs.Values.{number_limit}
use Rattle.tht_tree.specs.Splitting as b
use Rattle.tht_tree.specs.Splitting.{Class, blank, hash, letter, digit, other, class_of, in_word, in_number, in_comment, number_of, word_kind, pair_at, single_of, after, token_at, stops, Run, run_end, run_more, LexFault, bad_byte, long_name, big_number, Split, Splits, prepend}
use Rattle.tht_grammar.specs.Pieces.{gap, token, fault, piece, split_from, word_run, number_run, comment_run}

-- ---- what a piece gives

module _ (p : Spot) (c : ℕ) (i : List ℕ) where
  pub split_gap : (n : ℕ) → piece (c ∷ i) ≡ gap n → split_from 0 p (c ∷ i) ≡ split_from n (after p c) i
  unfolding split_from
  split_gap n h = rw h refl

  pub split_token : (kind : TokenKind) (value n : ℕ) → piece (c ∷ i) ≡ token kind value n
      → split_from 0 p (c ∷ i) ≡ prepend (token_at kind p (c ∷ take n i) value) (split_from n (after p c) i)
  unfolding split_from
  split_token kind value n h = rw h refl

  pub split_fault : (f : LexFault) → piece (c ∷ i) ≡ fault f → split_from 0 p (c ∷ i) ≡ Err (f, p)
  unfolding split_from
  split_fault f h = rw h refl

-- ---- runs

flip : (b : Bool) → not b ≡ true → b ≡ false
flip true e = cc
flip false e = refl

module _ (ok : ℕ → Bool) where
  run_none : (i : List ℕ) → stops ok i ≡ true → prefix_len ok i ≡ 0
  run_none [] s = refl
  run_none (c ∷ i) s = let no : ok c ≡ false = flip (ok c) s in rw no refl

  pub run_length : {p q : Spot} {i w j : List ℕ} → Run ok p i w q j → prefix_len ok i ≡ length w
  run_length (run_end {i = i} s) = run_none i s
  run_length (run_more h r) = rw h (let e = run_length r in omega arith)

  run_taken : {p q : Spot} {i w j : List ℕ} → Run ok p i w q j → take (length w) i ≡ w
  run_taken (run_end s) = refl
  run_taken (run_more {b = c} h r) = ap (λ w. c ∷ w) (run_taken r)

  run_skipped : {p q : Spot} {i w j : List ℕ} → Run ok p i w q j → split_from (length w) p i ≡ split_from 0 q j
  unfolding split_from
  run_skipped (run_end s) = refl
  run_skipped (run_more h r) = run_skipped r

  -- the run at the front of some bytes
  record Ran (p : Spot) (i : List ℕ) : Type 0 where
    pub text : List ℕ
    pub spot : Spot
    pub left : List ℕ
    pub runs : Run ok p i text spot left
    pub shorter : length left ≤ length i

  run_at : (p : Spot) (c : ℕ) (i : List ℕ) → Ran (after p c) i → (v : Bool) → ok c ≡ v → Ran p (c ∷ i)
  run_at p c i r true h = let s = r.shorter in record { text = c ∷ r.text; spot = r.spot; left = r.left; runs = run_more h r.runs; shorter = omega arith }
  run_at p c i r false h = record { text = []; spot = p; left = c ∷ i; runs = run_end (rw h refl); shorter = omega arith }

  run_of : (p : Spot) (i : List ℕ) → Ran p i
  run_of p [] = record { text = []; spot = p; left = []; runs = run_end refl; shorter = omega arith }
  run_of p (c ∷ i) = run_at p c i (run_of (after p c) i) (ok c) refl

-- ---- the piece at the front

small : (n m : ℕ) → n ≤ m → nat_le n m ≡ true
small n m h = grind (arith, nat_tests)

large : (n m : ℕ) → m < n → nat_le n m ≡ false
large n m h = grind (arith, nat_tests)

below : (n m : ℕ) → n < m → nat_lt n m ≡ true
below n m h = grind (arith, nat_tests)

above : (n m : ℕ) → m ≤ n → nat_lt n m ≡ false
above n m h = grind (arith, nat_tests)

module _ (c : ℕ) {p q : Spot} {i j w : List ℕ} where
  piece_comment : class_of c ≡ hash → Run in_comment p i w q j → piece (c ∷ i) ≡ gap (length w)
  unfolding piece comment_run
  piece_comment e r = rw (e, run_length in_comment r) refl

  piece_word : class_of c ≡ letter → Run in_word p i w q j → length (c ∷ w) ≤ 64 → piece (c ∷ i) ≡ token (word_kind (c ∷ w)) 0 (length w)
  unfolding piece word_run
  piece_word e r s = rw (e, run_length in_word r, run_taken in_word r, small (suc (length w)) 64 s) refl

  piece_long : class_of c ≡ letter → Run in_word p i w q j → 64 < length (c ∷ w) → piece (c ∷ i) ≡ fault long_name
  unfolding piece word_run
  piece_long e r s = rw (e, run_length in_word r, run_taken in_word r, large (suc (length w)) 64 s) refl

  piece_number : class_of c ≡ digit → Run in_number p i w q j → number_of (c ∷ w) < number_limit → piece (c ∷ i) ≡ token k.Num (number_of (c ∷ w)) (length w)
  unfolding piece number_run
  piece_number e r s = rw (e, run_length in_number r, run_taken in_number r, below (number_of (c ∷ w)) number_limit s) refl

  piece_big : class_of c ≡ digit → Run in_number p i w q j → number_limit ≤ number_of (c ∷ w) → piece (c ∷ i) ≡ fault big_number
  unfolding piece number_run
  piece_big e r s = rw (e, run_length in_number r, run_taken in_number r, above (number_of (c ∷ w)) number_limit s) refl

module _ (c : ℕ) (i : List ℕ) where
  piece_blank : class_of c ≡ blank → piece (c ∷ i) ≡ gap 0
  unfolding piece
  piece_blank e = rw e refl

  piece_pair : (kind : TokenKind) → class_of c ≡ other → pair_at c i ≡ Some kind → piece (c ∷ i) ≡ token kind 0 1
  unfolding piece
  piece_pair kind e h = rw (e, h) refl

  piece_single : (kind : TokenKind) → class_of c ≡ other → pair_at c i ≡ None → single_of c ≡ Some kind → piece (c ∷ i) ≡ token kind 0 0
  unfolding piece
  piece_single kind e n h = rw (e, n, h) refl

  piece_bad : class_of c ≡ other → pair_at c i ≡ None → single_of c ≡ None → piece (c ∷ i) ≡ fault bad_byte
  unfolding piece
  piece_bad e n h = rw (e, n, h) refl

-- ---- what splits so is cut so

pub split_complete : {p : Spot} {i : List ℕ} {s : Split} → Splits p i s → split_from 0 p i ≡ s
unfolding split_from
split_complete b.no_bytes = refl
split_complete (b.a_blank {p = p} {b = c} {i = i} e h) = split_gap p c i 0 (piece_blank c i e) ∙ split_complete h
split_complete (b.a_comment {p = p} {b = c} {i = i} {w = w} e r h) = split_gap p c i (length w) (piece_comment c e r) ∙ (run_skipped in_comment r ∙ split_complete h)
split_complete (b.a_word {p = p} {b = c} {i = i} {w = w} e r m h) =
    split_token p c i (word_kind (c ∷ w)) 0 (length w) (piece_word c e r m) ∙ rw (run_taken in_word r, run_skipped in_word r, split_complete h) refl
split_complete (b.too_long {p = p} {b = c} {i = i} e r m) = split_fault p c i long_name (piece_long c e r m)
split_complete (b.a_number {p = p} {b = c} {i = i} {w = w} e r m h) =
    split_token p c i k.Num (number_of (c ∷ w)) (length w) (piece_number c e r m) ∙ rw (run_taken in_number r, run_skipped in_number r, split_complete h) refl
split_complete (b.too_big {p = p} {b = c} {i = i} e r m) = split_fault p c i big_number (piece_big c e r m)
split_complete (b.a_pair {p = p} {b = c} {c = c'} {i = i} {kind = kind} e m h) = split_token p c (c' ∷ i) kind 0 1 (piece_pair c (c' ∷ i) kind e m) ∙ rw (split_complete h) refl
split_complete (b.a_single {p = p} {b = c} {i = i} {kind = kind} e n m h) = split_token p c i kind 0 0 (piece_single c i kind e n m) ∙ rw (split_complete h) refl
split_complete (b.a_bad {p = p} {b = c} {i = i} e n m) = split_fault p c i bad_byte (piece_bad c i e n m)

-- ---- what is cut so splits so

as_is : {p : Spot} {i : List ℕ} {s u : Split} → s ≡ u → Splits p i s → Splits p i u
as_is {p = p} {i = i} e h = let P : Split → Type 0 = Splits p i in subst P e h

is_cut : {p : Spot} {i : List ℕ} {s : Split} → Splits p i s → Splits p i (split_from 0 p i)
is_cut h = as_is (sym (split_complete h)) h

le_of : (n m : ℕ) → nat_le n m ≡ true → n ≤ m
le_of n m h = grind (arith, nat_tests)

gt_of : (n m : ℕ) → nat_le n m ≡ false → m < n
gt_of n m h = grind (arith, nat_tests)

lt_of : (n m : ℕ) → nat_lt n m ≡ true → n < m
lt_of n m h = grind (arith, nat_tests)

ge_of : (n m : ℕ) → nat_lt n m ≡ false → m ≤ n
ge_of n m h = grind (arith, nat_tests)

module _ (p : Spot) (c : ℕ) (i : List ℕ) (more : (j : List ℕ) → length j ≤ length i → (q : Spot) → Splits q j (split_from 0 q j)) where
  word_splits : class_of c ≡ letter → Ran in_word (after p c) i → Splits p (c ∷ i) (split_from 0 p (c ∷ i))
  word_splits e r = go (nat_le (suc (length r.text)) 64) refl
    where
      go : (v : Bool) → nat_le (suc (length r.text)) 64 ≡ v → Splits p (c ∷ i) (split_from 0 p (c ∷ i))
      go true h = is_cut (b.a_word e r.runs (le_of (suc (length r.text)) 64 h) (more r.left r.shorter r.spot))
      go false h = is_cut (b.too_long e r.runs (gt_of (suc (length r.text)) 64 h))

  number_splits : class_of c ≡ digit → Ran in_number (after p c) i → Splits p (c ∷ i) (split_from 0 p (c ∷ i))
  number_splits e r = go (nat_lt (number_of (c ∷ r.text)) number_limit) refl
    where
      go : (v : Bool) → nat_lt (number_of (c ∷ r.text)) number_limit ≡ v → Splits p (c ∷ i) (split_from 0 p (c ∷ i))
      go true h = is_cut (b.a_number e r.runs (lt_of (number_of (c ∷ r.text)) number_limit h) (more r.left r.shorter r.spot))
      go false h = is_cut (b.too_big e r.runs (ge_of (number_of (c ∷ r.text)) number_limit h))

  single_splits : class_of c ≡ other → pair_at c i ≡ None → (s : Option TokenKind) → single_of c ≡ s → Splits p (c ∷ i) (split_from 0 p (c ∷ i))
  single_splits e n (Some kind) h = is_cut (b.a_single e n h (more i (omega arith) (after p c)))
  single_splits e n None h = is_cut (b.a_bad e n h)

symbol_splits : (p : Spot) (c : ℕ) (i : List ℕ) → ((j : List ℕ) → length j ≤ length i → (q : Spot) → Splits q j (split_from 0 q j)) → class_of c ≡ other
    → (s : Option TokenKind) → pair_at c i ≡ s → Splits p (c ∷ i) (split_from 0 p (c ∷ i))
symbol_splits p c [] more e s h = single_splits p c [] more e refl (single_of c) refl
symbol_splits p c (c' ∷ i) more e (Some kind) h = is_cut (b.a_pair e h (more i (omega arith) (after (after p c) c')))
symbol_splits p c (c' ∷ i) more e None h = single_splits p c (c' ∷ i) more e h (single_of c) refl

class_splits : (p : Spot) (c : ℕ) (i : List ℕ) → ((j : List ℕ) → length j ≤ length i → (q : Spot) → Splits q j (split_from 0 q j))
    → (s : Class) → class_of c ≡ s → Splits p (c ∷ i) (split_from 0 p (c ∷ i))
class_splits p c i more blank e = is_cut (b.a_blank e (more i (omega arith) (after p c)))
class_splits p c i more hash e = let r = run_of in_comment (after p c) i in is_cut (b.a_comment e r.runs (more r.left r.shorter r.spot))
class_splits p c i more letter e = word_splits p c i more e (run_of in_word (after p c) i)
class_splits p c i more digit e = number_splits p c i more e (run_of in_number (after p c) i)
class_splits p c i more other e = symbol_splits p c i more e (pair_at c i) refl

splits_below : (n : ℕ) (i : List ℕ) → length i ≤ n → (p : Spot) → Splits p i (split_from 0 p i)
splits_below n [] s p = is_cut (b.no_bytes {p = p})
splits_below zero (c ∷ i) s p = absurd (omega arith)
splits_below (suc n) (c ∷ i) s p = class_splits p c i (λ j h q. splits_below n j (omega arith) q) (class_of c) refl

-- each text splits so
pub split_exact : (p : Spot) (i : List ℕ) → Splits p i (split_from 0 p i)
split_exact p i = splits_below (length i) i (omega arith) p

-- and in one way only
pub split_once : {p : Spot} {i : List ℕ} {s u : Split} → Splits p i s → Splits p i u → s ≡ u
split_once h k = sym (split_complete h) ∙ split_complete k
