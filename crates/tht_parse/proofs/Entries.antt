-- One turn of a list, beside a loop that counts up.
use Rattle.std.proofs.Common.{◌≡◌, ℕ, zero, suc, ◌+◌, ◌-◌, ◌<◌, ◌≤◌, ap, sym, ◌∙◌, refl, arith, List, length, length-append, [], ◌∷◌, ◌++◌, Bool, true, false, Option, Ok, Err}
use Rattle.tht_tree.specs.declared.token.TokenKind.{TokenKind}
use Rattle.tht_tree.specs.declared.token.TokenKind.TheVariants as k
use Rattle.tht_tree.specs.Tokens.{Tok, many, first_kind}
use Rattle.tht_tree.specs.Faults.{Fault, unexpected, over}
use Rattle.tht_grammar.specs.Steps.{Outcome, Reader, and_then, look, is, rest, exceed_by, entries_by, entries, repeat}

module _ {A : Type 0} (begins : Option TokenKind → Bool) (item : Reader A) (n at : ℕ) (found : List A) (i : List Tok) where
  pub entries_more : (x : A) (j : List Tok) → at < n → item i ≡ Ok (x, j) → is k.Comma (first_kind j) ≡ true
      → entries begins item (n - at) found i ≡ entries begins item (n - (at + 1)) (found ++ x ∷ []) (rest j)
  unfolding entries
  entries_more x j below e c = let turn : n - at ≡ suc (n - (at + 1)) = omega arith in ap (λ m. entries begins item m found i) turn ∙ rw (e, c) refl

  pub entries_last : (x : A) (j : List Tok) → at < n → item i ≡ Ok (x, j) → is k.Comma (first_kind j) ≡ false → entries begins item (n - at) found i ≡ Ok (found ++ x ∷ [], j)
  unfolding entries
  entries_last x j below e c = let turn : n - at ≡ suc (n - (at + 1)) = omega arith in ap (λ m. entries begins item m found i) turn ∙ rw (e, c) refl

  pub entries_err : (f : Fault × List Tok) → at < n → item i ≡ Err f → entries begins item (n - at) found i ≡ Err f
  unfolding entries
  entries_err f below e = let turn : n - at ≡ suc (n - (at + 1)) = omega arith in ap (λ m. entries begins item m found i) turn ∙ rw e refl

  pub entries_many : n ≤ at → begins (first_kind i) ≡ true → entries begins item (n - at) found i ≡ Err (over many, i)
  unfolding entries
  entries_many past e = let none : n - at ≡ 0 = omega arith in ap (λ m. entries begins item m found i) none ∙ rw e refl

  pub entries_over : n ≤ at → begins (first_kind i) ≡ false → entries begins item (n - at) found i ≡ Err (unexpected, i)
  unfolding entries
  entries_over past e = let none : n - at ≡ 0 = omega arith in ap (λ m. entries begins item m found i) none ∙ rw e refl

-- ---- how many entries a list has

-- more than were found, and so many more at most
abbrev Counts : {A : Type 0} → ℕ → List A → List A → Type 0
Counts m found ts = (length found < length ts) × (length ts ≤ length found + m)

module _ {A : Type 0} (begins : Option TokenKind → Bool) (item : Reader A) where
  abbrev list_of : Outcome (List A) → List A
  list_of (Ok p) = p.0
  list_of (Err f) = []

  passed : (found ts : List A) (b : Bool) (i j : List Tok) → exceed_by {A = List A} many b i ≡ Ok (ts, j) → Counts 0 found ts
  passed found ts true i j e = cc
  passed found ts false i j e = cc

  one_more : (n : ℕ) (found ts : List A) (x : A) → Counts n (found ++ x ∷ []) ts → Counts (suc n) found ts
  one_more n found ts x h =
      let one : length (found ++ x ∷ []) ≡ length found + 1 = length-append found (x ∷ []) in let above = h.0 in let below = h.1 in
      (omega arith, omega arith)

  no_more : (n : ℕ) (found ts : List A) (x : A) → found ++ x ∷ [] ≡ ts → Counts (suc n) found ts
  no_more n found ts x e =
      let one : length ts ≡ length found + 1 = ap length (sym e) ∙ length-append found (x ∷ []) in (omega arith, omega arith)

  after_comma : (n : ℕ) (found ts : List A) (x : A) (b : Bool) (i j : List Tok)
      → ((k : List Tok) → entries begins item n (found ++ x ∷ []) k ≡ Ok (ts, j) → Counts n (found ++ x ∷ []) ts)
      → entries_by (entries begins item n) (found ++ x ∷ []) b i ≡ Ok (ts, j) → Counts (suc n) found ts
  after_comma n found ts x true i j more e = one_more n found ts x (more (rest i) e)
  after_comma n found ts x false i j more e = no_more n found ts x (ap list_of e)

  after_item : (n : ℕ) (found ts : List A) (o : Outcome A) (j : List Tok)
      → ((x : A) (k : List Tok) → entries begins item n (found ++ x ∷ []) k ≡ Ok (ts, j) → Counts n (found ++ x ∷ []) ts)
      → and_then o (λ x. look (λ o. entries_by (entries begins item n) (found ++ x ∷ []) (is k.Comma o))) ≡ Ok (ts, j) → Counts (suc n) found ts
  after_item n found ts (Ok (x, i)) j more e = after_comma n found ts x (is k.Comma (first_kind i)) i j (more x) e
  after_item n found ts (Err f) j more e = cc

  pub entries_count : (m : ℕ) (found ts : List A) (i j : List Tok) → entries begins item m found i ≡ Ok (ts, j) → Counts m found ts
  unfolding entries
  entries_count zero found ts i j e = passed found ts (begins (first_kind i)) i j e
  entries_count (suc n) found ts i j e =
      after_item n found ts (item i) j (λ x k h. entries_count n (found ++ x ∷ []) ts k j h) e

  pub entries_some : (limit : ℕ) (ts : List A) (i j : List Tok) → entries begins item limit [] i ≡ Ok (ts, j) → 1 ≤ length ts
  entries_some limit ts i j e = let counts = entries_count limit [] ts i j e in let above = counts.0 in omega arith

  pub entries_fit : (limit : ℕ) (ts : List A) (i j : List Tok) → entries begins item limit [] i ≡ Ok (ts, j) → length ts ≤ limit
  entries_fit limit ts i j e = let counts = entries_count limit [] ts i j e in let below = counts.1 in omega arith

-- ---- lists with no limit

module _ {A : Type 0} (begins : Option TokenKind → Bool) (item : Reader A) where
  pub repeat_none : (n : ℕ) (found : List A) (i : List Tok) → begins (first_kind i) ≡ false → repeat begins item n found i ≡ Ok (found, i)
  unfolding repeat
  repeat_none zero found i e = refl
  repeat_none (suc n) found i e = rw e refl

  pub repeat_end : (n at : ℕ) (found : List A) (i : List Tok) → n ≤ at → repeat begins item (n - at) found i ≡ Ok (found, i)
  unfolding repeat
  repeat_end n at found i past = let none : n - at ≡ 0 = omega arith in ap (λ m. repeat begins item m found i) none

  pub repeat_step : (n at : ℕ) (found : List A) (i : List Tok) (x : A) (j : List Tok) → begins (first_kind i) ≡ true → at < n → item i ≡ Ok (x, j)
      → repeat begins item (n - at) found i ≡ repeat begins item (n - (at + 1)) (found ++ x ∷ []) j
  unfolding repeat
  repeat_step n at found i x j e below f = let turn : n - at ≡ suc (n - (at + 1)) = omega arith in ap (λ m. repeat begins item m found i) turn ∙ rw (e, f) refl

  pub repeat_err : (n at : ℕ) (found : List A) (i : List Tok) (f : Fault × List Tok) → begins (first_kind i) ≡ true → at < n → item i ≡ Err f
      → repeat begins item (n - at) found i ≡ Err f
  unfolding repeat
  repeat_err n at found i f e below g = let turn : n - at ≡ suc (n - (at + 1)) = omega arith in ap (λ m. repeat begins item m found i) turn ∙ rw (e, g) refl
