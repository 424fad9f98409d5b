-- Where the readers of constructs stop, and what a production needs of the constructs inside it.
use Rattle.std.proofs.Common.{◌≡◌, ℕ, suc, ◌≤◌, refl, arith, Bool, true, false, ◌&&◌, inr, List, [], ◌∷◌, Option, Some, None, Ok}
use Rattle.tht_tree.specs.declared.token.TokenKind.{TokenKind}
use Rattle.tht_tree.specs.declared.token.TokenKind.TheVariants as k
use Rattle.tht_tree.specs.declared.term.Term.{Term}
use Rattle.tht_tree.specs.Tokens.{deep, Info, Tok, tok, info_of}
use Rattle.tht_tree.specs.Productions.{Rel, Within}
use Rattle.tht_tree.specs.Grammar.{Nested, Tree, a_term, after_not, after_link, after_len, an_assn, after_either, a_proof, a_give, after_prefix, a_body, implies, ors, ands, compares, links, adds, muls, dots}
use Rattle.tht_tree.specs.Faults.{over, lifted}
use Rattle.tht_grammar.specs.Steps.{Reader, too_deep}
use Rattle.tht_grammar.specs.Words.{begins, begins_term}
use Rattle.tht_grammar.proofs.Beginnings.{BeginsWith}
use Rattle.tht_grammar.proofs.Exact.{Sound, Sample, Reaches, Exact, anywhere, sound_refuse, sound_exceed}
use Rattle.tht_grammar.proofs.Chains.{none, not_true}
use Rattle.tht_grammar.proofs.Lists.{Begun, IsItem}

-- ---- where a reader stops

-- a term of each level stops where none of its operators comes
abbrev pub stops_off : Option TokenKind → Bool
stops_off o = none (dots o)

abbrev pub stops_prod : Option TokenKind → Bool
stops_prod o = stops_off o && none (muls o)

abbrev pub stops_sum : Option TokenKind → Bool
stops_sum o = stops_prod o && none (adds o)

abbrev pub stops_app : Option TokenKind → Bool
stops_app o = stops_sum o && none (links o)

abbrev pub stops_cmp : Option TokenKind → Bool
stops_cmp o = stops_app o && none (compares o)

abbrev pub stops_conj : Option TokenKind → Bool
stops_conj o = stops_cmp o && none (ands o)

abbrev pub stops_disj : Option TokenKind → Bool
stops_disj o = stops_conj o && none (ors o)

abbrev pub stops_term : Option TokenKind → Bool
stops_term o = stops_disj o && none (implies o)

abbrev pub not_star : Option TokenKind → Bool
not_star (Some k.Star) = false
not_star _ = true

-- An assertion may end in an off. That no `*` comes after it is said by its production.
abbrev pub stops : Nested → Option TokenKind → Bool
stops a_term = stops_term
stops after_not = stops_cmp
stops after_link = stops_app
stops after_len = anywhere
stops an_assn = stops_off
stops after_either = stops_off
stops a_proof = anywhere
stops a_give = not_star
stops after_prefix = anywhere
stops a_body = anywhere

-- ---- the constructs inside

-- These readers read what the constructs spell that count as one more open. By inner as many more as may be open can be
-- inside one another, and by inner' some number of them, whichever it is.
pub record Constructs (inner inner' : (n : Nested) → Rel (Tree n)) (readers : (n : Nested) → Reader (Tree n)) : Type 0 where
  pub exact : (n : Nested) → Exact (inner n) (inner' n) (stops n) (readers n)
  pub known : (n : Nested) → BeginsWith (begins n) (inner n)
  pub known_too : (n : Nested) → BeginsWith (begins n) (inner' n)
  -- where a term was read, one more term may begin with any token that begins one
  pub ready : (i j : List Tok) (x : Term) → readers a_term i ≡ Ok (x, j) → (q : TokenKind) (w : Info) → begins_term (Some q) ≡ true
      → Begun (inner a_term) (tok q w)

-- a term as an entry of a list
pub term_item : {inner inner' : (n : Nested) → Rel (Tree n)} {readers : (n : Nested) → Reader (Tree n)} → Constructs inner inner' readers
    → IsItem begins_term (inner a_term) (inner' a_term) stops_term (readers a_term)
term_item c = record { exact = c.exact a_term; begins_none = refl; known = c.known a_term; known_too = c.known_too a_term; ready = c.ready }

-- ---- where no more constructs may be open

module _ {A : Type 0} (d : ℕ) (R S : Rel A) (first : Option TokenKind → Bool)
    (full : 100 ≤ d) (nothing : first None ≡ false) (known : BeginsWith first S)
    (begun : (q : TokenKind) (w : Info) → first (Some q) ≡ true → Begun R (tok q w)) where
  abbrev Inside : Rel A → Rel A
  Inside R i x j = Within (suc d) i × R i x j

  full_at : Sample (Inside R) → (q : TokenKind) (w : Info) (i : List Tok) (b : Bool) → first (Some q) ≡ b
      → Sound (Inside R) (tok q w ∷ i) (too_deep first (tok q w ∷ i))
  full_at s q w i true h = let b = begun q (info_of (lifted deep (tok q w))) h in
      rw h (sound_exceed deep (tok q w) i b.more b.value b.all_free (λ l n. ((λ counts. cc), b.spells l n)))
  full_at s q w i false h = rw h (sound_refuse (tok q w ∷ i) s)

  full_sound : Sample (Inside R) → (i : List Tok) → Sound (Inside R) i (too_deep first i)
  full_sound s [] = rw nothing (sound_refuse [] s)
  full_sound s (tok q w ∷ i) = full_at s q w i (first (Some q)) refl

  full_reaches : (i j : List Tok) (x : A) → Inside S i x j → Reaches x j (too_deep first i)
  full_reaches [] j x h = let some : first None ≡ true = known.known [] j x h.1 in cc
  full_reaches (t ∷ i) j x h = rw (known.known (t ∷ i) j x h.1)
      (inr ((over deep, t ∷ i), refl, not_true _ (λ counts. let below : suc d ≤ 100 = h.0 counts in omega arith)))

  full_exact : {stops : Option TokenKind → Bool} → Sample (Inside R) → Exact (Inside R) (Inside S) stops (too_deep first)
  full_exact s = record { sound = full_sound s; complete = λ i j x h stop. full_reaches i j x h; sample = s }

-- A construct where a hundred are open, so that it is read only where that limit does not count.
pub exact_deep : {A : Type 0} {d : ℕ} {R S : Rel A} {first stops : Option TokenKind → Bool} → 100 ≤ d → first None ≡ false → BeginsWith first S
    → ((q : TokenKind) (w : Info) → first (Some q) ≡ true → Begun R (tok q w)) → Sample (λ i x j. Within (suc d) i × R i x j)
    → Exact (λ i x j. Within (suc d) i × R i x j) (λ i x j. Within (suc d) i × S i x j) stops (too_deep first)
exact_deep {d = d} {R = R} {S = S} {first = first} full nothing known begun s = full_exact d R S first full nothing known begun s
