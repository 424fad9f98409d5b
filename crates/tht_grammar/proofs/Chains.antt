-- Chains of operators, and optional parts.
use Rattle.std.proofs.Common.{◌≡◌, ℕ, zero, suc, ◌+◌, ◌≤◌, ◌<◌, ap, sym, subst, ◌∙◌, refl, arith, Bool, true, false, ◌&&◌, inl, inr, List, [], ◌∷◌, Option, Some, None, Ok, Err}
use Rattle.tht_tree.specs.declared.token.TokenKind.{TokenKind}
use Rattle.tht_tree.specs.declared.token.TokenKind.TheVariants as k
use Rattle.tht_tree.specs.Tokens.{many, Info, Tok, tok, first_kind}
use Rattle.tht_tree.specs.Productions.{Rel, Room, Gives, Part, part, Operators, Chain, chain_first, chain_more, Optional, without, with_last}
use Rattle.tht_tree.specs.Grammar.{goes_on}
use Rattle.tht_tree.specs.Faults.{over}
use Rattle.tht_grammar.specs.Steps.{Outcome, Reader, and_then, ◌>>=◌, pure, rest, chain, optional, optional_by}
use Rattle.tht_grammar.proofs.Bools.{left_true, right_true}
use Rattle.tht_grammar.proofs.Exact.{NoStar, InPlaceOf, Sound, Sample, Reaches, Exact, exact_part, exact_by, exact_less, sound_part, by_gives, reaches_part, sound_none, sound_exceed, blanks_free, exact_pure}
use Rattle.tht_grammar.proofs.Sequences.{sound_next}

-- ---- tests

pub not_true : (b : Bool) → (b ≡ true → ⊥) → b ≡ false
not_true true h = absurd (h refl)
not_true false h = refl

abbrev pub none : {A : Type 0} → Option A → Bool
none None = true
none (Some x) = false

pub none_none : {A : Type 0} (o : Option A) → none o ≡ true → o ≡ None
none_none None e = refl
none_none (Some x) e = cc

pub both_true : (a b : Bool) → a ≡ true → b ≡ true → (a && b) ≡ true
both_true true b p q = q
both_true false b p q = p

-- ---- chains

-- how a chain with so many operators goes on from its left part
pub data Tail {A B : Type 0} (joins : Operators A B) (I : Rel B) : ℕ → A → List Tok → A → List Tok → Type 0 where
  tail_end : {n : ℕ} {x : A} {i : List Tok} → Tail joins I n x i x i
  tail_more : {n : ℕ} {q : TokenKind} {w : Info} {i j l : List Tok} {x z : A} {y : B} {node : A → B → A} → joins (Some q) ≡ Some node
      → Room 64 n w.mark → I i y j
      → Tail joins I (suc n) (node x y) j z l → Tail joins I n x (tok q w ∷ i) z l

module _ {A B : Type 0} {joins : Operators A B} {F : Rel A} {I : Rel B} where
  pub tail_chain : {n : ℕ} {i j l : List Tok} {x z : A} → Chain joins F I n i x j → Tail joins I n x j z l → (m : ℕ) × Chain joins F I m i z l
  tail_chain {n = n} h tail_end = (n, h)
  tail_chain h (tail_more e r a more) = tail_chain (chain_more h e r a) more

  pub chain_tail : {n : ℕ} {i j l : List Tok} {x z : A} → Chain joins F I n i x j → Tail joins I n x j z l → Part F (Tail joins I 0) i z l
  chain_tail (chain_first h) t = part h t
  chain_tail (chain_more h e r a) t = chain_tail h (tail_more e r a t)

  chain_in : {i l : List Tok} {z : A} → Part F (Tail joins I 0) i z l → (m : ℕ) × Chain joins F I m i z l
  chain_in (part h t) = tail_chain (chain_first h) t

-- an item of a chain stops before an operator
abbrev pub StopsAt : {A B : Type 0} → (Option TokenKind → Bool) → Operators A B → Type 0
StopsAt {A = A} {B = B} stops joins = (o : Option TokenKind) (node : A → B → A) → joins o ≡ Some node → stops o ≡ true

module _ {A B : Type 0} (joins : Operators A B) (I J : Rel B) (item : Reader B) (stops : Option TokenKind → Bool)
    (e : Exact I J stops item) (nothing : joins None ≡ None)
    (stopped : StopsAt stops joins) where
  none_sound : (room n : ℕ) (x : A) (i : List Tok) → joins (first_kind i) ≡ None → Sound (Tail joins I n x) i (chain joins item room x i)
  unfolding chain
  none_sound zero n x i h = rw h (sound_none i x (λ l. tail_end))
  none_sound (suc room) n x i h = rw h (sound_none i x (λ l. tail_end))

  full_sound : (n : ℕ) (x : A) (q : TokenKind) (w : Info) (i : List Tok) (node : A → B → A) → joins (Some q) ≡ Some node
      → Sound (Tail joins I n x) (tok q w ∷ i) (chain joins item 0 x (tok q w ∷ i))
  unfolding chain
  full_sound n x q w i node h = let s = e.sample in
      rw h (sound_exceed many (tok q w) i s.more (node x s.value) (blanks_free s.more s.blanks)
      (λ l c. tail_more h (λ counts. cc) (s.spells l c) tail_end))

  -- after an operator
  abbrev After : ℕ → A → (A → B → A) → Rel A
  After n x node = Part I (λ y. Tail joins I (suc n) (node x y))

  after_in : (n : ℕ) (x : A) (q : TokenKind) (w : Info) (node : A → B → A) → joins (Some q) ≡ Some node → Room 64 n w.mark → {i l : List Tok} {z : A}
      → After n x node i z l → Tail joins I n x (tok q w ∷ i) z l
  after_in n x q w node h r (part a more) = tail_more h r a more

  tail_sample : (n : ℕ) (x : A) → Sample (Tail joins I n x)
  tail_sample n x = record { more = []; value = x; blanks = tt; begins = λ l c. c; spells = λ l c. tail_end }

  more_sound : (room n : ℕ) (x : A) (q : TokenKind) (w : Info) (i : List Tok) (node : A → B → A) → joins (Some q) ≡ Some node → n < 64
      → ((y : A) (j : List Tok) → Sound (Tail joins I (suc n) y) j (chain joins item room y j))
      → Sound (Tail joins I n x) (tok q w ∷ i) (chain joins item (suc room) x (tok q w ∷ i))
  unfolding chain rest
  more_sound room n x q w i node h below more = rw h
      (sound_next (Tail joins I n x) (tok q w) i _ (λ i j z b. after_in n x q w node h (λ counts. below) b)
      (sound_part I (λ y. Tail joins I (suc n) (node x y)) (λ y. chain joins item room (node x y)) (λ y. tail_sample (suc n) (node x y)) i (item i)
      (λ y j _. more (node x y) j) (e.sound i)))

  full_at : (n : ℕ) (x : A) (q : TokenKind) (w : Info) (i : List Tok) (o : Option (A → B → A)) → joins (Some q) ≡ o
      → Sound (Tail joins I n x) (tok q w ∷ i) (chain joins item 0 x (tok q w ∷ i))
  full_at n x q w i None h = none_sound 0 n x (tok q w ∷ i) h
  full_at n x q w i (Some node) h = full_sound n x q w i node h

  more_at : (room n : ℕ) (x : A) (q : TokenKind) (w : Info) (i : List Tok) → n < 64
      → ((y : A) (j : List Tok) → Sound (Tail joins I (suc n) y) j (chain joins item room y j))
      → (o : Option (A → B → A)) → joins (Some q) ≡ o → Sound (Tail joins I n x) (tok q w ∷ i) (chain joins item (suc room) x (tok q w ∷ i))
  more_at room n x q w i below more None h = none_sound (suc room) n x (tok q w ∷ i) h
  more_at room n x q w i below more (Some node) h = more_sound room n x q w i node h below more

  tail_sound : (room n : ℕ) (x : A) → n + room ≡ 64 → (i : List Tok) → Sound (Tail joins I n x) i (chain joins item room x i)
  tail_sound room n x s [] = none_sound room n x [] nothing
  tail_sound zero n x s (tok q w ∷ i) = full_at n x q w i (joins (Some q)) refl
  tail_sound (suc room) n x s (tok q w ∷ i) = more_at room n x q w i (omega arith) (λ y j. tail_sound room (suc n) y (omega arith) j)
      (joins (Some q)) refl

  end_reaches : (room : ℕ) (x : A) (i : List Tok) → joins (first_kind i) ≡ None → Reaches x i (chain joins item room x i)
  unfolding chain
  end_reaches zero x i h = rw h (inl refl)
  end_reaches (suc room) x i h = rw h (inl refl)

  full_reaches : (n : ℕ) (x z : A) (q : TokenKind) (w : Info) (i l : List Tok) (node : A → B → A) → joins (Some q) ≡ Some node → 64 ≤ n
      → Room 64 n w.mark
      → Reaches z l (chain joins item 0 x (tok q w ∷ i))
  unfolding chain
  full_reaches n x z q w i l node h full room = rw h
      (inr ((over many, tok q w ∷ i), refl, not_true _ (λ counts. let below : n < 64 = room counts in omega arith)))

  -- an item stops before what may follow it
  pub tail_stops : {n : ℕ} {x z : A} {j l : List Tok} → Tail joins J n x j z l → stops (first_kind l) ≡ true → stops (first_kind j) ≡ true
  tail_stops tail_end s = s
  tail_stops (tail_more {q = q} {node = node} h r a more) s = stopped (Some q) node h

  tail_reaches : (room : ℕ) {n : ℕ} {x z : A} {i l : List Tok} → Tail joins J n x i z l → n + room ≡ 64
      → (stops (first_kind l) && none (joins (first_kind l))) ≡ true
      → Reaches z l (chain joins item room x i)
  unfolding chain rest
  tail_reaches room (tail_end {x = x} {i = i}) s stop = end_reaches room x i (none_none (joins (first_kind i)) (right_true _ _ stop))
  tail_reaches zero (tail_more {n = n} {q = q} {w = w} {i = i} {l = l} {x = x} {z = z} {node = node} h r a more) s stop =
      full_reaches n x z q w i l node h (omega arith) r
  tail_reaches (suc room) (tail_more {i = i} {j = j} {l = l} {x = x} {z = z} {y = y} {node = node} h r a more) s stop =
      rw h (reaches_part (λ y. chain joins item room (node x y)) (item i) y z j l (e.complete i j y a (tail_stops more (left_true _ _ stop)))
      (tail_reaches room more (omega arith) stop))

  pub tail_exact : (x : A) → Exact (Tail joins I 0 x) (Tail joins J 0 x) (λ o. stops o && none (joins o)) (chain joins item 64 x)
  tail_exact x = record { sound = tail_sound 64 0 x refl; complete = λ i j y h stop. tail_reaches 64 h refl stop; sample = tail_sample 0 x }

-- How a chain goes on.
pub exact_tail : {A B : Type 0} {joins : Operators A B} {I J : Rel B} {item : Reader B} {stops : Option TokenKind → Bool} → joins None ≡ None
    → StopsAt stops joins → Exact I J stops item
    → (x : A) → Exact (Tail joins I 0 x) (Tail joins J 0 x) (λ o. stops o && none (joins o)) (chain joins item 64 x)
exact_tail {joins = joins} {I = I} {J = J} {item = item} {stops = stops} nothing stopped e x = tail_exact joins I J item stops e nothing stopped x

-- A chain whose first part and whose items stop at the same tokens.
pub exact_chain : {A B : Type 0} {joins : Operators A B} {F G : Rel A} {I J : Rel B} {first : Reader A} {item : Reader B}
    {stops : Option TokenKind → Bool}
    → joins None ≡ None → StopsAt stops joins → Exact F G stops first → Exact I J stops item
    → Exact (λ i x j. (n : ℕ) × Chain joins F I n i x j) (λ i x j. (n : ℕ) × Chain joins G J n i x j) (λ o. stops o && none (joins o))
    (first >>= chain joins item 64)
exact_chain {joins = joins} {I = I} {J = J} {item = item} {stops = stops} nothing stopped f e = exact_by (λ i j x h. chain_in h)
    (λ i j x h. chain_tail h.1 tail_end)
    (exact_part f (exact_tail nothing stopped e) (λ i j l x y h t stop. tail_stops joins I J item stops e nothing stopped t (left_true _ _ stop)))

-- ---- optional parts

-- an operator and its right part after x, or nothing
pub data Last {A B : Type 0} (joins : Operators A B) (L : Rel B) (x : A) : List Tok → A → List Tok → Type 0 where
  no_last : {i : List Tok} → Last joins L x i x i
  a_last : {q : TokenKind} {w : Info} {i j : List Tok} {y : B} {node : A → B → A} → joins (Some q) ≡ Some node → L i y j
      → Last joins L x (tok q w ∷ i) (node x y) j

module _ {A B : Type 0} {joins : Operators A B} {F : Rel A} {L : Rel B} where
  optional_with : {i j l : List Tok} {x z : A} → F i x j → Last joins L x j z l → Optional joins F L i z l
  optional_with h no_last = without h
  optional_with h (a_last e b) = with_last h e b

  optional_in : {i j : List Tok} {x : A} → Part F (Last joins L) i x j → Optional joins F L i x j
  optional_in (part h b) = optional_with h b

  optional_out : {i j : List Tok} {x : A} → Optional joins F L i x j → Part F (Last joins L) i x j
  optional_out (without h) = part h no_last
  optional_out (with_last h e b) = part h (a_last e b)

module _ {A B : Type 0} (joins : Operators A B) (L M : Rel B) (last : Reader B) (stops : Option TokenKind → Bool)
    (e : Exact L M stops last) (nothing : joins None ≡ None) (x : A) where
  last_in : (q : TokenKind) (w : Info) (node : A → B → A) → joins (Some q) ≡ Some node → {i j : List Tok} {y : A}
      → Part L (λ y. Gives (node x y)) i y j → Last joins L x (tok q w ∷ i) y j
  last_in q w node h (part {i = i} a b) = by_gives (λ z l. Last joins L x (tok q w ∷ i) z l) b (a_last h a)

  last_at : (q : TokenKind) (w : Info) (i : List Tok) (o : Option (A → B → A)) → joins (Some q) ≡ o
      → Sound (Last joins L x) (tok q w ∷ i) (optional_by last x o (tok q w ∷ i))
  unfolding rest
  last_at q w i None h = sound_none (tok q w ∷ i) x (λ l. no_last)
  last_at q w i (Some node) h = sound_next (Last joins L x) (tok q w) i _ (λ i j y b. last_in q w node h b)
      (sound_part L (λ y. Gives (node x y)) (λ y. pure (node x y)) (λ y. (exact_pure (node x y)).sample) i (last i)
      (λ y j _. (exact_pure (node x y)).sound j) (e.sound i))

  last_sound : (i : List Tok) → Sound (Last joins L x) i (optional joins last x i)
  last_sound [] = rw nothing (sound_none [] x (λ l. no_last))
  last_sound (tok q w ∷ i) = last_at q w i (joins (Some q)) refl

  last_reaches : {i j : List Tok} {y : A} → Last joins M x i y j → (stops (first_kind j) && none (joins (first_kind j))) ≡ true
      → Reaches y j (optional joins last x i)
  unfolding rest
  last_reaches (no_last {i = i}) stop = let h : joins (first_kind i) ≡ None = none_none (joins (first_kind i)) (right_true _ _ stop) in
      rw h (inl refl)
  last_reaches (a_last {i = i} {j = j} {y = y} {node = node} h a) stop =
      rw h (reaches_part (λ y. pure (node x y)) (last i) y (node x y) j j (e.complete i j y a (left_true _ _ stop)) (inl refl))

  last_exact : Exact (Last joins L x) (Last joins M x) (λ o. stops o && none (joins o)) (optional joins last x)
  last_exact = record {
    sound = last_sound;
    complete = λ i j y h stop. last_reaches h stop;
    sample = record { more = []; value = x; blanks = tt; begins = λ l c. c; spells = λ l c. no_last };
  }

last_first : {A B : Type 0} {joins : Operators A B} {M : Rel B} {x z : A} {j l : List Tok} {stops : Option TokenKind → Bool} → StopsAt stops joins
    → Last joins M x j z l
    → stops (first_kind l) ≡ true → stops (first_kind j) ≡ true
last_first stopped no_last s = s
last_first stopped (a_last {q = q} {node = node} h a) s = stopped (Some q) node h

-- A part with at most one operator after it.
pub exact_optional : {A B : Type 0} {joins : Operators A B} {F G : Rel A} {L M : Rel B} {first : Reader A} {last : Reader B}
    {stops last_stops : Option TokenKind → Bool}
    → joins None ≡ None → StopsAt stops joins → ((o : Option TokenKind) → (stops o && none (joins o)) ≡ true → last_stops o ≡ true)
    → Exact F G stops first → Exact L M last_stops last
    → Exact (Optional joins F L) (Optional joins G M) (λ o. stops o && none (joins o)) (first >>= optional joins last)
exact_optional {joins = joins} {L = L} {M = M} {last = last} {last_stops = last_stops} nothing stopped less f e = exact_by (λ i j x h. optional_in h)
    (λ i j x h. optional_out h)
    (exact_part f (λ x. exact_less (λ o s. both_true (last_stops o) (none (joins o)) (less o s) (right_true _ _ s))
    (last_exact joins L M last last_stops e nothing x))
    (λ i j l x y h t stop. last_first stopped t (left_true _ _ stop)))

-- ---- after a chain comes no operator of it

module _ {A B : Type 0} (joins : Operators A B) (item : Reader B) where
  abbrev Done : List Tok → Type 0
  Done j = joins (first_kind j) ≡ None

  done_here : (x : A) (i j : List Tok) (y : A) → Done i → pure x i ≡ Ok (y, j) → Done j
  done_here x i j y h e = let both : ◌≡◌ {A = A × List Tok} (x, i) (y, j) = cc in subst Done (ap (λ (p : A × List Tok). p.1) both) h

  done_after : (room : ℕ) (node : A → B → A) (x : A) (o : Outcome B) (j : List Tok) (y : A)
      → ((z : A) (l : List Tok) → chain joins item room z l ≡ Ok (y, j) → Done j)
      → and_then o (λ right. chain joins item room (node x right)) ≡ Ok (y, j) → Done j
  done_after room node x (Ok p) j y more h = more (node x p.0) p.1 h
  done_after room node x (Err e) j y more h = cc

  done_full : (x : A) (i j : List Tok) (y : A) (o : Option (A → B → A)) → joins (first_kind i) ≡ o → chain joins item 0 x i ≡ Ok (y, j) → Done j
  unfolding chain
  done_full x i j y None h e = done_here x i j y h (rw h at e)
  done_full x i j y (Some node) h e = let f = rw h at e in cc

  done_at : (room : ℕ) (x : A) (i j : List Tok) (y : A) → ((z : A) (l : List Tok) → chain joins item room z l ≡ Ok (y, j) → Done j)
      → (o : Option (A → B → A)) → joins (first_kind i) ≡ o → chain joins item (suc room) x i ≡ Ok (y, j) → Done j
  unfolding chain
  done_at room x i j y more None h e = done_here x i j y h (rw h at e)
  done_at room x i j y more (Some node) h e = done_after room node x (item (rest i)) j y more (rw h at e)

  chain_done : (room : ℕ) (x : A) (i j : List Tok) (y : A) → chain joins item room x i ≡ Ok (y, j) → Done j
  chain_done zero x i j y e = done_full x i j y (joins (first_kind i)) refl e
  chain_done (suc room) x i j y e = done_at room x i j y (λ z l f. chain_done room z l j y f) (joins (first_kind i)) refl e

-- what is left of a chain begins with no operator of it
pub chain_ends : {A B : Type 0} (joins : Operators A B) (item : Reader B) (room : ℕ) (o : Outcome A) (j : List Tok) (y : A)
    → and_then o (chain joins item room) ≡ Ok (y, j)
    → joins (first_kind j) ≡ None
chain_ends joins item room (Ok p) j y e = chain_done joins item room p.0 p.1 j y e
chain_ends joins item room (Err p) j y e = cc

-- ---- after an assertion comes no `*`

abbrev is_star : Option TokenKind → Bool
is_star (Some k.Star) = true
is_star _ = false

star_first : (i : List Tok) → goes_on i ≡ is_star (first_kind i)
star_first [] = refl
star_first (tok k.Star w ∷ i) = refl
star_first (tok _ w ∷ i) = refl

no_star_in_place : (l j : List Tok) → NoStar j → InPlaceOf l j → NoStar l
no_star_in_place l j h (inl n) = n
no_star_in_place l j h (inr n) = star_first l ∙ ap is_star n ∙ sym (star_first j) ∙ h

-- R, and then no `*`
abbrev Closed : {A : Type 0} → Rel A → Rel A
Closed R i x j = R i x j × NoStar j

module _ {A : Type 0} (R : Rel A) where
  closed_sound : (i : List Tok) (o : Outcome A) → ((j : List Tok) (x : A) → o ≡ Ok (x, j) → NoStar j) → Sound R i o → Sound (Closed R) i o
  closed_sound i (Ok p) done s = record { taken = s.taken; all = s.all; spells = λ l n. (s.spells l n, no_star_in_place l p.1 (done p.1 p.0 refl) n) }
  closed_sound i (Err e) done s = let c = s.completion in record {
    taken = s.taken;
    all = s.all;
    completion = record { more = c.more; value = c.value; permits = c.permits; begins = c.begins; spells = λ l n. (c.spells l n, n) };
  }

-- A part that takes each `*` that it can. What is left does not begin with one, so it need not be told to stop there.
pub exact_closed : {A : Type 0} {R S : Rel A} {stops fewer : Option TokenKind → Bool} {p : Reader A}
    → ((i j : List Tok) (x : A) → p i ≡ Ok (x, j) → NoStar j)
    → ((i : List Tok) → fewer (first_kind i) ≡ true → NoStar i → stops (first_kind i) ≡ true) → Exact R S stops p
    → Exact (λ i x j. R i x j × NoStar j) (λ i x j. S i x j × NoStar j) fewer p
exact_closed {R = R} {p = p} done less e = record {
  sound = λ i. closed_sound R i (p i) (λ j x h. done i j x h) (e.sound i);
  complete = λ i j x h stop. e.complete i j x h.0 (less j stop h.1);
  sample = let s = e.sample in record { more = s.more; value = s.value; blanks = s.blanks; begins = s.begins; spells = λ l n. (s.spells l n, n) };
}
