-- Lists of entries with commas between them, and repetitions without a limit.
use Rattle.std.proofs.Common.{◌≡◌, ℕ, zero, suc, ◌+◌, ◌≤◌, ◌<◌, ap, sym, subst, ◌∙◌, refl, arith, Bool, true, false, not, ◌&&◌, inl, inr, List, [], ◌∷◌, ◌++◌, length, append_assoc, append-nil, Option, Some, None, Ok, Err}
use Rattle.tht_tree.specs.declared.token.TokenKind.{TokenKind}
use Rattle.tht_tree.specs.declared.token.TokenKind.TheVariants as k
use Rattle.tht_tree.specs.Tokens.{many, free, Mark, Info, Tok, tok, info_of, mark_of, first_kind}
use Rattle.tht_tree.specs.Productions.{Rel, RoomAt, Room, Entries, last_entry, more_entries, Listed, no_entries, Many, none, some}
use Rattle.tht_tree.specs.Productions as g
use Rattle.tht_tree.specs.Faults.{Fault, unexpected, over, lifted, AllFree, Permits}
use Rattle.tht_grammar.specs.Steps.{Outcome, Reader, and_then, ◌>>=◌, is, same_kind, rest, entries_by, entries, listed_by, listed, repeat_by, repeat}
use Rattle.tht_grammar.proofs.Bools.{left_true, right_true}
use Rattle.tht_grammar.proofs.Local.{TakesOne, left_of}
use Rattle.tht_grammar.proofs.Beginnings.{BeginsWith}
use Rattle.tht_grammar.proofs.Exact.{NoStar, Sound, Sample, AllBlank, Reaches, Exact, sound_by, sample_by, sound_part, reaches_part, sound_none, sound_refuse, sound_exceed}
use Rattle.tht_grammar.proofs.Sequences.{sound_next, same_is, same_self}
use Rattle.tht_grammar.proofs.Chains.{not_true}

-- ---- how what begins with a token goes on

pub record Begun {A : Type 0} (R : Rel A) (t : Tok) : Type 0 where
  pub more : List Tok
  pub value : A
  pub all_free : AllFree more
  pub spells : (l : List Tok) → NoStar l → R (t ∷ (more ++ l)) value l

module _ {A : Type 0} (R : Rel A) (t : Tok) where
  taken_whole : (c j : List Tok) → t ∷ [] ≡ c ++ j → j ≡ [] → c ≡ t ∷ []
  taken_whole c j e h = let P : List Tok → Type 0 = λ j. t ∷ [] ≡ c ++ j in let f : t ∷ [] ≡ c ++ [] = subst P h e in sym (f ∙ append-nil c)

  free_at_end : (f : Fault) (j more : List Tok) → j ≡ [] → Permits f j more → AllFree more
  free_at_end unexpected j more e p = p
  free_at_end (over l) [] more e p = absurd p
  free_at_end (over l) (u ∷ j) more e p = cc

  begun_at : (o : Outcome A) → Sound R (t ∷ []) o → left_of o ≡ [] → Begun R t
  begun_at (Ok p) s e = let P : List Tok → Type 0 = λ c. (l : List Tok) → NoStar l → R (c ++ l) p.0 l in
      record { more = []; value = p.0; all_free = tt; spells = subst P (taken_whole s.taken p.1 s.all e) (λ l n. s.spells l (inl n)) }
  begun_at (Err q) s e = let c = s.completion in let P : List Tok → Type 0 = λ b. (l : List Tok) → NoStar l → R (b ++ (c.more ++ l)) c.value l in
      record {
        more = c.more;
        value = c.value;
        all_free = free_at_end q.0 q.1 c.more e c.permits;
        spells = subst P
            (taken_whole s.taken q.1 s.all e) c.spells;
      }

-- What a sound reader takes first can go on.
pub begun_of : {A : Type 0} {R S : Rel A} {stops : Option TokenKind → Bool} {p : Reader A} → Exact R S stops p → (t : Tok)
    → left_of (p (t ∷ [])) ≡ [] → Begun R t
begun_of {R = R} {p = p} e t h = begun_at R t (p (t ∷ [])) (e.sound (t ∷ [])) h

not_false : (b : Bool) → not b ≡ true → b ≡ false
not_false true h = cc
not_false false h = refl

-- ---- entries

abbrev pub not_comma : Option TokenKind → Bool
not_comma (Some k.Comma) = false
not_comma _ = true

comma_none : (o : Option TokenKind) → not_comma o ≡ true → is k.Comma o ≡ false
unfolding same_kind
comma_none None h = refl
comma_none (Some k.Comma) h = cc
comma_none (Some _) h = refl

-- The reader of an item of a list, which begins with such tokens. Where it has read one, it reads what begins with any of them.
pub record IsItem {A : Type 0} (begins : Option TokenKind → Bool) (I J : Rel A) (stops : Option TokenKind → Bool) (item : Reader A) : Type 0 where
  pub exact : Exact I J stops item
  pub begins_none : begins None ≡ false
  pub known : BeginsWith begins I
  pub known_too : BeginsWith begins J
  pub ready : (i j : List Tok) (x : A) → item i ≡ Ok (x, j) → (q : TokenKind) (w : Info) → begins (Some q) ≡ true → Begun I (tok q w)

module _ {A : Type 0} (begins : Option TokenKind → Bool) (I J : Rel A) (stops : Option TokenKind → Bool) (item : Reader A)
    (e : IsItem begins I J stops item) (limit : ℕ) where
  -- entries after those that were found
  abbrev From : ℕ → List A → Rel (List A)
  From n found i ys j = (xs : List A) × Entries limit I n i xs j × (ys ≡ found ++ xs)

  -- what follows an entry x
  data After (n : ℕ) (found : List A) (x : A) : List Tok → List A → List Tok → Type 0 where
    comma_after : {w : Info} {i j : List Tok} {ys : List A} → From (suc n) (found ++ x ∷ []) i ys j → After n found x (tok k.Comma w ∷ i) ys j
    end_after : {i : List Tok} → After n found x i (found ++ x ∷ []) i

  from_item : {n : ℕ} {found : List A} {x : A} {i j l : List Tok} {ys : List A} → RoomAt limit n i → I i x j → After n found x j ys l
      → From n found i ys l
  from_item {found = found} {x = x} room h (comma_after b) = (x ∷ b.0, more_entries room h b.1, b.2 ∙ append_assoc found (x ∷ []) b.0)
  from_item {x = x} room h end_after = (x ∷ [], last_entry room h, refl)

  room_any : (n : ℕ) → n < limit → (i : List Tok) → RoomAt limit n i
  room_any n h [] = tt
  room_any n h (t ∷ i) = λ counts. h

  from_part : (n : ℕ) (found : List A) → n < limit → {i j : List Tok} {ys : List A} → g.Part I (After n found) i ys j → From n found i ys j
  from_part n found below (g.part {i = i} h b) = from_item (room_any n below i) h b

  -- at a token without limits there is room
  room_free : (n : ℕ) (m l : List Tok) → AllBlank m → begins (first_kind m) ≡ true → RoomAt limit n (m ++ l)
  room_free n [] l b h = let none = e.begins_none in cc
  room_free n (t ∷ m) l b h = let f : mark_of t ≡ free = ap (λ (w : Info). w.mark) b.0 in let P : Mark → Type 0 = Room limit n in
      subst P (sym f) (λ counts. cc)

  -- a sample of an entry begins with a token
  sample_begins : begins (first_kind e.exact.sample.more) ≡ true
  sample_begins = let s = e.exact.sample in let P : List Tok → Type 0 = λ m. begins (first_kind m) ≡ true in
      subst P (append-nil s.more) (e.known.known (s.more ++ []) [] s.value (s.spells [] refl))

  from_sample : (n : ℕ) (found : List A) → Sample (From n found)
  from_sample n found = let s = e.exact.sample in record {
    more = s.more;
    value = found ++ s.value ∷ [];
    blanks = s.blanks;
    begins = s.begins;
    spells = λ l c. (s.value ∷ [], last_entry (room_free n s.more l s.blanks sample_begins) (s.spells l c), refl);
  }

  after_sample : (n : ℕ) (found : List A) (x : A) → Sample (After n found x)
  after_sample n found x = record { more = []; value = found ++ x ∷ []; blanks = tt; begins = λ l c. c; spells = λ l c. end_after }

  abbrev Ready : Type 0
  Ready = (q : TokenKind) (w : Info) → begins (Some q) ≡ true → Begun I (tok q w)

  full_at : (n : ℕ) (found : List A) → Ready → (q : TokenKind) (w : Info) (i : List Tok) (b : Bool) → begins (Some q) ≡ b
      → Sound (From n found) (tok q w ∷ i) (entries begins item 0 found (tok q w ∷ i))
  unfolding entries
  full_at n found ready q w i true h = let b = ready q (info_of (lifted many (tok q w))) h in
      rw h (sound_exceed many (tok q w) i b.more (found ++ b.value ∷ []) b.all_free
      (λ l c. (b.value ∷ [], last_entry (λ counts. cc) (b.spells l c), refl)))
  full_at n found ready q w i false h = rw h (sound_refuse (tok q w ∷ i) (from_sample n found))

  full_sound : (n : ℕ) (found : List A) → Ready → (i : List Tok) → Sound (From n found) i (entries begins item 0 found i)
  unfolding entries
  full_sound n found ready [] = rw e.begins_none (sound_refuse [] (from_sample n found))
  full_sound n found ready (tok q w ∷ i) = full_at n found ready q w i (begins (Some q)) refl

  after_sound : (room n : ℕ) (found : List A) (x : A) → ((y : List A) (j : List Tok) → Sound (From (suc n) y) j (entries begins item room y j))
      → (i : List Tok) (b : Bool) → is k.Comma (first_kind i) ≡ b
      → Sound (After n found x) i (entries_by (entries begins item room) (found ++ x ∷ []) b i)
  unfolding rest
  after_sound room n found x more [] true h = cc
  after_sound room n found x more (tok q w ∷ i) true h =
      let P : TokenKind → Type 0 = λ q. Sound (After n found x) (tok q w ∷ i)
      (entries_by (entries begins item room) (found ++ x ∷ []) true (tok q w ∷ i)) in
      subst P (sym (same_is q k.Comma h)) (sound_next (After n found x) (tok k.Comma w) i _ (λ i j y b. comma_after b) (more (found ++ x ∷ []) i))
  after_sound room n found x more i false h = sound_none i (found ++ x ∷ []) (λ l. end_after)

  entries_sound : (room n : ℕ) (found : List A) → n + room ≡ limit → (room ≡ 0 → Ready) → (i : List Tok)
      → Sound (From n found) i (entries begins item room found i)
  unfolding entries
  entries_sound zero n found s ready i = full_sound n found (ready refl) i
  entries_sound (suc room) n found s ready i = sound_by (λ i j y b. from_part n found (omega arith) b) i _ (sound_part I (After n found)
      (λ x j. entries_by (entries begins item room) (found ++ x ∷ []) (is k.Comma (first_kind j)) j) (after_sample n found) i (item i)
      (λ x j h. after_sound room n found x (λ y l. entries_sound room (suc n) y (omega arith) (λ _ q w b. e.ready i j x h q w b) l) j
      (is k.Comma (first_kind j)) refl) (e.exact.sound i))

  abbrev pub stops_entries : Option TokenKind → Bool
  stops_entries o = stops o && not_comma o

  full_reaches : (n : ℕ) (found ys : List A) (i j : List Tok) → limit ≤ n → RoomAt limit n i → begins (first_kind i) ≡ true
      → Reaches ys j (entries begins item 0 found i)
  unfolding entries
  full_reaches n found ys [] j full room h = let none = e.begins_none in cc
  full_reaches n found ys (t ∷ i) j full room h = rw h
      (inr ((over many, t ∷ i), refl, not_true _ (λ counts. let below : n < limit = room counts in omega arith)))

  end_reaches : (room : ℕ) (found : List A) (x : A) (i : List Tok) (b : Bool) → b ≡ false
      → Reaches (found ++ x ∷ []) i (entries_by (entries begins item room) (found ++ x ∷ []) b i)
  end_reaches room found x i true h = cc
  end_reaches room found x i false h = inl refl

  entries_reaches : (room : ℕ) {n : ℕ} (found : List A) {i j : List Tok} {xs : List A} → stops (Some k.Comma) ≡ true → Entries limit J n i xs j
      → n + room ≡ limit
      → stops_entries (first_kind j) ≡ true → Reaches (found ++ xs) j (entries begins item room found i)
  unfolding entries rest
  entries_reaches zero {n = n} found c (last_entry {i = i} {j = j} {x = x} room h) s stop = full_reaches n found (found ++ x ∷ []) i j
      (omega arith) room (e.known_too.known i j x h)
  entries_reaches zero {n = n} found c (more_entries {w = w} {i = i} {j = j} {l = l} {x = x} {xs = xs} room h more) s stop =
      full_reaches n found (found ++ x ∷ xs) i l (omega arith) room (e.known_too.known i (tok k.Comma w ∷ j) x h)
  entries_reaches (suc p) found c (last_entry {i = i} {j = j} {x = x} room h) s stop =
      reaches_part (λ x j. entries_by (entries begins item p) (found ++ x ∷ []) (is k.Comma (first_kind j)) j) (item i) x (found ++ x ∷ []) j j
      (e.exact.complete i j x h (left_true _ _ stop))
      (end_reaches p found x j (is k.Comma (first_kind j)) (comma_none (first_kind j) (right_true _ _ stop)))
  entries_reaches (suc p) found c (more_entries {w = w} {i = i} {j = j} {l = l} {x = x} {xs = xs} room h more) s stop =
      reaches_part (λ x j. entries_by (entries begins item p) (found ++ x ∷ []) (is k.Comma (first_kind j)) j) (item i) x (found ++ x ∷ xs)
      (tok k.Comma w ∷ j) l
      (e.exact.complete i (tok k.Comma w ∷ j) x h c)
      (rw (same_self k.Comma) (let P : List A → Type 0 = λ ys. Reaches ys l (entries begins item p (found ++ x ∷ []) j) in
      subst P (append_assoc found (x ∷ []) xs) (entries_reaches p (found ++ x ∷ []) c more (omega arith) stop)))

  from_none : {i j : List Tok} {xs : List A} → From 0 [] i xs j → Entries limit I 0 i xs j
  from_none {i = i} {j = j} b = let P : List A → Type 0 = λ xs. Entries limit I 0 i xs j in subst P (sym b.2) b.1

  entries_exact : 0 < limit → stops (Some k.Comma) ≡ true → Exact (Entries limit I 0) (Entries limit J 0) stops_entries (entries begins item limit [])
  entries_exact pos c = record {
    sound = λ i. sound_by (λ i j xs b. from_none b) i _ (entries_sound limit 0 [] (omega arith) (λ none. absurd (omega arith)) i);
    complete = λ i j xs h stop. entries_reaches limit [] c h (omega arith) stop;
    sample = sample_by (λ i j xs b. from_none b) (from_sample 0 []);
  }

  -- ---- lists that may be empty

  abbrev pub stops_list : Option TokenKind → Bool
  stops_list o = stops_entries o && not (begins o)

  listed_sound : 0 < limit → stops (Some k.Comma) ≡ true → (i : List Tok) (b : Bool)
      → Sound (Listed limit I) i (listed_by (entries begins item limit []) b i)
  listed_sound pos c i true = sound_by (λ i j xs h. g.entries h) i _ ((entries_exact pos c).sound i)
  listed_sound pos c i false = sound_none i [] (λ l. no_entries)

  entries_begin : {n : ℕ} {i j : List Tok} {xs : List A} → Entries limit J n i xs j → begins (first_kind i) ≡ true
  entries_begin (last_entry {i = i} {j = j} {x = x} room h) = e.known_too.known i j x h
  entries_begin (more_entries {w = w} {i = i} {j = j} {x = x} room h more) = e.known_too.known i (tok k.Comma w ∷ j) x h

  listed_reaches : 0 < limit → stops (Some k.Comma) ≡ true → {i j : List Tok} {xs : List A} → Listed limit J i xs j → stops_list (first_kind j) ≡ true
      → Reaches xs j (listed_by (entries begins item limit []) (begins (first_kind i)) i)
  listed_reaches pos c (no_entries {i = i}) stop = let h : begins (first_kind i) ≡ false = not_false _
      (right_true (stops_entries (first_kind i)) _ stop) in rw h (inl refl)
  listed_reaches pos c (g.entries {i = i} {j = j} {xs = xs} h) stop = rw (entries_begin h)
      ((entries_exact pos c).complete i j xs h (left_true _ (not (begins (first_kind j))) stop))

  listed_exact : 0 < limit → stops (Some k.Comma) ≡ true → Exact (Listed limit I) (Listed limit J) stops_list (listed begins item limit)
  unfolding listed
  listed_exact pos c = record {
    sound = λ i. listed_sound pos c i (begins (first_kind i));
    complete = λ i j xs h stop. listed_reaches pos c h stop;
    sample = record { more = []; value = []; blanks = tt; begins = λ l n. n; spells = λ l n. no_entries };
  }

-- At least one entry, and at most so many.
pub exact_entries : {A : Type 0} {begins stops : Option TokenKind → Bool} {I J : Rel A} {item : Reader A} (limit : ℕ) → 0 < limit
    → stops (Some k.Comma) ≡ true
    → IsItem begins I J stops item → Exact (Entries limit I 0) (Entries limit J 0) (λ o. stops o && not_comma o) (entries begins item limit [])
exact_entries {begins = begins} {stops = stops} {I = I} {J = J} {item = item} limit pos c e = entries_exact begins I J stops item e limit pos c

-- At most so many entries.
pub exact_listed : {A : Type 0} {begins stops : Option TokenKind → Bool} {I J : Rel A} {item : Reader A} (limit : ℕ) → 0 < limit
    → stops (Some k.Comma) ≡ true
    → IsItem begins I J stops item
    → Exact (Listed limit I) (Listed limit J) (λ o. (stops o && not_comma o) && not (begins o)) (listed begins item limit)
exact_listed {begins = begins} {stops = stops} {I = I} {J = J} {item = item} limit pos c e = listed_exact begins I J stops item e limit pos c

-- ---- repetitions

module _ {A : Type 0} (begins : Option TokenKind → Bool) (I J : Rel A) (stops : Option TokenKind → Bool) (item : Reader A)
    (e : Exact I J stops item) (nothing : begins None ≡ false)
    (known : BeginsWith begins J) (takes : TakesOne item) (stopped : (o : Option TokenKind) → begins o ≡ true → stops o ≡ true) where
  -- items after those that were found
  abbrev Further : List A → Rel (List A)
  Further found i ys j = (xs : List A) × Many I i xs j × (ys ≡ found ++ xs)

  further_none : (found : List A) (i : List Tok) → Further found i found i
  further_none found i = ([], none, sym (append-nil found))

  further_item : (found : List A) {i j : List Tok} {ys : List A} → g.Part I (λ x. Further (found ++ x ∷ [])) i ys j → Further found i ys j
  further_item found (g.part {x = x} h b) = (x ∷ b.0, some h b.1, b.2 ∙ append_assoc found (x ∷ []) b.0)

  further_sample : (found : List A) → Sample (Further found)
  further_sample found = record { more = []; value = found; blanks = tt; begins = λ l c. c; spells = λ l c. further_none found l }

  turn_sound : (n : ℕ) (found : List A) (i : List Tok) → ((y : List A) (j : List Tok) → Sound (Further y) j (repeat begins item n y j)) → (b : Bool)
      → Sound (Further found) i (repeat_by (item >>= (λ x. repeat begins item n (found ++ x ∷ []))) found b i)
  turn_sound n found i more true = sound_by (λ i j y b. further_item found b) i _
      (sound_part I (λ x. Further (found ++ x ∷ [])) (λ x. repeat begins item n (found ++ x ∷ []))
      (λ x. further_sample (found ++ x ∷ [])) i (item i) (λ x j _. more (found ++ x ∷ []) j) (e.sound i))
  turn_sound n found i more false = sound_none i found (λ l. further_none found l)

  repeat_sound : (n : ℕ) (found : List A) (i : List Tok) → Sound (Further found) i (repeat begins item n found i)
  unfolding repeat
  repeat_sound zero found i = sound_none i found (λ l. further_none found l)
  repeat_sound (suc n) found i = turn_sound n found i (λ y j. repeat_sound n y j) (begins (first_kind i))

  abbrev stops_repeat : Option TokenKind → Bool
  stops_repeat o = stops o && not (begins o)

  many_stops : {j l : List Tok} {xs : List A} → Many J j xs l → stops (first_kind l) ≡ true → stops (first_kind j) ≡ true
  many_stops none s = s
  many_stops (some {i = i} {j = j} {x = x} h more) s = stopped (first_kind i) (known.known i j x h)

  repeat_end : (n : ℕ) (found : List A) (i : List Tok) → begins (first_kind i) ≡ false → Reaches found i (repeat begins item n found i)
  unfolding repeat
  repeat_end zero found i h = inl refl
  repeat_end (suc n) found i h = rw h (inl refl)

  -- what follows an item is shorter
  reaches_turn : (n : ℕ) (found ys : List A) (i j l : List Tok) (x : A) → length i ≤ suc n → Reaches x j (item i)
      → (length j ≤ n → Reaches ys l (repeat begins item n (found ++ x ∷ []) j))
      → Reaches ys l (and_then (item i) (λ x. repeat begins item n (found ++ x ∷ [])))
  reaches_turn n found ys i j l x below (inl h) more = let shorter : length j < length i = takes i j x h in rw h (more (omega arith))
  reaches_turn n found ys i j l x below (inr h) more = rw h.1 (inr (h.0, refl, h.2))

  repeat_reaches : (n : ℕ) (found : List A) {i j : List Tok} {xs : List A} → length i ≤ n → Many J i xs j → stops_repeat (first_kind j) ≡ true
      → Reaches (found ++ xs) j (repeat begins item n found i)
  unfolding repeat
  repeat_reaches n found below (none {i = i}) stop = let P : List A → Type 0 = λ ys. Reaches ys i (repeat begins item n found i) in
      subst P (sym (append-nil found)) (repeat_end n found i (not_false _ (right_true (stops (first_kind i)) _ stop)))
  repeat_reaches zero found below (some {i = []} {j = j} {x = x} h more) stop = let begun : begins None ≡ true = known.known [] j x h in cc
  repeat_reaches zero found below (some {i = t ∷ i} h more) stop = absurd (omega arith)
  repeat_reaches (suc n) found below (some {i = i} {j = j} {l = l} {x = x} {xs = xs} h more) stop =
      rw (known.known i j x h) (reaches_turn n found (found ++ x ∷ xs) i j l x below (e.complete i j x h (many_stops more (left_true _ _ stop)))
      (λ shorter. let P : List A → Type 0 = λ ys. Reaches ys l (repeat begins item n (found ++ x ∷ []) j) in
      subst P (append_assoc found (x ∷ []) xs) (repeat_reaches n (found ++ x ∷ []) shorter more stop)))

  further_many : {i j : List Tok} {xs : List A} → Further [] i xs j → Many I i xs j
  further_many {i = i} {j = j} b = let P : List A → Type 0 = λ xs. Many I i xs j in subst P (sym b.2) b.1

  repeat_exact : Exact (Many I) (Many J) stops_repeat (λ i. repeat begins item (length i) [] i)
  repeat_exact = record {
    sound = λ i. sound_by (λ i j xs b. further_many b) i _ (repeat_sound (length i) [] i);
    complete = λ i j xs h stop. repeat_reaches (length i) [] (omega arith) h stop;
    sample = sample_by (λ i j xs b. further_many b) (further_sample []);
  }

-- Items as long as one begins. Each takes a token, so the count of tokens bounds the turns.
pub exact_repeat : {A : Type 0} {begins stops : Option TokenKind → Bool} {I J : Rel A} {item : Reader A} → begins None ≡ false → BeginsWith begins J
    → TakesOne item
    → ((o : Option TokenKind) → begins o ≡ true → stops o ≡ true) → Exact I J stops item
    → Exact (Many I) (Many J) (λ o. stops o && not (begins o)) (λ i. repeat begins item (length i) [] i)
exact_repeat {begins = begins} {stops = stops} {I = I} {J = J} {item = item} nothing known takes stopped e =
    repeat_exact begins I J stops item e nothing known takes stopped
