-- What the reader of a file's declarations reads: at most 2,000, at most 256 of them roots.
use Rattle.std.proofs.Common.{◌≡◌, ℕ, zero, suc, ◌+◌, ◌≤◌, ◌<◌, ap, sym, subst, ◌∙◌, refl, arith, Bool, true, false, not, inl, inr, List, [], ◌∷◌, ◌++◌, append_assoc, append-nil, Option, Some, Ok, Err}
use Rattle.std.proofs.lemmas.Bool.Decides.{nat_tests}
use Rattle.tht_tree.specs.declared.token.TokenKind.{TokenKind}
use Rattle.tht_tree.specs.declared.token.TokenKind.TheVariants as k
use Rattle.tht_tree.specs.declared.decl.Decl.{Decl}
use Rattle.tht_tree.specs.Tokens.{Limit, many, Info, Tok, tok, kind_of, info_of, first_kind}
use Rattle.tht_tree.specs.Productions.{Rel, RoomAt, Part, part}
use Rattle.tht_tree.specs.Grammar as g
use Rattle.tht_tree.specs.Grammar.{Nested, Tree}
use Rattle.tht_tree.specs.Faults.{Fault, unexpected, over, lifted, Permits}
use Rattle.tht_grammar.specs.Steps.{Outcome, Reader, and_then, ◌>>=◌, same_kind, is, rest, expect, first_spot}
use Rattle.tht_grammar.specs.Words.{begins_decl}
use Rattle.tht_grammar.specs.Reading as r
use Rattle.tht_grammar.proofs.Beginnings.{spells_some, decl_begins}
use Rattle.tht_grammar.proofs.Exact.{InPlaceOf, IsRead, IsStuck, Completion, Sound, Sample, Reaches, Exact, sound_by, sound_part, reaches_part, sound_none, sound_refuse, sound_exceed}
use Rattle.tht_grammar.proofs.Chains.{not_true}
use Rattle.tht_grammar.proofs.Lists.{Begun, begun_of}
use Rattle.tht_grammar.proofs.Constructs.{Constructs}
use Rattle.tht_grammar.proofs.Decls.{decl_exact}

-- ---- what is read in a way that its first token tells

permitted_kind : (u : Limit) (j more l : List Tok) → Permits (over u) j more → first_kind (more ++ l) ≡ first_kind j
permitted_kind u [] more l p = absurd p
permitted_kind u (t ∷ j) [] l p = absurd p
permitted_kind u (tok q w ∷ j) (v ∷ more) l p = ap (λ t. Some (kind_of t)) p.0

module _ {A : Type 0} (R T : Rel A) (p : Option TokenKind → Bool) (b : Bool) (into : (i j : List Tok) (x : A) → p
    (first_kind i) ≡ b → R i x j → T i x j)
    (some : (j : List Tok) (x : A) → R [] x j → ⊥) (sample : Sample T) (i : List Tok) (holds : p (first_kind i) ≡ b) where
  same_first : (t : Tok) (c j l : List Tok) → i ≡ t ∷ c ++ j → p (first_kind (t ∷ c ++ l)) ≡ b
  same_first t c j l e = let P : List Tok → Type 0 = λ i. p (first_kind i) ≡ b in subst P e holds

  read_so : (x : A) (j c : List Tok) → i ≡ c ++ j → ((l : List Tok) → InPlaceOf l j → R (c ++ l) x l) → IsRead T i x j
  read_so x j [] e h = absurd (some [] x (h [] (inl refl)))
  read_so x j (t ∷ c) e h = record { taken = t ∷ c; all = e; spells = λ l n. into (t ∷ c ++ l) l x (same_first t c j l e) (h l n) }

  stuck_so : (f : Fault) (j c : List Tok) → i ≡ c ++ j → Completion R f c j → IsStuck T i f j
  stuck_so f j (t ∷ c) e k = record {
    taken = t ∷ c;
    all = e;
    completion = record {
      more = k.more;
      value = k.value;
      permits = k.permits;
      begins = k.begins;
      spells = λ l n. into (t ∷ c ++ (k.more ++ l)) l k.value (same_first t c j (k.more ++ l) e) (k.spells l n);
    };
  }
  stuck_so unexpected j [] e k = let P : List Tok → Type 0 = λ j. IsStuck T i unexpected j in subst P e (sound_refuse i sample)
  stuck_so (over u) j [] e k = record {
    taken = [];
    all = e;
    completion = record {
      more = k.more;
      value = k.value;
      permits = k.permits;
      begins = k.begins;
      spells = λ l n. into (k.more ++ l) l k.value (ap p (permitted_kind u j k.more l k.permits ∙ sym (ap first_kind e)) ∙ holds) (k.spells l n);
    };
  }

  -- What is read by R is read by T, if R passes into T for texts that begin with such a token.
  sound_so : (o : Outcome A) → Sound R i o → Sound T i o
  sound_so (Ok q) h = read_so q.0 q.1 h.taken h.all h.spells
  sound_so (Err e) h = stuck_so e.0 e.1 h.taken h.all h.completion

-- ---- declarations

-- the roots after a declaration, where so many came before
abbrev counted : Bool → ℕ → ℕ
counted true n = suc n
counted false n = n

counts_is : (rel : (n : Nested) → Rel (Tree n)) (i : List Tok) (n : ℕ) → g.counts_root rel i n ≡ counted (is k.Root (first_kind i)) n
unfolding same_kind
counts_is rel [] n = refl
counts_is rel (tok k.Root w ∷ i) n = refl
counts_is rel (tok _ w ∷ i) n = refl

root_room : (rel : (n : Nested) → Rel (Tree n)) (n : ℕ) (i : List Tok) → (is k.Root (first_kind i) ≡ true → n < 256) → g.RootRoom rel n i
unfolding same_kind
root_room rel n [] h = tt
root_room rel n (tok k.Root w ∷ i) h = λ counts. h refl
root_room rel n (tok _ w ∷ i) h = tt

root_lifted : (rel : (n : Nested) → Rel (Tree n)) (n : ℕ) (q : TokenKind) (w : Info) (i : List Tok) → g.RootRoom rel n (lifted many (tok q w) ∷ i)
root_lifted rel n k.Root w i = λ counts. cc
root_lifted rel n _ w i = tt

module _ {inner inner' : (n : Nested) → Rel (Tree n)} {readers : (n : Nested) → Reader (Tree n)} (e : Constructs inner inner' readers) where
  decl_begun : (q : TokenKind) (w : Info) → begins_decl (Some q) ≡ true → Begun (g.decl inner) (tok q w)
  unfolding r.decl r.decl_kind r.root r.invariant r.pred r.lemma_decl r.txn r.proc r.head r.param r.name r.box expect same_kind rest first_spot
  decl_begun k.Root w h = begun_of (decl_exact e) (tok k.Root w) refl
  decl_begun k.Invariant w h = begun_of (decl_exact e) (tok k.Invariant w) refl
  decl_begun k.Shared w h = begun_of (decl_exact e) (tok k.Shared w) refl
  decl_begun k.Pred w h = begun_of (decl_exact e) (tok k.Pred w) refl
  decl_begun k.Lemma w h = begun_of (decl_exact e) (tok k.Lemma w) refl
  decl_begun k.Txn w h = begun_of (decl_exact e) (tok k.Txn w) refl
  decl_begun k.Proc w h = begun_of (decl_exact e) (tok k.Proc w) refl
  decl_begun _ w h = cc

  -- declarations after those that were found
  abbrev From : ℕ → ℕ → List Decl → Rel (List Decl)
  From m n found i ys j = (xs : List Decl) × g.Decls inner m n i xs j × (ys ≡ found ++ xs)

  from_sample : (m n : ℕ) (found : List Decl) → Sample (From m n found)
  from_sample m n found = record {
    more = [];
    value = found;
    blanks = tt;
    begins = λ l c. c;
    spells = λ l c. (
      [],
      g.no_decls,
      sym
          (append-nil found),
    );
  }

  from_none : (m n : ℕ) (found : List Decl) (i : List Tok) → Sound (From m n found) i (Ok (found, i))
  from_none m n found i = sound_none i found (λ l. ([], g.no_decls, sym (append-nil found)))

  -- one more declaration, which is a root or not, and what comes after it
  Turn : Bool → ℕ → ℕ → List Decl → Rel (List Decl)
  Turn b m n found = Part (g.decl inner) (λ x. From (suc m) (counted b n) (found ++ x ∷ []))

  room_any : (m : ℕ) → m < 2000 → (i : List Tok) → RoomAt 2000 m i
  room_any m h [] = tt
  room_any m h (t ∷ i) = λ counts. h

  turn_in : (b : Bool) (m n : ℕ) (found : List Decl) → m < 2000 → (b ≡ true → n < 256) → (i j : List Tok) (ys : List Decl)
      → is k.Root (first_kind i) ≡ b
      → Turn b m n found i ys j → From m n found i ys j
  unfolding Turn
  turn_in b m n found below root i j ys h (part {j = l} {x = x} a s) = let P : ℕ → Type 0 = λ n. g.Decls inner (suc m) n l s.0 j in
      let same : g.counts_root inner i n ≡ counted b n = counts_is inner i n ∙ ap (λ b. counted b n) h in (
        x ∷ s.0,
        g.more_decls (room_any m below i) (root_room inner n i (λ yes. root (sym h ∙ yes))) a (subst P
            (sym same) s.1),
        s.2 ∙ append_assoc found (x ∷ []) s.0,
      )

  turn_some : (b : Bool) (m n : ℕ) (found : List Decl) (j : List Tok) (ys : List Decl) → Turn b m n found [] ys j → ⊥
  unfolding Turn
  turn_some b m n found j ys (part {j = l} {x = x} a s) = spells_some (decl_begins inner) refl l x a

  -- a declaration that is one too many, or a root that is one too many
  over_sound : (m n : ℕ) (found : List Decl) (q : TokenKind) (w : Info) (i : List Tok) → begins_decl (Some q) ≡ true
      → Sound (From m n found) (tok q w ∷ i) (Err (over many, tok q w ∷ i))
  over_sound m n found q w i h = let b = decl_begun q (info_of (lifted many (tok q w))) h in sound_exceed many (tok q w) i b.more
      (found ++ b.value ∷ []) b.all_free
      (λ l c. (b.value ∷ [], g.more_decls (λ counts. cc) (root_lifted inner n q w (b.more ++ l)) (b.spells l c) g.no_decls, refl))

  root_count : (b : Bool) (n left : ℕ) → n + left ≡ 256 → r.is_root_over readers b left ≡ false → counted b n + r.roots_left readers b left ≡ 256
  root_count true n zero s h = cc
  root_count true n (suc left) s h = omega arith
  root_count false n left s h = s

  root_below : (b : Bool) (n left : ℕ) → n + left ≡ 256 → r.is_root_over readers b left ≡ false → b ≡ true → n < 256
  root_below true n zero s h is_root = cc
  root_below true n (suc left) s h is_root = omega arith
  root_below false n left s h is_root = cc

  module _ (room m : ℕ) (count : suc m + room ≡ 2000) (n left : ℕ) (roots : n + left ≡ 256) (found : List Decl)
      (more : (n left : ℕ) (found : List Decl) → n + left ≡ 256 → (i : List Tok) → Sound (From (suc m) n found) i
      (r.decls readers room left found i)) where
    turn_sound : (q : TokenKind) (w : Info) (i : List Tok) → begins_decl (Some q) ≡ true → (b : Bool) → is k.Root (Some q) ≡ b → (c : Bool)
        → r.is_root_over readers b left ≡ c
        → Sound (From m n found) (tok q w ∷ i) (and_then (r.decl_within readers (r.decl readers) c (tok q w ∷ i)) (λ x. r.decls readers room
        (r.roots_left readers b left) (found ++ x ∷ [])))
    unfolding Turn
    turn_sound q w i h b root true o = over_sound m n found q w i h
    turn_sound q w i h b root false o = sound_so (Turn b m n found) (From m n found) (is k.Root) b (turn_in b m n found (omega arith)
        (root_below b n left roots o)) (turn_some b m n found)
        (from_sample m n found) (tok q w ∷ i) root _ (sound_part (g.decl inner) (λ x. From (suc m) (counted b n) (found ++ x ∷ []))
        (λ x. r.decls readers room (r.roots_left readers b left) (found ++ x ∷ [])) (λ x. from_sample (suc m) (counted b n) (found ++ x ∷ []))
        (tok q w ∷ i) (r.decl readers (tok q w ∷ i))
        (λ x j _. more (counted b n) (r.roots_left readers b left) (found ++ x ∷ []) (root_count b n left roots o) j) ((decl_exact e).sound
        (tok q w ∷ i)))

    begun_sound : (q : TokenKind) (w : Info) (i : List Tok) (h : Bool) → begins_decl (Some q) ≡ h
        → Sound (From m n found) (tok q w ∷ i) (r.decls_by readers (r.decl_within readers (r.decl readers)
        (r.is_root_over readers (is k.Root (Some q)) left) >>=
        (λ x. r.decls readers room (r.roots_left readers (is k.Root (Some q)) left) (found ++ x ∷ []))) found h (tok q w ∷ i))
    begun_sound q w i true h = turn_sound q w i h (is k.Root (Some q)) refl (r.is_root_over readers (is k.Root (Some q)) left) refl
    begun_sound q w i false h = from_none m n found (tok q w ∷ i)

  full_sound : (m n : ℕ) (found : List Decl) (q : TokenKind) (w : Info) (i : List Tok) (h : Bool) → begins_decl (Some q) ≡ h
      → Sound (From m n found) (tok q w ∷ i) (r.decls_full readers found h (tok q w ∷ i))
  full_sound m n found q w i true h = over_sound m n found q w i h
  full_sound m n found q w i false h = from_none m n found (tok q w ∷ i)

  decls_sound : (room m n left : ℕ) (found : List Decl) → m + room ≡ 2000 → n + left ≡ 256 → (i : List Tok)
      → Sound (From m n found) i (r.decls readers room left found i)
  unfolding r.decls
  decls_sound zero m n left found count roots [] = from_none m n found []
  decls_sound zero m n left found count roots (tok q w ∷ i) = full_sound m n found q w i (begins_decl (Some q)) refl
  decls_sound (suc room) m n left found count roots [] = from_none m n found []
  decls_sound (suc room) m n left found count roots (tok q w ∷ i) = begun_sound room m (omega arith) n left roots found
      (λ n left found roots. decls_sound room (suc m) n left found (omega arith) roots) q w i (begins_decl (Some q)) refl

  -- ---- what is spelled is read

  decls_end : (room left : ℕ) (found : List Decl) (i : List Tok) → begins_decl (first_kind i) ≡ false
      → Reaches found i (r.decls readers room left found i)
  unfolding r.decls
  decls_end zero left found i h = rw h (inl refl)
  decls_end (suc room) left found i h = rw h (inl refl)

  -- no room for a declaration, or for a root
  full_reaches : (m left : ℕ) (found : List Decl) (i j : List Tok) (ys : List Decl) → 2000 ≤ m → RoomAt 2000 m i → begins_decl (first_kind i) ≡ true
      → Reaches ys j (r.decls readers zero left found i)
  unfolding r.decls
  full_reaches m left found [] j ys full room h = cc
  full_reaches m left found (t ∷ i) j ys full room h = rw h (inr (
    (over many, t ∷ i),
    refl,
    not_true _
        (λ counts. let below : m < 2000 = room counts in omega arith),
  ))

  root_reaches : (n : ℕ) (i j : List Tok) (ys : List Decl) → is k.Root (first_kind i) ≡ true → 256 ≤ n → g.RootRoom inner' n i
      → Reaches ys j (Err (over many, i))
  unfolding same_kind
  root_reaches n [] j ys h full room = cc
  root_reaches n (tok k.Root w ∷ i) j ys h full room = inr (
    (over many, tok k.Root w ∷ i),
    refl,
    not_true _
        (λ counts. let below : n < 256 = room counts in omega arith),
  )
  root_reaches n (tok _ w ∷ i) j ys h full room = cc

  over_root : (b : Bool) (left : ℕ) → r.is_root_over readers b left ≡ true → b ≡ true
  over_root true left h = refl
  over_root false left h = cc

  over_none : (b : Bool) (left : ℕ) → r.is_root_over readers b left ≡ true → left ≡ 0
  over_none true left h = grind (arith, nat_tests)
  over_none false left h = cc

  turn_reaches : (room n left : ℕ) (found : List Decl) (i j l : List Tok) (x : Decl) (xs : List Decl) → n + left ≡ 256 → g.RootRoom inner' n i
      → g.decl inner' i x j
      → ((left : ℕ) → g.counts_root inner' i n + left ≡ 256 → Reaches (found ++ x ∷ xs) l (r.decls readers room left (found ++ x ∷ []) j))
      → (b : Bool) → is k.Root (first_kind i) ≡ b → (c : Bool) → r.is_root_over readers b left ≡ c
      → Reaches (found ++ x ∷ xs) l (and_then (r.decl_within readers (r.decl readers) c i) (λ x. r.decls readers room (r.roots_left readers b left)
      (found ++ x ∷ [])))
  turn_reaches room n left found i j l x xs roots root h more b is_root true o = root_reaches n i l (found ++ x ∷ xs) (is_root ∙ over_root b left o)
      (let none = over_none b left o in omega arith) root
  turn_reaches room n left found i j l x xs roots root h more b is_root false o =
      reaches_part (λ x. r.decls readers room (r.roots_left readers b left) (found ++ x ∷ [])) (r.decl readers i) x (found ++ x ∷ xs) j l
      ((decl_exact e).complete i j x h refl)
      (more (r.roots_left readers b left) (let same : g.counts_root inner' i n ≡ counted b n = counts_is inner' i n ∙ ap
      (λ b. counted b n) is_root in rw same (root_count b n left roots o)))

  decls_reaches : (room left : ℕ) (found : List Decl) {m n : ℕ} {i j : List Tok} {xs : List Decl} → g.Decls inner' m n i xs j → m + room ≡ 2000
      → n + left ≡ 256
      → begins_decl (first_kind j) ≡ false → Reaches (found ++ xs) j (r.decls readers room left found i)
  unfolding r.decls
  decls_reaches room left found (g.no_decls {i = i}) count roots stop = let P : List Decl
      → Type 0 = λ ys. Reaches ys i (r.decls readers room left found i) in
      subst P (sym (append-nil found)) (decls_end room left found i stop)
  decls_reaches zero left found (g.more_decls {m = m} {i = i} {j = j} {l = l} {x = x} {xs = xs} space root h more) count roots stop =
      full_reaches m left found i l (found ++ x ∷ xs) (omega arith) space ((decl_begins inner').known i j x h)
  decls_reaches (suc room) left found (g.more_decls {m = m} {n = n} {i = i} {j = j} {l = l} {x = x} {xs = xs} space root h more) count roots stop =
      rw ((decl_begins inner').known i j x h) (turn_reaches room n left found i j l x xs roots root h
      (λ left roots. let P : List Decl → Type 0 = λ ys. Reaches ys l (r.decls readers room left (found ++ x ∷ []) j) in
      subst P (append_assoc found (x ∷ []) xs) (decls_reaches room left (found ++ x ∷ []) more (omega arith) roots stop))
      (is k.Root (first_kind i)) refl (r.is_root_over readers (is k.Root (first_kind i)) left) refl)

  from_decls : {i j : List Tok} {ys : List Decl} → From 0 0 [] i ys j → g.Decls inner 0 0 i ys j
  from_decls {i = i} {j = j} b = let P : List Decl → Type 0 = λ ys. g.Decls inner 0 0 i ys j in subst P (sym b.2) b.1

  not_begun : (b : Bool) → not b ≡ true → b ≡ false
  not_begun true h = cc
  not_begun false h = refl

  pub decls_exact : Exact (g.Decls inner 0 0) (g.Decls inner' 0 0) (λ o. not (begins_decl o)) (r.decls readers 2000 256 [])
  decls_exact = record {
    sound = λ i. sound_by (λ i j ys b. from_decls b) i _ (decls_sound 2000 0 0 256 [] refl refl i);
    complete = λ i j ys h stop. decls_reaches 2000 256 [] h refl refl (not_begun (begins_decl (first_kind j)) stop);
    sample = record { more = []; value = []; blanks = tt; begins = λ l n. n; spells = λ l n. g.no_decls };
  }
