-- Tokens, names, numbers and sorts, and what stands before and after them.
use Rattle.std.proofs.Common.{◌≡◌, ℕ, ap, refl, Bool, true, false, inl, List, [], ◌∷◌, Option, Some, None, Ok, Err}
use denote.Enum.Bare.{same_true, true_same}
use Rattle.tht_tree.specs.declared.plain.Sort.{Sort}
use Rattle.tht_tree.specs.declared.plain.Sort.TheVariants as sorts
use Rattle.tht_tree.specs.declared.token.TokenKind.{TokenKind}
use Rattle.tht_tree.specs.declared.token.TokenKind.TheVariants as k
use Rattle.tht_tree.specs.contracts.token.TokenKind.{the_type}
use Rattle.tht_tree.specs.Tokens.{Info, Tok, tok, first_kind}
use Rattle.tht_tree.specs.Productions.{Rel, Gives, gives, Word, word, Named, named, Numbered, numbered, Sorted, sorted, sort_of, Part, part}
use Rattle.tht_grammar.specs.Steps.{Outcome, Reader, ◌>>=◌, ◌>>◌, pure, same_kind, rest, first_text, first_value, expect}
use Rattle.tht_grammar.specs.Reading as r
use Rattle.tht_grammar.proofs.Exact.{NoStar, Sound, blank, Sample, Reaches, Exact, anywhere, exact_part, exact_by, exact_less, sound_refuse, exact_pure}

-- ---- kinds of tokens

pub same_is : (q k : TokenKind) → same_kind q k ≡ true → q ≡ k
unfolding same_kind
same_is q k h = same_true the_type tt q k h

pub same_self : (k : TokenKind) → same_kind k k ≡ true
unfolding same_kind
same_self k = true_same the_type k k refl

-- a token of another kind than `*`
abbrev pub IsFresh : TokenKind → Type 0
IsFresh q = NoStar (tok q blank ∷ [])

pub fresh_before : (q : TokenKind) (w : Info) (l : List Tok) → IsFresh q → NoStar (tok q w ∷ l)
fresh_before k.Star w l h = h
fresh_before _ w l h = h

-- ---- a token, and then a part

module _ {A : Type 0} {R : Rel A} (S : Rel A) where
  pub sound_next : (t : Tok) (i : List Tok) (o : Outcome A) → ((i j : List Tok) (x : A) → R i x j → S (t ∷ i) x j) → Sound R i o → Sound S (t ∷ i) o
  sound_next t i (Ok p) into s = record { taken = t ∷ s.taken; all = ap (λ z. t ∷ z) s.all; spells = λ l n. into _ _ _ (s.spells l n) }
  sound_next t i (Err e) into s = let c = s.completion in record {
    taken = t ∷ s.taken;
    all = ap (λ z. t ∷ z) s.all;
    completion = record { more = c.more; value = c.value; permits = c.permits; begins = c.begins; spells = λ l n. into _ _ _ (c.spells l n) };
  }

-- one token alone
pub sound_one : {A : Type 0} {R : Rel A} (t : Tok) (i : List Tok) (a : A) → ((l : List Tok) → R (t ∷ l) a l) → Sound R (t ∷ i) (Ok (a, i))
sound_one t i a h = record { taken = t ∷ []; all = refl; spells = λ l n. h l }

sample_one : {A : Type 0} {R : Rel A} (q : TokenKind) (a : A) → IsFresh q → ((l : List Tok) → R (tok q blank ∷ l) a l) → Sample R
sample_one q a h f = record { more = tok q blank ∷ []; value = a; blanks = (refl, tt); begins = λ l n. fresh_before q blank l h; spells = λ l n. f l }

-- ---- a token of one kind

abbrev OneWord : TokenKind → Rel (Unit {0})
OneWord q = Word q (Gives tt)

expect_at : (q p : TokenKind) → IsFresh q → (w : Info) (i : List Tok) (b : Bool) → same_kind p q ≡ b
    → Sound (OneWord q) (tok p w ∷ i) (expect q (tok p w ∷ i))
unfolding expect rest
expect_at q p f w i true h = rw h (sound_one (tok p w) i tt (λ l. rw (same_is p q h) (word gives)))
expect_at q p f w i false h = rw h (sound_refuse (tok p w ∷ i) (sample_one q tt f (λ l. word gives)))

expect_sound : (q : TokenKind) → IsFresh q → (i : List Tok) → Sound (OneWord q) i (expect q i)
unfolding expect
expect_sound q f [] = sound_refuse [] (sample_one q tt f (λ l. word gives))
expect_sound q f (tok p w ∷ i) = expect_at q p f w i (same_kind p q) refl

expect_reaches : {q : TokenKind} {i j : List Tok} {x : Unit {0}} → OneWord q i x j → Reaches x j (expect q i)
unfolding expect rest
expect_reaches {q = q} (word gives) = rw (same_self q) (inl refl)

pub exact_expect : {q : TokenKind} → IsFresh q → Exact (OneWord q) (OneWord q) anywhere (expect q)
exact_expect {q = q} f = record {
  sound = expect_sound q f;
  complete = λ i j x h stop. expect_reaches h;
  sample = sample_one q tt f
      (λ l. word gives);
}

word_in : {A : Type 0} {q : TokenKind} {R : Rel A} {i j : List Tok} {x : A} → Part (OneWord q) (λ _. R) i x j → Word q R i x j
word_in (part (word gives) h) = word h

word_out : {A : Type 0} {q : TokenKind} {R : Rel A} {i j : List Tok} {x : A} → Word q R i x j → Part (OneWord q) (λ _. R) i x j
word_out (word h) = part (word gives) h

pub exact_word : {A : Type 0} {q : TokenKind} {R S : Rel A} {stops : Option TokenKind → Bool} {p : Reader A} → IsFresh q → Exact R S stops p
    → Exact (Word q R) (Word q S) stops (expect q >> p)
exact_word f e = exact_by (λ i j x h. word_in h) (λ i j x h. word_out h) (exact_part (exact_expect f) (λ _. e) (λ i j l x y h s stop. refl))

-- ---- a name, a number and a sort

abbrev pub OneName : Rel (List ℕ)
OneName = Named (λ x. Gives x)

name_at : (q : TokenKind) (w : Info) (i : List Tok) (b : Bool) → same_kind q k.Name ≡ b → Sound OneName (tok q w ∷ i) (r.name (tok q w ∷ i))
unfolding r.name rest first_text
name_at q w i true h = rw h (sound_one (tok q w) i w.text (λ l. rw (same_is q k.Name h) (named gives)))
name_at q w i false h = rw h (sound_refuse (tok q w ∷ i) (sample_one k.Name [] refl (λ l. named gives)))

name_sound : (i : List Tok) → Sound OneName i (r.name i)
unfolding r.name
name_sound [] = sound_refuse [] (sample_one k.Name [] refl (λ l. named gives))
name_sound (tok q w ∷ i) = name_at q w i (same_kind q k.Name) refl

name_reaches : {i j : List Tok} {x : List ℕ} → OneName i x j → Reaches x j (r.name i)
unfolding r.name rest first_text
name_reaches (named gives) = rw (same_self k.Name) (inl refl)

pub exact_name : Exact OneName OneName anywhere r.name
exact_name = record { sound = name_sound; complete = λ i j x h stop. name_reaches h; sample = sample_one k.Name [] refl (λ l. named gives) }

name_in : {A : Type 0} {R : List ℕ → Rel A} {i j : List Tok} {x : A} → Part OneName R i x j → Named R i x j
name_in (part (named gives) h) = named h

name_out : {A : Type 0} {R : List ℕ → Rel A} {i j : List Tok} {x : A} → Named R i x j → Part OneName R i x j
name_out (named h) = part (named gives) h

pub exact_named : {A : Type 0} {R S : List ℕ → Rel A} {stops : Option TokenKind → Bool} {g : List ℕ → Reader A}
    → ((x : List ℕ) → Exact (R x) (S x) stops (g x))
    → Exact (Named R) (Named S) stops (r.name >>= g)
exact_named e = exact_by (λ i j x h. name_in h) (λ i j x h. name_out h) (exact_part exact_name e (λ i j l x y h s stop. refl))

abbrev pub OneNumber : Rel ℕ
OneNumber = Numbered (λ n. Gives n)

number_at : (q : TokenKind) (w : Info) (i : List Tok) (b : Bool) → same_kind q k.Num ≡ b → Sound OneNumber (tok q w ∷ i) (r.number (tok q w ∷ i))
unfolding r.number rest first_value
number_at q w i true h = rw h (sound_one (tok q w) i w.value (λ l. rw (same_is q k.Num h) (numbered gives)))
number_at q w i false h = rw h (sound_refuse (tok q w ∷ i) (sample_one k.Num 0 refl (λ l. numbered gives)))

number_sound : (i : List Tok) → Sound OneNumber i (r.number i)
unfolding r.number
number_sound [] = sound_refuse [] (sample_one k.Num 0 refl (λ l. numbered gives))
number_sound (tok q w ∷ i) = number_at q w i (same_kind q k.Num) refl

number_reaches : {i j : List Tok} {x : ℕ} → OneNumber i x j → Reaches x j (r.number i)
unfolding r.number rest first_value
number_reaches (numbered gives) = rw (same_self k.Num) (inl refl)

pub exact_number : Exact OneNumber OneNumber anywhere r.number
exact_number = record { sound = number_sound; complete = λ i j x h stop. number_reaches h; sample = sample_one k.Num 0 refl (λ l. numbered gives) }

number_in : {A : Type 0} {R : ℕ → Rel A} {i j : List Tok} {x : A} → Part OneNumber R i x j → Numbered R i x j
number_in (part (numbered gives) h) = numbered h

number_out : {A : Type 0} {R : ℕ → Rel A} {i j : List Tok} {x : A} → Numbered R i x j → Part OneNumber R i x j
number_out (numbered h) = part (numbered gives) h

pub exact_numbered : {A : Type 0} {R S : ℕ → Rel A} {stops : Option TokenKind → Bool} {g : ℕ → Reader A} → ((n : ℕ) → Exact (R n) (S n) stops (g n))
    → Exact (Numbered R) (Numbered S) stops (r.number >>= g)
exact_numbered e = exact_by (λ i j x h. number_in h) (λ i j x h. number_out h) (exact_part exact_number e (λ i j l x y h s stop. refl))

abbrev pub OneSort : Rel Sort
OneSort = Sorted (λ z. Gives z)

sort_sample : Sample OneSort
sort_sample = sample_one k.Nat sorts.Nat refl (λ l. sorted refl gives)

sort_at : (q : TokenKind) (w : Info) (i : List Tok) (o : Option Sort) → sort_of q ≡ o → Sound OneSort (tok q w ∷ i) (r.sort (tok q w ∷ i))
unfolding r.sort rest
sort_at q w i (Some z) h = rw h (sound_one (tok q w) i z (λ l. sorted h gives))
sort_at q w i None h = rw h (sound_refuse (tok q w ∷ i) sort_sample)

sort_sound : (i : List Tok) → Sound OneSort i (r.sort i)
unfolding r.sort
sort_sound [] = sound_refuse [] sort_sample
sort_sound (tok q w ∷ i) = sort_at q w i (sort_of q) refl

sort_reaches : {i j : List Tok} {x : Sort} → OneSort i x j → Reaches x j (r.sort i)
unfolding r.sort rest
sort_reaches (sorted h gives) = rw h (inl refl)

pub exact_sort : Exact OneSort OneSort anywhere r.sort
exact_sort = record { sound = sort_sound; complete = λ i j x h stop. sort_reaches h; sample = sort_sample }

sort_in : {A : Type 0} {R : Sort → Rel A} {i j : List Tok} {x : A} → Part OneSort R i x j → Sorted R i x j
sort_in (part (sorted e gives) h) = sorted e h

sort_out : {A : Type 0} {R : Sort → Rel A} {i j : List Tok} {x : A} → Sorted R i x j → Part OneSort R i x j
sort_out (sorted e h) = part (sorted e gives) h

pub exact_sorted : {A : Type 0} {R S : Sort → Rel A} {stops : Option TokenKind → Bool} {g : Sort → Reader A}
    → ((z : Sort) → Exact (R z) (S z) stops (g z))
    → Exact (Sorted R) (Sorted S) stops (r.sort >>= g)
exact_sorted e = exact_by (λ i j x h. sort_in h) (λ i j x h. sort_out h) (exact_part exact_sort e (λ i j l x y h s stop. refl))

-- ---- a part, and what follows it

-- a part that stops anywhere
pub exact_then : {A B : Type 0} {P Q : Rel A} {R S : A → Rel B} {after : Option TokenKind → Bool} {p : Reader A} {g : A → Reader B}
    → Exact P Q anywhere p → ((x : A) → Exact (R x) (S x) after (g x)) → Exact (Part P R) (Part Q S) after (p >>= g)
exact_then e f = exact_part e f (λ i j l x y h s stop. refl)

word_first : {A : Type 0} {q : TokenKind} {R : Rel A} {i j : List Tok} {x : A} (stops : Option TokenKind → Bool) → stops (Some q) ≡ true
    → Word q R i x j → stops (first_kind i) ≡ true
word_first stops e (word h) = e

-- a part that stops before a token of this kind, and what begins with that token
pub exact_before : {A B : Type 0} {P Q : Rel A} {q : TokenKind} {R S : A → Rel B} {stops after : Option TokenKind → Bool}
    {p : Reader A} {g : A → Reader B}
    → stops (Some q) ≡ true → Exact P Q stops p → ((x : A) → Exact (Word q (R x)) (Word q (S x)) after (g x))
    → Exact (Part P (λ x. Word q (R x))) (Part Q (λ x. Word q (S x))) after (p >>= g)
exact_before {stops = stops} b e f = exact_part e f (λ i j l x y h s stop. word_first stops b s)

-- a part, a token of this kind before which it stops, and what follows
pub exact_until : {A B : Type 0} {P Q : Rel A} {q : TokenKind} {R S : A → Rel B} {stops after : Option TokenKind → Bool}
    {p : Reader A} {g : A → Reader B}
    → stops (Some q) ≡ true → IsFresh q → Exact P Q stops p → ((x : A) → Exact (R x) (S x) after (g x))
    → Exact (Part P (λ x. Word q (R x))) (Part Q (λ x. Word q (S x))) after (p >>= (λ x. expect q >> g x))
exact_until b f e more = exact_before b e (λ x. exact_word f (more x))

gives_first : {A : Type 0} {a x : A} {i j : List Tok} (stops : Option TokenKind → Bool) → Gives a i x j → stops (first_kind j) ≡ true
    → stops (first_kind i) ≡ true
gives_first stops gives s = s

-- a part, and what is made of it
pub exact_map : {A B : Type 0} {P Q : Rel A} {stops : Option TokenKind → Bool} {p : Reader A} (f : A → B) → Exact P Q stops p
    → Exact (Part P (λ x. Gives (f x))) (Part Q (λ x. Gives (f x))) stops (p >>= (λ x. pure (f x)))
exact_map {stops = stops} f e = exact_part e (λ x. exact_less (λ o h. refl) (exact_pure (f x))) (λ i j l x y h s stop. gives_first stops s stop)
