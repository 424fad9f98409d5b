-- A reader against what the grammar says, and how readers and relations are put together alike.
use Rattle.std.proofs.Common.{◌≡◌, ap, sym, subst, ◌∙◌, refl, Bool, true, false, ◌⊎◌, inl, inr, List, [], ◌∷◌, ◌++◌, append_assoc, Option, Some, Ok, Err}
use Rattle.tht_tree.specs.declared.token.TokenKind.{TokenKind}
use Rattle.tht_tree.specs.Tokens.{Limit, free, counts_at, Info, Tok, tok, kind_of, info_of, mark_of, first_kind}
use Rattle.tht_tree.specs.Productions.{Rel, Gives, gives, Part, part}
use Rattle.tht_tree.specs.Grammar.{goes_on}
use Rattle.tht_tree.specs.Faults.{Fault, unexpected, over, lifted, AllFree, Permits}
use Rattle.tht_grammar.specs.Steps.{Outcome, Reader, and_then, ◌>>=◌, pure, refuse, nowhere}

-- ---- what a reader's outcome says

-- no `*` comes next
abbrev pub NoStar : List Tok → Type 0
NoStar l = goes_on l ≡ false

-- What may stand in place of the tokens j after a construct: anything but a `*`, or what begins as they do. (A `*` after an
-- assertion would belong to it.)
abbrev pub InPlaceOf : List Tok → List Tok → Type 0
InPlaceOf l j = NoStar l ⊎ (first_kind l ≡ first_kind j)

-- the tokens c spell x, whatever stands in place of j after them
abbrev pub SpellsBefore : {A : Type 0} → Rel A → List Tok → A → List Tok → Type 0
SpellsBefore R c x j = (l : List Tok) → InPlaceOf l j → R (c ++ l) x l

-- x was read: the tokens that were taken spell it
pub record IsRead {A : Type 0} (R : Rel A) (i : List Tok) (x : A) (j : List Tok) : Type 0 where
  pub taken : List Tok
  pub all : i ≡ taken ++ j
  pub spells : SpellsBefore R taken x j

-- How the tokens c go on where this fault stands at the first token of j: with what the fault permits in its place they
-- spell something, whatever but a `*` comes then.
pub record Completion {A : Type 0} (R : Rel A) (f : Fault) (c j : List Tok) : Type 0 where
  pub more : List Tok
  pub value : A
  pub permits : Permits f j more
  pub begins : (l : List Tok) → NoStar l → InPlaceOf (more ++ l) j
  pub spells : (l : List Tok) → NoStar l → R (c ++ (more ++ l)) value l

-- the tokens before the fault can be completed
pub record IsStuck {A : Type 0} (R : Rel A) (i : List Tok) (f : Fault) (j : List Tok) : Type 0 where
  pub taken : List Tok
  pub all : i ≡ taken ++ j
  pub completion : Completion R f taken j

-- what a reader may answer
abbrev pub Sound : {A : Type 0} → Rel A → List Tok → Outcome A → Type 0
Sound R i (Ok p) = IsRead R i p.0 p.1
Sound R i (Err e) = IsStuck R i e.0 e.1

-- the place of a token at which no limit counts, and nothing else in it
abbrev pub blank : Info
blank = record { mark = free; spot = nowhere; value = 0; text = [] }

abbrev pub AllBlank : List Tok → Type 0
AllBlank [] = Unit {0}
AllBlank (t ∷ ts) = (info_of t ≡ blank) × AllBlank ts

-- Some tokens that spell something, whatever but a `*` comes after them.
pub record Sample {A : Type 0} (R : Rel A) : Type 0 where
  pub more : List Tok
  pub value : A
  pub blanks : AllBlank more
  pub begins : (l : List Tok) → NoStar l → NoStar (more ++ l)
  pub spells : (l : List Tok) → NoStar l → R (more ++ l) value l

-- a limit was passed at a token where it does not count
abbrev pub IsLifted : Fault × List Tok → Type 0
IsLifted (unexpected, j) = ⊥
IsLifted (over l, []) = ⊥
IsLifted (over l, (t ∷ j)) = counts_at (mark_of t) l ≡ false

-- the outcome is x with j left, unless a limit was passed where it does not count
abbrev pub Reaches : {A : Type 0} → A → List Tok → Outcome A → Type 0
Reaches x j o = (o ≡ Ok (x, j)) ⊎ ((e : Fault × List Tok) × (o ≡ Err e) × IsLifted e)

-- The reader answers by R, and reads all that S spells, where what is left begins with a token at which it stops. R and S
-- are one production with different bounds on how many constructs stand inside one another.
pub record Exact {A : Type 0} (R S : Rel A) (stops : Option TokenKind → Bool) (p : Reader A) : Type 0 where
  pub sound : (i : List Tok) → Sound R i (p i)
  pub complete : (i j : List Tok) (x : A) → S i x j → stops (first_kind j) ≡ true → Reaches x j (p i)
  pub sample : Sample R

-- it stops at any token
abbrev pub anywhere : Option TokenKind → Bool
anywhere o = true

-- a relation that nothing fulfils
abbrev pub Empty : {A : Type 0} → Rel A
Empty i x j = ⊥

-- ---- tokens without limits

pub blanks_append : (a b : List Tok) → AllBlank a → AllBlank b → AllBlank (a ++ b)
blanks_append [] b p q = q
blanks_append (t ∷ a) b p q = (p.0, blanks_append a b p.1 q)

pub blanks_free : (a : List Tok) → AllBlank a → AllFree a
blanks_free [] h = tt
blanks_free (t ∷ a) h = (ap (λ (w : Info). w.mark) h.0, blanks_free a h.1)

free_append : (a b : List Tok) → AllFree a → AllFree b → AllFree (a ++ b)
free_append [] b p q = q
free_append (t ∷ a) b p q = (p.0, free_append a b p.1 q)

-- what a fault permits can be followed by tokens without limits
permits_append : (f : Fault) (j a b : List Tok) → Permits f j a → AllFree b → Permits f j (a ++ b)
permits_append unexpected j a b p q = free_append a b p q
permits_append (over l) [] a b p q = p
permits_append (over l) (t ∷ j) [] b p q = absurd p
permits_append (over l) (t ∷ j) (u ∷ a) b p q = (p.0, free_append a b p.1 q)

-- ---- a part, and what follows it

-- tokens that were taken may stand before what may stand in place of j
in_place_append : (c l j : List Tok) → InPlaceOf l j → InPlaceOf (c ++ l) (c ++ j)
in_place_append [] l j h = h
in_place_append (t ∷ c) l j h = inr refl

in_place : (c l i j : List Tok) → i ≡ c ++ j → InPlaceOf l j → InPlaceOf (c ++ l) i
in_place c l i j e h = let P : List Tok → Type 0 = λ i. InPlaceOf (c ++ l) i in subst P (sym e) (in_place_append c l j h)

module _ {A B : Type 0} (P : Rel A) (R : A → Rel B) (g : A → Reader B) (sample : (x : A) → Sample (R x)) where
  after_ok : (i j : List Tok) (x : A) → IsRead P i x j → (o : Outcome B) → Sound (R x) j o → Sound (Part P R) i o
  after_ok i j x s (Ok q) t = record {
    taken = s.taken ++ t.taken;
    all = s.all ∙ ap (λ z. s.taken ++ z) t.all ∙ sym (append_assoc s.taken t.taken q.1);
    spells = λ l n. rw append_assoc (part (s.spells (t.taken ++ l) (in_place t.taken l j q.1 t.all n)) (t.spells l n));
  }
  after_ok i j x s (Err e) t = let c = t.completion in record {
    taken = s.taken ++ t.taken;
    all = s.all ∙ ap (λ z. s.taken ++ z) t.all ∙ sym (append_assoc s.taken t.taken e.1);
    completion = record {
      more = c.more;
      value = c.value;
      permits = c.permits;
      begins = c.begins;
      spells = λ l n. rw append_assoc
          (part (s.spells (t.taken ++ (c.more ++ l)) (in_place t.taken (c.more ++ l) j e.1 t.all (c.begins l n))) (c.spells l n));
    };
  }

  -- where what follows is sound after this very part
  pub sound_part : (i : List Tok) (o : Outcome A) → ((x : A) (j : List Tok) → o ≡ Ok (x, j) → Sound (R x) j (g x j)) → Sound P i o
      → Sound (Part P R) i (and_then o g)
  sound_part i (Ok p) more s = after_ok i p.1 p.0 s (g p.0 p.1) (more p.0 p.1 refl)
  sound_part i (Err e) more s = let c = s.completion in let m = sample c.value in record {
    taken = s.taken;
    all = s.all;
    completion = record {
      more = c.more ++ m.more;
      value = m.value;
      permits = permits_append e.0 e.1 c.more m.more c.permits (blanks_free m.more m.blanks);
      begins = λ l n. rw append_assoc (c.begins (m.more ++ l) (m.begins l n));
      spells = λ l n. part (rw append_assoc (c.spells (m.more ++ l) (m.begins l n))) (m.spells l n);
    };
  }

pub reaches_part : {A B : Type 0} (g : A → Reader B) (o : Outcome A) (x : A) (y : B) (j l : List Tok) → Reaches x j o → Reaches y l (g x j)
    → Reaches y l (and_then o g)
reaches_part g o x y j l (inl e) h = rw e h
reaches_part g o x y j l (inr e) h = rw e.1 (inr (e.0, refl, e.2))

pub sample_part : {A B : Type 0} {P : Rel A} {R : A → Rel B} → Sample P → ((x : A) → Sample (R x)) → Sample (Part P R)
sample_part a more = let b = more a.value in record {
  more = a.more ++ b.more;
  value = b.value;
  blanks = blanks_append a.more b.more a.blanks b.blanks;
  begins = λ l n. rw append_assoc (a.begins (b.more ++ l) (b.begins l n));
  spells = λ l n. part (rw append_assoc (a.spells (b.more ++ l) (b.begins l n))) (b.spells l n);
}

-- A part and what follows it. What follows begins with no token at which the part would go on.
pub exact_part : {A B : Type 0} {P Q : Rel A} {R S : A → Rel B} {stops after : Option TokenKind → Bool} {p : Reader A} {g : A → Reader B}
    → Exact P Q stops p → ((x : A) → Exact (R x) (S x) after (g x))
    → ((i j l : List Tok) (x : A) (y : B) → Q i x j → S x j y l → after (first_kind l) ≡ true → stops (first_kind j) ≡ true)
    → Exact (Part P R) (Part Q S) after (p >>= g)
exact_part {A = A} {B = B} {P = P} {Q = Q} {R = R} {S = S} {after = after} {p = p} {g = g} e f leads = record {
  sound = λ i. sound_part P R g (λ x. (f x).sample) i (p i) (λ x j _. (f x).sound j) (e.sound i);
  complete = λ i l y h stop. go h stop;
  sample = sample_part e.sample (λ x. (f x).sample);
}
  where
    go : {i l : List Tok} {y : B} → Part Q S i y l → after (first_kind l) ≡ true → Reaches y l (and_then (p i) g)
    go (part {i = i} {j = j} {l = l} {x = x} {y = y} h s) stop =
        reaches_part g (p i) x y j l (e.complete i j x h (leads i j l x y h s stop)) ((f x).complete j l y s stop)

-- ---- other relations, and other tokens to stop at

module _ {A : Type 0} {R S : Rel A} where
  pub sound_by : ((i j : List Tok) (x : A) → R i x j → S i x j) → (i : List Tok) (o : Outcome A) → Sound R i o → Sound S i o
  sound_by into i (Ok p) s = record { taken = s.taken; all = s.all; spells = λ l n. into _ _ _ (s.spells l n) }
  sound_by into i (Err e) s = let c = s.completion in record {
    taken = s.taken;
    all = s.all;
    completion = record { more = c.more; value = c.value; permits = c.permits; begins = c.begins; spells = λ l n. into _ _ _ (c.spells l n) };
  }

  pub sample_by : ((i j : List Tok) (x : A) → R i x j → S i x j) → Sample R → Sample S
  sample_by into s = record { more = s.more; value = s.value; blanks = s.blanks; begins = s.begins; spells = λ l n. into _ _ _ (s.spells l n) }

-- the same reader against other relations: what is answered by R is so by R2, and what S2 spells S does
pub exact_by : {A : Type 0} {R S R2 S2 : Rel A} {stops : Option TokenKind → Bool} {p : Reader A} → ((i j : List Tok) (x : A) → R i x j → R2 i x j)
    → ((i j : List Tok) (x : A) → S2 i x j → S i x j) → Exact R S stops p → Exact R2 S2 stops p
exact_by {p = p} into out e = record {
  sound = λ i. sound_by into i (p i) (e.sound i);
  complete = λ i j x h stop. e.complete i j x (out i j x h) stop;
  sample = sample_by into e.sample;
}

-- it is promised to stop at fewer tokens
pub exact_less : {A : Type 0} {R S : Rel A} {stops fewer : Option TokenKind → Bool} {p : Reader A}
    → ((o : Option TokenKind) → fewer o ≡ true → stops o ≡ true)
    → Exact R S stops p → Exact R S fewer p
exact_less less e = record { sound = e.sound; complete = λ i j x h stop. e.complete i j x h (less (first_kind j) stop); sample = e.sample }

-- ---- nothing is taken

-- no token, and the value a
pub sound_none : {A : Type 0} {R : Rel A} (i : List Tok) (a : A) → ((l : List Tok) → R l a l) → Sound R i (Ok (a, i))
sound_none i a h = record { taken = []; all = refl; spells = λ l n. h l }

-- the next token cannot stand there
pub sound_refuse : {A : Type 0} {R : Rel A} (i : List Tok) → Sample R → Sound R i (Err (unexpected, i))
sound_refuse i s = record {
  taken = [];
  all = refl;
  completion = record {
    more = s.more;
    value = s.value;
    permits = blanks_free s.more s.blanks;
    begins = λ l n. inl
        (s.begins l n);
    spells = s.spells;
  };
}

lifted_kind : (l : Limit) (t : Tok) → Some (kind_of (lifted l t)) ≡ Some (kind_of t)
lifted_kind l (tok q w) = refl

-- A limit is passed at the next token. Were it not, these tokens could follow.
pub sound_exceed : {A : Type 0} {R : Rel A} (l : Limit) (t : Tok) (i more : List Tok) (a : A) → AllFree more
    → ((j : List Tok) → NoStar j → R (lifted l t ∷ (more ++ j)) a j) → Sound R (t ∷ i) (Err (over l, t ∷ i))
sound_exceed l t i more a all h = record {
  taken = [];
  all = refl;
  completion = record { more = lifted l t ∷ more; value = a; permits = (refl, all); begins = λ j n. inr (lifted_kind l t); spells = h };
}

-- the value and the tokens of no token
pub by_gives : {A : Type 0} {a x : A} {i j : List Tok} (P : A → List Tok → Type 0) → Gives a i x j → P a i → P x j
by_gives P gives p = p

reaches_gives : {A : Type 0} {a x : A} {i j : List Tok} → Gives a i x j → Reaches x j (Ok (a, i))
reaches_gives gives = inl refl

pub exact_pure : {A : Type 0} (a : A) → Exact (Gives a) (Gives a) anywhere (pure a)
exact_pure a = record {
  sound = λ i. sound_none i a (λ l. gives);
  complete = λ i j x h stop. reaches_gives h;
  sample = record { more = []; value = a; blanks = tt; begins = λ l n. n; spells = λ l n. gives };
}

-- What is refused always is exact where nothing is to be read. At one token this tells how a construct goes on that begins
-- with it: all that stands inside it is completed by a sample.
pub exact_refuse : {A : Type 0} {R : Rel A} {stops : Option TokenKind → Bool} → Sample R → Exact R Empty stops refuse
exact_refuse s = record { sound = λ i. sound_refuse i s; complete = λ i j x h stop. absurd h; sample = s }
