-- Productions at the spot of their first token, and productions of several forms.
use Rattle.std.proofs.Common.{◌≡◌, ℕ, inl, ap, sym, subst, ◌∙◌, refl, Bool, true, false, List, [], ◌∷◌, ◌++◌, Option, None, Ok, Err}
use Rattle.tht_tree.specs.declared.plain.Spot.{Spot}
use Rattle.tht_tree.specs.declared.token.TokenKind.{TokenKind}
use Rattle.tht_tree.specs.Tokens.{Limit, Info, Tok, tok, info_of, first_kind}
use Rattle.tht_tree.specs.declared.token.TokenKind.TheVariants as k
use Rattle.tht_tree.specs.Productions.{Rel, Word, word, Named, named, Numbered, numbered, Spotted, spotted}
use Rattle.tht_tree.specs.Faults.{Fault, unexpected, over, lifted, Permits}
use Rattle.tht_grammar.specs.Steps.{Outcome, Reader, first_spot, nowhere}
use Rattle.tht_grammar.specs.Steps as steps
use Rattle.tht_grammar.proofs.Beginnings.{BeginsWith}
use Rattle.tht_grammar.proofs.Exact.{NoStar, InPlaceOf, IsRead, Completion, IsStuck, Sound, AllBlank, Sample, Reaches, Exact, sound_by, sound_refuse}
use Rattle.tht_grammar.proofs.Sequences.{sound_next}

-- ---- the spot of the first token

spot_at : Tok → Spot
spot_at t = (info_of t).spot

lifted_spot : (l : Limit) (t : Tok) → spot_at (lifted l t) ≡ spot_at t
unfolding spot_at
lifted_spot l (tok q w) = refl

first_at : (t : Tok) (i : List Tok) → first_spot (t ∷ i) ≡ spot_at t
unfolding first_spot spot_at
first_at t i = refl

blank_spot : (t : Tok) (i l : List Tok) → AllBlank (t ∷ i) → first_spot (t ∷ i ++ l) ≡ nowhere
unfolding first_spot
blank_spot t i l h = ap (λ (w : Info). w.spot) h.0

-- a token at which a limit is lifted stands where it stood
permitted_spot : (u : Limit) (j more l : List Tok) → Permits (over u) j more → first_spot (more ++ l) ≡ first_spot j
permitted_spot u [] more l p = absurd p
permitted_spot u (t ∷ j) [] l p = absurd p
permitted_spot u (t ∷ j) (v ∷ more) l p = first_at v (more ++ l) ∙ ap spot_at p.0 ∙ lifted_spot u t ∙ sym (first_at t j)

module _ {A : Type 0} (R : Spot → Rel A) (some : (s : Spot) (j : List Tok) (x : A) → R s [] x j → ⊥) where
  spotted_at : (s : Spot) (i j : List Tok) (x : A) → first_spot i ≡ s → R s i x j → Spotted R i x j
  unfolding first_spot
  spotted_at s [] j x e h = absurd (some s j x h)
  spotted_at s (tok q w ∷ i) j x e h = let P : Spot → Type 0 = λ s. R s (tok q w ∷ i) x j in spotted (subst P (sym e) h)

  sample_at : (s : Sample (R nowhere)) (more : List Tok) → s.more ≡ more → Sample (Spotted R)
  sample_at s [] e = let P : List Tok → Type 0 = λ m. R nowhere (m ++ []) s.value [] in
      absurd (some nowhere [] s.value (subst P e (s.spells [] refl)))
  sample_at s (t ∷ more) e = let Q : List Tok → Type 0 = AllBlank in let b : AllBlank (t ∷ more) = subst Q e s.blanks in record {
    more = t ∷ more;
    value = s.value;
    blanks = b;
    begins = λ l n. let P : List Tok → Type 0 = λ m. NoStar (m ++ l) in subst P e (s.begins l n);
    spells = λ l n. let P : List Tok → Type 0 = λ m. R nowhere (m ++ l) s.value l in
        spotted_at nowhere (t ∷ more ++ l) l s.value (blank_spot t more l b) (subst P e (s.spells l n));
  }

  pub sample_spotted : Sample (R nowhere) → Sample (Spotted R)
  sample_spotted s = sample_at s s.more refl

  module _ (i : List Tok) where
    same_spot : (t : Tok) (c j l : List Tok) → i ≡ t ∷ c ++ j → first_spot (t ∷ c ++ l) ≡ first_spot i
    same_spot t c j l e = first_at t (c ++ l) ∙ sym (first_at t (c ++ j)) ∙ sym (ap first_spot e)

    spotted_read : (x : A) (j c : List Tok) → i ≡ c ++ j → ((l : List Tok) → InPlaceOf l j → R (first_spot i) (c ++ l) x l) → IsRead (Spotted R) i x j
    spotted_read x j [] e h = absurd (some (first_spot i) [] x (h [] (inl refl)))
    spotted_read x j (t ∷ c) e h = record {
      taken = t
          ∷ c;
      all = e;
      spells = λ l n. spotted_at (first_spot i) (t ∷ c ++ l) l x (same_spot t c j l e) (h l n);
    }

    spotted_stuck : (f : Fault) (j c : List Tok) → Sample (R nowhere) → i ≡ c ++ j → Completion (R (first_spot i)) f c j → IsStuck (Spotted R) i f j
    spotted_stuck f j (t ∷ c) s e k = record {
      taken = t ∷ c;
      all = e;
      completion = record {
        more = k.more;
        value = k.value;
        permits = k.permits;
        begins = k.begins;
        spells = λ l n. spotted_at (first_spot i) (t ∷ c ++ (k.more ++ l)) l k.value (same_spot t c j (k.more ++ l) e) (k.spells l n);
      };
    }
    spotted_stuck unexpected j [] s e k =
        let P : List Tok → Type 0 = λ j. IsStuck (Spotted R) i unexpected j in subst P e (sound_refuse i (sample_spotted s))
    spotted_stuck (over u) j [] s e k = record {
      taken = [];
      all = e;
      completion = record {
        more = k.more;
        value = k.value;
        permits = k.permits;
        begins = k.begins;
        spells = λ l n. spotted_at (first_spot i) (k.more ++ l) l k.value (permitted_spot u j k.more l k.permits ∙ sym (ap first_spot e))
            (k.spells l n);
      };
    }

    spotted_sound : Sample (R nowhere) → (o : Outcome A) → Sound (R (first_spot i)) i o → Sound (Spotted R) i o
    spotted_sound s (Ok p) h = spotted_read p.0 p.1 h.taken h.all h.spells
    spotted_sound s (Err e) h = spotted_stuck e.0 e.1 h.taken s h.all h.completion

spotted_reaches : {A : Type 0} {S : Spot → Rel A} {i j : List Tok} {x : A} (stops : Option TokenKind → Bool) (g : Spot → Reader A)
    → ((s : Spot) (i j : List Tok) (x : A) → S s i x j → stops (first_kind j) ≡ true → Reaches x j (g s i)) → Spotted S i x j
    → stops (first_kind j) ≡ true → Reaches x j (g (first_spot i) i)
unfolding first_spot
spotted_reaches stops g complete (spotted {q = q} {w = w} {i = i} {j = j} {x = x} h) stop = complete w.spot (tok q w ∷ i) j x h stop

-- What is read with the spot of the next token, where a token is needed to begin it.
pub exact_spotted : {A : Type 0} {R S : Spot → Rel A} {stops first : Option TokenKind → Bool} {g : Spot → Reader A} → first None ≡ false
    → ((s : Spot) → BeginsWith first (R s))
    → ((s : Spot) → Exact (R s) (S s) stops (g s)) → Exact (Spotted R) (Spotted S) stops (steps.spotted g)
exact_spotted {A = A} {R = R} {stops = stops} {first = first} {g = g} none known e = record {
  sound = λ i. spotted_sound R some i (e nowhere).sample (g (first_spot i) i) ((e (first_spot i)).sound i);
  complete = λ i j x h stop. spotted_reaches stops g (λ s. (e s).complete) h stop;
  sample = sample_spotted R some (e nowhere).sample;
}
  where
    some : (s : Spot) (j : List Tok) (x : A) → R s [] x j → ⊥
    some s j x h = let no : first None ≡ true = (known s).known [] j x h in cc

-- ---- forms

-- by one of the forms
abbrev pub OneOf : {A F : Type 0} → (F → Rel A) → Rel A
OneOf {F = F} R i x j = (f : F) × R f i x j

pub sound_form : {A F : Type 0} (R : F → Rel A) (f : F) (i : List Tok) (o : Outcome A) → Sound (R f) i o → Sound (OneOf R) i o
sound_form R f i o s = sound_by (λ i j x h. (f, h)) i o s

pub in_form : {A F : Type 0} (R : F → Rel A) (f : F) (i j : List Tok) (x : A) → R f i x j → OneOf R i x j
in_form R f i j x h = (f, h)

-- A form that begins with a token of its own: what is read after that token.
module _ {A : Type 0} {stops : Option TokenKind → Bool} where
  pub sound_word : (q : TokenKind) {R S T : Rel A} {p : Reader A} → Exact R S stops p → ((i j : List Tok) (x : A) → Word q R i x j → T i x j)
      → (w : Info) (i : List Tok)
      → Sound T (tok q w ∷ i) (p i)
  sound_word q {T = T} {p = p} e into w i = sound_next T (tok q w) i (p i) (λ i j x h. into (tok q w ∷ i) j x (word h)) (e.sound i)

  pub sound_named : {R S : List ℕ → Rel A} {T : Rel A} {g : List ℕ → Reader A} → ((x : List ℕ) → Exact (R x) (S x) stops (g x))
      → ((i j : List Tok) (x : A) → Named R i x j → T i x j) → (w : Info) (i : List Tok) → Sound T (tok k.Name w ∷ i) (g w.text i)
  sound_named {T = T} {g = g} e into w i = sound_next T (tok k.Name w) i (g w.text i) (λ i j x h. into (tok k.Name w ∷ i) j x (named h))
      ((e w.text).sound i)

  pub sound_numbered : {R S : ℕ → Rel A} {T : Rel A} {g : ℕ → Reader A} → ((n : ℕ) → Exact (R n) (S n) stops (g n))
      → ((i j : List Tok) (x : A) → Numbered R i x j → T i x j) → (w : Info) (i : List Tok) → Sound T (tok k.Num w ∷ i) (g w.value i)
  sound_numbered {T = T} {g = g} e into w i = sound_next T (tok k.Num w) i (g w.value i) (λ i j x h. into (tok k.Num w ∷ i) j x (numbered h))
      ((e w.value).sound i)
