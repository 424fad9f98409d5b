-- What the readers of steps read.
use Rattle.std.proofs.Common.{◌≡◌, ℕ, refl, Bool, true, false, List, ◌∷◌, Option, Some}
use Rattle.tht_tree.specs.declared.token.TokenKind.{TokenKind}
use Rattle.tht_tree.specs.declared.token.TokenKind.TheVariants as k
use Rattle.tht_tree.specs.declared.step.StepKind.{StepKind}
use Rattle.tht_tree.specs.declared.step.StepKind.TheVariants as s
use Rattle.tht_tree.specs.Tokens.{Tok, tok, first_kind}
use Rattle.tht_tree.specs.Productions.{Rel, Gives, gives, ◌▸◌, word, Named, named, Numbered, numbered, Sorted}
use Rattle.tht_tree.specs.Grammar as g
use Rattle.tht_tree.specs.Grammar.{Nested, Tree, a_term, a_proof, a_give, StepForm, step_have, step_open_var, step_open_fact, step_unfold, step_fold, step_rewrite, step_use}
use Rattle.tht_grammar.specs.Steps.{Reader, ◌>>=◌, ◌>>◌, pure, same_kind, is, look, rest, expect}
use Rattle.tht_grammar.specs.Reading as r
use Rattle.tht_grammar.proofs.Exact.{Sound, Exact, exact_by, exact_pure, exact_less, sound_refuse}
use Rattle.tht_grammar.proofs.Sequences.{exact_word, exact_named, exact_numbered, exact_sorted, exact_then, exact_before}
use Rattle.tht_grammar.proofs.Choices.{OneOf, sound_form}
use Rattle.tht_grammar.proofs.Constructs.{Constructs, not_star}
use Rattle.tht_grammar.proofs.Terms.{arguments_exact}
use Rattle.tht_grammar.proofs.Forms.{sample_form, exact_any, exact_forms, exact_by_proof, exact_by_give}

-- a statement ends here
abbrev pub at_semicolon : Option TokenKind → Bool
at_semicolon (Some k.Semicolon) = true
at_semicolon _ = false

pub semicolon_star : (o : Option TokenKind) → at_semicolon o ≡ true → not_star o ≡ true
semicolon_star (Some k.Semicolon) h = refl
semicolon_star _ h = cc

-- ---- `open`: with a sort or without

semicolon_colon : (o : Option TokenKind) → at_semicolon o ≡ true → is k.Colon o ≡ false
unfolding same_kind
semicolon_colon (Some k.Semicolon) h = refl
semicolon_colon _ h = cc

module _ (m : ℕ) (x : List ℕ) where
  -- ":" sort, or nothing
  abbrev opened : Bool → Rel StepKind
  opened true = k.Colon ▸ Sorted (λ z. Gives (s.OpenVar m x z))
  opened false = Gives (s.OpenFact m x)

module _ {inner inner' : (n : Nested) → Rel (Tree n)} {readers : (n : Nested) → Reader (Tree n)} (e : Constructs inner inner' readers) where
  module _ (m : ℕ) (x : List ℕ) where
    read_opened : Bool → Reader StepKind
    read_opened true = expect k.Colon >> (r.sort >>= (λ z. pure (s.OpenVar m x z)))
    read_opened false = pure (s.OpenFact m x)

    each_opened : (b : Bool) → Exact (opened m x b) (opened m x b) at_semicolon (read_opened b)
    unfolding read_opened
    each_opened true = exact_any (exact_word refl (exact_sorted (λ z. exact_pure (s.OpenVar m x z))))
    each_opened false = exact_any (exact_pure (s.OpenFact m x))

    by_opened : (b : Bool) (i : List Tok) → Sound (OneOf (opened m x)) i (read_opened b i)
    by_opened b i = sound_form (opened m x) b i (read_opened b i) ((each_opened b).sound i)

    opened_sound : (i : List Tok) → Sound (OneOf (opened m x)) i (r.opened_by readers m x (is k.Colon (first_kind i)) i)
    unfolding read_opened expect same_kind rest
    opened_sound (tok k.Colon w ∷ i) = by_opened true (tok k.Colon w ∷ i)
    opened_sound i = by_opened false i

    same_opened : (b : Bool) (i j : List Tok) (y : StepKind) → opened m x b i y j → at_semicolon (first_kind j) ≡ true
        → r.opened_by readers m x (is k.Colon (first_kind i)) i ≡ read_opened b i
    unfolding read_opened expect same_kind rest
    same_opened true i j y (word h) stop = refl
    same_opened false i j y gives stop = rw (semicolon_colon (first_kind i) stop) refl

    opened_exact : Exact (OneOf (opened m x)) (OneOf (opened m x)) at_semicolon (look (λ o. r.opened_by readers m x (is k.Colon o)))
    opened_exact = exact_forms read_opened each_opened false opened_sound same_opened

  Open : Rel StepKind
  Open = k.Open ▸ Numbered (λ m. k.As ▸ Named (λ x. OneOf (opened m x)))

  open_in : {i j : List Tok} {y : StepKind} → Open i y j → OneOf (g.step_form inner) i y j
  unfolding Open
  open_in (word (numbered (word (named (true, h))))) = (step_open_var, word (numbered (word (named h))))
  open_in (word (numbered (word (named (false, h))))) = (step_open_fact, word (numbered (word (named h))))

  -- the forms, where those of `open` are read alike
  grouped : ((n : Nested) → Rel (Tree n)) → StepForm → Rel StepKind
  grouped rel step_open_var = Open
  grouped rel step_open_fact = Open
  grouped rel f = g.step_form rel f

  into : (f : StepForm) (i j : List Tok) (y : StepKind) → grouped inner f i y j → OneOf (g.step_form inner) i y j
  unfolding grouped
  into step_open_var i j y h = open_in h
  into step_open_fact i j y h = open_in h
  into f i j y h = (f, h)

  out : (f : StepForm) (i j : List Tok) (y : StepKind) → g.step_form inner' f i y j → grouped inner' f i y j
  unfolding grouped Open
  out step_open_var i j y (word (numbered (word (named h)))) = word (numbered (word (named (true, h))))
  out step_open_fact i j y (word (numbered (word (named h)))) = word (numbered (word (named (false, h))))
  out f i j y h = h

  -- what reads each form, and that it reads it
  abbrev read_form : StepForm → Reader StepKind
  read_form step_have = expect k.Have >> r.have readers
  read_form step_open_var = expect k.Open >> r.open_atom readers
  read_form step_open_fact = expect k.Open >> r.open_atom readers
  read_form step_unfold = expect k.Unfold >> r.unfold_atom readers
  read_form step_fold = expect k.Fold >> r.fold readers
  read_form step_rewrite = expect k.Rewrite >> r.rewrite readers
  read_form step_use = expect k.Use >> r.use_lemma readers

  open_exact : Exact Open Open at_semicolon (expect k.Open >> r.open_atom readers)
  unfolding Open r.open_atom
  open_exact = exact_word refl (exact_numbered (λ m. exact_word refl (exact_named (λ x. opened_exact m x))))

  form_exact : (f : StepForm) → Exact (grouped inner f) (grouped inner' f) at_semicolon (read_form f)
  unfolding grouped r.have r.unfold_atom r.fold r.rewrite r.use_lemma
  form_exact step_have = exact_any (exact_word refl (exact_named (λ h. exact_word refl (exact_before refl (e.exact a_term) (λ x.
      exact_by_proof e (λ q. exact_pure (s.Have h x q)))))))
  form_exact step_open_var = open_exact
  form_exact step_open_fact = open_exact
  form_exact step_unfold = exact_any (exact_word refl (exact_numbered (λ m. exact_pure (s.Unfold m))))
  form_exact step_fold = exact_less semicolon_star (exact_word refl (exact_named (λ x. exact_then (arguments_exact e) (λ ts.
      exact_by_give e (λ y. s.Fold x ts y)))))
  form_exact step_rewrite = exact_any (exact_word refl (exact_numbered
      (λ m. exact_numbered (λ n. exact_word refl (exact_before refl (e.exact a_term) (λ x.
      exact_by_proof e (λ q. exact_pure (s.Rewrite m n x q))))))))
  form_exact step_use = exact_less semicolon_star (exact_word refl (exact_named (λ x. exact_then (arguments_exact e) (λ ts.
      exact_by_give e (λ y. s.Use x ts y)))))

  same_form : (f : StepForm) (i j : List Tok) (x : StepKind) → grouped inner' f i x j → at_semicolon (first_kind j) ≡ true
      → r.step_kind readers i ≡ read_form f i
  unfolding grouped Open r.step_kind expect same_kind rest
  same_form step_have i j x (word h) stop = refl
  same_form step_open_var i j x (word h) stop = refl
  same_form step_open_fact i j x (word h) stop = refl
  same_form step_unfold i j x (word h) stop = refl
  same_form step_fold i j x (word h) stop = refl
  same_form step_rewrite i j x (word h) stop = refl
  same_form step_use i j x (word h) stop = refl

  by_form : (f : StepForm) (i : List Tok) → Sound (OneOf (grouped inner)) i (read_form f i)
  by_form f i = sound_form (grouped inner) f i (read_form f i) ((form_exact f).sound i)

  kind_sound : (i : List Tok) → Sound (OneOf (grouped inner)) i (r.step_kind readers i)
  unfolding r.step_kind expect same_kind rest
  kind_sound (tok k.Have w ∷ i) = by_form step_have (tok k.Have w ∷ i)
  kind_sound (tok k.Open w ∷ i) = by_form step_open_var (tok k.Open w ∷ i)
  kind_sound (tok k.Unfold w ∷ i) = by_form step_unfold (tok k.Unfold w ∷ i)
  kind_sound (tok k.Fold w ∷ i) = by_form step_fold (tok k.Fold w ∷ i)
  kind_sound (tok k.Rewrite w ∷ i) = by_form step_rewrite (tok k.Rewrite w ∷ i)
  kind_sound (tok k.Use w ∷ i) = by_form step_use (tok k.Use w ∷ i)
  kind_sound i = sound_refuse i (sample_form (grouped inner) step_unfold (form_exact step_unfold).sample)

  pub step_kind_exact : Exact (OneOf (g.step_form inner)) (OneOf (g.step_form inner')) at_semicolon (r.step_kind readers)
  step_kind_exact = exact_by (λ i j x h. into h.0 i j x h.1) (λ i j x h. (h.0, out h.0 i j x h.1))
      (exact_forms read_form form_exact step_unfold kind_sound same_form)
