-- The readers of terms are exact, where those of the constructs inside are.
use Rattle.std.proofs.Common.{◌≡◌, sym, subst, refl, arith, Bool, true, false, inl, List, [], ◌∷◌, Option, Some, None}
use Rattle.tht_tree.specs.declared.token.TokenKind.{TokenKind}
use Rattle.tht_tree.specs.declared.token.TokenKind.TheVariants as k
use Rattle.tht_tree.specs.declared.term.Term.{Term}
use Rattle.tht_tree.specs.declared.term.Term.TheVariants as t
use Rattle.tht_tree.specs.Tokens.{Info, Tok, tok, first_kind}
use Rattle.tht_tree.specs.Productions.{Rel, Gives, gives, Word, word, named, numbered, Part, part}
use Rattle.tht_tree.specs.Grammar as g
use Rattle.tht_tree.specs.Grammar.{Nested, Tree, a_term, after_not, after_link, after_len, PrimForm, prim_num, prim_true, prim_false, prim_null, prim_nil, prim_name, prim_unit, prim_paren, prim_len, NegForm, neg_not, neg_cmp, implies, ors, ands, compares, links, adds, muls, dots}
use Rattle.tht_grammar.specs.Steps.{Reader, ◌>>=◌, ◌>>◌, pure, same_kind, is, rest, first_value, first_text, expect}
use Rattle.tht_grammar.specs.Words.{begins_prim, begins_term}
use Rattle.tht_grammar.specs.Reading as r
use Rattle.tht_grammar.proofs.Bools.{left_true}
use Rattle.tht_grammar.proofs.Beginnings.{cmp_begins}
use Rattle.tht_grammar.proofs.Exact.{Sound, Sample, blank, Reaches, Exact, anywhere, exact_pure, exact_by, sound_refuse, sample_by}
use Rattle.tht_grammar.proofs.Sequences.{same_is, same_self, sound_one, exact_word, exact_then, exact_until, exact_map}
use Rattle.tht_grammar.proofs.Choices.{sound_form, in_form, sound_word}
use Rattle.tht_grammar.proofs.Chains.{none, StopsAt, exact_chain, exact_optional}
use Rattle.tht_grammar.proofs.Lists.{exact_listed}
use Rattle.tht_grammar.proofs.NameLists.{exact_offset}
use Rattle.tht_grammar.proofs.Constructs.{Constructs, term_item, stops_off, stops_prod, stops_sum, stops_app, stops_cmp, stops_conj, stops_disj, stops_term}

-- ---- each level stops before its own operators

muls_stop : StopsAt stops_off muls
muls_stop (Some k.Star) node h = refl
muls_stop _ node h = cc

adds_stop : StopsAt stops_prod adds
adds_stop (Some k.Plus) node h = refl
adds_stop (Some k.Minus) node h = refl
adds_stop _ node h = cc

links_stop : StopsAt stops_sum links
links_stop (Some k.Link) node h = refl
links_stop (Some k.Join) node h = refl
links_stop _ node h = cc

compares_stop : StopsAt stops_app compares
compares_stop (Some k.Equal) node h = refl
compares_stop (Some k.Less) node h = refl
compares_stop (Some k.LessEqual) node h = refl
compares_stop _ node h = cc

ands_stop : StopsAt stops_cmp ands
ands_stop (Some k.And) node h = refl
ands_stop _ node h = cc

ors_stop : StopsAt stops_conj ors
ors_stop (Some k.Or) node h = refl
ors_stop _ node h = cc

implies_stop : StopsAt stops_disj implies
implies_stop (Some k.Imp) node h = refl
implies_stop _ node h = cc

-- what begins a term closes no parenthesis
no_paren : (o : Option TokenKind) → begins_term o ≡ true → is k.RParen o ≡ false
unfolding same_kind
no_paren (Some k.RParen) h = cc
no_paren (Some _) h = refl
no_paren None h = cc

no_not : (o : Option TokenKind) → begins_prim o ≡ true → is k.Not o ≡ false
unfolding same_kind
no_not (Some k.Not) h = cc
no_not (Some _) h = refl
no_not None h = cc

module _ {inner inner' : (n : Nested) → Rel (Tree n)} {readers : (n : Nested) → Reader (Tree n)} (c : Constructs inner inner' readers) where
  -- ---- prim

  -- what follows an opening parenthesis
  paren_exact : Exact (Part (inner a_term) (λ x. Word k.RParen (Gives x))) (Part (inner' a_term) (λ x. Word k.RParen (Gives x))) anywhere
      (readers a_term >>= (λ x. expect k.RParen >> pure x))
  paren_exact = exact_until refl refl (c.exact a_term) (λ x. exact_pure x)

  len_exact : Exact (Part (inner after_len) (λ x. Gives (t.Len x))) (Part (inner' after_len) (λ x. Gives (t.Len x))) anywhere
      (readers after_len >>= (λ x. pure (t.Len x)))
  len_exact = exact_map t.Len (c.exact after_len)

  prim_sample : Sample (g.prim inner)
  prim_sample = record {
    more = tok k.Num blank
        ∷ [];
    value = t.Num 0;
    blanks = (refl, tt);
    begins = λ l n. refl;
    spells = λ l n. (prim_num, numbered gives);
  }

  closed_sound : (w : Info) (i : List Tok) (b : Bool) → is k.RParen (first_kind i) ≡ b
      → Sound (g.prim inner) (tok k.LParen w ∷ i) (r.after_paren readers b i)
  unfolding rest
  closed_sound w [] true h = cc
  closed_sound w (tok q v ∷ i) true h = record {
    taken = tok k.LParen w ∷ tok q v
        ∷ [];
    all = refl;
    spells = λ l n. (prim_unit, word (rw (same_is q k.RParen h) (word gives)));
  }
  closed_sound w i false h = sound_word k.LParen paren_exact (in_form (g.prim_form inner) prim_paren) w i

  prim_sound : (i : List Tok) → Sound (g.prim inner) i (r.prim readers i)
  unfolding r.prim r.closed rest first_value first_text
  prim_sound [] = sound_refuse [] prim_sample
  prim_sound (tok k.Num w ∷ i) = sound_one (tok k.Num w) i (t.Num w.value) (λ l. (prim_num, numbered gives))
  prim_sound (tok k.True w ∷ i) = sound_one (tok k.True w) i t.True (λ l. (prim_true, word gives))
  prim_sound (tok k.False w ∷ i) = sound_one (tok k.False w) i t.False (λ l. (prim_false, word gives))
  prim_sound (tok k.Null w ∷ i) = sound_one (tok k.Null w) i t.Null (λ l. (prim_null, word gives))
  prim_sound (tok k.Nil w ∷ i) = sound_one (tok k.Nil w) i t.Nil (λ l. (prim_nil, word gives))
  prim_sound (tok k.Name w ∷ i) = sound_one (tok k.Name w) i (t.Var w.text) (λ l. (prim_name, named gives))
  prim_sound (tok k.LParen w ∷ i) = closed_sound w i (is k.RParen (first_kind i)) refl
  prim_sound (tok k.Len w ∷ i) = sound_word k.Len len_exact (in_form (g.prim_form inner) prim_len) w i
  prim_sound (tok _ w ∷ i) = sound_refuse _ prim_sample

  paren_first : {i j : List Tok} {x : Term} → Part (inner' a_term) (λ x. Word k.RParen (Gives x)) i x j → is k.RParen (first_kind i) ≡ false
  paren_first (part h s) = no_paren _ ((c.known_too a_term).known _ _ _ h)

  prim_reaches : (f : PrimForm) (i j : List Tok) (x : Term) → g.prim_form inner' f i x j → Reaches x j (r.prim readers i)
  unfolding r.prim r.closed rest first_value first_text
  prim_reaches prim_num _ _ _ (numbered gives) = inl refl
  prim_reaches prim_true _ _ _ (word gives) = inl refl
  prim_reaches prim_false _ _ _ (word gives) = inl refl
  prim_reaches prim_null _ _ _ (word gives) = inl refl
  prim_reaches prim_nil _ _ _ (word gives) = inl refl
  prim_reaches prim_name _ _ _ (named gives) = inl refl
  prim_reaches prim_unit _ _ _ (word (word gives)) = rw (same_self k.RParen) (inl refl)
  prim_reaches prim_paren _ j x (word {i = i} h) = rw (paren_first h) (paren_exact.complete i j x h refl)
  prim_reaches prim_len _ j x (word {i = i} h) = len_exact.complete i j x h refl

  pub prim_exact : Exact (g.prim inner) (g.prim inner') anywhere (r.prim readers)
  prim_exact = record { sound = prim_sound; complete = λ i j x h stop. prim_reaches h.0 i j x h.1; sample = prim_sample }

  -- ---- chains and optional parts

  pub off_exact : Exact (g.off inner) (g.off inner') stops_off (r.off readers)
  unfolding r.off
  off_exact = exact_chain refl (λ o node h. refl) prim_exact exact_offset

  pub prod_exact : Exact (g.prod inner) (g.prod inner') stops_prod (r.prod readers)
  unfolding r.prod
  prod_exact = exact_chain refl muls_stop off_exact off_exact

  pub sum_exact : Exact (g.sum inner) (g.sum inner') stops_sum (r.sum readers)
  unfolding r.sum
  sum_exact = exact_chain refl adds_stop prod_exact prod_exact

  pub app_exact : Exact (g.app inner) (g.app inner') stops_app (r.app readers)
  unfolding r.app
  app_exact = exact_optional refl links_stop (λ o h. h) sum_exact (c.exact after_link)

  pub cmp_exact : Exact (g.cmp inner) (g.cmp inner') stops_cmp (r.cmp readers)
  unfolding r.cmp
  cmp_exact = exact_optional refl compares_stop (λ o h. left_true (stops_app o) (none (compares o)) h) app_exact app_exact

  -- ---- neg

  not_exact : Exact (Part (inner after_not) (λ x. Gives (t.Not x))) (Part (inner' after_not) (λ x. Gives (t.Not x))) stops_cmp
      (readers after_not >>= (λ x. pure (t.Not x)))
  not_exact = exact_map t.Not (c.exact after_not)

  neg_at : (q : TokenKind) (w : Info) (i : List Tok) (b : Bool) → same_kind q k.Not ≡ b
      → Sound (g.neg inner) (tok q w ∷ i) (r.neg_by readers b (tok q w ∷ i))
  unfolding rest
  neg_at q w i true h = let P : TokenKind → Type 0 = λ q. Sound (g.neg inner) (tok q w ∷ i) (r.neg_by readers true (tok q w ∷ i)) in
      subst P (sym (same_is q k.Not h)) (sound_word k.Not not_exact (in_form (g.neg_form inner) neg_not) w i)
  neg_at q w i false h = sound_form (g.neg_form inner) neg_cmp (tok q w ∷ i) (r.cmp readers (tok q w ∷ i)) (cmp_exact.sound (tok q w ∷ i))

  neg_sound : (i : List Tok) → Sound (g.neg inner) i (r.neg readers i)
  unfolding r.neg
  neg_sound [] = sound_form (g.neg_form inner) neg_cmp [] (r.cmp readers []) (cmp_exact.sound [])
  neg_sound (tok q w ∷ i) = neg_at q w i (same_kind q k.Not) refl

  neg_reaches : (f : NegForm) (i j : List Tok) (x : Term) → g.neg_form inner' f i x j → stops_cmp (first_kind j) ≡ true
      → Reaches x j (r.neg readers i)
  unfolding r.neg rest
  neg_reaches neg_not _ j x (word {i = i} h) stop = rw (same_self k.Not) (not_exact.complete i j x h stop)
  neg_reaches neg_cmp i j x h stop = rw (no_not (first_kind i) ((cmp_begins inner').known i j x h)) (cmp_exact.complete i j x h stop)

  pub neg_exact : Exact (g.neg inner) (g.neg inner') stops_cmp (r.neg readers)
  neg_exact = record {
    sound = neg_sound;
    complete = λ i j x h stop. neg_reaches h.0 i j x h.1 stop;
    sample = sample_by
        (in_form (g.neg_form inner) neg_cmp) cmp_exact.sample;
  }

  pub conj_exact : Exact (g.conj inner) (g.conj inner') stops_conj (r.conj readers)
  unfolding r.conj
  conj_exact = exact_chain refl ands_stop neg_exact neg_exact

  pub disj_exact : Exact (g.disj inner) (g.disj inner') stops_disj (r.disj readers)
  unfolding r.disj
  disj_exact = exact_chain refl ors_stop conj_exact conj_exact

  pub term_exact : Exact (g.term inner) (g.term inner') stops_term (r.term readers)
  unfolding r.term
  term_exact = exact_optional refl implies_stop (λ o h. h) disj_exact (c.exact a_term)

  -- ---- terms in parentheses and brackets

  pub arguments_exact : Exact (g.arguments inner) (g.arguments inner') anywhere (r.arguments readers)
  unfolding r.arguments
  arguments_exact = exact_word refl (exact_until refl refl (exact_listed 64 (omega arith) refl (term_item c)) (λ ts. exact_pure ts))

  pub bracketed_exact : Exact (g.Bracketed inner (λ x. Gives x)) (g.Bracketed inner' (λ x. Gives x)) anywhere (r.bracketed readers)
  unfolding r.bracketed
  bracketed_exact = exact_word refl (exact_until refl refl (c.exact a_term) (λ x. exact_pure x))

-- a part in brackets, and what follows it
bracketed_in : {A : Type 0} (inner : (n : Nested) → Rel (Tree n)) {R : Term → Rel A} {i j : List Tok} {x : A}
    → Part (g.Bracketed inner (λ x. Gives x)) R i x j → g.Bracketed inner R i x j
bracketed_in inner (part (word (part h (word gives))) s) = word (part h (word s))

bracketed_out : {A : Type 0} (inner : (n : Nested) → Rel (Tree n)) {R : Term → Rel A} {i j : List Tok} {x : A} → g.Bracketed inner R i x j
    → Part (g.Bracketed inner (λ x. Gives x)) R i x j
bracketed_out inner (word (part h (word s))) = part (word (part h (word gives))) s

pub exact_bracketed : {A : Type 0} {inner inner' : (n : Nested) → Rel (Tree n)} {readers : (n : Nested) → Reader (Tree n)}
    {R S : Term → Rel A} {stops : Option TokenKind → Bool} {p : Term → Reader A}
    → Constructs inner inner' readers → ((x : Term) → Exact (R x) (S x) stops (p x))
    → Exact (g.Bracketed inner R) (g.Bracketed inner' S) stops (r.bracketed readers >>= p)
exact_bracketed {inner = inner} {inner' = inner'} c e = exact_by (λ i j x h. bracketed_in inner h) (λ i j x h. bracketed_out inner' h)
    (exact_then (bracketed_exact c) e)
