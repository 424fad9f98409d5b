-- What the readers of gives read.
use Rattle.std.proofs.Common.{◌≡◌, refl, true, List, ◌∷◌, Option, Some}
use Rattle.tht_tree.specs.declared.plain.Spot.{Spot}
use Rattle.tht_tree.specs.declared.token.TokenKind.{TokenKind}
use Rattle.tht_tree.specs.declared.token.TokenKind.TheVariants as k
use Rattle.tht_tree.specs.declared.give.Give.{Give}
use Rattle.tht_tree.specs.declared.give.GiveKind.{GiveKind}
use Rattle.tht_tree.specs.declared.give.GiveKind.TheVariants as v
use Rattle.tht_tree.specs.Tokens.{Tok, tok, first_kind}
use Rattle.tht_tree.specs.Productions.{Rel, word}
use Rattle.tht_tree.specs.Grammar as g
use Rattle.tht_tree.specs.Grammar.{Nested, Tree, a_term, a_proof, a_give, after_prefix, joins, stars, Wrapping, bare, in_parens, GiveForm, give_emp, give_atom, give_fact, give_ex, give_left, give_right, give_fold}
use Rattle.tht_grammar.specs.Steps.{Reader, ◌>>=◌, ◌>>◌, pure, same_kind, rest, expect, spotted}
use Rattle.tht_grammar.specs.Words.{begins_give}
use Rattle.tht_grammar.specs.Reading as r
use Rattle.tht_grammar.proofs.Beginnings.{BeginsWith, no_paren, not_paren, part_begins, spotted_begins, chain_begins, forms_begin, give_form_begins, gpr_begins}
use Rattle.tht_grammar.proofs.Exact.{Sound, Exact, anywhere, exact_pure, exact_less, sound_refuse}
use Rattle.tht_grammar.proofs.Sequences.{exact_word, exact_numbered, exact_until, exact_map}
use Rattle.tht_grammar.proofs.Choices.{OneOf, sound_form, exact_spotted}
use Rattle.tht_grammar.proofs.Chains.{none, exact_chain}
use Rattle.tht_grammar.proofs.Constructs.{Constructs, not_star}
use Rattle.tht_grammar.proofs.Terms.{exact_bracketed}
use Rattle.tht_grammar.proofs.Forms.{sample_form, exact_forms}

-- a chain of gives ends where no `*` comes
give_ends : (spot : Spot) (o : Option TokenKind) → not_star o ≡ true → none (joins spot o) ≡ true
give_ends spot (Some k.Star) e = cc
give_ends spot _ e = refl

module _ {inner inner' : (n : Nested) → Rel (Tree n)} {readers : (n : Nested) → Reader (Tree n)} (e : Constructs inner inner' readers) where
  -- what reads each form, and that it reads it
  abbrev read_form : GiveForm → Reader GiveKind
  read_form give_emp = expect k.Emp >> pure v.Emp
  read_form give_atom = expect k.AtSign >> (r.number >>= (λ m. pure (v.Atom m)))
  read_form give_fact = expect k.LBracket >> (readers a_proof >>= (λ q. expect k.RBracket >> pure (v.Fact q)))
  read_form give_ex = expect k.Ex >> (r.bracketed readers >>= (λ x. readers after_prefix >>= (λ y. pure (v.Ex x y))))
  read_form give_left = expect k.Left >> (readers after_prefix >>= (λ y. pure (v.Left y)))
  read_form give_right = expect k.Right >> (readers after_prefix >>= (λ y. pure (v.Right y)))
  read_form give_fold = expect k.Fold >> (readers after_prefix >>= (λ y. pure (v.Fold y)))

  form_exact : (f : GiveForm) → Exact (g.give_form inner f) (g.give_form inner' f) anywhere (read_form f)
  form_exact give_emp = exact_word refl (exact_pure v.Emp)
  form_exact give_atom = exact_word refl (exact_numbered (λ m. exact_pure (v.Atom m)))
  form_exact give_fact = exact_word refl (exact_until refl refl (e.exact a_proof) (λ q. exact_pure (v.Fact q)))
  form_exact give_ex = exact_word refl (exact_bracketed e (λ x. exact_map (λ y. v.Ex x y) (e.exact after_prefix)))
  form_exact give_left = exact_word refl (exact_map (λ y. v.Left y) (e.exact after_prefix))
  form_exact give_right = exact_word refl (exact_map (λ y. v.Right y) (e.exact after_prefix))
  form_exact give_fold = exact_word refl (exact_map (λ y. v.Fold y) (e.exact after_prefix))

  same_form : (f : GiveForm) (i j : List Tok) (x : GiveKind) → g.give_form inner' f i x j → anywhere (first_kind j) ≡ true
      → r.give_kind readers i ≡ read_form f i
  unfolding r.give_kind expect same_kind rest
  same_form give_emp i j x (word h) stop = refl
  same_form give_atom i j x (word h) stop = refl
  same_form give_fact i j x (word h) stop = refl
  same_form give_ex i j x (word h) stop = refl
  same_form give_left i j x (word h) stop = refl
  same_form give_right i j x (word h) stop = refl
  same_form give_fold i j x (word h) stop = refl

  by_form : (f : GiveForm) (i : List Tok) → Sound (OneOf (g.give_form inner)) i (read_form f i)
  by_form f i = sound_form (g.give_form inner) f i (read_form f i) ((form_exact f).sound i)

  kind_sound : (i : List Tok) → Sound (OneOf (g.give_form inner)) i (r.give_kind readers i)
  unfolding r.give_kind expect same_kind rest
  kind_sound (tok k.Emp w ∷ i) = by_form give_emp (tok k.Emp w ∷ i)
  kind_sound (tok k.AtSign w ∷ i) = by_form give_atom (tok k.AtSign w ∷ i)
  kind_sound (tok k.LBracket w ∷ i) = by_form give_fact (tok k.LBracket w ∷ i)
  kind_sound (tok k.Ex w ∷ i) = by_form give_ex (tok k.Ex w ∷ i)
  kind_sound (tok k.Left w ∷ i) = by_form give_left (tok k.Left w ∷ i)
  kind_sound (tok k.Right w ∷ i) = by_form give_right (tok k.Right w ∷ i)
  kind_sound (tok k.Fold w ∷ i) = by_form give_fold (tok k.Fold w ∷ i)
  kind_sound i = sound_refuse i (sample_form (g.give_form inner) give_emp (form_exact give_emp).sample)

  kind_exact : Exact (OneOf (g.give_form inner)) (OneOf (g.give_form inner')) anywhere (r.give_kind readers)
  kind_exact = exact_forms read_form form_exact give_emp kind_sound same_form

  -- ---- a gpr: a form, or a give in parentheses

  abbrev read_wrapped : Wrapping → Reader Give
  read_wrapped bare = spotted (λ spot. r.give_kind readers >>= (λ x. pure (record { spot = spot; kind = x })))
  read_wrapped in_parens = expect k.LParen >> (readers a_give >>= (λ x. expect k.RParen >> pure x))

  wrapped_exact : (w : Wrapping) → Exact (g.wrapped_give inner w) (g.wrapped_give inner' w) anywhere (read_wrapped w)
  wrapped_exact bare = exact_spotted refl (λ spot. part_begins (forms_begin (give_form_begins inner))) (λ spot. exact_map
      (λ x. record { spot = spot; kind = x }) kind_exact)
  wrapped_exact in_parens = exact_word refl (exact_until refl refl (e.exact a_give) (λ x. exact_pure x))

  bare_begins : BeginsWith (no_paren begins_give) (g.wrapped_give inner' bare)
  bare_begins = spotted_begins (λ spot. part_begins (forms_begin (give_form_begins inner')))

  same_wrapped : (w : Wrapping) (i j : List Tok) (x : Give) → g.wrapped_give inner' w i x j → anywhere (first_kind j) ≡ true
      → r.gpr readers i ≡ read_wrapped w i
  unfolding r.gpr expect same_kind rest
  same_wrapped bare i j x h stop = rw (not_paren begins_give (first_kind i) (bare_begins.known i j x h)) refl
  same_wrapped in_parens i j x (word h) stop = refl

  by_wrapped : (w : Wrapping) (i : List Tok) → Sound (g.gpr inner) i (read_wrapped w i)
  by_wrapped w i = sound_form (g.wrapped_give inner) w i (read_wrapped w i) ((wrapped_exact w).sound i)

  gpr_sound : (i : List Tok) → Sound (g.gpr inner) i (r.gpr readers i)
  unfolding r.gpr expect same_kind rest
  gpr_sound (tok k.LParen w ∷ i) = by_wrapped in_parens (tok k.LParen w ∷ i)
  gpr_sound i = by_wrapped bare i

  pub gpr_exact : Exact (g.gpr inner) (g.gpr inner') anywhere (r.gpr readers)
  gpr_exact = exact_forms read_wrapped wrapped_exact bare gpr_sound same_wrapped

  -- ---- a give

  pub give_exact : Exact (g.give inner) (g.give inner') not_star (r.give readers)
  unfolding r.give
  give_exact = exact_spotted refl (λ spot. chain_begins (gpr_begins inner)) (λ spot. exact_less (give_ends spot) (exact_chain refl
      (λ o node h. refl) gpr_exact gpr_exact))
