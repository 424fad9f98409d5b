-- What the readers of ends and bodies read.
use Rattle.std.proofs.Common.{◌≡◌, ◌&&◌, not, refl, true, List, ◌∷◌, Option}
use Rattle.tht_tree.specs.declared.token.TokenKind.{TokenKind}
use Rattle.tht_tree.specs.declared.token.TokenKind.TheVariants as k
use Rattle.tht_tree.specs.declared.body.Body.{roll-Body}
use Rattle.tht_tree.specs.declared.body.EndKind.{EndKind}
use Rattle.tht_tree.specs.declared.body.EndKind.TheVariants as v
use Rattle.tht_tree.specs.Tokens.{Tok, tok, first_kind}
use Rattle.tht_tree.specs.Productions.{Rel, Gives, ◌▸◌, word, Named, Numbered, numbered, Part}
use Rattle.tht_tree.specs.Grammar as g
use Rattle.tht_tree.specs.Grammar.{Nested, Tree, a_term, a_proof, a_body, EndForm, end_ret, end_if, end_case_atom, end_case_bool, end_case_seq, end_dead}
use Rattle.tht_grammar.specs.Steps.{Reader, ◌>>◌, same_kind, look, rest, expect}
use Rattle.tht_grammar.specs.Words.{begins_stmt}
use Rattle.tht_grammar.specs.Reading as r
use Rattle.tht_grammar.proofs.Local.{IsLocal}
use Rattle.tht_grammar.proofs.Beginnings.{begins_end, end_stmt, part_begins, forms_begin, end_form_begins, end_begins}
use Rattle.tht_grammar.proofs.Exact.{Sound, Exact, anywhere, exact_by, exact_part, exact_pure, sound_refuse}
use Rattle.tht_grammar.proofs.Sequences.{exact_word, exact_named, exact_numbered, exact_then, exact_before, exact_until, exact_map}
use Rattle.tht_grammar.proofs.Choices.{OneOf, sound_form, exact_spotted}
use Rattle.tht_grammar.proofs.Constructs.{Constructs, not_star}
use Rattle.tht_grammar.proofs.Terms.{exact_bracketed}
use Rattle.tht_grammar.proofs.Forms.{sample_form, exact_any, exact_forms, exact_by_give}
use Rattle.tht_grammar.proofs.Stmts.{stmts_exact}

-- ---- ends that begin with `case`

data CaseForm : Type 0 where
  on_atom : CaseForm
  on_bool : CaseForm
  on_seq : CaseForm

module _ (rel : (n : Nested) → Rel (Tree n)) where
  abbrev case_form : CaseForm → Rel EndKind
  case_form on_atom = Numbered (λ m. Part (rel a_body) (λ y. Part (rel a_body) (λ z. Gives (v.CaseAtom m y z))))
  case_form on_bool = g.Bracketed rel (λ x. k.As ▸ Named (λ h. Part (rel a_body) (λ y. Part (rel a_body) (λ z. Gives (v.CaseBool x h y z)))))
  case_form on_seq = k.Seq ▸ Part (rel a_term) (λ x. k.As ▸ Named (λ h. Part (rel a_body) (λ y. Named (λ m. Named (λ n.
      Part (rel a_body) (λ z. Gives (v.CaseSeq x h y m n z)))))))

  abbrev Case : Rel EndKind
  Case = k.Case ▸ OneOf case_form

  -- the forms, where those that begin with `case` are read alike
  abbrev grouped : EndForm → Rel EndKind
  grouped end_case_atom = Case
  grouped end_case_bool = Case
  grouped end_case_seq = Case
  grouped f = g.end_form rel f

  case_in : {i j : List Tok} {y : EndKind} → Case i y j → OneOf (g.end_form rel) i y j
  case_in (word (on_atom, h)) = (end_case_atom, word h)
  case_in (word (on_bool, h)) = (end_case_bool, word h)
  case_in (word (on_seq, h)) = (end_case_seq, word h)

  into : (f : EndForm) (i j : List Tok) (y : EndKind) → grouped f i y j → OneOf (g.end_form rel) i y j
  into end_case_atom i j y h = case_in h
  into end_case_bool i j y h = case_in h
  into end_case_seq i j y h = case_in h
  into f i j y h = (f, h)

  out : (f : EndForm) (i j : List Tok) (y : EndKind) → g.end_form rel f i y j → grouped f i y j
  out end_case_atom i j y (word h) = word (on_atom, h)
  out end_case_bool i j y (word h) = word (on_bool, h)
  out end_case_seq i j y (word h) = word (on_seq, h)
  out f i j y h = h

-- an end begins with no word of a statement
end_not : (o : Option TokenKind) → begins_end o ≡ true → (anywhere o && not (begins_stmt o)) ≡ true
end_not o h = rw (end_stmt o h) refl

module _ {inner inner' : (n : Nested) → Rel (Tree n)} {readers : (n : Nested) → Reader (Tree n)} (e : Constructs inner inner' readers) where
  read_case : CaseForm → Reader EndKind
  read_case on_atom = r.case_atom readers
  read_case on_bool = r.case_bool readers
  read_case on_seq = expect k.Seq >> r.case_seq readers

  each_case : (f : CaseForm) → Exact (case_form inner f) (case_form inner' f) anywhere (read_case f)
  unfolding read_case r.case_atom r.case_bool r.case_seq
  each_case on_atom = exact_numbered (λ m. exact_then (e.exact a_body) (λ y. exact_map (λ z. v.CaseAtom m y z) (e.exact a_body)))
  each_case on_bool = exact_bracketed e (λ x. exact_word refl (exact_named
      (λ h. exact_then (e.exact a_body) (λ y. exact_map (λ z. v.CaseBool x h y z) (e.exact a_body)))))
  each_case on_seq = exact_word refl (exact_until refl refl (e.exact a_term) (λ x. exact_named
      (λ h. exact_then (e.exact a_body) (λ y. exact_named (λ m. exact_named (λ n.
      exact_map (λ z. v.CaseSeq x h y m n z) (e.exact a_body)))))))

  by_case : (f : CaseForm) (i : List Tok) → Sound (OneOf (case_form inner)) i (read_case f i)
  by_case f i = sound_form (case_form inner) f i (read_case f i) ((each_case f).sound i)

  case_sound : (i : List Tok) → Sound (OneOf (case_form inner)) i (r.case_by readers (first_kind i) i)
  unfolding read_case expect same_kind rest
  case_sound (tok k.Num w ∷ i) = by_case on_atom (tok k.Num w ∷ i)
  case_sound (tok k.LBracket w ∷ i) = by_case on_bool (tok k.LBracket w ∷ i)
  case_sound (tok k.Seq w ∷ i) = by_case on_seq (tok k.Seq w ∷ i)
  case_sound i = sound_refuse i (sample_form (case_form inner) on_atom (each_case on_atom).sample)

  same_case : (f : CaseForm) (i j : List Tok) (y : EndKind) → case_form inner' f i y j → anywhere (first_kind j) ≡ true
      → r.case_by readers (first_kind i) i ≡ read_case f i
  unfolding read_case expect same_kind rest
  same_case on_atom i j y (numbered h) stop = refl
  same_case on_bool i j y (word h) stop = refl
  same_case on_seq i j y (word h) stop = refl

  case_exact : Exact (Case inner) (Case inner') anywhere (expect k.Case >> look (r.case_by readers))
  case_exact = exact_word refl (exact_forms read_case each_case on_atom case_sound same_case)

  -- ---- all ends

  -- what reads each form, and that it reads it
  abbrev read_form : EndForm → Reader EndKind
  read_form end_ret = expect k.Ret >> r.ret readers
  read_form end_if = expect k.If >> r.if_else readers
  read_form end_dead = expect k.Dead >> r.dead readers
  read_form _ = expect k.Case >> look (r.case_by readers)

  form_exact : (f : EndForm) → Exact (grouped inner f) (grouped inner' f) not_star (read_form f)
  unfolding r.ret r.if_else r.dead
  form_exact end_ret = exact_word refl (exact_before refl (e.exact a_term) (λ x. exact_by_give e (λ y. v.Ret x y)))
  form_exact end_if = exact_any (exact_word refl (exact_until refl refl (e.exact a_term)
      (λ x. exact_named (λ h. exact_until refl refl (e.exact a_body) (λ y.
      exact_map (λ z. v.If x h y z) (e.exact a_body))))))
  form_exact end_case_atom = exact_any case_exact
  form_exact end_case_bool = exact_any case_exact
  form_exact end_case_seq = exact_any case_exact
  form_exact end_dead = exact_any (exact_word refl (exact_then (e.exact a_proof) (λ q. exact_map (λ y. v.Dead q y) (e.exact a_body))))

  same_form : (f : EndForm) (i j : List Tok) (x : EndKind) → grouped inner' f i x j → not_star (first_kind j) ≡ true
      → r.end_kind readers i ≡ read_form f i
  unfolding r.end_kind expect same_kind rest
  same_form end_ret i j x (word h) stop = refl
  same_form end_if i j x (word h) stop = refl
  same_form end_case_atom i j x (word h) stop = refl
  same_form end_case_bool i j x (word h) stop = refl
  same_form end_case_seq i j x (word h) stop = refl
  same_form end_dead i j x (word h) stop = refl

  by_form : (f : EndForm) (i : List Tok) → Sound (OneOf (grouped inner)) i (read_form f i)
  by_form f i = sound_form (grouped inner) f i (read_form f i) ((form_exact f).sound i)

  kind_sound : (i : List Tok) → Sound (OneOf (grouped inner)) i (r.end_kind readers i)
  unfolding r.end_kind expect same_kind rest
  kind_sound (tok k.Ret w ∷ i) = by_form end_ret (tok k.Ret w ∷ i)
  kind_sound (tok k.If w ∷ i) = by_form end_if (tok k.If w ∷ i)
  kind_sound (tok k.Case w ∷ i) = by_form end_case_atom (tok k.Case w ∷ i)
  kind_sound (tok k.Dead w ∷ i) = by_form end_dead (tok k.Dead w ∷ i)
  kind_sound i = sound_refuse i (sample_form (grouped inner) end_dead (form_exact end_dead).sample)

  end_kind_exact : Exact (OneOf (g.end_form inner)) (OneOf (g.end_form inner')) not_star (r.end_kind readers)
  end_kind_exact = exact_by (λ i j x h. into inner h.0 i j x h.1) (λ i j x h. (h.0, out inner' h.0 i j x h.1))
      (exact_forms read_form form_exact end_dead kind_sound same_form)

  end_exact : Exact (g.end inner) (g.end inner') not_star (r.end readers)
  unfolding r.end
  end_exact = exact_spotted refl (λ spot. part_begins (forms_begin (end_form_begins inner))) (λ spot. exact_map
      (λ x. record { spot = spot; kind = x }) end_kind_exact)

  -- ---- bodies

  pub body_exact : ((n : Nested) → IsLocal (readers n)) → Exact (g.body inner) (g.body inner') anywhere (r.body readers)
  unfolding r.body
  body_exact local = exact_word refl (exact_part (stmts_exact e local)
      (λ xs. exact_until refl refl end_exact (λ y. exact_pure (roll-Body (record { stmts = xs; end = y }))))
      (λ i j l x y h s stop. end_not (first_kind j) ((part_begins (end_begins inner')).known j l y s)))
