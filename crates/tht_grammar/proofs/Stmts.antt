-- What the readers of statements read.
use Rattle.std.proofs.Common.{◌≡◌, ℕ, ◌&&◌, not, refl, arith, true, List, ◌∷◌, Option, Some}
use Rattle.tht_tree.specs.declared.plain.Sort.{Sort}
use Rattle.tht_tree.specs.declared.token.TokenKind.{TokenKind}
use Rattle.tht_tree.specs.declared.token.TokenKind.TheVariants as k
use Rattle.tht_tree.specs.declared.term.Term.{Term}
use Rattle.tht_tree.specs.declared.proof.Proof.{Proof}
use Rattle.tht_tree.specs.declared.body.Stmt.{Stmt}
use Rattle.tht_tree.specs.declared.body.StmtKind.{StmtKind}
use Rattle.tht_tree.specs.declared.body.StmtKind.TheVariants as c
use Rattle.tht_tree.specs.Tokens.{Tok, tok, first_kind}
use Rattle.tht_tree.specs.Productions.{Rel, Gives, gives, ◌▸◌, word, Named, named, Numbered, Sorted, sorted, Part, part, Spotted, spotted, Listed, Entries, Many}
use Rattle.tht_tree.specs.Grammar as g
use Rattle.tht_tree.specs.Grammar.{Nested, Tree, a_term, a_body, dots, StmtForm, stmt_read, stmt_write, stmt_alloc, stmt_free, stmt_publish, stmt_retract, stmt_call, stmt_do, stmt_atomic, stmt_par, stmt_step}
use Rattle.tht_grammar.specs.Steps.{Reader, ◌>>◌, same_kind, look, rest, expect}
use Rattle.tht_grammar.specs.Words.{begins_prim, begins_stmt}
use Rattle.tht_grammar.specs.Reading as r
use Rattle.tht_grammar.proofs.Local.{IsLocal}
use Rattle.tht_grammar.proofs.LocalRules.{takes_ended}
use Rattle.tht_grammar.proofs.Beginnings.{BeginsWith, begins_step, forms_begin, part_begins, spotted_begins, off_begins, step_form_begins, stmt_form_begins, ended_begins}
use Rattle.tht_grammar.proofs.Exact.{Sound, Exact, anywhere, exact_by, exact_part, exact_pure, exact_less, sound_refuse}
use Rattle.tht_grammar.proofs.Sequences.{exact_word, exact_named, exact_sorted, exact_then, exact_before, exact_until, exact_map}
use Rattle.tht_grammar.proofs.Choices.{OneOf, sound_form, exact_spotted}
use Rattle.tht_grammar.proofs.Lists.{exact_entries, exact_listed, exact_repeat}
use Rattle.tht_grammar.proofs.Constructs.{Constructs, term_item, stops_off}
use Rattle.tht_grammar.proofs.Terms.{off_exact, arguments_exact}
use Rattle.tht_grammar.proofs.Forms.{exact_param, sample_form, exact_any, exact_forms, exact_by_proof, exact_by_give, exact_at, at_cell_exact, exact_block}
use Rattle.tht_grammar.proofs.Steps.{at_semicolon, semicolon_star, step_kind_exact}

-- ---- statements that begin with a name

-- after NAME ":" sort "<-"
data TypedForm : Type 0 where
  typed_read : TypedForm
  typed_do : TypedForm
  typed_atomic : TypedForm

-- after NAME "<-"
data MadeForm : Type 0 where
  made_alloc : MadeForm
  made_call : MadeForm

-- after NAME
data BoundForm : Type 0 where
  bound_typed : BoundForm
  bound_made : BoundForm

module _ (rel : (n : Nested) → Rel (Tree n)) where
  abbrev typed_form : List ℕ → Sort → TypedForm → Rel StmtKind
  typed_form x z typed_read = k.Read ▸ Part (rel a_term) (λ y. k.At ▸ Numbered (λ m. k.As ▸ Named
      (λ h. g.ByProof rel (λ q. Gives (c.Read x z y m h q)))))
  typed_form x z typed_do = k.Do ▸ g.Block rel (λ is y post. Gives (c.Do x z is y post))
  typed_form x z typed_atomic = k.Atomic ▸ g.Block rel (λ is y post. Gives (c.Atomic x z is y post))

  abbrev made_form : List ℕ → MadeForm → Rel StmtKind
  made_form x made_alloc = k.Alloc ▸ (k.LParen ▸ Part (Entries 8 (rel a_term) 0) (λ ts. k.RParen ▸ Gives (c.Alloc x ts)))
  made_form x made_call = k.Call ▸ Named (λ f. Part (g.arguments rel) (λ ts. k.LBracket ▸ Part (Listed 64 (rel a_term)) (λ us. k.RBracket ▸
      g.ByGive rel (λ y. Gives (c.Call x f ts us y)))))

  abbrev bound_form : List ℕ → BoundForm → Rel StmtKind
  bound_form x bound_typed = k.Colon ▸ Sorted (λ z. k.LeftArrow ▸ OneOf (typed_form x z))
  bound_form x bound_made = k.LeftArrow ▸ OneOf (made_form x)

  abbrev Bound : Rel StmtKind
  Bound = Named (λ x. OneOf (bound_form x))

  -- the forms, where those that begin with a name are read alike
  abbrev grouped : StmtForm → Rel StmtKind
  grouped stmt_read = Bound
  grouped stmt_alloc = Bound
  grouped stmt_call = Bound
  grouped stmt_do = Bound
  grouped stmt_atomic = Bound
  grouped f = g.stmt_form rel f

  bound_in : {i j : List Tok} {y : StmtKind} → Bound i y j → OneOf (g.stmt_form rel) i y j
  bound_in (named (bound_typed, word (sorted e (word (typed_read, h))))) = (stmt_read, named (word (sorted e (word h))))
  bound_in (named (bound_typed, word (sorted e (word (typed_do, h))))) = (stmt_do, named (word (sorted e (word h))))
  bound_in (named (bound_typed, word (sorted e (word (typed_atomic, h))))) = (stmt_atomic, named (word (sorted e (word h))))
  bound_in (named (bound_made, word (made_alloc, h))) = (stmt_alloc, named (word h))
  bound_in (named (bound_made, word (made_call, h))) = (stmt_call, named (word h))

  into : (f : StmtForm) (i j : List Tok) (y : StmtKind) → grouped f i y j → OneOf (g.stmt_form rel) i y j
  into stmt_read i j y h = bound_in h
  into stmt_alloc i j y h = bound_in h
  into stmt_call i j y h = bound_in h
  into stmt_do i j y h = bound_in h
  into stmt_atomic i j y h = bound_in h
  into f i j y h = (f, h)

  out : (f : StmtForm) (i j : List Tok) (y : StmtKind) → g.stmt_form rel f i y j → grouped f i y j
  out stmt_read i j y (named (word (sorted e (word h)))) = named (bound_typed, word (sorted e (word (typed_read, h))))
  out stmt_do i j y (named (word (sorted e (word h)))) = named (bound_typed, word (sorted e (word (typed_do, h))))
  out stmt_atomic i j y (named (word (sorted e (word h)))) = named (bound_typed, word (sorted e (word (typed_atomic, h))))
  out stmt_alloc i j y (named (word h)) = named (bound_made, word (made_alloc, h))
  out stmt_call i j y (named (word h)) = named (bound_made, word (made_call, h))
  out f i j y h = h

-- no `.` begins a term
prim_off : (o : Option TokenKind) → begins_prim o ≡ true → stops_off o ≡ true
prim_off (Some k.Dot) h = cc
prim_off _ h = refl

module _ {inner inner' : (n : Nested) → Rel (Tree n)} {readers : (n : Nested) → Reader (Tree n)} (e : Constructs inner inner' readers) where
  module _ (x : List ℕ) where
    module _ (z : Sort) where
      read_typed : TypedForm → Reader StmtKind
      read_typed typed_read = expect k.Read >> r.read readers x z
      read_typed typed_do = expect k.Do >> r.do_block readers x z
      read_typed typed_atomic = expect k.Atomic >> r.atomic readers x z

      each_typed : (f : TypedForm) → Exact (typed_form inner x z f) (typed_form inner' x z f) anywhere (read_typed f)
      unfolding read_typed r.read r.do_block r.atomic
      each_typed typed_read = exact_word refl (exact_before refl (e.exact a_term) (λ y. exact_at e (λ m. exact_word refl (exact_named (λ h.
          exact_by_proof e (λ q. exact_pure (c.Read x z y m h q)))))))
      each_typed typed_do = exact_word refl (exact_block e (λ b. exact_pure (c.Do x z b.0 b.1.0 b.1.1)))
      each_typed typed_atomic = exact_word refl (exact_block e (λ b. exact_pure (c.Atomic x z b.0 b.1.0 b.1.1)))

      by_typed : (f : TypedForm) (i : List Tok) → Sound (OneOf (typed_form inner x z)) i (read_typed f i)
      by_typed f i = sound_form (typed_form inner x z) f i (read_typed f i) ((each_typed f).sound i)

      typed_sound : (i : List Tok) → Sound (OneOf (typed_form inner x z)) i (r.typed_by readers x z (first_kind i) i)
      unfolding read_typed expect same_kind rest
      typed_sound (tok k.Read w ∷ i) = by_typed typed_read (tok k.Read w ∷ i)
      typed_sound (tok k.Do w ∷ i) = by_typed typed_do (tok k.Do w ∷ i)
      typed_sound (tok k.Atomic w ∷ i) = by_typed typed_atomic (tok k.Atomic w ∷ i)
      typed_sound i = sound_refuse i (sample_form (typed_form inner x z) typed_do (each_typed typed_do).sample)

      same_typed : (f : TypedForm) (i j : List Tok) (y : StmtKind) → typed_form inner' x z f i y j → anywhere (first_kind j) ≡ true
          → r.typed_by readers x z (first_kind i) i ≡ read_typed f i
      unfolding read_typed expect same_kind rest
      same_typed typed_read i j y (word h) stop = refl
      same_typed typed_do i j y (word h) stop = refl
      same_typed typed_atomic i j y (word h) stop = refl

      after_typed : Exact (OneOf (typed_form inner x z)) (OneOf (typed_form inner' x z)) anywhere (look (r.typed_by readers x z))
      after_typed = exact_forms read_typed each_typed typed_do typed_sound same_typed

    read_made : MadeForm → Reader StmtKind
    read_made made_alloc = expect k.Alloc >> r.alloc readers x
    read_made made_call = expect k.Call >> r.call readers x

    each_made : (f : MadeForm) → Exact (made_form inner x f) (made_form inner' x f) at_semicolon (read_made f)
    unfolding read_made r.alloc r.call
    each_made made_alloc = exact_any (exact_word refl (exact_word refl
        (exact_until refl refl (exact_entries 8 (omega arith) refl (term_item e)) (λ ts. exact_pure (c.Alloc x ts)))))
    each_made made_call = exact_less semicolon_star (exact_word refl (exact_named (λ f. exact_then (arguments_exact e) (λ ts.
        exact_word refl (exact_until refl refl (exact_listed 64 (omega arith) refl (term_item e)) (λ us. exact_by_give e
        (λ y. c.Call x f ts us y)))))))

    by_made : (f : MadeForm) (i : List Tok) → Sound (OneOf (made_form inner x)) i (read_made f i)
    by_made f i = sound_form (made_form inner x) f i (read_made f i) ((each_made f).sound i)

    made_sound : (i : List Tok) → Sound (OneOf (made_form inner x)) i (r.made_by readers x (first_kind i) i)
    unfolding read_made expect same_kind rest
    made_sound (tok k.Alloc w ∷ i) = by_made made_alloc (tok k.Alloc w ∷ i)
    made_sound (tok k.Call w ∷ i) = by_made made_call (tok k.Call w ∷ i)
    made_sound i = sound_refuse i (sample_form (made_form inner x) made_alloc (each_made made_alloc).sample)

    same_made : (f : MadeForm) (i j : List Tok) (y : StmtKind) → made_form inner' x f i y j → at_semicolon (first_kind j) ≡ true
        → r.made_by readers x (first_kind i) i ≡ read_made f i
    unfolding read_made expect same_kind rest
    same_made made_alloc i j y (word h) stop = refl
    same_made made_call i j y (word h) stop = refl

    after_made : Exact (OneOf (made_form inner x)) (OneOf (made_form inner' x)) at_semicolon (look (r.made_by readers x))
    after_made = exact_forms read_made each_made made_alloc made_sound same_made

    read_bound : BoundForm → Reader StmtKind
    read_bound bound_typed = expect k.Colon >> r.typed readers x
    read_bound bound_made = expect k.LeftArrow >> look (r.made_by readers x)

    each_bound : (f : BoundForm) → Exact (bound_form inner x f) (bound_form inner' x f) at_semicolon (read_bound f)
    unfolding read_bound r.typed
    each_bound bound_typed = exact_any (exact_word refl (exact_sorted (λ z. exact_word refl (after_typed z))))
    each_bound bound_made = exact_word refl after_made

    by_bound : (f : BoundForm) (i : List Tok) → Sound (OneOf (bound_form inner x)) i (read_bound f i)
    by_bound f i = sound_form (bound_form inner x) f i (read_bound f i) ((each_bound f).sound i)

    bound_sound : (i : List Tok) → Sound (OneOf (bound_form inner x)) i (r.bound_by readers x (first_kind i) i)
    unfolding read_bound expect same_kind rest
    bound_sound (tok k.Colon w ∷ i) = by_bound bound_typed (tok k.Colon w ∷ i)
    bound_sound (tok k.LeftArrow w ∷ i) = by_bound bound_made (tok k.LeftArrow w ∷ i)
    bound_sound i = sound_refuse i (sample_form (bound_form inner x) bound_typed (each_bound bound_typed).sample)

    same_bound : (f : BoundForm) (i j : List Tok) (y : StmtKind) → bound_form inner' x f i y j → at_semicolon (first_kind j) ≡ true
        → r.bound_by readers x (first_kind i) i ≡ read_bound f i
    unfolding read_bound expect same_kind rest
    same_bound bound_typed i j y (word h) stop = refl
    same_bound bound_made i j y (word h) stop = refl

    after_bound : Exact (OneOf (bound_form inner x)) (OneOf (bound_form inner' x)) at_semicolon (look (r.bound_by readers x))
    after_bound = exact_forms read_bound each_bound bound_typed bound_sound same_bound

  bound_exact : Exact (Bound inner) (Bound inner') at_semicolon (r.bound readers)
  unfolding r.bound
  bound_exact = exact_named after_bound

  -- ---- all statements

  -- what reads each form, and that it reads it
  abbrev read_form : StmtForm → Reader StmtKind
  read_form stmt_write = expect k.Write >> r.write readers
  read_form stmt_free = expect k.Free >> r.at_cell readers c.Free
  read_form stmt_publish = expect k.Publish >> r.at_cell readers c.Publish
  read_form stmt_retract = expect k.Retract >> r.at_cell readers c.Retract
  read_form stmt_par = expect k.LParen >> r.par readers
  read_form stmt_step = r.step readers
  read_form _ = r.bound readers

  at_cell : (node : Term → ℕ → Proof → StmtKind)
      → Exact (Part (inner a_term) (λ x. g.AtCell inner (λ m q. Gives (node x m q)))) (Part (inner' a_term) (λ x. g.AtCell inner'
      (λ m q. Gives (node x m q)))) anywhere (r.at_cell readers node)
  unfolding r.at_cell
  at_cell node = exact_before refl (e.exact a_term) (λ x. at_cell_exact e (node x))

  write_exact : Exact (g.stmt_form inner stmt_write) (g.stmt_form inner' stmt_write) anywhere (expect k.Write >> r.write readers)
  unfolding r.write
  write_exact = exact_word refl (exact_part (off_exact e) (λ x. exact_before refl (off_exact e) (λ y. at_cell_exact e (c.Write x y)))
      (λ i j l x y h s stop. prim_off (first_kind j) ((part_begins (off_begins inner')).known j l y s)))

  step_exact : Exact (g.stmt_form inner stmt_step) (g.stmt_form inner' stmt_step) at_semicolon (r.step readers)
  unfolding r.step
  step_exact = exact_spotted refl (λ spot. part_begins (forms_begin (step_form_begins inner)))
      (λ spot. exact_map (λ x. c.Proof (record { spot = spot; kind = x })) (step_kind_exact e))

  form_exact : (f : StmtForm) → Exact (grouped inner f) (grouped inner' f) at_semicolon (read_form f)
  unfolding r.par
  form_exact stmt_read = bound_exact
  form_exact stmt_write = exact_any write_exact
  form_exact stmt_alloc = bound_exact
  form_exact stmt_free = exact_any (exact_word refl (at_cell c.Free))
  form_exact stmt_publish = exact_any (exact_word refl (at_cell c.Publish))
  form_exact stmt_retract = exact_any (exact_word refl (at_cell c.Retract))
  form_exact stmt_call = bound_exact
  form_exact stmt_do = bound_exact
  form_exact stmt_atomic = bound_exact
  form_exact stmt_par = exact_any (exact_word refl (exact_param
      (λ x. exact_word refl (exact_param (λ y. exact_word refl (exact_word refl (exact_word refl
      (exact_block e (λ b. exact_block e (λ d.
      exact_pure (c.Par x.name x.sort y.name y.sort b.0 b.1.0 b.1.1 d.0 d.1.0 d.1.1)))))))))))
  form_exact stmt_step = step_exact

  -- a step is read where no other word stands
  step_way : (o : Option TokenKind) → begins_step o ≡ true → (i : List Tok) → r.stmt_kind_by readers o i ≡ r.step readers i
  step_way (Some k.Have) h i = refl
  step_way (Some k.Open) h i = refl
  step_way (Some k.Unfold) h i = refl
  step_way (Some k.Fold) h i = refl
  step_way (Some k.Rewrite) h i = refl
  step_way (Some k.Use) h i = refl
  step_way _ h i = cc

  step_word : BeginsWith begins_step (g.stmt_form inner' stmt_step)
  step_word = spotted_begins (λ spot. part_begins (forms_begin (step_form_begins inner')))

  same_form : (f : StmtForm) (i j : List Tok) (x : StmtKind) → grouped inner' f i x j → at_semicolon (first_kind j) ≡ true
      → r.stmt_kind readers i ≡ read_form f i
  unfolding r.stmt_kind expect same_kind rest
  same_form stmt_read i j x (named h) stop = refl
  same_form stmt_write i j x (word h) stop = refl
  same_form stmt_alloc i j x (named h) stop = refl
  same_form stmt_free i j x (word h) stop = refl
  same_form stmt_publish i j x (word h) stop = refl
  same_form stmt_retract i j x (word h) stop = refl
  same_form stmt_call i j x (named h) stop = refl
  same_form stmt_do i j x (named h) stop = refl
  same_form stmt_atomic i j x (named h) stop = refl
  same_form stmt_par i j x (word h) stop = refl
  same_form stmt_step i j x h stop = step_way (first_kind i) (step_word.known i j x h) i

  by_form : (f : StmtForm) (i : List Tok) → Sound (OneOf (grouped inner)) i (read_form f i)
  by_form f i = sound_form (grouped inner) f i (read_form f i) ((form_exact f).sound i)

  kind_sound : (i : List Tok) → Sound (OneOf (grouped inner)) i (r.stmt_kind readers i)
  unfolding r.stmt_kind expect same_kind rest
  kind_sound (tok k.Name w ∷ i) = by_form stmt_read (tok k.Name w ∷ i)
  kind_sound (tok k.LParen w ∷ i) = by_form stmt_par (tok k.LParen w ∷ i)
  kind_sound (tok k.Write w ∷ i) = by_form stmt_write (tok k.Write w ∷ i)
  kind_sound (tok k.Free w ∷ i) = by_form stmt_free (tok k.Free w ∷ i)
  kind_sound (tok k.Publish w ∷ i) = by_form stmt_publish (tok k.Publish w ∷ i)
  kind_sound (tok k.Retract w ∷ i) = by_form stmt_retract (tok k.Retract w ∷ i)
  kind_sound i = by_form stmt_step i

  stmt_kind_exact : Exact (OneOf (g.stmt_form inner)) (OneOf (g.stmt_form inner')) at_semicolon (r.stmt_kind readers)
  stmt_kind_exact = exact_by (λ i j x h. into inner h.0 i j x h.1) (λ i j x h. (h.0, out inner' h.0 i j x h.1))
      (exact_forms read_form form_exact stmt_free kind_sound same_form)

  -- ---- statements with their semicolons

  -- at the spot of its first token, a statement and `;`
  WithEnd : ((n : Nested) → Rel (Tree n)) → Rel Stmt
  WithEnd rel = Spotted (λ spot. Part (OneOf (g.stmt_form rel)) (λ x. k.Semicolon ▸ Gives (record { spot = spot; kind = x })))

  ended_in : {i j : List Tok} {y : Stmt} → WithEnd inner i y j → g.ended inner i y j
  unfolding WithEnd
  ended_in (spotted (part h (word gives))) = part (spotted (part h gives)) (word gives)

  ended_out : {i j : List Tok} {y : Stmt} → g.ended inner' i y j → WithEnd inner' i y j
  unfolding WithEnd
  ended_out (part (spotted (part h gives)) (word gives)) = spotted (part h (word gives))

  ended_exact : Exact (g.ended inner) (g.ended inner') anywhere (r.ended readers)
  unfolding WithEnd r.ended
  ended_exact = exact_by (λ i j x h. ended_in h) (λ i j x h. ended_out h) (exact_spotted refl (λ spot. part_begins
      (forms_begin (stmt_form_begins inner)))
      (λ spot. exact_until refl refl stmt_kind_exact (λ x. exact_pure (record { spot = spot; kind = x }))))

  pub stmts_exact : ((n : Nested) → IsLocal (readers n)) → Exact (Many (g.ended inner)) (Many (g.ended inner')) (λ o. anywhere o && not
      (begins_stmt o)) (r.stmts readers)
  unfolding r.stmts
  stmts_exact local = exact_repeat refl (ended_begins inner') (takes_ended readers local) (λ o h. refl) ended_exact
