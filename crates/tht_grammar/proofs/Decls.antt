-- What the readers of declarations read.
use Rattle.std.proofs.Common.{◌≡◌, ℕ, refl, Bool, true, false, List, ◌∷◌}
use Rattle.tht_tree.specs.declared.plain.Spot.{Spot}
use Rattle.tht_tree.specs.declared.token.TokenKind.TheVariants as k
use Rattle.tht_tree.specs.declared.assn.Assn.{Assn}
use Rattle.tht_tree.specs.declared.decl.Param.{Param}
use Rattle.tht_tree.specs.declared.decl.Access.{Access}
use Rattle.tht_tree.specs.declared.decl.Access.TheVariants as access
use Rattle.tht_tree.specs.declared.decl.LemmaKind.TheVariants as l
use Rattle.tht_tree.specs.declared.decl.DeclKind.{DeclKind}
use Rattle.tht_tree.specs.declared.decl.DeclKind.TheVariants as d
use Rattle.tht_tree.specs.Tokens.{Tok, tok, first_kind}
use Rattle.tht_tree.specs.Productions.{Rel, Gives, gives, ◌▸◌, word, Named, named, Part, part}
use Rattle.tht_tree.specs.Grammar as g
use Rattle.tht_tree.specs.Grammar.{Nested, Tree, an_assn, a_body, AccessForm, without_shared, with_shared, DeclForm, decl_root, decl_invariant, decl_pred, decl_pred_on, decl_lemma, decl_lemma_seq, decl_lemma_nat, decl_txn, decl_proc}
use Rattle.tht_grammar.specs.Steps.{Reader, ◌>>◌, same_kind, is, look, rest, expect}
use Rattle.tht_grammar.specs.Reading as r
use Rattle.tht_grammar.proofs.Beginnings.{part_begins, forms_begin, decl_form_begins}
use Rattle.tht_grammar.proofs.Exact.{Sound, Exact, anywhere, exact_by, exact_pure, sound_refuse}
use Rattle.tht_grammar.proofs.Sequences.{exact_word, exact_named, exact_then, exact_until, exact_map}
use Rattle.tht_grammar.proofs.Choices.{OneOf, sound_form, exact_spotted}
use Rattle.tht_grammar.proofs.NameLists.{params_exact, logic_exact, initial_exact}
use Rattle.tht_grammar.proofs.Constructs.{stops, Constructs}
use Rattle.tht_grammar.proofs.Assns.{box_exact}
use Rattle.tht_grammar.proofs.Forms.{sample_form, exact_forms, exact_joined, exact_param, by_give_ended}

-- ---- predicates

module _ (rel : (n : Nested) → Rel (Tree n)) where
  -- after NAME params: with `on` or without
  abbrev pred_form : Access → List ℕ → List Param → Bool → Rel DeclKind
  pred_form who x ps true = k.On ▸ Named (λ u. k.Nil ▸ (k.Equal ▸ Part (rel an_assn) (λ y. k.Cons ▸ Named (λ m. Named (λ n. k.Equal ▸
      Part (rel an_assn) (λ z. k.Semicolon ▸ Gives (d.PredOn who x ps u y m n z)))))))
  pred_form who x ps false = k.Equal ▸ Part (rel an_assn) (λ y. k.Semicolon ▸ Gives (d.Pred who x ps y))

  abbrev Pred : Access → Rel DeclKind
  Pred who = k.Pred ▸ Named (λ x. Part g.params (λ ps. OneOf (pred_form who x ps)))

  -- ---- lemmas

  module _ (spot : Spot) (x : List ℕ) (ps : List Param) where
    -- after the two boxes of a lemma by cases: on a sequence or on a number
    abbrev cases_form : List ℕ → Assn → Assn → Bool → Rel DeclKind
    cases_form u pre post true = k.Nil ▸ Part (rel a_body) (λ y. k.Cons ▸ Named (λ m. Named (λ n. Part (rel a_body) (λ z.
        Gives (d.Lemma (record { spot = spot; name = x; params = ps; pre = pre; post = post; kind = l.OnSeq u y m n z }))))))
    cases_form u pre post false = k.Zero ▸ Part (rel a_body) (λ y. k.Next ▸ Named (λ m. Part (rel a_body) (λ z.
        Gives (d.Lemma (record { spot = spot; name = x; params = ps; pre = pre; post = post; kind = l.OnNat u y m z })))))

    -- after NAME params: with `on` or without
    abbrev lemma_form : Bool → Rel DeclKind
    lemma_form true = k.On ▸ Named (λ u. Part (g.box rel) (λ pre. Part (g.box rel) (λ post. OneOf (cases_form u pre post))))
    lemma_form false = Part (g.box rel) (λ pre. Part (g.box rel) (λ post. Part (rel a_body) (λ y.
        Gives (d.Lemma (record { spot = spot; name = x; params = ps; pre = pre; post = post; kind = l.Plain y })))))

  abbrev Lemma : Spot → Rel DeclKind
  Lemma spot = k.Lemma ▸ Named (λ x. Part g.params (λ ps. OneOf (lemma_form spot x ps)))

  -- ---- declarations by their first words

  abbrev word_form : Spot → DeclForm → Rel DeclKind
  word_form spot decl_pred = Pred access.Private
  word_form spot decl_pred_on = k.Shared ▸ Pred access.Shared
  word_form spot decl_lemma = Lemma spot
  word_form spot decl_lemma_seq = Lemma spot
  word_form spot decl_lemma_nat = Lemma spot
  word_form spot f = g.decl_form rel spot f

  pred_in : (spot : Spot) {i j : List Tok} {y : DeclKind} → Pred access.Private i y j → OneOf (g.decl_form rel spot) i y j
  pred_in spot (word (named (part h (true, s)))) = (decl_pred_on, part (without_shared, gives) (word (named (part h s))))
  pred_in spot (word (named (part h (false, s)))) = (decl_pred, part (without_shared, gives) (word (named (part h s))))

  shared_in : (spot : Spot) {i j : List Tok} {y : DeclKind} → (k.Shared ▸ Pred access.Shared) i y j → OneOf (g.decl_form rel spot) i y j
  shared_in spot (word (word (named (part h (true, s))))) = (decl_pred_on, part (with_shared, word gives) (word (named (part h s))))
  shared_in spot (word (word (named (part h (false, s))))) = (decl_pred, part (with_shared, word gives) (word (named (part h s))))

  lemma_in : (spot : Spot) {i j : List Tok} {y : DeclKind} → Lemma spot i y j → OneOf (g.decl_form rel spot) i y j
  lemma_in spot (word (named (part h (true, word (named (part a (part b (true, s)))))))) = (
    decl_lemma_seq,
    word (named
        (part h (word (named (part a (part b s)))))),
  )
  lemma_in spot (word (named (part h (true, word (named (part a (part b (false, s)))))))) = (
    decl_lemma_nat,
    word (named
        (part h (word (named (part a (part b s)))))),
  )
  lemma_in spot (word (named (part h (false, s)))) = (decl_lemma, word (named (part h s)))

  into : (spot : Spot) (f : DeclForm) (i j : List Tok) (y : DeclKind) → word_form spot f i y j → OneOf (g.decl_form rel spot) i y j
  into spot decl_pred i j y h = pred_in spot h
  into spot decl_pred_on i j y h = shared_in spot h
  into spot decl_lemma i j y h = lemma_in spot h
  into spot decl_lemma_seq i j y h = lemma_in spot h
  into spot decl_lemma_nat i j y h = lemma_in spot h
  into spot f i j y h = (f, h)

  pred_out : (spot : Spot) (f : AccessForm) (b : Bool) (who : Access) {i l j : List Tok} {y : DeclKind} → g.access_form rel f i who l
      → (k.Pred ▸ Named (λ x. Part g.params (λ ps. pred_form who x ps b))) l y j → OneOf (word_form spot) i y j
  pred_out spot without_shared b who gives (word (named (part h s))) = (decl_pred, word (named (part h (b, s))))
  pred_out spot with_shared b who (word gives) (word (named (part h s))) = (decl_pred_on, word (word (named (part h (b, s)))))

  out : (spot : Spot) (f : DeclForm) (i j : List Tok) (y : DeclKind) → g.decl_form rel spot f i y j → OneOf (word_form spot) i y j
  out spot decl_pred i j y (part a s) = pred_out spot a.0 false _ a.1 s
  out spot decl_pred_on i j y (part a s) = pred_out spot a.0 true _ a.1 s
  out spot decl_lemma i j y (word (named (part h s))) = (decl_lemma, word (named (part h (false, s))))
  out spot decl_lemma_seq i j y (word (named (part h (word (named (part a (part b s))))))) = (
    decl_lemma,
    word (named
        (part h (true, word (named (part a (part b (true, s))))))),
  )
  out spot decl_lemma_nat i j y (word (named (part h (word (named (part a (part b s))))))) = (
    decl_lemma,
    word (named
        (part h (true, word (named (part a (part b (false, s))))))),
  )
  out spot f i j y h = (f, h)

module _ {inner inner' : (n : Nested) → Rel (Tree n)} {readers : (n : Nested) → Reader (Tree n)} (e : Constructs inner inner' readers) where
  -- ---- predicates

  definition_exact : Exact (k.Equal ▸ inner an_assn) (k.Equal ▸ inner' an_assn) (stops an_assn) (r.definition readers)
  unfolding r.definition
  definition_exact = exact_word refl (e.exact an_assn)

  module _ (who : Access) (x : List ℕ) (ps : List Param) where
    read_pred : Bool → Reader DeclKind
    read_pred true = expect k.On >> r.pred_on readers who x ps
    read_pred false = r.pred_plain readers who x ps

    each_pred : (b : Bool) → Exact (pred_form inner who x ps b) (pred_form inner' who x ps b) anywhere (read_pred b)
    unfolding read_pred r.pred_on r.pred_plain
    each_pred true = exact_word refl (exact_named (λ u. exact_word refl
        (exact_joined (exact_until refl refl definition_exact (λ y. exact_named (λ m. exact_named (λ n.
        exact_joined (exact_until refl refl definition_exact (λ z. exact_pure (d.PredOn who x ps u y m n z))))))))))
    each_pred false = exact_joined (exact_until refl refl definition_exact (λ y. exact_pure (d.Pred who x ps y)))

    by_pred : (b : Bool) (i : List Tok) → Sound (OneOf (pred_form inner who x ps)) i (read_pred b i)
    by_pred b i = sound_form (pred_form inner who x ps) b i (read_pred b i) ((each_pred b).sound i)

    pred_sound : (i : List Tok) → Sound (OneOf (pred_form inner who x ps)) i (r.pred_by readers who x ps (is k.On (first_kind i)) i)
    unfolding read_pred expect same_kind rest
    pred_sound (tok k.On w ∷ i) = by_pred true (tok k.On w ∷ i)
    pred_sound i = by_pred false i

    same_pred : (b : Bool) (i j : List Tok) (y : DeclKind) → pred_form inner' who x ps b i y j → anywhere (first_kind j) ≡ true
        → r.pred_by readers who x ps (is k.On (first_kind i)) i ≡ read_pred b i
    unfolding read_pred expect same_kind rest
    same_pred true i j y (word h) stop = refl
    same_pred false i j y (word h) stop = refl

    after_pred : Exact (OneOf (pred_form inner who x ps)) (OneOf (pred_form inner' who x ps)) anywhere (look (λ o. r.pred_by readers who x ps
        (is k.On o)))
    after_pred = exact_forms read_pred each_pred false pred_sound same_pred

  pred_exact : (who : Access) → Exact (Pred inner who) (Pred inner' who) anywhere (r.pred readers who)
  unfolding r.pred
  pred_exact who = exact_word refl (exact_named (λ x. exact_then params_exact (λ ps. after_pred who x ps)))

  -- ---- lemmas

  module _ (spot : Spot) (x : List ℕ) (ps : List Param) where
    module _ (u : List ℕ) (pre post : Assn) where
      read_cases : Bool → Reader DeclKind
      read_cases true = expect k.Nil >> r.lemma_seq readers spot x ps u pre post
      read_cases false = expect k.Zero >> r.lemma_nat readers spot x ps u pre post

      each_cases : (b : Bool) → Exact (cases_form inner spot x ps u pre post b) (cases_form inner' spot x ps u pre post b) anywhere (read_cases b)
      unfolding read_cases r.lemma_seq r.lemma_nat
      each_cases true = exact_word refl (exact_until refl refl (e.exact a_body) (λ y. exact_named (λ m. exact_named (λ n.
          exact_map (λ z. d.Lemma (record { spot = spot; name = x; params = ps; pre = pre; post = post; kind = l.OnSeq u y m n z }))
          (e.exact a_body)))))
      each_cases false = exact_word refl (exact_until refl refl (e.exact a_body) (λ y. exact_named (λ m.
          exact_map (λ z. d.Lemma (record { spot = spot; name = x; params = ps; pre = pre; post = post; kind = l.OnNat u y m z })) (e.exact a_body))))

      by_cases : (b : Bool) (i : List Tok) → Sound (OneOf (cases_form inner spot x ps u pre post)) i (read_cases b i)
      by_cases b i = sound_form (cases_form inner spot x ps u pre post) b i (read_cases b i) ((each_cases b).sound i)

      cases_sound : (i : List Tok) → Sound (OneOf (cases_form inner spot x ps u pre post)) i (r.lemma_on_by readers spot x ps u pre post
          (first_kind i) i)
      unfolding read_cases expect same_kind rest
      cases_sound (tok k.Nil w ∷ i) = by_cases true (tok k.Nil w ∷ i)
      cases_sound (tok k.Zero w ∷ i) = by_cases false (tok k.Zero w ∷ i)
      cases_sound i = sound_refuse i (sample_form (cases_form inner spot x ps u pre post) true (each_cases true).sample)

      same_cases : (b : Bool) (i j : List Tok) (y : DeclKind) → cases_form inner' spot x ps u pre post b i y j → anywhere (first_kind j) ≡ true
          → r.lemma_on_by readers spot x ps u pre post (first_kind i) i ≡ read_cases b i
      unfolding read_cases expect same_kind rest
      same_cases true i j y (word h) stop = refl
      same_cases false i j y (word h) stop = refl

      after_cases : Exact (OneOf (cases_form inner spot x ps u pre post)) (OneOf (cases_form inner' spot x ps u pre post)) anywhere
          (look (r.lemma_on_by readers spot x ps u pre post))
      after_cases = exact_forms read_cases each_cases true cases_sound same_cases

    read_lemma : Bool → Reader DeclKind
    read_lemma true = expect k.On >> r.lemma_on readers spot x ps
    read_lemma false = r.lemma_plain readers spot x ps

    each_lemma : (b : Bool) → Exact (lemma_form inner spot x ps b) (lemma_form inner' spot x ps b) anywhere (read_lemma b)
    unfolding read_lemma r.lemma_on r.lemma_plain
    each_lemma true = exact_word refl (exact_named (λ u. exact_then (box_exact e) (λ pre. exact_then (box_exact e) (λ post. after_cases u pre post))))
    each_lemma false = exact_then (box_exact e) (λ pre. exact_then (box_exact e) (λ post.
        exact_map (λ y. d.Lemma (record { spot = spot; name = x; params = ps; pre = pre; post = post; kind = l.Plain y })) (e.exact a_body)))

    by_lemma : (b : Bool) (i : List Tok) → Sound (OneOf (lemma_form inner spot x ps)) i (read_lemma b i)
    by_lemma b i = sound_form (lemma_form inner spot x ps) b i (read_lemma b i) ((each_lemma b).sound i)

    lemma_sound : (i : List Tok) → Sound (OneOf (lemma_form inner spot x ps)) i (r.lemma_by readers spot x ps (is k.On (first_kind i)) i)
    unfolding read_lemma expect same_kind rest
    lemma_sound (tok k.On w ∷ i) = by_lemma true (tok k.On w ∷ i)
    lemma_sound i = by_lemma false i

    same_lemma : (b : Bool) (i j : List Tok) (y : DeclKind) → lemma_form inner' spot x ps b i y j → anywhere (first_kind j) ≡ true
        → r.lemma_by readers spot x ps (is k.On (first_kind i)) i ≡ read_lemma b i
    unfolding read_lemma expect same_kind rest
    same_lemma true i j y (word h) stop = refl
    same_lemma false i j y (part (word h) s) stop = refl

    after_lemma : Exact (OneOf (lemma_form inner spot x ps)) (OneOf (lemma_form inner' spot x ps)) anywhere (look (λ o. r.lemma_by readers spot x ps
        (is k.On o)))
    after_lemma = exact_forms read_lemma each_lemma false lemma_sound same_lemma

  lemma_exact : (spot : Spot) → Exact (Lemma inner spot) (Lemma inner' spot) anywhere (expect k.Lemma >> r.lemma_decl readers spot)
  unfolding r.lemma_decl
  lemma_exact spot = exact_word refl (exact_named (λ x. exact_then params_exact (λ ps. after_lemma spot x ps)))

  -- ---- all declarations

  head_exact : Exact (g.head inner) (g.head inner') anywhere (r.head readers)
  unfolding r.head
  head_exact = exact_named (λ x. exact_then params_exact (λ ps. exact_then logic_exact (λ vs. exact_then (box_exact e) (λ pre. exact_param (λ p.
      exact_map (λ post. record { name = x; params = ps; logic = vs; pre = pre; result = p.name; sort = p.sort; post = post }) (box_exact e))))))

  module _ (spot : Spot) where
    -- what reads each form, and that it reads it
    abbrev read_form : DeclForm → Reader DeclKind
    read_form decl_root = expect k.Root >> r.root readers
    read_form decl_invariant = expect k.Invariant >> r.invariant readers
    read_form decl_pred = r.pred readers access.Private
    read_form decl_pred_on = expect k.Shared >> r.pred readers access.Shared
    read_form decl_txn = expect k.Txn >> r.txn readers
    read_form decl_proc = expect k.Proc >> r.proc readers
    read_form _ = expect k.Lemma >> r.lemma_decl readers spot

    form_exact : (f : DeclForm) → Exact (word_form inner spot f) (word_form inner' spot f) anywhere (read_form f)
    unfolding r.root r.invariant r.txn r.proc
    form_exact decl_root = exact_word refl (exact_param (λ x. exact_word refl
        (exact_until refl refl initial_exact (λ y. exact_pure (d.Root x.name x.sort y)))))
    form_exact decl_invariant = exact_word refl (exact_then (box_exact e) (λ x. by_give_ended e (d.Invariant x)))
    form_exact decl_pred = pred_exact access.Private
    form_exact decl_pred_on = exact_word refl (pred_exact access.Shared)
    form_exact decl_lemma = lemma_exact spot
    form_exact decl_lemma_seq = lemma_exact spot
    form_exact decl_lemma_nat = lemma_exact spot
    form_exact decl_txn = exact_word refl (exact_then head_exact (λ x. exact_map (λ y. d.Txn x y) (e.exact a_body)))
    form_exact decl_proc = exact_word refl (exact_then head_exact (λ x. exact_map (λ y. d.Proc x y) (e.exact a_body)))

    same_form : (f : DeclForm) (i j : List Tok) (x : DeclKind) → word_form inner' spot f i x j → anywhere (first_kind j) ≡ true
        → r.decl_kind readers spot i ≡ read_form f i
    unfolding r.decl_kind expect same_kind rest
    same_form decl_root i j x (word h) stop = refl
    same_form decl_invariant i j x (word h) stop = refl
    same_form decl_pred i j x (word h) stop = refl
    same_form decl_pred_on i j x (word h) stop = refl
    same_form decl_lemma i j x (word h) stop = refl
    same_form decl_lemma_seq i j x (word h) stop = refl
    same_form decl_lemma_nat i j x (word h) stop = refl
    same_form decl_txn i j x (word h) stop = refl
    same_form decl_proc i j x (word h) stop = refl

    by_form : (f : DeclForm) (i : List Tok) → Sound (OneOf (word_form inner spot)) i (read_form f i)
    by_form f i = sound_form (word_form inner spot) f i (read_form f i) ((form_exact f).sound i)

    kind_sound : (i : List Tok) → Sound (OneOf (word_form inner spot)) i (r.decl_kind readers spot i)
    unfolding r.decl_kind expect same_kind rest
    kind_sound (tok k.Root w ∷ i) = by_form decl_root (tok k.Root w ∷ i)
    kind_sound (tok k.Invariant w ∷ i) = by_form decl_invariant (tok k.Invariant w ∷ i)
    kind_sound (tok k.Shared w ∷ i) = by_form decl_pred_on (tok k.Shared w ∷ i)
    kind_sound (tok k.Pred w ∷ i) = by_form decl_pred (tok k.Pred w ∷ i)
    kind_sound (tok k.Lemma w ∷ i) = by_form decl_lemma (tok k.Lemma w ∷ i)
    kind_sound (tok k.Txn w ∷ i) = by_form decl_txn (tok k.Txn w ∷ i)
    kind_sound (tok k.Proc w ∷ i) = by_form decl_proc (tok k.Proc w ∷ i)
    kind_sound i = sound_refuse i (sample_form (word_form inner spot) decl_root (form_exact decl_root).sample)

    decl_kind_exact : Exact (OneOf (g.decl_form inner spot)) (OneOf (g.decl_form inner' spot)) anywhere (r.decl_kind readers spot)
    decl_kind_exact = exact_by (λ i j x h. into inner spot h.0 i j x h.1) (λ i j x h. out inner' spot h.0 i j x h.1)
        (exact_forms read_form form_exact decl_root kind_sound same_form)

  pub decl_exact : Exact (g.decl inner) (g.decl inner') anywhere (r.decl readers)
  unfolding r.decl
  decl_exact = exact_spotted refl (λ spot. part_begins (forms_begin (decl_form_begins inner spot)))
      (λ spot. exact_map (λ x. record { spot = spot; kind = x }) (decl_kind_exact spot))
