-- What the readers of proofs read.
use Rattle.std.proofs.Common.{◌≡◌, ℕ, refl, sym, subst, arith, Bool, true, List, ◌∷◌, Option}
use Rattle.tht_tree.specs.declared.token.TokenKind.{TokenKind}
use Rattle.tht_tree.specs.declared.token.TokenKind.TheVariants as k
use Rattle.tht_tree.specs.declared.term.Term.{Term}
use Rattle.tht_tree.specs.declared.proof.Proof.{Proof}
use Rattle.tht_tree.specs.declared.proof.ProofKind.{ProofKind}
use Rattle.tht_tree.specs.declared.proof.ProofKind.TheVariants as p
use Rattle.tht_tree.specs.declared.proof.LinEntry.{roll-LinEntry}
use Rattle.tht_tree.specs.Tokens.{Info, Tok, tok, first_kind}
use Rattle.tht_tree.specs.Productions.{Rel, Gives, word, Part}
use Rattle.tht_tree.specs.Grammar as g
use Rattle.tht_tree.specs.Grammar.{Nested, Tree, a_term, a_proof, Wrapping, bare, in_parens, ProofForm, proof_hyp, proof_refl, proof_calc, proof_as, proof_sym, proof_both, proof_subst, proof_pair, proof_fst, proof_snd, proof_inl, proof_inr, proof_cases, proof_fun, proof_app, proof_neg, proof_absurd, proof_em, proof_lin, proof_monus, proof_head, proof_tail, proof_nocons, proof_apart, proof_nonnull, proof_lemma, proof_todo}
use Rattle.tht_grammar.specs.Steps.{Reader, ◌>>=◌, ◌>>◌, pure, same_kind, is, rest, first_value, expect, spotted}
use Rattle.tht_grammar.specs.Words.{begins_proof}
use Rattle.tht_grammar.specs.Reading as r
use Rattle.tht_grammar.proofs.Beginnings.{BeginsWith, no_paren, not_paren, part_begins, spotted_begins, forms_begin, lin_entry_begins, proof_form_begins}
use Rattle.tht_grammar.proofs.Exact.{Sound, Exact, anywhere, exact_pure, sound_refuse}
use Rattle.tht_grammar.proofs.Sequences.{same_is, exact_word, exact_named, exact_numbered, exact_sorted, exact_then, exact_until, exact_map}
use Rattle.tht_grammar.proofs.Choices.{OneOf, sound_form, exact_spotted}
use Rattle.tht_grammar.proofs.Lists.{Begun, begun_of, IsItem, exact_listed}
use Rattle.tht_grammar.proofs.Constructs.{Constructs}
use Rattle.tht_grammar.proofs.Terms.{exact_bracketed, arguments_exact}
use Rattle.tht_grammar.proofs.Forms.{sample_form, exact_forms, exact_case}

module _ {inner inner' : (n : Nested) → Rel (Tree n)} {readers : (n : Nested) → Reader (Tree n)} (e : Constructs inner inner' readers) where
  bracketed : {A : Type 0} {R S : Term → Rel A} {after : Option TokenKind → Bool} {more : Term → Reader A}
      → ((x : Term) → Exact (R x) (S x) after (more x))
      → Exact (g.Bracketed inner R) (g.Bracketed inner' S) after (r.bracketed readers >>= more)
  bracketed f = exact_bracketed e f

  case : {A : Type 0} {R S : List ℕ → Proof → Rel A} {after : Option TokenKind → Bool} {more : List ℕ × Proof → Reader A}
      → ((b : List ℕ × Proof) → Exact (R b.0 b.1) (S b.0 b.1) after (more b))
      → Exact (g.Case inner R) (g.Case inner' S) after (r.case readers >>= more)
  case f = exact_case e f

  over_one : (node : Proof → ProofKind) → Exact (Part (inner a_proof) (λ q. Gives (node q))) (Part (inner' a_proof) (λ q. Gives (node q))) anywhere
      (r.over_one readers node)
  unfolding r.over_one
  over_one node = exact_map node (e.exact a_proof)

  over_two : (node : Proof → Proof → ProofKind)
      → Exact (Part (inner a_proof) (λ q. Part (inner a_proof) (λ s. Gives (node q s)))) (Part (inner' a_proof) (λ q. Part (inner' a_proof)
      (λ s. Gives (node q s)))) anywhere (r.over_two readers node)
  unfolding r.over_two
  over_two node = exact_then (e.exact a_proof) (λ q. exact_map (node q) (e.exact a_proof))

  of_over_one : (node : Term → Proof → ProofKind)
      → Exact (g.Bracketed inner (λ x. Part (inner a_proof) (λ q. Gives (node x q)))) (g.Bracketed inner' (λ x. Part (inner' a_proof)
      (λ q. Gives (node x q)))) anywhere (r.of_over_one readers node)
  unfolding r.of_over_one
  of_over_one node = bracketed (λ x. exact_map (node x) (e.exact a_proof))

  of_over_two : (node : Term → Proof → Proof → ProofKind)
      → Exact (g.Bracketed inner (λ x. Part (inner a_proof) (λ q. Part (inner a_proof) (λ s. Gives (node x q s)))))
      (g.Bracketed inner' (λ x. Part (inner' a_proof) (λ q. Part (inner' a_proof) (λ s. Gives (node x q s))))) anywhere (r.of_over_two readers node)
  unfolding r.of_over_two
  of_over_two node = bracketed (λ x. exact_then (e.exact a_proof) (λ q. exact_map (node x q) (e.exact a_proof)))

  of_two_over_one : (node : Term → Term → Proof → ProofKind)
      → Exact (g.Bracketed inner (λ x. g.Bracketed inner (λ y. Part (inner a_proof) (λ q. Gives (node x y q)))))
      (g.Bracketed inner' (λ x. g.Bracketed inner' (λ y. Part (inner' a_proof) (λ q. Gives (node x y q))))) anywhere (r.of_two_over_one readers node)
  unfolding r.of_two_over_one
  of_two_over_one node = bracketed (λ x. bracketed (λ y. exact_map (node x y) (e.exact a_proof)))

  -- the entries of `lin`
  entry_exact : Exact (g.lin_entry inner) (g.lin_entry inner') anywhere (r.lin_entry readers)
  unfolding r.lin_entry
  entry_exact = exact_numbered (λ m. bracketed (λ x. exact_map (λ q. roll-LinEntry (record { multiplier = m; fact = x; proof = q }))
      (e.exact a_proof)))

  entry_begun : (w : Info) → Begun (g.lin_entry inner) (tok k.Num w)
  unfolding r.lin_entry r.number r.bracketed same_kind expect rest first_value
  entry_begun w = begun_of entry_exact (tok k.Num w) refl

  entry_item : IsItem (is k.Num) (g.lin_entry inner) (g.lin_entry inner') anywhere (r.lin_entry readers)
  entry_item = record {
    exact = entry_exact;
    begins_none = refl;
    known = lin_entry_begins inner;
    known_too = lin_entry_begins inner';
    ready = λ i j x h q w b. let P : TokenKind → Type 0 = λ q. Begun (g.lin_entry inner) (tok q w) in subst P (sym (same_is q k.Num b))
        (entry_begun w);
  }

  -- what reads each form, and that it reads it
  abbrev read_form : ProofForm → Reader ProofKind
  read_form proof_hyp = expect k.Hyp >> (r.hyp readers)
  read_form proof_refl = expect k.Refl >> (pure p.Refl)
  read_form proof_calc = expect k.Calc >> (pure p.Calc)
  read_form proof_as = expect k.As >> (r.of_over_one readers p.Recast)
  read_form proof_sym = expect k.Sym >> (r.over_one readers p.Sym)
  read_form proof_both = expect k.Both >> (r.over_two readers p.Both)
  read_form proof_subst = expect k.Subst >> (r.subst readers)
  read_form proof_pair = expect k.Pair >> (r.over_two readers p.Pair)
  read_form proof_fst = expect k.Fst >> (r.of_over_one readers p.Fst)
  read_form proof_snd = expect k.Snd >> (r.of_over_one readers p.Snd)
  read_form proof_inl = expect k.Inl >> (r.over_one readers p.Inl)
  read_form proof_inr = expect k.Inr >> (r.over_one readers p.Inr)
  read_form proof_cases = expect k.Cases >> (r.cases readers)
  read_form proof_fun = expect k.Fun >> (r.fun readers)
  read_form proof_app = expect k.App >> (r.of_over_two readers p.App)
  read_form proof_neg = expect k.Neg >> (r.of_over_two readers p.Neg)
  read_form proof_absurd = expect k.Absurd >> (r.over_one readers p.Absurd)
  read_form proof_em = expect k.Em >> (r.em readers)
  read_form proof_lin = expect k.Lin >> (r.lin readers)
  read_form proof_monus = expect k.Monus >> (r.over_one readers p.Monus)
  read_form proof_head = expect k.Head >> (r.of_two_over_one readers p.Head)
  read_form proof_tail = expect k.Tail >> (r.of_two_over_one readers p.Tail)
  read_form proof_nocons = expect k.Nocons >> (pure p.Nocons)
  read_form proof_apart = expect k.Apart >> (r.apart readers)
  read_form proof_nonnull = expect k.Nonnull >> (r.nonnull readers)
  read_form proof_lemma = expect k.Lemma >> (r.lemma readers)
  read_form proof_todo = expect k.Todo >> (pure p.Todo)

  form_exact : (f : ProofForm) → Exact (g.proof_form inner f) (g.proof_form inner' f) anywhere (read_form f)
  unfolding same_kind r.hyp r.subst r.cases r.fun r.em r.lin r.apart r.nonnull r.lemma
  form_exact proof_hyp = exact_word refl (exact_named (λ h. exact_pure (p.Hyp h)))
  form_exact proof_refl = exact_word refl (exact_pure p.Refl)
  form_exact proof_calc = exact_word refl (exact_pure p.Calc)
  form_exact proof_as = exact_word refl (of_over_one p.Recast)
  form_exact proof_sym = exact_word refl (over_one p.Sym)
  form_exact proof_both = exact_word refl (over_two p.Both)
  form_exact proof_subst = exact_word refl (exact_word refl (exact_named
      (λ x. exact_word refl (exact_sorted (λ z. exact_word refl (exact_until refl refl (e.exact a_term) (λ y.
      bracketed (λ old. bracketed (λ new. exact_then (e.exact a_proof) (λ q. exact_map (λ s. p.Subst x z y old new q s) (e.exact a_proof)))))))))))
  form_exact proof_pair = exact_word refl (over_two p.Pair)
  form_exact proof_fst = exact_word refl (of_over_one p.Fst)
  form_exact proof_snd = exact_word refl (of_over_one p.Snd)
  form_exact proof_inl = exact_word refl (over_one p.Inl)
  form_exact proof_inr = exact_word refl (over_one p.Inr)
  form_exact proof_cases = exact_word refl (bracketed (λ x. exact_then (e.exact a_proof)
      (λ q. case (λ b. case (λ c. exact_pure (p.Cases x q b.0 b.1 c.0 c.1))))))
  form_exact proof_fun = exact_word refl (exact_named (λ h. exact_word refl (exact_map (λ q. p.Fun h q) (e.exact a_proof))))
  form_exact proof_app = exact_word refl (of_over_two p.App)
  form_exact proof_neg = exact_word refl (of_over_two p.Neg)
  form_exact proof_absurd = exact_word refl (over_one p.Absurd)
  form_exact proof_em = exact_word refl (bracketed (λ x. case (λ b. case (λ c. exact_pure (p.Em x b.0 b.1 c.0 c.1)))))
  form_exact proof_lin = exact_word refl (exact_numbered (λ m. exact_word refl
      (exact_until refl refl (exact_listed 64 (omega arith) refl entry_item) (λ es. exact_pure (p.Lin m es)))))
  form_exact proof_monus = exact_word refl (over_one p.Monus)
  form_exact proof_head = exact_word refl (of_two_over_one p.Head)
  form_exact proof_tail = exact_word refl (of_two_over_one p.Tail)
  form_exact proof_nocons = exact_word refl (exact_pure p.Nocons)
  form_exact proof_apart = exact_word refl (exact_numbered (λ m. exact_numbered (λ n. exact_pure (p.Apart m n))))
  form_exact proof_nonnull = exact_word refl (exact_numbered (λ m. exact_pure (p.Nonnull m)))
  form_exact proof_lemma = exact_word refl (exact_named (λ x. exact_then (arguments_exact e)
      (λ ts. exact_map (λ q. p.Lemma x ts q) (e.exact a_proof))))
  form_exact proof_todo = exact_word refl (exact_pure p.Todo)

  same_form : (f : ProofForm) (i j : List Tok) (x : ProofKind) → g.proof_form inner' f i x j → anywhere (first_kind j) ≡ true
      → r.proof_kind readers i ≡ read_form f i
  unfolding r.proof_kind expect same_kind rest
  same_form proof_hyp i j x (word h) stop = refl
  same_form proof_refl i j x (word h) stop = refl
  same_form proof_calc i j x (word h) stop = refl
  same_form proof_as i j x (word h) stop = refl
  same_form proof_sym i j x (word h) stop = refl
  same_form proof_both i j x (word h) stop = refl
  same_form proof_subst i j x (word h) stop = refl
  same_form proof_pair i j x (word h) stop = refl
  same_form proof_fst i j x (word h) stop = refl
  same_form proof_snd i j x (word h) stop = refl
  same_form proof_inl i j x (word h) stop = refl
  same_form proof_inr i j x (word h) stop = refl
  same_form proof_cases i j x (word h) stop = refl
  same_form proof_fun i j x (word h) stop = refl
  same_form proof_app i j x (word h) stop = refl
  same_form proof_neg i j x (word h) stop = refl
  same_form proof_absurd i j x (word h) stop = refl
  same_form proof_em i j x (word h) stop = refl
  same_form proof_lin i j x (word h) stop = refl
  same_form proof_monus i j x (word h) stop = refl
  same_form proof_head i j x (word h) stop = refl
  same_form proof_tail i j x (word h) stop = refl
  same_form proof_nocons i j x (word h) stop = refl
  same_form proof_apart i j x (word h) stop = refl
  same_form proof_nonnull i j x (word h) stop = refl
  same_form proof_lemma i j x (word h) stop = refl
  same_form proof_todo i j x (word h) stop = refl

  by_form : (f : ProofForm) (i : List Tok) → Sound (OneOf (g.proof_form inner)) i (read_form f i)
  by_form f i = sound_form (g.proof_form inner) f i (read_form f i) ((form_exact f).sound i)

  kind_sound : (i : List Tok) → Sound (OneOf (g.proof_form inner)) i (r.proof_kind readers i)
  unfolding r.proof_kind expect same_kind rest
  kind_sound (tok k.Hyp w ∷ i) = by_form proof_hyp (tok k.Hyp w ∷ i)
  kind_sound (tok k.Refl w ∷ i) = by_form proof_refl (tok k.Refl w ∷ i)
  kind_sound (tok k.Calc w ∷ i) = by_form proof_calc (tok k.Calc w ∷ i)
  kind_sound (tok k.As w ∷ i) = by_form proof_as (tok k.As w ∷ i)
  kind_sound (tok k.Sym w ∷ i) = by_form proof_sym (tok k.Sym w ∷ i)
  kind_sound (tok k.Both w ∷ i) = by_form proof_both (tok k.Both w ∷ i)
  kind_sound (tok k.Subst w ∷ i) = by_form proof_subst (tok k.Subst w ∷ i)
  kind_sound (tok k.Pair w ∷ i) = by_form proof_pair (tok k.Pair w ∷ i)
  kind_sound (tok k.Fst w ∷ i) = by_form proof_fst (tok k.Fst w ∷ i)
  kind_sound (tok k.Snd w ∷ i) = by_form proof_snd (tok k.Snd w ∷ i)
  kind_sound (tok k.Inl w ∷ i) = by_form proof_inl (tok k.Inl w ∷ i)
  kind_sound (tok k.Inr w ∷ i) = by_form proof_inr (tok k.Inr w ∷ i)
  kind_sound (tok k.Cases w ∷ i) = by_form proof_cases (tok k.Cases w ∷ i)
  kind_sound (tok k.Fun w ∷ i) = by_form proof_fun (tok k.Fun w ∷ i)
  kind_sound (tok k.App w ∷ i) = by_form proof_app (tok k.App w ∷ i)
  kind_sound (tok k.Neg w ∷ i) = by_form proof_neg (tok k.Neg w ∷ i)
  kind_sound (tok k.Absurd w ∷ i) = by_form proof_absurd (tok k.Absurd w ∷ i)
  kind_sound (tok k.Em w ∷ i) = by_form proof_em (tok k.Em w ∷ i)
  kind_sound (tok k.Lin w ∷ i) = by_form proof_lin (tok k.Lin w ∷ i)
  kind_sound (tok k.Monus w ∷ i) = by_form proof_monus (tok k.Monus w ∷ i)
  kind_sound (tok k.Head w ∷ i) = by_form proof_head (tok k.Head w ∷ i)
  kind_sound (tok k.Tail w ∷ i) = by_form proof_tail (tok k.Tail w ∷ i)
  kind_sound (tok k.Nocons w ∷ i) = by_form proof_nocons (tok k.Nocons w ∷ i)
  kind_sound (tok k.Apart w ∷ i) = by_form proof_apart (tok k.Apart w ∷ i)
  kind_sound (tok k.Nonnull w ∷ i) = by_form proof_nonnull (tok k.Nonnull w ∷ i)
  kind_sound (tok k.Lemma w ∷ i) = by_form proof_lemma (tok k.Lemma w ∷ i)
  kind_sound (tok k.Todo w ∷ i) = by_form proof_todo (tok k.Todo w ∷ i)
  kind_sound i = sound_refuse i (sample_form (g.proof_form inner) proof_refl (form_exact proof_refl).sample)

  kind_exact : Exact (OneOf (g.proof_form inner)) (OneOf (g.proof_form inner')) anywhere (r.proof_kind readers)
  kind_exact = exact_forms read_form form_exact proof_refl kind_sound same_form

  -- ---- a proof, in parentheses or not

  abbrev read_wrapped : Wrapping → Reader Proof
  read_wrapped bare = spotted (λ spot. r.proof_kind readers >>= (λ x. pure (record { spot = spot; kind = x })))
  read_wrapped in_parens = expect k.LParen >> (readers a_proof >>= (λ x. expect k.RParen >> pure x))

  wrapped_exact : (w : Wrapping) → Exact (g.wrapped_proof inner w) (g.wrapped_proof inner' w) anywhere (read_wrapped w)
  wrapped_exact bare = exact_spotted refl (λ spot. part_begins (forms_begin (proof_form_begins inner))) (λ spot. exact_map
      (λ x. record { spot = spot; kind = x }) kind_exact)
  wrapped_exact in_parens = exact_word refl (exact_until refl refl (e.exact a_proof) (λ x. exact_pure x))

  bare_begins : BeginsWith (no_paren begins_proof) (g.wrapped_proof inner' bare)
  bare_begins = spotted_begins (λ spot. part_begins (forms_begin (proof_form_begins inner')))

  same_wrapped : (w : Wrapping) (i j : List Tok) (x : Proof) → g.wrapped_proof inner' w i x j → anywhere (first_kind j) ≡ true
      → r.proof readers i ≡ read_wrapped w i
  unfolding r.proof expect same_kind rest
  same_wrapped bare i j x h stop = rw (not_paren begins_proof (first_kind i) (bare_begins.known i j x h)) refl
  same_wrapped in_parens i j x (word h) stop = refl

  by_wrapped : (w : Wrapping) (i : List Tok) → Sound (g.proof inner) i (read_wrapped w i)
  by_wrapped w i = sound_form (g.wrapped_proof inner) w i (read_wrapped w i) ((wrapped_exact w).sound i)

  proof_sound : (i : List Tok) → Sound (g.proof inner) i (r.proof readers i)
  unfolding r.proof expect same_kind rest
  proof_sound (tok k.LParen w ∷ i) = by_wrapped in_parens (tok k.LParen w ∷ i)
  proof_sound i = by_wrapped bare i

  pub proof_exact : Exact (g.proof inner) (g.proof inner') anywhere (r.proof readers)
  proof_exact = exact_forms read_wrapped wrapped_exact bare proof_sound same_wrapped
