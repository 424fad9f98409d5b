-- Which tokens begin what the productions spell.
use Rattle.std.proofs.Common.{◌≡◌, ℕ, refl, Bool, true, false, List, [], Option, Some, None}
use Rattle.tht_tree.specs.declared.plain.Spot.{Spot}
use Rattle.tht_tree.specs.declared.token.TokenKind.{TokenKind}
use Rattle.tht_tree.specs.declared.token.TokenKind.TheVariants as k
use Rattle.tht_tree.specs.Tokens.{Tok, first_kind}
use Rattle.tht_tree.specs.Productions.{Rel, gives, Word, word, Named, named, Numbered, numbered, Part, part, Spotted, spotted, Operators, Chain, chain_first, chain_more, Optional, without, with_last}
use Rattle.tht_tree.specs.Grammar as g
use Rattle.tht_tree.specs.Grammar.{Nested, Tree, a_term, after_not, after_link, after_len, an_assn, after_either, a_proof, a_give, after_prefix, a_body, PrimForm, prim_num, prim_true, prim_false, prim_null, prim_nil, prim_name, prim_unit, prim_paren, prim_len, PlaceForm, place_name, place_null, NegForm, neg_not, neg_cmp, AprForm, apr_emp, apr_fact, apr_paren, apr_own, apr_shared, apr_inst, apr_exists, apr_either, ProofForm, proof_hyp, proof_refl, proof_calc, proof_as, proof_sym, proof_both, proof_subst, proof_pair, proof_fst, proof_snd, proof_inl, proof_inr, proof_cases, proof_fun, proof_app, proof_neg, proof_absurd, proof_em, proof_lin, proof_monus, proof_head, proof_tail, proof_nocons, proof_apart, proof_nonnull, proof_lemma, proof_todo, GiveForm, give_emp, give_atom, give_fact, give_ex, give_left, give_right, give_fold, Wrapping, bare, in_parens, StepForm, step_have, step_open_var, step_open_fact, step_unfold, step_fold, step_rewrite, step_use, EndForm, end_ret, end_if, end_case_atom, end_case_bool, end_case_seq, end_dead, StmtForm, stmt_read, stmt_write, stmt_alloc, stmt_free, stmt_publish, stmt_retract, stmt_call, stmt_do, stmt_atomic, stmt_par, stmt_step, AccessForm, without_shared, with_shared, DeclForm, decl_root, decl_invariant, decl_pred, decl_pred_on, decl_lemma, decl_lemma_seq, decl_lemma_nat, decl_txn, decl_proc}
use Rattle.tht_tree.specs.declared.decl.Param.{Param}
use Rattle.tht_tree.specs.declared.decl.Access.{Access}
use Rattle.tht_grammar.specs.Steps.{is, same_kind}
use Rattle.tht_grammar.specs.Words.{begins, begins_prim, begins_term, begins_assn, begins_proof, begins_give, begins_body, begins_stmt, begins_decl}

-- the same tokens, but for a parenthesis
abbrev pub no_paren : (Option TokenKind → Bool) → Option TokenKind → Bool
no_paren first (Some k.LParen) = false
no_paren first o = first o

any_paren : (first : Option TokenKind → Bool) (o : Option TokenKind) → no_paren first o ≡ true → first o ≡ true
any_paren first (Some k.LParen) e = cc
any_paren first _ e = e

pub not_paren : (first : Option TokenKind → Bool) (o : Option TokenKind) → no_paren first o ≡ true → is k.LParen o ≡ false
unfolding same_kind
not_paren first (Some k.LParen) e = cc
not_paren first None e = refl
not_paren first _ e = refl

-- the words of steps
abbrev pub begins_step : Option TokenKind → Bool
begins_step (Some k.Have) = true
begins_step (Some k.Open) = true
begins_step (Some k.Unfold) = true
begins_step (Some k.Fold) = true
begins_step (Some k.Rewrite) = true
begins_step (Some k.Use) = true
begins_step _ = false

-- the words of ends
abbrev pub begins_end : Option TokenKind → Bool
begins_end (Some k.Ret) = true
begins_end (Some k.If) = true
begins_end (Some k.Case) = true
begins_end (Some k.Dead) = true
begins_end _ = false

pub end_stmt : (o : Option TokenKind) → begins_end o ≡ true → begins_stmt o ≡ false
end_stmt (Some k.Ret) e = refl
end_stmt (Some k.If) e = refl
end_stmt (Some k.Case) e = refl
end_stmt (Some k.Dead) e = refl
end_stmt _ e = cc

step_stmt : (o : Option TokenKind) → begins_step o ≡ true → begins_stmt o ≡ true
step_stmt (Some k.Have) e = refl
step_stmt (Some k.Open) e = refl
step_stmt (Some k.Unfold) e = refl
step_stmt (Some k.Fold) e = refl
step_stmt (Some k.Rewrite) e = refl
step_stmt (Some k.Use) e = refl
step_stmt _ e = cc

-- What R spells begins with such a token.
pub record BeginsWith {A : Type 0} (first : Option TokenKind → Bool) (R : Rel A) : Type 0 where
  pub known : (i j : List Tok) (x : A) → R i x j → first (first_kind i) ≡ true

module _ (first : Option TokenKind → Bool) where
  word_known : {A : Type 0} {q : TokenKind} {R : Rel A} {i j : List Tok} {x : A} → first (Some q) ≡ true → Word q R i x j
      → first (first_kind i) ≡ true
  word_known e (word h) = e

  named_known : {A : Type 0} {R : List ℕ → Rel A} {i j : List Tok} {x : A} → first (Some k.Name) ≡ true → Named R i x j → first (first_kind i) ≡ true
  named_known e (named h) = e

  numbered_known : {A : Type 0} {R : ℕ → Rel A} {i j : List Tok} {x : A} → first (Some k.Num) ≡ true → Numbered R i x j → first (first_kind i) ≡ true
  numbered_known e (numbered h) = e

  part_known : {A B : Type 0} {P : Rel A} {R : A → Rel B} {i j : List Tok} {x : B} → BeginsWith first P → Part P R i x j → first (first_kind i) ≡ true
  part_known b (part h s) = b.known _ _ _ h

  spotted_known : {A : Type 0} {R : Spot → Rel A} {i j : List Tok} {x : A} → ((s : Spot) → BeginsWith first (R s)) → Spotted R i x j
      → first (first_kind i) ≡ true
  spotted_known b (spotted {w = w} h) = (b w.spot).known _ _ _ h

  chain_known : {A B : Type 0} {joins : Operators A B} {F : Rel A} {I : Rel B} {n : ℕ} {i j : List Tok} {x : A} → BeginsWith first F
      → Chain joins F I n i x j
      → first (first_kind i) ≡ true
  chain_known b (chain_first h) = b.known _ _ _ h
  chain_known b (chain_more h e room s) = chain_known b h

  optional_known : {A B : Type 0} {joins : Operators A B} {F : Rel A} {L : Rel B} {i j : List Tok} {x : A} → BeginsWith first F
      → Optional joins F L i x j
      → first (first_kind i) ≡ true
  optional_known b (without h) = b.known _ _ _ h
  optional_known b (with_last h e s) = b.known _ _ _ h

module _ {first : Option TokenKind → Bool} where
  pub word_begins : {A : Type 0} {q : TokenKind} {R : Rel A} → first (Some q) ≡ true → BeginsWith first (Word q R)
  word_begins e = record { known = λ i j x h. word_known first e h }

  pub named_begins : {A : Type 0} {R : List ℕ → Rel A} → first (Some k.Name) ≡ true → BeginsWith first (Named R)
  named_begins e = record { known = λ i j x h. named_known first e h }

  pub numbered_begins : {A : Type 0} {R : ℕ → Rel A} → first (Some k.Num) ≡ true → BeginsWith first (Numbered R)
  numbered_begins e = record { known = λ i j x h. numbered_known first e h }

  pub part_begins : {A B : Type 0} {P : Rel A} {R : A → Rel B} → BeginsWith first P → BeginsWith first (Part P R)
  part_begins b = record { known = λ i j x h. part_known first b h }

  pub spotted_begins : {A : Type 0} {R : Spot → Rel A} → ((s : Spot) → BeginsWith first (R s)) → BeginsWith first (Spotted R)
  spotted_begins b = record { known = λ i j x h. spotted_known first b h }

  pub chain_begins : {A B : Type 0} {joins : Operators A B} {F : Rel A} {I : Rel B} → BeginsWith first F
      → BeginsWith first (λ i x j. (n : ℕ) × Chain joins F I n i x j)
  chain_begins b = record { known = λ i j x h. chain_known first b h.1 }

  pub optional_begins : {A B : Type 0} {joins : Operators A B} {F : Rel A} {L : Rel B} → BeginsWith first F → BeginsWith first (Optional joins F L)
  optional_begins b = record { known = λ i j x h. optional_known first b h }

  -- one of several forms
  pub forms_begin : {A F : Type 0} {R : F → Rel A} → ((f : F) → BeginsWith first (R f)) → BeginsWith first (λ i x j. (f : F) × R f i x j)
  forms_begin b = record { known = λ i j x h. (b h.0).known i j x h.1 }

  -- those of a form and of others
  pub wider : {A : Type 0} {fewer : Option TokenKind → Bool} {R : Rel A} → ((o : Option TokenKind) → fewer o ≡ true → first o ≡ true)
      → BeginsWith fewer R → BeginsWith first R
  wider more b = record { known = λ i j x h. more (first_kind i) (b.known i j x h) }

-- no tokens spell nothing
pub spells_some : {A : Type 0} {first : Option TokenKind → Bool} {R : Rel A} → BeginsWith first R → first None ≡ false → (j : List Tok) (x : A)
    → R [] x j → ⊥
spells_some b none j x h = let e = b.known [] j x h in cc

-- what begins a prim begins a term
prim_term : (o : Option TokenKind) → begins_prim o ≡ true → begins_term o ≡ true
prim_term (Some k.Not) e = refl
prim_term _ e = e

-- ---- names, numbers and their lists

pub number_begins : BeginsWith (is k.Num) g.number
unfolding same_kind
number_begins = numbered_begins refl

pub param_begins : BeginsWith (is k.Name) g.param
unfolding same_kind
param_begins = named_begins refl

module _ (inner : (n : Nested) → Rel (Tree n)) where
  -- ---- terms

  pub prim_form_begins : (f : PrimForm) → BeginsWith begins_prim (g.prim_form inner f)
  prim_form_begins prim_num = numbered_begins refl
  prim_form_begins prim_true = word_begins refl
  prim_form_begins prim_false = word_begins refl
  prim_form_begins prim_null = word_begins refl
  prim_form_begins prim_nil = word_begins refl
  prim_form_begins prim_name = named_begins refl
  prim_form_begins prim_unit = word_begins refl
  prim_form_begins prim_paren = word_begins refl
  prim_form_begins prim_len = word_begins refl

  pub prim_begins : BeginsWith begins_prim (g.prim inner)
  prim_begins = forms_begin prim_form_begins

  pub off_begins : BeginsWith begins_prim (g.off inner)
  off_begins = chain_begins prim_begins

  pub prod_begins : BeginsWith begins_prim (g.prod inner)
  prod_begins = chain_begins off_begins

  pub sum_begins : BeginsWith begins_prim (g.sum inner)
  sum_begins = chain_begins prod_begins

  pub app_begins : BeginsWith begins_prim (g.app inner)
  app_begins = optional_begins sum_begins

  pub cmp_begins : BeginsWith begins_prim (g.cmp inner)
  cmp_begins = optional_begins app_begins

  pub neg_form_begins : (f : NegForm) → BeginsWith begins_term (g.neg_form inner f)
  neg_form_begins neg_not = word_begins refl
  neg_form_begins neg_cmp = wider prim_term cmp_begins

  pub neg_begins : BeginsWith begins_term (g.neg inner)
  neg_begins = forms_begin neg_form_begins

  pub conj_begins : BeginsWith begins_term (g.conj inner)
  conj_begins = chain_begins neg_begins

  pub disj_begins : BeginsWith begins_term (g.disj inner)
  disj_begins = chain_begins conj_begins

  pub term_begins : BeginsWith begins_term (g.term inner)
  term_begins = optional_begins disj_begins

  -- ---- assertions

  pub place_form_begins : (f : PlaceForm) → BeginsWith begins_assn (g.place_form inner f)
  place_form_begins place_name = named_begins refl
  place_form_begins place_null = word_begins refl

  pub place_begins : BeginsWith begins_assn (g.place inner)
  place_begins = chain_begins (forms_begin place_form_begins)

  pub apr_form_begins : (f : AprForm) → BeginsWith begins_assn (g.apr_form inner f)
  apr_form_begins apr_emp = word_begins refl
  apr_form_begins apr_fact = word_begins refl
  apr_form_begins apr_paren = word_begins refl
  apr_form_begins apr_own = part_begins place_begins
  apr_form_begins apr_shared = part_begins place_begins
  apr_form_begins apr_inst = named_begins refl
  apr_form_begins apr_exists = word_begins refl
  apr_form_begins apr_either = word_begins refl

  pub apr_begins : BeginsWith begins_assn (g.apr inner)
  apr_begins = forms_begin apr_form_begins

  pub assn_begins : BeginsWith begins_assn (g.assn inner)
  assn_begins = record { known = λ i j x h. (chain_begins apr_begins).known i j x h.0 }

  -- ---- proofs

  pub proof_form_begins : (f : ProofForm) → BeginsWith (no_paren begins_proof) (g.proof_form inner f)
  proof_form_begins proof_hyp = word_begins refl
  proof_form_begins proof_refl = word_begins refl
  proof_form_begins proof_calc = word_begins refl
  proof_form_begins proof_as = word_begins refl
  proof_form_begins proof_sym = word_begins refl
  proof_form_begins proof_both = word_begins refl
  proof_form_begins proof_subst = word_begins refl
  proof_form_begins proof_pair = word_begins refl
  proof_form_begins proof_fst = word_begins refl
  proof_form_begins proof_snd = word_begins refl
  proof_form_begins proof_inl = word_begins refl
  proof_form_begins proof_inr = word_begins refl
  proof_form_begins proof_cases = word_begins refl
  proof_form_begins proof_fun = word_begins refl
  proof_form_begins proof_app = word_begins refl
  proof_form_begins proof_neg = word_begins refl
  proof_form_begins proof_absurd = word_begins refl
  proof_form_begins proof_em = word_begins refl
  proof_form_begins proof_lin = word_begins refl
  proof_form_begins proof_monus = word_begins refl
  proof_form_begins proof_head = word_begins refl
  proof_form_begins proof_tail = word_begins refl
  proof_form_begins proof_nocons = word_begins refl
  proof_form_begins proof_apart = word_begins refl
  proof_form_begins proof_nonnull = word_begins refl
  proof_form_begins proof_lemma = word_begins refl
  proof_form_begins proof_todo = word_begins refl

  wrapped_proof_begins : (w : Wrapping) → BeginsWith begins_proof (g.wrapped_proof inner w)
  wrapped_proof_begins bare = spotted_begins (λ spot. part_begins (wider (any_paren begins_proof) (forms_begin proof_form_begins)))
  wrapped_proof_begins in_parens = word_begins refl

  pub proof_begins : BeginsWith begins_proof (g.proof inner)
  proof_begins = forms_begin wrapped_proof_begins

  pub lin_entry_begins : BeginsWith (is k.Num) (g.lin_entry inner)
  unfolding same_kind
  lin_entry_begins = numbered_begins refl

  -- ---- gives

  pub give_form_begins : (f : GiveForm) → BeginsWith (no_paren begins_give) (g.give_form inner f)
  give_form_begins give_emp = word_begins refl
  give_form_begins give_atom = word_begins refl
  give_form_begins give_fact = word_begins refl
  give_form_begins give_ex = word_begins refl
  give_form_begins give_left = word_begins refl
  give_form_begins give_right = word_begins refl
  give_form_begins give_fold = word_begins refl

  wrapped_give_begins : (w : Wrapping) → BeginsWith begins_give (g.wrapped_give inner w)
  wrapped_give_begins bare = spotted_begins (λ spot. part_begins (wider (any_paren begins_give) (forms_begin give_form_begins)))
  wrapped_give_begins in_parens = word_begins refl

  pub gpr_begins : BeginsWith begins_give (g.gpr inner)
  gpr_begins = forms_begin wrapped_give_begins

  pub give_begins : BeginsWith begins_give (g.give inner)
  give_begins = spotted_begins (λ spot. chain_begins gpr_begins)

  -- ---- statements and bodies

  pub step_form_begins : (f : StepForm) → BeginsWith begins_step (g.step_form inner f)
  step_form_begins step_have = word_begins refl
  step_form_begins step_open_var = word_begins refl
  step_form_begins step_open_fact = word_begins refl
  step_form_begins step_unfold = word_begins refl
  step_form_begins step_fold = word_begins refl
  step_form_begins step_rewrite = word_begins refl
  step_form_begins step_use = word_begins refl

  pub stmt_form_begins : (f : StmtForm) → BeginsWith begins_stmt (g.stmt_form inner f)
  stmt_form_begins stmt_read = named_begins refl
  stmt_form_begins stmt_write = word_begins refl
  stmt_form_begins stmt_alloc = named_begins refl
  stmt_form_begins stmt_free = word_begins refl
  stmt_form_begins stmt_publish = word_begins refl
  stmt_form_begins stmt_retract = word_begins refl
  stmt_form_begins stmt_call = named_begins refl
  stmt_form_begins stmt_do = named_begins refl
  stmt_form_begins stmt_atomic = named_begins refl
  stmt_form_begins stmt_par = word_begins refl
  stmt_form_begins stmt_step = spotted_begins (λ spot. part_begins (wider step_stmt (forms_begin step_form_begins)))

  pub stmt_begins : BeginsWith begins_stmt (g.stmt inner)
  stmt_begins = spotted_begins (λ spot. part_begins (forms_begin stmt_form_begins))

  pub ended_begins : BeginsWith begins_stmt (g.ended inner)
  ended_begins = part_begins stmt_begins

  pub end_form_begins : (f : EndForm) → BeginsWith begins_end (g.end_form inner f)
  end_form_begins end_ret = word_begins refl
  end_form_begins end_if = word_begins refl
  end_form_begins end_case_atom = word_begins refl
  end_form_begins end_case_bool = word_begins refl
  end_form_begins end_case_seq = word_begins refl
  end_form_begins end_dead = word_begins refl

  pub end_begins : BeginsWith begins_end (g.end inner)
  end_begins = spotted_begins (λ spot. part_begins (forms_begin end_form_begins))

  pub body_begins : BeginsWith begins_body (g.body inner)
  body_begins = word_begins refl

  -- ---- declarations

  -- "shared"? "pred"
  shared_or_pred : {A : Type 0} {R : Rel A} (f : AccessForm) (who : Access) (i l j : List Tok) (x : A) → g.access_form inner f i who l
      → Word k.Pred R l x j
      → begins_decl (first_kind i) ≡ true
  shared_or_pred without_shared who i l j x gives (word h) = refl
  shared_or_pred with_shared who i l j x (word h) s = refl

  defining_begins : {A : Type 0} (R : Access → List ℕ → List Param → Rel A) → BeginsWith begins_decl (g.Defining inner R)
  defining_begins {A = A} R = record { known = λ i j x h. at h }
    where
      at : {i j : List Tok} {x : A} → g.Defining inner R i x j → begins_decl (first_kind i) ≡ true
      at (part h s) = shared_or_pred h.0 _ _ _ _ _ h.1 s

  pub decl_form_begins : (spot : Spot) (f : DeclForm) → BeginsWith begins_decl (g.decl_form inner spot f)
  decl_form_begins spot decl_root = word_begins refl
  decl_form_begins spot decl_invariant = word_begins refl
  decl_form_begins spot decl_pred = defining_begins _
  decl_form_begins spot decl_pred_on = defining_begins _
  decl_form_begins spot decl_lemma = word_begins refl
  decl_form_begins spot decl_lemma_seq = word_begins refl
  decl_form_begins spot decl_lemma_nat = word_begins refl
  decl_form_begins spot decl_txn = word_begins refl
  decl_form_begins spot decl_proc = word_begins refl

  pub decl_begins : BeginsWith begins_decl (g.decl inner)
  decl_begins = spotted_begins (λ spot. part_begins (forms_begin (decl_form_begins spot)))

  -- ---- all constructs

  pub production_begins : (n : Nested) → BeginsWith (begins n) (g.production inner n)
  production_begins a_term = term_begins
  production_begins after_not = neg_begins
  production_begins after_link = app_begins
  production_begins after_len = prim_begins
  production_begins an_assn = assn_begins
  production_begins after_either = apr_begins
  production_begins a_proof = proof_begins
  production_begins a_give = give_begins
  production_begins after_prefix = gpr_begins
  production_begins a_body = body_begins
