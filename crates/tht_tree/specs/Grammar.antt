-- The grammar: which tokens spell which tree. A production stands above each definition; its parts are in the order of the
-- tokens, and the tree stands at the end.
use Rattle.std.specs.Prelude.{◌≡◌, ℕ, zero, suc, ◌≤◌, Bool, true, false, List, [], ◌∷◌, Some, None}
use Rattle.tht_tree.specs.declared.plain.Spot.{Spot}
use Rattle.tht_tree.specs.declared.token.TokenKind.{TokenKind}
use Rattle.tht_tree.specs.declared.token.TokenKind.TheVariants as k
use Rattle.tht_tree.specs.declared.term.Term.{Term}
use Rattle.tht_tree.specs.declared.term.Term.TheVariants as t
use Rattle.tht_tree.specs.declared.assn.Assn.{Assn}
use Rattle.tht_tree.specs.declared.assn.Assn.TheVariants as a
use Rattle.tht_tree.specs.declared.proof.Proof.{Proof}
use Rattle.tht_tree.specs.declared.proof.ProofKind.{ProofKind}
use Rattle.tht_tree.specs.declared.proof.ProofKind.TheVariants as p
use Rattle.tht_tree.specs.declared.proof.LinEntry.{LinEntry, roll-LinEntry}
use Rattle.tht_tree.specs.declared.give.Give.{Give}
use Rattle.tht_tree.specs.declared.give.GiveKind.{GiveKind}
use Rattle.tht_tree.specs.declared.give.GiveKind.TheVariants as g
use Rattle.tht_tree.specs.declared.step.StepKind.{StepKind}
use Rattle.tht_tree.specs.declared.step.StepKind.TheVariants as s
use Rattle.tht_tree.specs.declared.body.Body.{Body, roll-Body}
use Rattle.tht_tree.specs.declared.body.Stmt.{Stmt}
use Rattle.tht_tree.specs.declared.body.StmtKind.{StmtKind}
use Rattle.tht_tree.specs.declared.body.StmtKind.TheVariants as c
use Rattle.tht_tree.specs.declared.body.End.{End}
use Rattle.tht_tree.specs.declared.body.EndKind.{EndKind}
use Rattle.tht_tree.specs.declared.body.EndKind.TheVariants as e
use Rattle.tht_tree.specs.declared.decl.Param.{Param}
use Rattle.tht_tree.specs.declared.decl.Head.{Head}
use Rattle.tht_tree.specs.declared.decl.Initial.{Initial}
use Rattle.tht_tree.specs.declared.decl.Initial.TheVariants as v
use Rattle.tht_tree.specs.declared.decl.Access.{Access}
use Rattle.tht_tree.specs.declared.decl.Access.TheVariants as access
use Rattle.tht_tree.specs.declared.decl.LemmaKind.TheVariants as l
use Rattle.tht_tree.specs.declared.decl.Decl.{Decl}
use Rattle.tht_tree.specs.declared.decl.DeclKind.{DeclKind}
use Rattle.tht_tree.specs.declared.decl.DeclKind.TheVariants as d
use Rattle.tht_tree.specs.declared.file.Main.{Main}
use Rattle.tht_tree.specs.declared.file.Source1.{Source1}
use Rattle.tht_tree.specs.Tokens.{counts_at, version, Info, Tok, tok}
use Rattle.tht_tree.specs.Productions.{Rel, Within, Room, RoomAt, Gives, ◌▸◌, Named, Numbered, Sorted, Part, Spotted, Operators, Chain, Optional, Entries, Listed, Many}

-- ---- constructs that count as open

-- A construct that stands inside another and counts as one more open.
pub data Nested : Type 0 where
  a_term : Nested
  -- the neg after `not`, the app after `::` or `++`, and the prim after `len`
  after_not : Nested
  after_link : Nested
  after_len : Nested
  an_assn : Nested
  -- an apr after `either` or its `or`
  after_either : Nested
  a_proof : Nested
  a_give : Nested
  -- the gpr after `ex [t]`, `left`, `right` or `fold`
  after_prefix : Nested
  a_body : Nested

-- what it spells
abbrev pub Tree : Nested → Type 0
Tree a_term = Term
Tree after_not = Term
Tree after_link = Term
Tree after_len = Term
Tree an_assn = Assn
Tree after_either = Assn
Tree a_proof = Proof
Tree a_give = Give
Tree after_prefix = Give
Tree a_body = Body

-- ---- operators

abbrev pub implies : Operators Term Term
implies (Some k.Imp) = Some t.Imp
implies _ = None

abbrev pub ors : Operators Term Term
ors (Some k.Or) = Some t.Or
ors _ = None

abbrev pub ands : Operators Term Term
ands (Some k.And) = Some t.And
ands _ = None

abbrev pub compares : Operators Term Term
compares (Some k.Equal) = Some t.Eq
compares (Some k.Less) = Some t.Lt
compares (Some k.LessEqual) = Some t.Le
compares _ = None

abbrev pub links : Operators Term Term
links (Some k.Link) = Some t.Cons
links (Some k.Join) = Some t.Cat
links _ = None

abbrev pub adds : Operators Term Term
adds (Some k.Plus) = Some t.Add
adds (Some k.Minus) = Some t.Sub
adds _ = None

abbrev pub muls : Operators Term Term
muls (Some k.Star) = Some t.Mul
muls _ = None

abbrev pub dots : Operators Term ℕ
dots (Some k.Dot) = Some t.Offset
dots _ = None

abbrev pub stars : Operators Assn Assn
stars (Some k.Star) = Some a.Star
stars _ = None

-- a chain of gives begins at this spot
abbrev pub joint : Spot → Give → Give → Give
joint spot x y = record { spot = spot; kind = g.Star x y }

abbrev pub joins : Spot → Operators Give Give
joins spot (Some k.Star) = Some (joint spot)
joins spot _ = None

-- ---- names with their sorts, and numbers

-- an offset is at most 7
pub data Offset : List Tok → ℕ → List Tok → Type 0 where
  an_offset : {w : Info} {i : List Tok} → w.value ≤ 7 → Offset (tok k.Num w ∷ i) w.value i

-- NUM
abbrev pub number : Rel ℕ
number = Numbered (λ n. Gives n)

-- NAME ":" sort
abbrev pub param : Rel Param
param = Named (λ x. k.Colon ▸ Sorted (λ z. Gives (record { name = x; sort = z })))

-- params = "(" list(NAME ":" sort) ")"
abbrev pub params : Rel (List Param)
params = k.LParen ▸ Part (Listed 16 param) (λ ps. k.RParen ▸ Gives ps)

-- the logical variables of a head: "[" list(NAME ":" sort) "]"
abbrev pub logic : Rel (List Param)
logic = k.LBracket ▸ Part (Listed 16 param) (λ ps. k.RBracket ▸ Gives ps)

-- nums = "(" list(NUM) ")"
abbrev pub nums : Rel (List ℕ)
nums = k.LParen ▸ Part (Listed 64 number) (λ is. k.RParen ▸ Gives is)

-- value = NUM | "true" | "false" | "null" | "(" ")" | NAME
pub data InitialForm : Type 0 where
  initial_num : InitialForm
  initial_true : InitialForm
  initial_false : InitialForm
  initial_null : InitialForm
  initial_unit : InitialForm
  initial_root : InitialForm

abbrev pub initial_form : InitialForm → Rel Initial
initial_form initial_num = Numbered (λ n. Gives (v.Num n))
initial_form initial_true = k.True ▸ Gives v.True
initial_form initial_false = k.False ▸ Gives v.False
initial_form initial_null = k.Null ▸ Gives v.Null
initial_form initial_unit = k.LParen ▸ (k.RParen ▸ Gives v.Unit)
initial_form initial_root = Named (λ x. Gives (v.Root x))

abbrev pub initial : Rel Initial
initial i x j = (f : InitialForm) × initial_form f i x j

-- a `*` comes next
abbrev pub goes_on : List Tok → Bool
goes_on (tok k.Star w ∷ i) = true
goes_on _ = false

-- NUM, which is 1 where that limit counts
pub data version_number : List Tok → ℕ → List Tok → Type 0 where
  a_version : {w : Info} {i : List Tok} → (counts_at w.mark version ≡ true → w.value ≡ 1) → version_number (tok k.Num w ∷ i) w.value i

-- ---- the forms of terms, assertions, proofs, gives, statements and ends, by name. What a construct spells is one of its
-- forms: `prim i x j = (f : PrimForm) × prim_form f i x j`.

pub data PrimForm : Type 0 where
  prim_num : PrimForm
  prim_true : PrimForm
  prim_false : PrimForm
  prim_null : PrimForm
  prim_nil : PrimForm
  prim_name : PrimForm
  prim_unit : PrimForm
  prim_paren : PrimForm
  prim_len : PrimForm

pub data PlaceForm : Type 0 where
  place_name : PlaceForm
  place_null : PlaceForm

pub data NegForm : Type 0 where
  neg_not : NegForm
  neg_cmp : NegForm

pub data AprForm : Type 0 where
  apr_emp : AprForm
  apr_fact : AprForm
  apr_paren : AprForm
  apr_own : AprForm
  apr_shared : AprForm
  apr_inst : AprForm
  apr_exists : AprForm
  apr_either : AprForm

pub data ProofForm : Type 0 where
  proof_hyp : ProofForm
  proof_refl : ProofForm
  proof_calc : ProofForm
  proof_as : ProofForm
  proof_sym : ProofForm
  proof_both : ProofForm
  proof_subst : ProofForm
  proof_pair : ProofForm
  proof_fst : ProofForm
  proof_snd : ProofForm
  proof_inl : ProofForm
  proof_inr : ProofForm
  proof_cases : ProofForm
  proof_fun : ProofForm
  proof_app : ProofForm
  proof_neg : ProofForm
  proof_absurd : ProofForm
  proof_em : ProofForm
  proof_lin : ProofForm
  proof_monus : ProofForm
  proof_head : ProofForm
  proof_tail : ProofForm
  proof_nocons : ProofForm
  proof_apart : ProofForm
  proof_nonnull : ProofForm
  proof_lemma : ProofForm
  proof_todo : ProofForm

pub data GiveForm : Type 0 where
  give_emp : GiveForm
  give_atom : GiveForm
  give_fact : GiveForm
  give_ex : GiveForm
  give_left : GiveForm
  give_right : GiveForm
  give_fold : GiveForm

-- what stands alone or in parentheses
pub data Wrapping : Type 0 where
  bare : Wrapping
  in_parens : Wrapping

pub data StepForm : Type 0 where
  step_have : StepForm
  step_open_var : StepForm
  step_open_fact : StepForm
  step_unfold : StepForm
  step_fold : StepForm
  step_rewrite : StepForm
  step_use : StepForm

pub data StmtForm : Type 0 where
  stmt_read : StmtForm
  stmt_write : StmtForm
  stmt_alloc : StmtForm
  stmt_free : StmtForm
  stmt_publish : StmtForm
  stmt_retract : StmtForm
  stmt_call : StmtForm
  stmt_do : StmtForm
  stmt_atomic : StmtForm
  stmt_par : StmtForm
  stmt_step : StmtForm

pub data EndForm : Type 0 where
  end_ret : EndForm
  end_if : EndForm
  end_case_atom : EndForm
  end_case_bool : EndForm
  end_case_seq : EndForm
  end_dead : EndForm

pub data AccessForm : Type 0 where
  without_shared : AccessForm
  with_shared : AccessForm

pub data DeclForm : Type 0 where
  decl_root : DeclForm
  decl_invariant : DeclForm
  decl_pred : DeclForm
  decl_pred_on : DeclForm
  decl_lemma : DeclForm
  decl_lemma_seq : DeclForm
  decl_lemma_nat : DeclForm
  decl_txn : DeclForm
  decl_proc : DeclForm

-- ---- the productions, where inner says what the constructs spell that count as one more open

module _ (inner : (n : Nested) → Rel (Tree n)) where
  -- ---- terms

  -- prim = NUM | "true" | "false" | "null" | "nil" | NAME | "(" ")" | "(" term ")" | "len" prim
  abbrev pub prim_form : PrimForm → Rel Term
  prim_form prim_num = Numbered (λ n. Gives (t.Num n))
  prim_form prim_true = k.True ▸ Gives t.True
  prim_form prim_false = k.False ▸ Gives t.False
  prim_form prim_null = k.Null ▸ Gives t.Null
  prim_form prim_nil = k.Nil ▸ Gives t.Nil
  prim_form prim_name = Named (λ x. Gives (t.Var x))
  prim_form prim_unit = k.LParen ▸ (k.RParen ▸ Gives t.Unit)
  prim_form prim_paren = k.LParen ▸ Part (inner a_term) (λ x. k.RParen ▸ Gives x)
  prim_form prim_len = k.Len ▸ Part (inner after_len) (λ x. Gives (t.Len x))

  abbrev pub prim : Rel Term
  prim i x j = (f : PrimForm) × prim_form f i x j

  -- off = prim { "." NUM }*
  abbrev pub off : Rel Term
  off i x j = (n : ℕ) × Chain dots prim Offset n i x j

  -- place = NAME { "." NUM }* | "null" { "." NUM }*
  abbrev pub place_form : PlaceForm → Rel Term
  place_form place_name = Named (λ x. Gives (t.Var x))
  place_form place_null = k.Null ▸ Gives t.Null

  abbrev pub place_start : Rel Term
  place_start i x j = (f : PlaceForm) × place_form f i x j

  abbrev pub place : Rel Term
  place i x j = (n : ℕ) × Chain dots place_start Offset n i x j

  -- prod = off { "*" off }*
  abbrev pub prod : Rel Term
  prod i x j = (n : ℕ) × Chain muls off off n i x j

  -- sum = prod { ("+" | "-") prod }*
  abbrev pub sum : Rel Term
  sum i x j = (n : ℕ) × Chain adds prod prod n i x j

  -- app = sum (("::" | "++") app)?
  abbrev pub app : Rel Term
  app = Optional links sum (inner after_link)

  -- cmp = app (("=" | "<" | "<=") app)?
  abbrev pub cmp : Rel Term
  cmp = Optional compares app app

  -- neg = "not" neg | cmp
  abbrev pub neg_form : NegForm → Rel Term
  neg_form neg_not = k.Not ▸ Part (inner after_not) (λ x. Gives (t.Not x))
  neg_form neg_cmp = cmp

  abbrev pub neg : Rel Term
  neg i x j = (f : NegForm) × neg_form f i x j

  -- conj = neg { "and" neg }*
  abbrev pub conj : Rel Term
  conj i x j = (n : ℕ) × Chain ands neg neg n i x j

  -- disj = conj { "or" conj }*
  abbrev pub disj : Rel Term
  disj i x j = (n : ℕ) × Chain ors conj conj n i x j

  -- term = disj | disj "imp" term
  abbrev pub term : Rel Term
  term = Optional implies disj (inner a_term)

  -- "(" list(term) ")"
  abbrev pub arguments : Rel (List Term)
  arguments = k.LParen ▸ Part (Listed 64 (inner a_term)) (λ ts. k.RParen ▸ Gives ts)

  -- "[" term "]", then R of it
  abbrev pub Bracketed : {A : Type 0} → (Term → Rel A) → Rel A
  Bracketed R = k.LBracket ▸ Part (inner a_term) (λ x. k.RBracket ▸ R x)

  -- ---- assertions

  -- apr = "emp" | "[" term "]" | "(" assn ")" | place "->" off | place "=>" off | NAME "(" list(term) ")"
  --     | "exists" NAME ":" sort "." assn | "either" apr "or" apr
  abbrev pub apr_form : AprForm → Rel Assn
  apr_form apr_emp = k.Emp ▸ Gives a.Emp
  apr_form apr_fact = Bracketed (λ x. Gives (a.Fact x))
  apr_form apr_paren = k.LParen ▸ Part (inner an_assn) (λ x. k.RParen ▸ Gives x)
  apr_form apr_own = Part place (λ x. k.Arrow ▸ Part off (λ y. Gives (a.Own x y)))
  apr_form apr_shared = Part place (λ x. k.FatArrow ▸ Part off (λ y. Gives (a.Shared x y)))
  apr_form apr_inst = Named (λ x. Part arguments (λ ts. Gives (a.Inst x ts)))
  apr_form apr_exists = k.Exists ▸ Named (λ x. k.Colon ▸ Sorted (λ z. k.Dot ▸ Part (inner an_assn) (λ y. Gives (a.Exists x z y))))
  apr_form apr_either = k.Either ▸ Part (inner after_either) (λ x. k.Or ▸ Part (inner after_either) (λ y. Gives (a.Either x y)))

  abbrev pub apr : Rel Assn
  apr i x j = (f : AprForm) × apr_form f i x j

  -- assn = apr { "*" apr }*, as far as the chain goes. So the body of an `exists` takes the rest of the chain in which it stands;
  -- no other assertion is followed by a `*`.
  abbrev pub assn : Rel Assn
  assn i x j = ((n : ℕ) × Chain stars apr apr n i x j) × (goes_on j ≡ false)

  -- box = "{" assn "}"
  abbrev pub box : Rel Assn
  box = k.LBrace ▸ Part (inner an_assn) (λ x. k.RBrace ▸ Gives x)

  -- ---- proofs

  -- "{" NAME "." proof "}", then R of both
  abbrev pub Case : {A : Type 0} → (List ℕ → Proof → Rel A) → Rel A
  Case R = k.LBrace ▸ Named (λ h. k.Dot ▸ Part (inner a_proof) (λ q. k.RBrace ▸ R h q))

  -- NUM "[" term "]" proof
  abbrev pub lin_entry : Rel LinEntry
  lin_entry = Numbered (λ m. Bracketed (λ x. Part (inner a_proof) (λ q. Gives (roll-LinEntry (record { multiplier = m; fact = x; proof = q })))))

  -- a word and one proof; a word and two proofs; a word, a term and one proof; a word, a term and two proofs
  abbrev pub over_one : TokenKind → (Proof → ProofKind) → Rel ProofKind
  over_one word node = word ▸ Part (inner a_proof) (λ q. Gives (node q))

  abbrev pub over_two : TokenKind → (Proof → Proof → ProofKind) → Rel ProofKind
  over_two word node = word ▸ Part (inner a_proof) (λ q. Part (inner a_proof) (λ r. Gives (node q r)))

  abbrev pub of_over_one : TokenKind → (Term → Proof → ProofKind) → Rel ProofKind
  of_over_one word node = word ▸ Bracketed (λ x. Part (inner a_proof) (λ q. Gives (node x q)))

  abbrev pub of_over_two : TokenKind → (Term → Proof → Proof → ProofKind) → Rel ProofKind
  of_over_two word node = word ▸ Bracketed (λ x. Part (inner a_proof) (λ q. Part (inner a_proof) (λ r. Gives (node x q r))))

  abbrev pub proof_form : ProofForm → Rel ProofKind
  proof_form proof_hyp = k.Hyp ▸ Named (λ h. Gives (p.Hyp h))
  proof_form proof_refl = k.Refl ▸ Gives p.Refl
  proof_form proof_calc = k.Calc ▸ Gives p.Calc
  proof_form proof_as = of_over_one k.As p.Recast
  proof_form proof_sym = over_one k.Sym p.Sym
  proof_form proof_both = over_two k.Both p.Both
  -- "subst" "(" NAME ":" sort "." term ")" "[" term "]" "[" term "]" proof proof
  proof_form proof_subst = k.Subst ▸ (k.LParen ▸ Named (λ x. k.Colon ▸ Sorted (λ z. k.Dot ▸ Part (inner a_term) (λ y. k.RParen ▸
      Bracketed (λ old. Bracketed (λ new. Part (inner a_proof) (λ q. Part (inner a_proof) (λ r. Gives (p.Subst x z y old new q r)))))))))
  proof_form proof_pair = over_two k.Pair p.Pair
  proof_form proof_fst = of_over_one k.Fst p.Fst
  proof_form proof_snd = of_over_one k.Snd p.Snd
  proof_form proof_inl = over_one k.Inl p.Inl
  proof_form proof_inr = over_one k.Inr p.Inr
  -- "cases" "[" term "]" proof "{" NAME "." proof "}" "{" NAME "." proof "}"
  proof_form proof_cases = k.Cases ▸ Bracketed (λ x. Part (inner a_proof) (λ q. Case (λ h r. Case (λ m s. Gives (p.Cases x q h r m s)))))
  -- "fun" NAME "." proof
  proof_form proof_fun = k.Fun ▸ Named (λ h. k.Dot ▸ Part (inner a_proof) (λ q. Gives (p.Fun h q)))
  proof_form proof_app = of_over_two k.App p.App
  proof_form proof_neg = of_over_two k.Neg p.Neg
  proof_form proof_absurd = over_one k.Absurd p.Absurd
  -- "em" "[" term "]" "{" NAME "." proof "}" "{" NAME "." proof "}"
  proof_form proof_em = k.Em ▸ Bracketed (λ x. Case (λ h q. Case (λ m r. Gives (p.Em x h q m r))))
  -- "lin" NUM "{" list(NUM "[" term "]" proof) "}"
  proof_form proof_lin = k.Lin ▸ Numbered (λ m. k.LBrace ▸ Part (Listed 64 lin_entry) (λ es. k.RBrace ▸ Gives (p.Lin m es)))
  proof_form proof_monus = over_one k.Monus p.Monus
  -- "head" and "tail" "[" term "]" "[" term "]" proof
  proof_form proof_head = k.Head ▸ Bracketed (λ x. Bracketed (λ y. Part (inner a_proof) (λ q. Gives (p.Head x y q))))
  proof_form proof_tail = k.Tail ▸ Bracketed (λ x. Bracketed (λ y. Part (inner a_proof) (λ q. Gives (p.Tail x y q))))
  proof_form proof_nocons = k.Nocons ▸ Gives p.Nocons
  proof_form proof_apart = k.Apart ▸ Numbered (λ m. Numbered (λ n. Gives (p.Apart m n)))
  proof_form proof_nonnull = k.Nonnull ▸ Numbered (λ m. Gives (p.Nonnull m))
  -- "lemma" NAME "(" list(term) ")" proof
  proof_form proof_lemma = k.Lemma ▸ Named (λ x. Part arguments (λ ts. Part (inner a_proof) (λ q. Gives (p.Lemma x ts q))))
  proof_form proof_todo = k.Todo ▸ Gives p.Todo

  -- proof = "(" proof ")" | a form, at the spot of its first word
  abbrev pub wrapped_proof : Wrapping → Rel Proof
  wrapped_proof bare = Spotted (λ spot. Part (λ i x j. (f : ProofForm) × proof_form f i x j) (λ x. Gives (record { spot = spot; kind = x })))
  wrapped_proof in_parens = k.LParen ▸ Part (inner a_proof) (λ x. k.RParen ▸ Gives x)

  abbrev pub proof : Rel Proof
  proof i x j = (w : Wrapping) × wrapped_proof w i x j

  -- ---- gives

  -- "emp" | "@" NUM | "[" proof "]" | "ex" "[" term "]" gpr | "left" gpr | "right" gpr | "fold" gpr
  abbrev pub give_form : GiveForm → Rel GiveKind
  give_form give_emp = k.Emp ▸ Gives g.Emp
  give_form give_atom = k.AtSign ▸ Numbered (λ m. Gives (g.Atom m))
  give_form give_fact = k.LBracket ▸ Part (inner a_proof) (λ q. k.RBracket ▸ Gives (g.Fact q))
  give_form give_ex = k.Ex ▸ Bracketed (λ x. Part (inner after_prefix) (λ y. Gives (g.Ex x y)))
  give_form give_left = k.Left ▸ Part (inner after_prefix) (λ y. Gives (g.Left y))
  give_form give_right = k.Right ▸ Part (inner after_prefix) (λ y. Gives (g.Right y))
  give_form give_fold = k.Fold ▸ Part (inner after_prefix) (λ y. Gives (g.Fold y))

  -- gpr = "(" give ")" | a form, at the spot of its first token
  abbrev pub wrapped_give : Wrapping → Rel Give
  wrapped_give bare = Spotted (λ spot. Part (λ i x j. (f : GiveForm) × give_form f i x j) (λ x. Gives (record { spot = spot; kind = x })))
  wrapped_give in_parens = k.LParen ▸ Part (inner a_give) (λ x. k.RParen ▸ Gives x)

  abbrev pub gpr : Rel Give
  gpr i x j = (w : Wrapping) × wrapped_give w i x j

  -- give = gpr { "*" gpr }*, each star at the spot where the chain begins
  abbrev pub give : Rel Give
  give = Spotted (λ spot i x j. (n : ℕ) × Chain (joins spot) gpr gpr n i x j)

  -- ---- steps

  -- "by" proof, and "by" give, then R of it
  abbrev pub ByProof : {A : Type 0} → (Proof → Rel A) → Rel A
  ByProof R = k.By ▸ Part (inner a_proof) R

  abbrev pub ByGive : {A : Type 0} → (Give → Rel A) → Rel A
  ByGive R = k.By ▸ Part (inner a_give) R

  -- step = "have" NAME ":" term "by" proof | "open" NUM "as" NAME ":" sort | "open" NUM "as" NAME | "unfold" NUM
  --      | "fold" NAME "(" list(term) ")" "by" give | "rewrite" NUM NUM "to" term "by" proof | "use" NAME "(" list(term) ")" "by" give
  abbrev pub step_form : StepForm → Rel StepKind
  step_form step_have = k.Have ▸ Named (λ h. k.Colon ▸ Part (inner a_term) (λ x. ByProof (λ q. Gives (s.Have h x q))))
  step_form step_open_var = k.Open ▸ Numbered (λ m. k.As ▸ Named (λ x. k.Colon ▸ Sorted (λ z. Gives (s.OpenVar m x z))))
  step_form step_open_fact = k.Open ▸ Numbered (λ m. k.As ▸ Named (λ h. Gives (s.OpenFact m h)))
  step_form step_unfold = k.Unfold ▸ Numbered (λ m. Gives (s.Unfold m))
  step_form step_fold = k.Fold ▸ Named (λ x. Part arguments (λ ts. ByGive (λ y. Gives (s.Fold x ts y))))
  step_form step_rewrite = k.Rewrite ▸ Numbered (λ m. Numbered (λ n. k.To ▸ Part (inner a_term) (λ x. ByProof (λ q. Gives (s.Rewrite m n x q)))))
  step_form step_use = k.Use ▸ Named (λ x. Part arguments (λ ts. ByGive (λ y. Gives (s.Use x ts y))))

  -- ---- statements

  -- "at" NUM "by" proof, then R of both
  abbrev pub AtCell : {A : Type 0} → (ℕ → Proof → Rel A) → Rel A
  AtCell R = k.At ▸ Numbered (λ m. ByProof (λ q. R m q))

  -- nums body box, then R of the three
  abbrev pub Block : {A : Type 0} → (List ℕ → Body → Assn → Rel A) → Rel A
  Block R = Part nums (λ is. Part (inner a_body) (λ y. Part box (λ post. R is y post)))

  abbrev pub stmt_form : StmtForm → Rel StmtKind
  -- stmt = NAME ":" sort "<-" "read" term "at" NUM "as" NAME "by" proof
  stmt_form stmt_read = Named (λ x. k.Colon ▸ Sorted (λ z. k.LeftArrow ▸ (k.Read ▸ Part (inner a_term) (λ y. k.At ▸ Numbered (λ m. k.As ▸
      Named (λ h. ByProof (λ q. Gives (c.Read x z y m h q))))))))
  --      | "write" off off "at" NUM "by" proof
  stmt_form stmt_write = k.Write ▸ Part off (λ x. Part off (λ y. AtCell (λ m q. Gives (c.Write x y m q))))
  --      | NAME "<-" "alloc" "(" term { "," term }* ")"
  stmt_form stmt_alloc = Named (λ x. k.LeftArrow ▸ (k.Alloc ▸ (k.LParen ▸ Part (Entries 8 (inner a_term) 0) (λ ts. k.RParen ▸ Gives (c.Alloc x ts)))))
  --      | "free" term "at" NUM "by" proof, and so "publish" and "retract"
  stmt_form stmt_free = k.Free ▸ Part (inner a_term) (λ x. AtCell (λ m q. Gives (c.Free x m q)))
  stmt_form stmt_publish = k.Publish ▸ Part (inner a_term) (λ x. AtCell (λ m q. Gives (c.Publish x m q)))
  stmt_form stmt_retract = k.Retract ▸ Part (inner a_term) (λ x. AtCell (λ m q. Gives (c.Retract x m q)))
  --      | NAME "<-" "call" NAME "(" list(term) ")" "[" list(term) "]" "by" give
  stmt_form stmt_call = Named (λ x. k.LeftArrow ▸ (k.Call ▸ Named (λ f. Part arguments (λ ts. k.LBracket ▸ Part (Listed 64 (inner a_term)) (λ us. k.RBracket ▸
      ByGive (λ y. Gives (c.Call x f ts us y)))))))
  --      | NAME ":" sort "<-" "do" nums body box, and so "atomic"
  stmt_form stmt_do = Named (λ x. k.Colon ▸ Sorted (λ z. k.LeftArrow ▸ (k.Do ▸ Block (λ is y post. Gives (c.Do x z is y post)))))
  stmt_form stmt_atomic = Named (λ x. k.Colon ▸ Sorted (λ z. k.LeftArrow ▸ (k.Atomic ▸ Block (λ is y post. Gives (c.Atomic x z is y post)))))
  --      | "(" NAME ":" sort "," NAME ":" sort ")" "<-" "par" nums body box nums body box
  stmt_form stmt_par = k.LParen ▸ Named (λ x. k.Colon ▸ Sorted (λ z. k.Comma ▸ Named (λ y. k.Colon ▸ Sorted (λ w. k.RParen ▸ (k.LeftArrow ▸ (k.Par ▸
      Block (λ is b post. Block (λ js d box. Gives (c.Par x z y w is b post js d box)))))))))
  --      | step
  stmt_form stmt_step = Spotted (λ spot. Part (λ i x j. (f : StepForm) × step_form f i x j) (λ x. Gives (c.Proof (record { spot = spot; kind = x }))))

  -- a statement at the spot of its first token
  abbrev pub stmt : Rel Stmt
  stmt = Spotted (λ spot. Part (λ i x j. (f : StmtForm) × stmt_form f i x j) (λ x. Gives (record { spot = spot; kind = x })))

  -- ---- ends and bodies

  -- end = "ret" term "by" give | "if" term "as" NAME body "else" body | "case" NUM body body | "case" "[" term "]" "as" NAME body body
  --     | "case" "seq" term "as" NAME body NAME NAME body | "dead" proof body
  abbrev pub end_form : EndForm → Rel EndKind
  end_form end_ret = k.Ret ▸ Part (inner a_term) (λ x. ByGive (λ y. Gives (e.Ret x y)))
  end_form end_if = k.If ▸ Part (inner a_term) (λ x. k.As ▸ Named (λ h. Part (inner a_body) (λ y. k.Else ▸ Part (inner a_body) (λ z. Gives (e.If x h y z)))))
  end_form end_case_atom = k.Case ▸ Numbered (λ m. Part (inner a_body) (λ y. Part (inner a_body) (λ z. Gives (e.CaseAtom m y z))))
  end_form end_case_bool = k.Case ▸ Bracketed (λ x. k.As ▸ Named (λ h. Part (inner a_body) (λ y. Part (inner a_body) (λ z. Gives (e.CaseBool x h y z)))))
  end_form end_case_seq = k.Case ▸ (k.Seq ▸ Part (inner a_term) (λ x. k.As ▸ Named (λ h. Part (inner a_body) (λ y. Named (λ m. Named (λ n.
      Part (inner a_body) (λ z. Gives (e.CaseSeq x h y m n z))))))))
  end_form end_dead = k.Dead ▸ Part (inner a_proof) (λ q. Part (inner a_body) (λ y. Gives (e.Dead q y)))

  -- an end at the spot of its first token
  abbrev pub end : Rel End
  end = Spotted (λ spot. Part (λ i x j. (f : EndForm) × end_form f i x j) (λ x. Gives (record { spot = spot; kind = x })))

  -- stmt ";"
  abbrev pub ended : Rel Stmt
  ended = Part stmt (λ x. k.Semicolon ▸ Gives x)

  -- body = "{" { stmt ";" }* end "}"
  abbrev pub body : Rel Body
  body = k.LBrace ▸ Part (Many ended) (λ xs. Part end (λ y. k.RBrace ▸ Gives (roll-Body (record { stmts = xs; end = y }))))

  -- ---- declarations and files

  -- head = NAME params "[" list(NAME ":" sort) "]" box NAME ":" sort box
  abbrev pub head : Rel Head
  head = Named (λ x. Part params (λ ps. Part logic (λ vs. Part box (λ pre. Named (λ r. k.Colon ▸ Sorted (λ z. Part box (λ post.
      Gives (record { name = x; params = ps; logic = vs; pre = pre; result = r; sort = z; post = post }))))))))

  -- "shared"?
  abbrev pub access_form : AccessForm → Rel Access
  access_form without_shared = Gives access.Private
  access_form with_shared = k.Shared ▸ Gives access.Shared

  -- "shared"? "pred" NAME params, then R of the three
  abbrev pub Defining : {A : Type 0} → (Access → List ℕ → List Param → Rel A) → Rel A
  Defining R = Part (λ i x j. (f : AccessForm) × access_form f i x j) (λ who. k.Pred ▸ Named (λ x. Part params (λ ps. R who x ps)))

  abbrev pub decl_form : Spot → DeclForm → Rel DeclKind
  -- decl = "root" NAME ":" sort ":=" value ";"
  decl_form spot decl_root = k.Root ▸ Named (λ x. k.Colon ▸ Sorted (λ z. k.Assign ▸ Part initial (λ y. k.Semicolon ▸ Gives (d.Root x z y))))
  --      | "invariant" box "by" give ";"
  decl_form spot decl_invariant = k.Invariant ▸ Part box (λ x. ByGive (λ y. k.Semicolon ▸ Gives (d.Invariant x y)))
  --      | "shared"? "pred" NAME params "=" assn ";"
  decl_form spot decl_pred = Defining (λ who x ps. k.Equal ▸ Part (inner an_assn) (λ y. k.Semicolon ▸ Gives (d.Pred who x ps y)))
  --      | "shared"? "pred" NAME params "on" NAME "nil" "=" assn "cons" NAME NAME "=" assn ";"
  decl_form spot decl_pred_on = Defining (λ who x ps. k.On ▸ Named (λ u. k.Nil ▸ (k.Equal ▸ Part (inner an_assn) (λ y. k.Cons ▸ Named (λ m. Named (λ n. k.Equal ▸
      Part (inner an_assn) (λ z. k.Semicolon ▸ Gives (d.PredOn who x ps u y m n z))))))))
  --      | "lemma" NAME params box box body
  decl_form spot decl_lemma = k.Lemma ▸ Named (λ x. Part params (λ ps. Part box (λ pre. Part box (λ post. Part (inner a_body) (λ y.
      Gives (d.Lemma (record { spot = spot; name = x; params = ps; pre = pre; post = post; kind = l.Plain y })))))))
  --      | "lemma" NAME params "on" NAME box box "nil" body "cons" NAME NAME body
  decl_form spot decl_lemma_seq = k.Lemma ▸ Named (λ x. Part params (λ ps. k.On ▸ Named (λ u. Part box (λ pre. Part box (λ post. k.Nil ▸ Part (inner a_body) (λ y.
      k.Cons ▸ Named (λ m. Named (λ n. Part (inner a_body) (λ z.
      Gives (d.Lemma (record { spot = spot; name = x; params = ps; pre = pre; post = post; kind = l.OnSeq u y m n z })))))))))))
  --      | "lemma" NAME params "on" NAME box box "zero" body "next" NAME body
  decl_form spot decl_lemma_nat = k.Lemma ▸ Named (λ x. Part params (λ ps. k.On ▸ Named (λ u. Part box (λ pre. Part box (λ post. k.Zero ▸ Part (inner a_body) (λ y.
      k.Next ▸ Named (λ m. Part (inner a_body) (λ z.
      Gives (d.Lemma (record { spot = spot; name = x; params = ps; pre = pre; post = post; kind = l.OnNat u y m z }))))))))))
  --      | "txn" head body | "proc" head body
  decl_form spot decl_txn = k.Txn ▸ Part head (λ x. Part (inner a_body) (λ y. Gives (d.Txn x y)))
  decl_form spot decl_proc = k.Proc ▸ Part head (λ x. Part (inner a_body) (λ y. Gives (d.Proc x y)))

  -- a declaration at the spot of its first token
  abbrev pub decl : Rel Decl
  decl = Spotted (λ spot. Part (λ i x j. (f : DeclForm) × decl_form spot f i x j) (λ x. Gives (record { spot = spot; kind = x })))

  -- the roots so far, with one that begins here
  abbrev pub counts_root : List Tok → ℕ → ℕ
  counts_root (tok k.Root w ∷ i) n = suc n
  counts_root _ n = n

  -- at most 256 of the declarations are roots
  abbrev pub RootRoom : ℕ → List Tok → Type 0
  RootRoom n (tok k.Root w ∷ i) = Room 256 n w.mark
  RootRoom n _ = Unit {0}

  -- { decl }*, where so many declarations stand before, so many of them roots: at most 2,000, 256 of them roots
  pub data Decls : ℕ → ℕ → List Tok → List Decl → List Tok → Type 0 where
    no_decls : {m n : ℕ} {i : List Tok} → Decls m n i [] i
    more_decls : {m n : ℕ} {i j l : List Tok} {x : Decl} {xs : List Decl} → RoomAt 2000 m i → RootRoom n i → decl i x j → Decls (suc m) (counts_root i n) j xs l
        → Decls m n i (x ∷ xs) l

  -- "main" NAME ":" sort box body, at the spot of its first word
  abbrev pub main : Rel Main
  main = Spotted (λ spot. k.Main ▸ Named (λ x. k.Colon ▸ Sorted (λ z. Part box (λ post. Part (inner a_body) (λ y.
      Gives (record { spot = spot; result = x; sort = z; post = post; body = y }))))))

  -- file = "tht" NUM { decl }* main
  abbrev pub file : Rel Source1
  file = k.Tht ▸ Part version_number (λ n. Part (Decls 0 0) (λ ds. Part main (λ x. Gives (record { version = n; decls = ds; main = x }))))

  -- what each construct is
  abbrev pub production : (n : Nested) → Rel (Tree n)
  production a_term = term
  production after_not = neg
  production after_link = app
  production after_len = prim
  production an_assn = assn
  production after_either = apr
  production a_proof = proof
  production a_give = give
  production after_prefix = gpr
  production a_body = body

-- ---- what counts as open

-- which trees a construct may be where d others are open. The number of constructs inside one another is no limit of the
-- language: it is what the recursion goes down by.
abbrev pub spells : ℕ → ℕ → (n : Nested) → Rel (Tree n)
spells zero d n i x j = ⊥
spells (suc more) d n i x j = Within (suc d) i × production (spells more (suc d)) n i x j

-- the tokens i spell the file, and j are left
abbrev pub SpellsFile : List Tok → Source1 → List Tok → Type 0
SpellsFile i x j = (more : ℕ) × file (spells more 0) i x j
