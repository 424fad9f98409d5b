-- How the productions of the grammar are read, from left to right, by one token at a time.
use Rattle.std.specs.Prelude.{ℕ, zero, suc, Bool, true, false, ◌==◌, ◌-◌, nat_le, List, [], ◌∷◌, ◌++◌, length, Option, Some, None, Ok, Err}
use Rattle.tht_tree.specs.declared.plain.Spot.{Spot}
use Rattle.tht_tree.specs.declared.plain.Sort.{Sort}
use Rattle.tht_tree.specs.declared.token.TokenKind.{TokenKind}
use Rattle.tht_tree.specs.declared.token.TokenKind.TheVariants as k
use Rattle.tht_tree.specs.declared.term.Term.{Term}
use Rattle.tht_tree.specs.declared.term.Term.TheVariants as t
use Rattle.tht_tree.specs.declared.assn.Assn.{Assn}
use Rattle.tht_tree.specs.declared.assn.Assn.TheVariants as a
use Rattle.tht_tree.specs.declared.proof.Proof.{Proof}
use Rattle.tht_tree.specs.declared.proof.ProofKind.{ProofKind}
use Rattle.tht_tree.specs.declared.proof.ProofKind.TheVariants as p
use Rattle.tht_tree.specs.declared.proof.LinEntry.{LinEntry, roll-LinEntry}
use Rattle.tht_tree.specs.declared.give.Give.{Give}
use Rattle.tht_tree.specs.declared.give.GiveKind.{GiveKind}
use Rattle.tht_tree.specs.declared.give.GiveKind.TheVariants as g
use Rattle.tht_tree.specs.declared.step.StepKind.{StepKind}
use Rattle.tht_tree.specs.declared.step.StepKind.TheVariants as s
use Rattle.tht_tree.specs.declared.body.Body.{Body, roll-Body}
use Rattle.tht_tree.specs.declared.body.Stmt.{Stmt}
use Rattle.tht_tree.specs.declared.body.StmtKind.{StmtKind}
use Rattle.tht_tree.specs.declared.body.StmtKind.TheVariants as c
use Rattle.tht_tree.specs.declared.body.End.{End}
use Rattle.tht_tree.specs.declared.body.EndKind.{EndKind}
use Rattle.tht_tree.specs.declared.body.EndKind.TheVariants as e
use Rattle.tht_tree.specs.declared.decl.Param.{Param}
use Rattle.tht_tree.specs.declared.decl.Head.{Head}
use Rattle.tht_tree.specs.declared.decl.Initial.{Initial}
use Rattle.tht_tree.specs.declared.decl.Initial.TheVariants as v
use Rattle.tht_tree.specs.declared.decl.Access.{Access}
use Rattle.tht_tree.specs.declared.decl.Access.TheVariants as access
use Rattle.tht_tree.specs.declared.decl.LemmaKind.TheVariants as l
use Rattle.tht_tree.specs.declared.decl.Decl.{Decl}
use Rattle.tht_tree.specs.declared.decl.DeclKind.{DeclKind}
use Rattle.tht_tree.specs.declared.decl.DeclKind.TheVariants as d
use Rattle.tht_tree.specs.declared.file.Main.{Main}
use Rattle.tht_tree.specs.declared.file.Source1.{Source1}
use Rattle.tht_tree.specs.Tokens.{many, version, Tok}
use Rattle.tht_tree.specs.Faults.{unexpected}
use Rattle.tht_tree.specs.Productions.{sort_of}
use Rattle.tht_tree.specs.Grammar.{Nested, Tree, a_term, after_not, after_link, after_len, an_assn, after_either, a_proof, a_give, after_prefix, a_body, implies, ors, ands, compares, links, adds, muls, dots, stars, joins}
use Rattle.tht_grammar.specs.Steps.{Outcome, Reader, ◌>>=◌, ◌>>◌, pure, refuse, exceed, is, look, next, spotted, spelled, valued, expect, too_deep, chain, optional, entries, listed, repeat}
use Rattle.tht_grammar.specs.Words.{begins, begins_term, begins_stmt, begins_decl}

-- ---- names, numbers and sorts

abbrev pub name_by : Bool → Reader (List ℕ)
name_by true = spelled (λ w. next (pure w))
name_by false = refuse

unfoldable pub name : Reader (List ℕ)
name = look (λ o. name_by (is k.Name o))

abbrev pub number_by : Bool → Reader ℕ
number_by true = valued (λ n. next (pure n))
number_by false = refuse

unfoldable pub number : Reader ℕ
number = look (λ o. number_by (is k.Num o))

abbrev pub small_by : Bool → Reader ℕ
small_by true = number
small_by false = refuse

-- a number up to 7
unfoldable pub offset : Reader ℕ
offset = valued (λ n. small_by (nat_le n 7))

abbrev pub sort_kind : Option TokenKind → Option Sort
sort_kind None = None
sort_kind (Some q) = sort_of q

abbrev pub sort_by : Option Sort → Reader Sort
sort_by (Some z) = next (pure z)
sort_by None = refuse

unfoldable pub sort : Reader Sort
sort = look (λ o. sort_by (sort_kind o))

-- NAME ":" sort
unfoldable pub param : Reader Param
param = name >>= (λ x. expect k.Colon >> (sort >>= (λ z. pure (record { name = x; sort = z }))))

-- "(" list(NAME ":" sort) ")"
unfoldable pub params : Reader (List Param)
params = expect k.LParen >> (listed (is k.Name) param 16 >>= (λ ps. expect k.RParen >> pure ps))

-- "[" list(NAME ":" sort) "]"
unfoldable pub logic : Reader (List Param)
logic = expect k.LBracket >> (listed (is k.Name) param 16 >>= (λ ps. expect k.RBracket >> pure ps))

-- "(" list(NUM) ")"
unfoldable pub nums : Reader (List ℕ)
nums = expect k.LParen >> (listed (is k.Num) number 64 >>= (λ is. expect k.RParen >> pure is))

abbrev pub initial_by : Option TokenKind → Reader Initial
initial_by (Some k.Num) = valued (λ n. next (pure (v.Num n)))
initial_by (Some k.True) = next (pure v.True)
initial_by (Some k.False) = next (pure v.False)
initial_by (Some k.Null) = next (pure v.Null)
initial_by (Some k.LParen) = next (expect k.RParen >> pure v.Unit)
initial_by (Some k.Name) = spelled (λ w. next (pure (v.Root w)))
initial_by _ = refuse

unfoldable pub initial : Reader Initial
initial = look initial_by

-- ---- the constructs, where inner reads those that count as one more open

module _ (inner : (n : Nested) → Reader (Tree n)) where
  -- ---- terms

  -- what follows an opening parenthesis
  abbrev pub after_paren : Bool → Reader Term
  after_paren true = next (pure t.Unit)
  after_paren false = inner a_term >>= (λ x. expect k.RParen >> pure x)

  unfoldable pub closed : Reader Term
  closed = look (λ o. after_paren (is k.RParen o))

  abbrev pub prim_by : Option TokenKind → Reader Term
  prim_by (Some k.Num) = valued (λ n. next (pure (t.Num n)))
  prim_by (Some k.True) = next (pure t.True)
  prim_by (Some k.False) = next (pure t.False)
  prim_by (Some k.Null) = next (pure t.Null)
  prim_by (Some k.Nil) = next (pure t.Nil)
  prim_by (Some k.Name) = spelled (λ w. next (pure (t.Var w)))
  prim_by (Some k.LParen) = next closed
  prim_by (Some k.Len) = next (inner after_len >>= (λ x. pure (t.Len x)))
  prim_by _ = refuse

  unfoldable pub prim : Reader Term
  prim = look prim_by

  unfoldable pub off : Reader Term
  off = prim >>= chain dots offset 64

  unfoldable pub prod : Reader Term
  prod = off >>= chain muls off 64

  unfoldable pub sum : Reader Term
  sum = prod >>= chain adds prod 64

  unfoldable pub app : Reader Term
  app = sum >>= optional links (inner after_link)

  unfoldable pub cmp : Reader Term
  cmp = app >>= optional compares app

  abbrev pub neg_by : Bool → Reader Term
  neg_by true = next (inner after_not >>= (λ x. pure (t.Not x)))
  neg_by false = cmp

  unfoldable pub neg : Reader Term
  neg = look (λ o. neg_by (is k.Not o))

  unfoldable pub conj : Reader Term
  conj = neg >>= chain ands neg 64

  unfoldable pub disj : Reader Term
  disj = conj >>= chain ors conj 64

  unfoldable pub term : Reader Term
  term = disj >>= optional implies (inner a_term)

  -- "(" list(term) ")"
  unfoldable pub arguments : Reader (List Term)
  arguments = expect k.LParen >> (listed begins_term (inner a_term) 64 >>= (λ ts. expect k.RParen >> pure ts))

  -- "[" term "]"
  unfoldable pub bracketed : Reader Term
  bracketed = expect k.LBracket >> (inner a_term >>= (λ x. expect k.RBracket >> pure x))

  -- ---- assertions

  -- what follows a place
  abbrev pub cell_by : Term → Option TokenKind → Reader Assn
  cell_by x (Some k.Arrow) = next (off >>= (λ y. pure (a.Own x y)))
  cell_by x (Some k.FatArrow) = next (off >>= (λ y. pure (a.Shared x y)))
  cell_by x _ = refuse

  -- what follows the first token of a place
  unfoldable pub cell : Term → Reader Assn
  cell x = chain dots offset 64 x >>= (λ y. look (cell_by y))

  abbrev pub instance_by : List ℕ → Bool → Reader Assn
  instance_by w true = arguments >>= (λ ts. pure (a.Inst w ts))
  instance_by w false = cell (t.Var w)

  -- an instance or a cell, which begins with a name
  unfoldable pub named : Reader Assn
  named = name >>= (λ w. look (λ o. instance_by w (is k.LParen o)))

  unfoldable pub exists : Reader Assn
  exists = expect k.Exists >> (name >>= (λ x. expect k.Colon >> (sort >>= (λ z. expect k.Dot >> (inner an_assn >>= (λ y. pure (a.Exists x z y)))))))

  unfoldable pub either : Reader Assn
  either = expect k.Either >> (inner after_either >>= (λ x. expect k.Or >> (inner after_either >>= (λ y. pure (a.Either x y)))))

  abbrev pub apr_by : Option TokenKind → Reader Assn
  apr_by (Some k.Emp) = next (pure a.Emp)
  apr_by (Some k.LBracket) = bracketed >>= (λ x. pure (a.Fact x))
  apr_by (Some k.LParen) = next (inner an_assn >>= (λ x. expect k.RParen >> pure x))
  apr_by (Some k.Name) = named
  apr_by (Some k.Null) = next (cell t.Null)
  apr_by (Some k.Exists) = exists
  apr_by (Some k.Either) = either
  apr_by _ = refuse

  unfoldable pub apr : Reader Assn
  apr = look apr_by

  unfoldable pub assn : Reader Assn
  assn = apr >>= chain stars apr 64

  -- "{" assn "}"
  unfoldable pub box : Reader Assn
  box = expect k.LBrace >> (inner an_assn >>= (λ x. expect k.RBrace >> pure x))

  -- ---- proofs

  -- "{" NAME "." proof "}"
  unfoldable pub case : Reader (List ℕ × Proof)
  case = expect k.LBrace >> (name >>= (λ h. expect k.Dot >> (inner a_proof >>= (λ q. expect k.RBrace >> pure (h, q)))))

  -- what follows the word of a proof over one proof, over two, of a term over one, and of a term over two
  unfoldable pub over_one : (Proof → ProofKind) → Reader ProofKind
  over_one node = inner a_proof >>= (λ q. pure (node q))

  unfoldable pub over_two : (Proof → Proof → ProofKind) → Reader ProofKind
  over_two node = inner a_proof >>= (λ q. inner a_proof >>= (λ r. pure (node q r)))

  unfoldable pub of_over_one : (Term → Proof → ProofKind) → Reader ProofKind
  of_over_one node = bracketed >>= (λ x. inner a_proof >>= (λ q. pure (node x q)))

  unfoldable pub of_over_two : (Term → Proof → Proof → ProofKind) → Reader ProofKind
  of_over_two node = bracketed >>= (λ x. inner a_proof >>= (λ q. inner a_proof >>= (λ r. pure (node x q r))))

  unfoldable pub of_two_over_one : (Term → Term → Proof → ProofKind) → Reader ProofKind
  of_two_over_one node = bracketed >>= (λ x. bracketed >>= (λ y. inner a_proof >>= (λ q. pure (node x y q))))

  -- what follows the word of each other proof
  unfoldable pub hyp : Reader ProofKind
  hyp = name >>= (λ h. pure (p.Hyp h))

  unfoldable pub subst : Reader ProofKind
  subst = expect k.LParen >> (name >>= (λ x. expect k.Colon >> (sort >>= (λ z. expect k.Dot >> (inner a_term >>= (λ y. expect k.RParen >>
      (bracketed >>= (λ old. bracketed >>= (λ new. inner a_proof >>= (λ q. inner a_proof >>= (λ r. pure (p.Subst x z y old new q r))))))))))))

  unfoldable pub cases : Reader ProofKind
  cases = bracketed >>= (λ x. inner a_proof >>= (λ q. case >>= (λ b. case >>= (λ b2. pure (p.Cases x q b.0 b.1 b2.0 b2.1)))))

  unfoldable pub fun : Reader ProofKind
  fun = name >>= (λ h. expect k.Dot >> (inner a_proof >>= (λ q. pure (p.Fun h q))))

  unfoldable pub em : Reader ProofKind
  em = bracketed >>= (λ x. case >>= (λ b. case >>= (λ b2. pure (p.Em x b.0 b.1 b2.0 b2.1))))

  -- NUM "[" term "]" proof
  unfoldable pub lin_entry : Reader LinEntry
  lin_entry = number >>= (λ m. bracketed >>= (λ x. inner a_proof >>= (λ q. pure (roll-LinEntry (record { multiplier = m; fact = x; proof = q })))))

  unfoldable pub lin : Reader ProofKind
  lin = number >>= (λ m. expect k.LBrace >> (listed (is k.Num) lin_entry 64 >>= (λ es. expect k.RBrace >> pure (p.Lin m es))))

  unfoldable pub apart : Reader ProofKind
  apart = number >>= (λ m. number >>= (λ n. pure (p.Apart m n)))

  unfoldable pub nonnull : Reader ProofKind
  nonnull = number >>= (λ m. pure (p.Nonnull m))

  unfoldable pub lemma : Reader ProofKind
  lemma = name >>= (λ x. arguments >>= (λ ts. inner a_proof >>= (λ q. pure (p.Lemma x ts q))))

  -- by the first word
  abbrev pub proof_kind_by : Option TokenKind → Reader ProofKind
  proof_kind_by (Some k.Hyp) = next hyp
  proof_kind_by (Some k.Refl) = next (pure p.Refl)
  proof_kind_by (Some k.Calc) = next (pure p.Calc)
  proof_kind_by (Some k.As) = next (of_over_one p.Recast)
  proof_kind_by (Some k.Sym) = next (over_one p.Sym)
  proof_kind_by (Some k.Both) = next (over_two p.Both)
  proof_kind_by (Some k.Subst) = next subst
  proof_kind_by (Some k.Pair) = next (over_two p.Pair)
  proof_kind_by (Some k.Fst) = next (of_over_one p.Fst)
  proof_kind_by (Some k.Snd) = next (of_over_one p.Snd)
  proof_kind_by (Some k.Inl) = next (over_one p.Inl)
  proof_kind_by (Some k.Inr) = next (over_one p.Inr)
  proof_kind_by (Some k.Cases) = next cases
  proof_kind_by (Some k.Fun) = next fun
  proof_kind_by (Some k.App) = next (of_over_two p.App)
  proof_kind_by (Some k.Neg) = next (of_over_two p.Neg)
  proof_kind_by (Some k.Absurd) = next (over_one p.Absurd)
  proof_kind_by (Some k.Em) = next em
  proof_kind_by (Some k.Lin) = next lin
  proof_kind_by (Some k.Monus) = next (over_one p.Monus)
  proof_kind_by (Some k.Head) = next (of_two_over_one p.Head)
  proof_kind_by (Some k.Tail) = next (of_two_over_one p.Tail)
  proof_kind_by (Some k.Nocons) = next (pure p.Nocons)
  proof_kind_by (Some k.Apart) = next apart
  proof_kind_by (Some k.Nonnull) = next nonnull
  proof_kind_by (Some k.Lemma) = next lemma
  proof_kind_by (Some k.Todo) = next (pure p.Todo)
  proof_kind_by _ = refuse

  unfoldable pub proof_kind : Reader ProofKind
  proof_kind = look proof_kind_by

  abbrev pub proof_by : Bool → Reader Proof
  proof_by true = next (inner a_proof >>= (λ x. expect k.RParen >> pure x))
  proof_by false = spotted (λ spot. proof_kind >>= (λ x. pure (record { spot = spot; kind = x })))

  unfoldable pub proof : Reader Proof
  proof = look (λ o. proof_by (is k.LParen o))

  -- ---- gives

  abbrev pub give_kind_by : Option TokenKind → Reader GiveKind
  give_kind_by (Some k.Emp) = next (pure g.Emp)
  give_kind_by (Some k.AtSign) = next (number >>= (λ m. pure (g.Atom m)))
  give_kind_by (Some k.LBracket) = next (inner a_proof >>= (λ q. expect k.RBracket >> pure (g.Fact q)))
  give_kind_by (Some k.Ex) = next (bracketed >>= (λ x. inner after_prefix >>= (λ y. pure (g.Ex x y))))
  give_kind_by (Some k.Left) = next (inner after_prefix >>= (λ y. pure (g.Left y)))
  give_kind_by (Some k.Right) = next (inner after_prefix >>= (λ y. pure (g.Right y)))
  give_kind_by (Some k.Fold) = next (inner after_prefix >>= (λ y. pure (g.Fold y)))
  give_kind_by _ = refuse

  unfoldable pub give_kind : Reader GiveKind
  give_kind = look give_kind_by

  abbrev pub gpr_by : Bool → Reader Give
  gpr_by true = next (inner a_give >>= (λ x. expect k.RParen >> pure x))
  gpr_by false = spotted (λ spot. give_kind >>= (λ x. pure (record { spot = spot; kind = x })))

  unfoldable pub gpr : Reader Give
  gpr = look (λ o. gpr_by (is k.LParen o))

  unfoldable pub give : Reader Give
  give = spotted (λ spot. gpr >>= chain (joins spot) gpr 64)

  -- ---- steps

  -- "by" proof
  unfoldable pub by_proof : Reader Proof
  by_proof = expect k.By >> inner a_proof

  -- "by" give
  unfoldable pub by_give : Reader Give
  by_give = expect k.By >> inner a_give

  -- what follows the word of each step
  unfoldable pub have : Reader StepKind
  have = name >>= (λ h. expect k.Colon >> (inner a_term >>= (λ x. by_proof >>= (λ q. pure (s.Have h x q)))))

  abbrev pub opened_by : ℕ → List ℕ → Bool → Reader StepKind
  opened_by m x true = next (sort >>= (λ z. pure (s.OpenVar m x z)))
  opened_by m x false = pure (s.OpenFact m x)

  unfoldable pub open_atom : Reader StepKind
  open_atom = number >>= (λ m. expect k.As >> (name >>= (λ x. look (λ o. opened_by m x (is k.Colon o)))))

  unfoldable pub unfold_atom : Reader StepKind
  unfold_atom = number >>= (λ m. pure (s.Unfold m))

  unfoldable pub fold : Reader StepKind
  fold = name >>= (λ x. arguments >>= (λ ts. by_give >>= (λ y. pure (s.Fold x ts y))))

  unfoldable pub rewrite : Reader StepKind
  rewrite = number >>= (λ m. number >>= (λ n. expect k.To >> (inner a_term >>= (λ x. by_proof >>= (λ q. pure (s.Rewrite m n x q))))))

  unfoldable pub use_lemma : Reader StepKind
  use_lemma = name >>= (λ x. arguments >>= (λ ts. by_give >>= (λ y. pure (s.Use x ts y))))

  abbrev pub step_kind_by : Option TokenKind → Reader StepKind
  step_kind_by (Some k.Have) = next have
  step_kind_by (Some k.Open) = next open_atom
  step_kind_by (Some k.Unfold) = next unfold_atom
  step_kind_by (Some k.Fold) = next fold
  step_kind_by (Some k.Rewrite) = next rewrite
  step_kind_by (Some k.Use) = next use_lemma
  step_kind_by _ = refuse

  unfoldable pub step_kind : Reader StepKind
  step_kind = look step_kind_by

  -- ---- statements

  -- "at" NUM
  unfoldable pub at_atom : Reader ℕ
  at_atom = expect k.At >> number

  -- nums body box
  unfoldable pub block : Reader (List ℕ × (Body × Assn))
  block = nums >>= (λ is. inner a_body >>= (λ y. box >>= (λ post. pure (is, (y, post)))))

  -- what follows NAME ":" sort "<-" and the word
  unfoldable pub read : List ℕ → Sort → Reader StmtKind
  read x z = inner a_term >>= (λ y. at_atom >>= (λ m. expect k.As >> (name >>= (λ h. by_proof >>= (λ q. pure (c.Read x z y m h q))))))

  unfoldable pub do_block : List ℕ → Sort → Reader StmtKind
  do_block x z = block >>= (λ b. pure (c.Do x z b.0 b.1.0 b.1.1))

  unfoldable pub atomic : List ℕ → Sort → Reader StmtKind
  atomic x z = block >>= (λ b. pure (c.Atomic x z b.0 b.1.0 b.1.1))

  abbrev pub typed_by : List ℕ → Sort → Option TokenKind → Reader StmtKind
  typed_by x z (Some k.Read) = next (read x z)
  typed_by x z (Some k.Do) = next (do_block x z)
  typed_by x z (Some k.Atomic) = next (atomic x z)
  typed_by x z _ = refuse

  -- what follows NAME ":"
  unfoldable pub typed : List ℕ → Reader StmtKind
  typed x = sort >>= (λ z. expect k.LeftArrow >> look (typed_by x z))

  -- what follows NAME "<-" and the word
  unfoldable pub alloc : List ℕ → Reader StmtKind
  alloc x = expect k.LParen >> (entries begins_term (inner a_term) 8 [] >>= (λ ts. expect k.RParen >> pure (c.Alloc x ts)))

  unfoldable pub call : List ℕ → Reader StmtKind
  call x = name >>= (λ f. arguments >>= (λ ts. expect k.LBracket >> (listed begins_term (inner a_term) 64 >>= (λ us. expect k.RBracket >>
      (by_give >>= (λ y. pure (c.Call x f ts us y)))))))

  abbrev pub made_by : List ℕ → Option TokenKind → Reader StmtKind
  made_by x (Some k.Alloc) = next (alloc x)
  made_by x (Some k.Call) = next (call x)
  made_by x _ = refuse

  abbrev pub bound_by : List ℕ → Option TokenKind → Reader StmtKind
  bound_by x (Some k.Colon) = next (typed x)
  bound_by x (Some k.LeftArrow) = next (look (made_by x))
  bound_by x _ = refuse

  -- a statement that begins with a name
  unfoldable pub bound : Reader StmtKind
  bound = name >>= (λ x. look (bound_by x))

  -- what follows the word of each other statement
  unfoldable pub write : Reader StmtKind
  write = off >>= (λ x. off >>= (λ y. at_atom >>= (λ m. by_proof >>= (λ q. pure (c.Write x y m q)))))

  unfoldable pub at_cell : (Term → ℕ → Proof → StmtKind) → Reader StmtKind
  at_cell node = inner a_term >>= (λ x. at_atom >>= (λ m. by_proof >>= (λ q. pure (node x m q))))

  -- "(" NAME ":" sort "," NAME ":" sort ")" "<-" "par" and two blocks, after the parenthesis
  unfoldable pub par : Reader StmtKind
  par = param >>= (λ x. expect k.Comma >> (param >>= (λ y. expect k.RParen >> (expect k.LeftArrow >> (expect k.Par >> (block >>= (λ b. block >>= (λ b2.
      pure (c.Par x.name x.sort y.name y.sort b.0 b.1.0 b.1.1 b2.0 b2.1.0 b2.1.1)))))))))

  unfoldable pub step : Reader StmtKind
  step = spotted (λ spot. step_kind >>= (λ x. pure (c.Proof (record { spot = spot; kind = x }))))

  abbrev pub stmt_kind_by : Option TokenKind → Reader StmtKind
  stmt_kind_by (Some k.Name) = bound
  stmt_kind_by (Some k.LParen) = next par
  stmt_kind_by (Some k.Write) = next write
  stmt_kind_by (Some k.Free) = next (at_cell c.Free)
  stmt_kind_by (Some k.Publish) = next (at_cell c.Publish)
  stmt_kind_by (Some k.Retract) = next (at_cell c.Retract)
  stmt_kind_by _ = step

  unfoldable pub stmt_kind : Reader StmtKind
  stmt_kind = look stmt_kind_by

  -- stmt ";"
  unfoldable pub ended : Reader Stmt
  ended = spotted (λ spot. stmt_kind >>= (λ x. expect k.Semicolon >> pure (record { spot = spot; kind = x })))

  -- { stmt ";" }*
  unfoldable pub stmts : Reader (List Stmt)
  stmts = λ i. repeat begins_stmt ended (length i) [] i

  -- ---- ends and bodies

  -- what follows the word of each end
  unfoldable pub ret : Reader EndKind
  ret = inner a_term >>= (λ x. by_give >>= (λ y. pure (e.Ret x y)))

  unfoldable pub if_else : Reader EndKind
  if_else = inner a_term >>= (λ x. expect k.As >> (name >>= (λ h. inner a_body >>= (λ y. expect k.Else >> (inner a_body >>= (λ z. pure (e.If x h y z)))))))

  unfoldable pub case_atom : Reader EndKind
  case_atom = number >>= (λ m. inner a_body >>= (λ y. inner a_body >>= (λ z. pure (e.CaseAtom m y z))))

  unfoldable pub case_bool : Reader EndKind
  case_bool = bracketed >>= (λ x. expect k.As >> (name >>= (λ h. inner a_body >>= (λ y. inner a_body >>= (λ z. pure (e.CaseBool x h y z))))))

  -- after "seq" too
  unfoldable pub case_seq : Reader EndKind
  case_seq = inner a_term >>= (λ x. expect k.As >> (name >>= (λ h. inner a_body >>= (λ y. name >>= (λ m. name >>= (λ n. inner a_body >>= (λ z.
      pure (e.CaseSeq x h y m n z))))))))

  abbrev pub case_by : Option TokenKind → Reader EndKind
  case_by (Some k.Num) = case_atom
  case_by (Some k.LBracket) = case_bool
  case_by (Some k.Seq) = next case_seq
  case_by _ = refuse

  unfoldable pub dead : Reader EndKind
  dead = inner a_proof >>= (λ q. inner a_body >>= (λ y. pure (e.Dead q y)))

  abbrev pub end_kind_by : Option TokenKind → Reader EndKind
  end_kind_by (Some k.Ret) = next ret
  end_kind_by (Some k.If) = next if_else
  end_kind_by (Some k.Case) = next (look case_by)
  end_kind_by (Some k.Dead) = next dead
  end_kind_by _ = refuse

  unfoldable pub end_kind : Reader EndKind
  end_kind = look end_kind_by

  unfoldable pub end : Reader End
  end = spotted (λ spot. end_kind >>= (λ x. pure (record { spot = spot; kind = x })))

  unfoldable pub body : Reader Body
  body = expect k.LBrace >> (stmts >>= (λ xs. end >>= (λ y. expect k.RBrace >> pure (roll-Body (record { stmts = xs; end = y })))))

  -- ---- declarations

  unfoldable pub head : Reader Head
  head = name >>= (λ x. params >>= (λ ps. logic >>= (λ vs. box >>= (λ pre. param >>= (λ r. box >>= (λ post.
      pure (record { name = x; params = ps; logic = vs; pre = pre; result = r.name; sort = r.sort; post = post })))))))

  -- what follows "root"
  unfoldable pub root : Reader DeclKind
  root = param >>= (λ x. expect k.Assign >> (initial >>= (λ y. expect k.Semicolon >> pure (d.Root x.name x.sort y))))

  unfoldable pub invariant : Reader DeclKind
  invariant = box >>= (λ x. by_give >>= (λ y. expect k.Semicolon >> pure (d.Invariant x y)))

  -- "=" assn
  unfoldable pub definition : Reader Assn
  definition = expect k.Equal >> inner an_assn

  -- what follows "on" in a predicate
  unfoldable pub pred_on : Access → List ℕ → List Param → Reader DeclKind
  pred_on who x ps = name >>= (λ u. expect k.Nil >> (definition >>= (λ y. expect k.Cons >> (name >>= (λ m. name >>= (λ n. definition >>= (λ z.
      expect k.Semicolon >> pure (d.PredOn who x ps u y m n z))))))))

  unfoldable pub pred_plain : Access → List ℕ → List Param → Reader DeclKind
  pred_plain who x ps = definition >>= (λ y. expect k.Semicolon >> pure (d.Pred who x ps y))

  abbrev pub pred_by : Access → List ℕ → List Param → Bool → Reader DeclKind
  pred_by who x ps true = next (pred_on who x ps)
  pred_by who x ps false = pred_plain who x ps

  -- from "pred" on
  unfoldable pub pred : Access → Reader DeclKind
  pred who = expect k.Pred >> (name >>= (λ x. params >>= (λ ps. look (λ o. pred_by who x ps (is k.On o)))))

  -- what follows "nil" and "zero" in a lemma by cases
  unfoldable pub lemma_seq : Spot → List ℕ → List Param → List ℕ → Assn → Assn → Reader DeclKind
  lemma_seq spot x ps u pre post = inner a_body >>= (λ y. expect k.Cons >> (name >>= (λ m. name >>= (λ n. inner a_body >>= (λ z.
      pure (d.Lemma (record { spot = spot; name = x; params = ps; pre = pre; post = post; kind = l.OnSeq u y m n z })))))))

  unfoldable pub lemma_nat : Spot → List ℕ → List Param → List ℕ → Assn → Assn → Reader DeclKind
  lemma_nat spot x ps u pre post = inner a_body >>= (λ y. expect k.Next >> (name >>= (λ m. inner a_body >>= (λ z.
      pure (d.Lemma (record { spot = spot; name = x; params = ps; pre = pre; post = post; kind = l.OnNat u y m z }))))))

  abbrev pub lemma_on_by : Spot → List ℕ → List Param → List ℕ → Assn → Assn → Option TokenKind → Reader DeclKind
  lemma_on_by spot x ps u pre post (Some k.Nil) = next (lemma_seq spot x ps u pre post)
  lemma_on_by spot x ps u pre post (Some k.Zero) = next (lemma_nat spot x ps u pre post)
  lemma_on_by spot x ps u pre post _ = refuse

  -- what follows "on"
  unfoldable pub lemma_on : Spot → List ℕ → List Param → Reader DeclKind
  lemma_on spot x ps = name >>= (λ u. box >>= (λ pre. box >>= (λ post. look (lemma_on_by spot x ps u pre post))))

  unfoldable pub lemma_plain : Spot → List ℕ → List Param → Reader DeclKind
  lemma_plain spot x ps = box >>= (λ pre. box >>= (λ post. inner a_body >>= (λ y.
      pure (d.Lemma (record { spot = spot; name = x; params = ps; pre = pre; post = post; kind = l.Plain y })))))

  abbrev pub lemma_by : Spot → List ℕ → List Param → Bool → Reader DeclKind
  lemma_by spot x ps true = next (lemma_on spot x ps)
  lemma_by spot x ps false = lemma_plain spot x ps

  -- what follows "lemma"
  unfoldable pub lemma_decl : Spot → Reader DeclKind
  lemma_decl spot = name >>= (λ x. params >>= (λ ps. look (λ o. lemma_by spot x ps (is k.On o))))

  unfoldable pub txn : Reader DeclKind
  txn = head >>= (λ x. inner a_body >>= (λ y. pure (d.Txn x y)))

  unfoldable pub proc : Reader DeclKind
  proc = head >>= (λ x. inner a_body >>= (λ y. pure (d.Proc x y)))

  abbrev pub decl_kind_by : Spot → Option TokenKind → Reader DeclKind
  decl_kind_by spot (Some k.Root) = next root
  decl_kind_by spot (Some k.Invariant) = next invariant
  decl_kind_by spot (Some k.Shared) = next (pred access.Shared)
  decl_kind_by spot (Some k.Pred) = pred access.Private
  decl_kind_by spot (Some k.Lemma) = next (lemma_decl spot)
  decl_kind_by spot (Some k.Txn) = next txn
  decl_kind_by spot (Some k.Proc) = next proc
  decl_kind_by spot _ = refuse

  unfoldable pub decl_kind : Spot → Reader DeclKind
  decl_kind spot = look (decl_kind_by spot)

  unfoldable pub decl : Reader Decl
  decl = spotted (λ spot. decl_kind spot >>= (λ x. pure (record { spot = spot; kind = x })))

  -- how many more roots may come after a declaration that begins so
  abbrev pub roots_left : Bool → ℕ → ℕ
  roots_left true n = n - 1
  roots_left false n = n

  -- a root that would be one too many
  abbrev pub is_root_over : Bool → ℕ → Bool
  is_root_over true n = n == 0
  is_root_over false n = false

  abbrev pub decl_within : Reader Decl → Bool → Reader Decl
  decl_within one true = exceed many
  decl_within one false = one

  abbrev pub decls_by : Reader (List Decl) → List Decl → Bool → Reader (List Decl)
  decls_by more found true = more
  decls_by more found false = pure found

  abbrev pub decls_full : List Decl → Bool → Reader (List Decl)
  decls_full found true = exceed many
  decls_full found false = pure found

  -- Declarations after those that were found, with room for so many more, so many of them roots.
  unfoldable pub decls : ℕ → ℕ → List Decl → Reader (List Decl)
  decls zero n found = look (λ o. decls_full found (begins_decl o))
  decls (suc m) n found = look (λ o. decls_by
      (decl_within decl (is_root_over (is k.Root o) n) >>= (λ x. decls m (roots_left (is k.Root o) n) (found ++ x ∷ []))) found (begins_decl o))

  -- ---- files

  unfoldable pub main : Reader Main
  main = spotted (λ spot. expect k.Main >> (param >>= (λ x. box >>= (λ post. inner a_body >>= (λ y.
      pure (record { spot = spot; result = x.name; sort = x.sort; post = post; body = y }))))))

  abbrev pub version_by : ℕ → Bool → Reader ℕ
  version_by n true = next (pure n)
  version_by n false = exceed version

  abbrev pub version_at : Bool → Reader ℕ
  version_at true = valued (λ n. version_by n (n == 1))
  version_at false = refuse

  unfoldable pub version_number : Reader ℕ
  version_number = look (λ o. version_at (is k.Num o))

  unfoldable pub file : Reader Source1
  file = expect k.Tht >> (version_number >>= (λ n. decls 2000 256 [] >>= (λ ds. main >>= (λ x. pure (record { version = n; decls = ds; main = x })))))

  -- what reads each construct
  abbrev pub construct : (n : Nested) → Reader (Tree n)
  construct a_term = term
  construct after_not = neg
  construct after_link = app
  construct after_len = prim
  construct an_assn = assn
  construct after_either = apr
  construct a_proof = proof
  construct a_give = give
  construct after_prefix = gpr
  construct a_body = body

-- a construct, where so many more may be open
unfoldable pub nested : ℕ → (n : Nested) → Reader (Tree n)
nested zero n = too_deep (begins n)
nested (suc more) n = construct (nested more) n

-- what was read, where no token is left
abbrev pub finish : {A : Type 0} → Outcome A → Outcome A
finish (Ok (x, [])) = Ok (x, [])
finish (Ok (x, (t ∷ ts))) = Err (unexpected, t ∷ ts)
finish (Err e) = Err e

-- the file that all of the tokens spell
unfoldable pub whole : List Tok → Outcome Source1
whole i = finish (file (nested 100) i)
