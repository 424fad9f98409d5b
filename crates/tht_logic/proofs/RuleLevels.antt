-- What the rules refuse of a body, a statement and an end, by one level of the tree.
use Rattle.std.proofs.Common.{◌≡◌, ◌∙◌, ℕ, List, ap, map, sym}
use Rattle.tht_tree.specs.declared.plain.Sort.{Sort}
use Rattle.tht_tree.specs.declared.plain.Spot.{Spot}
use Rattle.tht_tree.specs.declared.term.Term.{Term}
use Rattle.tht_tree.specs.declared.term.Term.TheVariants as term
use Rattle.tht_tree.specs.declared.assn.Assn.{Assn}
use Rattle.tht_tree.specs.declared.give.Give.{Give}
use Rattle.tht_tree.specs.declared.proof.Proof.{Proof}
use Rattle.tht_tree.specs.declared.step.Step.{Step}
use Rattle.tht_tree.specs.declared.body.Body.{Body, roll-Body, out-Body, roll-out-Body, para-roll-Body}
use Rattle.tht_tree.specs.declared.body.End.{End, para-roll-End}
use Rattle.tht_tree.specs.declared.body.EndKind.{EndKind, roll-EndKind, map-EndKind, para-roll-EndKind}
use Rattle.tht_tree.specs.declared.body.EndKind.TheOpen as b
use Rattle.tht_tree.specs.declared.body.EndKind.TheVariants as e
use Rattle.tht_tree.specs.declared.body.Stmt.{Stmt, para-roll-Stmt}
use Rattle.tht_tree.specs.declared.body.StmtKind.{StmtKind, roll-StmtKind, map-StmtKind, para-roll-StmtKind}
use Rattle.tht_tree.specs.declared.body.StmtKind.TheVariants as s
use Rattle.tht_tree.specs.declared.state.Post.{Post}
use Rattle.tht_tree.specs.declared.rule.RuleCode.TheVariants.{R5, R11}
use Rattle.tht_tree.specs.Rules.Context.{Context}
use Rattle.tht_tree.specs.Rules.Refusals.{needs, ◌▸◌}
use Rattle.tht_tree.specs.Rules.Proofs.{prove, proves}
use Rattle.tht_logic.specs.SamePrograms.{same_program}
use Rattle.tht_logic.specs.Rules.Checking.{reject, and_then}
use Rattle.tht_logic.specs.Rules.Definitions.{Declarations}
use Rattle.tht_logic.specs.Rules.Steps.{after_step}
use Rattle.tht_logic.specs.Rules.Commands.{after_read, after_write, after_alloc, after_free}
use Rattle.tht_logic.specs.Rules.Calls.{InBody, after_call, after_do}
use Rattle.tht_logic.specs.Rules.Bodies.{return_refused, sides, by_truth, by_sides, by_sequence, Statement, stmt_at, end_at, statements, body_at, spotted_end, spotted_stmt, body_refused, end_refused, end_kind_refused, after_stmt, after_stmt_kind}

module _ (decl : Declarations) where
  -- each statement, with what is known after it
  abbrev pub with_after : List Stmt → List (Stmt × Statement)
  with_after ss = map (λ x. (x, after_stmt decl x)) ss

  -- a body is its statements in their order, and its end
  pub rolled_body : (x : b.Body-F EndKind StmtKind Body End Stmt) → body_refused decl (roll-Body x) ≡ statements decl (with_after x.stmts) (end_refused decl x.end)
  unfolding body_refused end_refused end_kind_refused after_stmt after_stmt_kind
  rolled_body x = para-roll-Body (Spot → InBody) (Spot → Statement) InBody InBody Statement (end_at decl) (stmt_at decl) (body_at decl) (spotted_end decl) (spotted_stmt decl) x

  pub body_rule : (x : Body) → body_refused decl x ≡ statements decl (with_after (out-Body x).stmts) (end_refused decl (out-Body x).end)
  body_rule x = ap (body_refused decl) (sym (roll-out-Body x)) ∙ rolled_body (out-Body x)

  -- a statement and an end are their kinds, at their spots
  pub stmt_rule : (x : Stmt) → after_stmt decl x ≡ after_stmt_kind decl x.kind x.spot
  unfolding body_refused end_refused end_kind_refused after_stmt after_stmt_kind
  stmt_rule x =
      para-roll-Stmt (Spot → InBody) (Spot → Statement) InBody InBody Statement (end_at decl) (stmt_at decl) (body_at decl) (spotted_end decl) (spotted_stmt decl)
      (record { spot = x.spot; kind = x.kind })

  pub end_rule : (x : End) → end_refused decl x ≡ end_kind_refused decl x.kind x.spot
  unfolding body_refused end_refused end_kind_refused after_stmt after_stmt_kind
  end_rule x =
      para-roll-End (Spot → InBody) (Spot → Statement) InBody InBody Statement (end_at decl) (stmt_at decl) (body_at decl) (spotted_end decl) (spotted_stmt decl)
      (record { spot = x.spot; kind = x.kind })

  -- a level with what the rules say of each part, beside the part
  abbrev pub stmt_parts : b.StmtKind-F EndKind StmtKind Body End Stmt
      → b.StmtKind-F (EndKind × (Spot → InBody)) (StmtKind × (Spot → Statement)) (Body × InBody) (End × InBody) (Stmt × Statement)
  stmt_parts = map-StmtKind EndKind StmtKind Body End Stmt (EndKind × (Spot → InBody)) (StmtKind × (Spot → Statement)) (Body × InBody) (End × InBody) (Stmt × Statement)
      (λ y. (y, end_kind_refused decl y)) (λ y. (y, after_stmt_kind decl y)) (λ y. (y, body_refused decl y)) (λ y. (y, end_refused decl y)) (λ y. (y, after_stmt decl y))

  abbrev pub end_parts : b.EndKind-F EndKind StmtKind Body End Stmt
      → b.EndKind-F (EndKind × (Spot → InBody)) (StmtKind × (Spot → Statement)) (Body × InBody) (End × InBody) (Stmt × Statement)
  end_parts = map-EndKind EndKind StmtKind Body End Stmt (EndKind × (Spot → InBody)) (StmtKind × (Spot → Statement)) (Body × InBody) (End × InBody) (Stmt × Statement)
      (λ y. (y, end_kind_refused decl y)) (λ y. (y, after_stmt_kind decl y)) (λ y. (y, body_refused decl y)) (λ y. (y, end_refused decl y)) (λ y. (y, after_stmt decl y))

  pub stmt_kind_rule : (x : b.StmtKind-F EndKind StmtKind Body End Stmt) → after_stmt_kind decl (roll-StmtKind x) ≡ stmt_at decl (stmt_parts x)
  unfolding body_refused end_refused end_kind_refused after_stmt after_stmt_kind
  stmt_kind_rule x =
      para-roll-StmtKind (Spot → InBody) (Spot → Statement) InBody InBody Statement (end_at decl) (stmt_at decl) (body_at decl) (spotted_end decl) (spotted_stmt decl) x

  pub end_kind_rule : (x : b.EndKind-F EndKind StmtKind Body End Stmt) → end_kind_refused decl (roll-EndKind x) ≡ end_at decl (end_parts x)
  unfolding body_refused end_refused end_kind_refused after_stmt after_stmt_kind
  end_kind_rule x =
      para-roll-EndKind (Spot → InBody) (Spot → Statement) InBody InBody Statement (end_at decl) (stmt_at decl) (body_at decl) (spotted_end decl) (spotted_stmt decl) x

  -- ---- statements

  -- what is known after a statement that is rolled from this level
  rolled_stmt : (k : StmtKind) (x : b.StmtKind-F EndKind StmtKind Body End Stmt) → roll-StmtKind x ≡ k → after_stmt_kind decl k ≡ stmt_at decl (stmt_parts x)
  rolled_stmt k x is = ap (after_stmt_kind decl) (sym is) ∙ stmt_kind_rule x

  module _ (spot : Spot) (c : Context) where
    pub read_rule : (x : List ℕ) (r : Sort) (t : Term) (i : ℕ) (h : List ℕ) (q : Proof) → after_stmt_kind decl (s.Read x r t i h q) spot c ≡ after_read decl.proofs spot c x r t i h q
    read_rule x r t i h q = ap (λ f. f spot c) (rolled_stmt (s.Read x r t i h q) (b.Read x r t i h q) (s.rolls-Read x r t i h q))

    pub write_rule : (t u : Term) (i : ℕ) (q : Proof) → after_stmt_kind decl (s.Write t u i q) spot c ≡ after_write decl.proofs spot c t u i q
    write_rule t u i q = ap (λ f. f spot c) (rolled_stmt (s.Write t u i q) (b.Write t u i q) (s.rolls-Write t u i q))

    pub alloc_rule : (x : List ℕ) (ts : List Term) → after_stmt_kind decl (s.Alloc x ts) spot c ≡ after_alloc spot c x ts
    alloc_rule x ts = ap (λ f. f spot c) (rolled_stmt (s.Alloc x ts) (b.Alloc x ts) (s.rolls-Alloc x ts))

    pub free_rule : (t : Term) (i : ℕ) (q : Proof) → after_stmt_kind decl (s.Free t i q) spot c ≡ after_free decl.proofs spot c t i q
    free_rule t i q = ap (λ f. f spot c) (rolled_stmt (s.Free t i q) (b.Free t i q) (s.rolls-Free t i q))

    pub publish_rule : (t : Term) (i : ℕ) (q : Proof) → after_stmt_kind decl (s.Publish t i q) spot c ≡ reject spot R5
    publish_rule t i q = ap (λ f. f spot c) (rolled_stmt (s.Publish t i q) (b.Publish t i q) (s.rolls-Publish t i q))

    pub retract_rule : (t : Term) (i : ℕ) (q : Proof) → after_stmt_kind decl (s.Retract t i q) spot c ≡ reject spot R5
    retract_rule t i q = ap (λ f. f spot c) (rolled_stmt (s.Retract t i q) (b.Retract t i q) (s.rolls-Retract t i q))

    pub call_rule : (x f : List ℕ) (ts us : List Term) (g : Give) → after_stmt_kind decl (s.Call x f ts us g) spot c ≡ after_call decl spot c x f ts us g
    call_rule x f ts us g = ap (λ k. k spot c) (rolled_stmt (s.Call x f ts us g) (b.Call x f ts us g) (s.rolls-Call x f ts us g))

    pub do_rule : (x : List ℕ) (r : Sort) (ns : List ℕ) (body : Body) (box : Assn)
        → after_stmt_kind decl (s.Do x r ns body box) spot c ≡ after_do spot c x r ns (body_refused decl body) box
    do_rule x r ns body box = ap (λ f. f spot c) (rolled_stmt (s.Do x r ns body box) (b.Do x r ns body box) (s.rolls-Do x r ns body box))

    pub atomic_rule : (x : List ℕ) (r : Sort) (ns : List ℕ) (body : Body) (box : Assn) → after_stmt_kind decl (s.Atomic x r ns body box) spot c ≡ reject spot R5
    atomic_rule x r ns body box = ap (λ f. f spot c) (rolled_stmt (s.Atomic x r ns body box) (b.Atomic x r ns body box) (s.rolls-Atomic x r ns body box))

    pub par_rule : (x : List ℕ) (r : Sort) (y : List ℕ) (p : Sort) (ns : List ℕ) (body : Body) (box : Assn) (ms : List ℕ) (other : Body) (last : Assn)
        → after_stmt_kind decl (s.Par x r y p ns body box ms other last) spot c ≡ reject spot R5
    par_rule x r y p ns body box ms other last =
        ap (λ f. f spot c) (rolled_stmt (s.Par x r y p ns body box ms other last) (b.Par x r y p ns body box ms other last) (s.rolls-Par x r y p ns body box ms other last))

    pub proof_rule : (x : Step) → after_stmt_kind decl (s.Proof x) spot c ≡ after_step decl c x
    proof_rule x = ap (λ f. f spot c) (rolled_stmt (s.Proof x) (b.Proof x) (s.rolls-Proof x))

  -- ---- ends

  -- what is refused of an end that is rolled from this level
  rolled_end : (k : EndKind) (x : b.EndKind-F EndKind StmtKind Body End Stmt) → roll-EndKind x ≡ k → end_kind_refused decl k ≡ end_at decl (end_parts x)
  rolled_end k x is = ap (end_kind_refused decl) (sym is) ∙ end_kind_rule x

  module _ (spot : Spot) (post : Post) (c : Context) where
    pub ret_rule : (t : Term) (g : Give) → end_kind_refused decl (e.Ret t g) spot post c ≡ return_refused decl spot c t g post
    ret_rule t g = ap (λ f. f spot post c) (rolled_end (e.Ret t g) (b.Ret t g) (e.rolls-Ret t g))

    pub if_rule : (t : Term) (h : List ℕ) (body other : Body)
        → end_kind_refused decl (e.If t h body other) spot post c ≡ by_truth spot c h t (body_refused decl body) (body_refused decl other) post
    if_rule t h body other = ap (λ f. f spot post c) (rolled_end (e.If t h body other) (b.If t h body other) (e.rolls-If t h body other))

    pub case_atom_rule : (i : ℕ) (body other : Body) → end_kind_refused decl (e.CaseAtom i body other) spot post c
        ≡ and_then (sides spot c i) (λ p. needs spot R11 (same_program body other) ▸ by_sides spot c i (body_refused decl body) (body_refused decl other) p post)
    case_atom_rule i body other = ap (λ f. f spot post c) (rolled_end (e.CaseAtom i body other) (b.CaseAtom i body other) (e.rolls-CaseAtom i body other))

    pub case_bool_rule : (t : Term) (h : List ℕ) (body other : Body) → end_kind_refused decl (e.CaseBool t h body other) spot post c
        ≡ (needs spot R11 (same_program body other) ▸ by_truth spot c h t (body_refused decl body) (body_refused decl other) post)
    case_bool_rule t h body other =
        ap (λ f. f spot post c) (rolled_end (e.CaseBool t h body other) (b.CaseBool t h body other) (e.rolls-CaseBool t h body other))

    pub case_seq_rule : (t : Term) (h : List ℕ) (body : Body) (x y : List ℕ) (other : Body) → end_kind_refused decl (e.CaseSeq t h body x y other) spot post c
        ≡ (needs spot R11 (same_program body other) ▸ by_sequence spot c h t (body_refused decl body) x y (body_refused decl other) post)
    case_seq_rule t h body x y other =
        ap (λ f. f spot post c) (rolled_end (e.CaseSeq t h body x y other) (b.CaseSeq t h body x y other) (e.rolls-CaseSeq t h body x y other))

    pub dead_rule : (q : Proof) (body : Body) → end_kind_refused decl (e.Dead q body) spot post c ≡ proves spot (prove decl.proofs q) c term.False
    dead_rule q body = ap (λ f. f spot post c) (rolled_end (e.Dead q body) (b.Dead q body) (e.rolls-Dead q body))
