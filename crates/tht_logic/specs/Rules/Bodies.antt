-- The rules of statements, ends and bodies, one inside another.
use Rattle.std.specs.Prelude.{ℕ, List, [], ◌∷◌, Option, Some, None, Ok, Err}
use Rattle.tht_tree.specs.declared.plain.Spot.{Spot}
use Rattle.tht_tree.specs.declared.plain.Sort.TheVariants as sort
use Rattle.tht_tree.specs.declared.term.Term.{Term}
use Rattle.tht_tree.specs.declared.term.Term.TheVariants as term
use Rattle.tht_tree.specs.declared.assn.Assn.{Assn, out-Assn}
use Rattle.tht_tree.specs.declared.give.Give.{Give}
use Rattle.tht_tree.specs.declared.proof.Proof.{Proof}
use Rattle.tht_tree.specs.declared.body.Body.{Body, para-Body}
use Rattle.tht_tree.specs.declared.body.End.{End, para-End}
use Rattle.tht_tree.specs.declared.body.EndKind.{EndKind, para-EndKind}
use Rattle.tht_tree.specs.declared.body.EndKind.TheOpen as b
use Rattle.tht_tree.specs.declared.body.Stmt.{Stmt, para-Stmt}
use Rattle.tht_tree.specs.declared.body.StmtKind.{StmtKind, para-StmtKind}
use Rattle.tht_tree.specs.declared.state.Local.TheVariants.{Variable}
use Rattle.tht_tree.specs.declared.state.Post.{Post}
use Rattle.tht_tree.specs.declared.rule.RuleCode.TheVariants.{R1, R2, R3, R4, R5, R10, R11}
use Rattle.tht_tree.specs.declared.rule.RuleRefusal.{RuleRefusal}
use Rattle.tht_tree.specs.Lists.{is_nil}
use Rattle.tht_tree.specs.Rules.Sizes.{formula_fits}
use Rattle.tht_tree.specs.Rules.Context.{Context, with_local, atom_at, without_atom}
use Rattle.tht_tree.specs.Rules.Refusals.{needs, refuse, ◌▸◌}
use Rattle.tht_tree.specs.Rules.Known.{with_hyp}
use Rattle.tht_tree.specs.Rules.Proofs.{prove, proves}
use Rattle.tht_logic.specs.Putting.{put_assn_within}
use Rattle.tht_logic.specs.Flatten.{with_assn}
use Rattle.tht_logic.specs.SamePrograms.{same_program}
use Rattle.tht_logic.specs.Rules.Checking.{Checked, reject, on_some, on_ok, on_true, put_or_refused, if_fits, and_then}
use Rattle.tht_logic.specs.Rules.Definitions.{Declarations}
use Rattle.tht_logic.specs.Rules.Gives.{disjunction_at, after_give}
use Rattle.tht_logic.specs.Rules.Steps.{after_step}
use Rattle.tht_logic.specs.Rules.Commands.{after_read, after_write, after_alloc, after_free}
use Rattle.tht_logic.specs.Rules.Calls.{InBody, after_call, after_do}

-- ---- returns

abbrev pub needs_none_left : Spot → Checked Context → Option RuleRefusal
needs_none_left spot (Ok c) = needs spot R3 (is_nil c.atoms)
needs_none_left spot (Err r) = Some r

-- what is refused of `ret t by g`: the give proves the postcondition, with t for its result, and no atom is left
abbrev pub return_refused : Declarations → Spot → Context → Term → Give → Post → Option RuleRefusal
return_refused decl spot c t x post =
    needs_none_left spot (on_ok (put_or_refused spot (put_assn_within ((post.result, t) ∷ []) post.assn)) (after_give decl c x))

-- ---- cases

-- with the hypothesis h: t
abbrev pub assuming : Spot → Context → List ℕ → Term → Checked Context
assuming spot c h t = on_true spot R10 (formula_fits t) (if_fits spot (with_hyp c h t))

-- the two sides of atom i, an `either`
abbrev pub sides : Spot → Context → ℕ → Checked (Assn × Assn)
sides spot c i = on_some spot R1 (atom_at i c.atoms) (λ p. on_some spot R2 (disjunction_at (out-Assn p)) Ok)

-- the atoms of one side for atom i
abbrev pub on_side : Spot → Context → ℕ → Assn → Checked Context
on_side spot c i p = if_fits spot (with_assn p (record c { atoms = without_atom i c.atoms }))

-- one body where t holds, the other where it does not
abbrev pub by_truth : Spot → Context → List ℕ → Term → InBody → InBody → Post → Option RuleRefusal
by_truth spot c h t body other post = and_then (assuming spot c h t) (body post) ▸ and_then (assuming spot c h (term.Not t)) (other post)

-- one body for each side of an `either`
abbrev pub by_sides : Spot → Context → ℕ → InBody → InBody → Assn × Assn → Post → Option RuleRefusal
by_sides spot c i body other p post = and_then (on_side spot c i p.0) (body post) ▸ and_then (on_side spot c i p.1) (other post)

-- one body where a sequence is `nil`, the other where it is some `x :: s`
abbrev pub by_sequence : Spot → Context → List ℕ → Term → InBody → List ℕ → List ℕ → InBody → Post → Option RuleRefusal
by_sequence spot c h t body x s other post =
    and_then (assuming spot c h (term.Eq t term.Nil)) (body post)
    ▸ and_then
    (assuming spot (record c { scope = with_local (with_local c.scope x (Variable sort.Nat)) s (Variable sort.Seq) }) h (term.Eq t (term.Cons (term.Var x) (term.Var s))))
    (other post)

-- ---- statements, ends and bodies

-- what is known after a statement, or what is refused in it
abbrev pub Statement : Type 0
Statement = Context → Checked Context

-- A rule looks at each part as what the rules say of it, and R11 also as a tree; so each stands here as a pair. Statements that are not named are not
-- built yet (and have some code).
module _ (decl : Declarations) where
  -- a statement at this spot
  abbrev pub stmt_at : b.StmtKind-F (EndKind × (Spot → InBody)) (StmtKind × (Spot → Statement)) (Body × InBody) (End × InBody) (Stmt × Statement) → Spot → Statement
  stmt_at (b.Read x r t i h q) spot c = after_read decl.proofs spot c x r t i h q
  stmt_at (b.Write t u i q) spot c = after_write decl.proofs spot c t u i q
  stmt_at (b.Alloc x ts) spot c = after_alloc spot c x ts
  stmt_at (b.Free t i q) spot c = after_free decl.proofs spot c t i q
  stmt_at (b.Call x f ts us g) spot c = after_call decl spot c x f ts us g
  stmt_at (b.Do x r ns body box) spot c = after_do spot c x r ns body.1 box
  stmt_at (b.Proof x) spot c = after_step decl c x
  stmt_at _ spot c = reject spot R5

  -- an end at this spot
  abbrev pub end_at : b.EndKind-F (EndKind × (Spot → InBody)) (StmtKind × (Spot → Statement)) (Body × InBody) (End × InBody) (Stmt × Statement) → Spot → InBody
  end_at (b.Ret t g) spot post c = return_refused decl spot c t g post
  end_at (b.If t h body other) spot post c = by_truth spot c h t body.1 other.1 post
  end_at (b.CaseAtom i body other) spot post c =
      and_then (sides spot c i) (λ p. needs spot R11 (same_program body.0 other.0) ▸ by_sides spot c i body.1 other.1 p post)
  end_at (b.CaseBool t h body other) spot post c = needs spot R11 (same_program body.0 other.0) ▸ by_truth spot c h t body.1 other.1 post
  end_at (b.CaseSeq t h body x s other) spot post c = needs spot R11 (same_program body.0 other.0) ▸ by_sequence spot c h t body.1 x s other.1 post
  end_at (b.Dead q body) spot post c = proves spot (prove decl.proofs q) c term.False

  -- statements one after another, and what stands behind them
  abbrev pub statements : List (Stmt × Statement) → InBody → InBody
  statements [] last post c = last post c
  statements (s ∷ ss) last post c = and_then (s.1 c) (statements ss last post)

  abbrev pub body_at : b.Body-F (EndKind × (Spot → InBody)) (StmtKind × (Spot → Statement)) (Body × InBody) (End × InBody) (Stmt × Statement) → InBody
  body_at x = statements x.stmts x.end.1

  abbrev pub spotted_end : b.End-F (EndKind × (Spot → InBody)) (StmtKind × (Spot → Statement)) (Body × InBody) (End × InBody) (Stmt × Statement) → InBody
  spotted_end x = x.kind.1 x.spot

  abbrev pub spotted_stmt : b.Stmt-F (EndKind × (Spot → InBody)) (StmtKind × (Spot → Statement)) (Body × InBody) (End × InBody) (Stmt × Statement) → Statement
  spotted_stmt x = x.kind.1 x.spot

  -- what is refused of a body with this postcondition, from what is known, and the same of its parts
  unfoldable pub body_refused : Body → InBody
  body_refused = para-Body (Spot → InBody) (Spot → Statement) InBody InBody Statement end_at stmt_at body_at spotted_end spotted_stmt

  unfoldable pub end_refused : End → InBody
  end_refused = para-End (Spot → InBody) (Spot → Statement) InBody InBody Statement end_at stmt_at body_at spotted_end spotted_stmt

  unfoldable pub end_kind_refused : EndKind → Spot → InBody
  end_kind_refused = para-EndKind (Spot → InBody) (Spot → Statement) InBody InBody Statement end_at stmt_at body_at spotted_end spotted_stmt

  unfoldable pub after_stmt : Stmt → Statement
  after_stmt = para-Stmt (Spot → InBody) (Spot → Statement) InBody InBody Statement end_at stmt_at body_at spotted_end spotted_stmt

  unfoldable pub after_stmt_kind : StmtKind → Spot → Statement
  after_stmt_kind = para-StmtKind (Spot → InBody) (Spot → Statement) InBody InBody Statement end_at stmt_at body_at spotted_end spotted_stmt
