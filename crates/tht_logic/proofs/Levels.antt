-- The program of a body, a statement and an end, by one level of the tree.
use Rattle.std.proofs.Common.{◌≡◌, ◌∙◌, ℕ, List, ap, map, sym}
use Rattle.tht_tree.specs.declared.plain.Sort.{Sort}
use Rattle.tht_tree.specs.declared.term.Term.{Term}
use Rattle.tht_tree.specs.declared.assn.Assn.{Assn}
use Rattle.tht_tree.specs.declared.give.Give.{Give}
use Rattle.tht_tree.specs.declared.proof.Proof.{Proof}
use Rattle.tht_tree.specs.declared.step.Step.{Step}
use Rattle.tht_tree.specs.declared.body.Body.{Body, out-Body, roll-Body, fold_out-Body, fold-roll-Body}
use Rattle.tht_tree.specs.declared.body.End.{End, fold_out-End}
use Rattle.tht_tree.specs.declared.body.EndKind.{EndKind, roll-EndKind, map-EndKind, fold-roll-EndKind}
use Rattle.tht_tree.specs.declared.body.EndKind.TheOpen as b
use Rattle.tht_tree.specs.declared.body.EndKind.TheVariants as e
use Rattle.tht_tree.specs.declared.body.Stmt.{Stmt, fold_out-Stmt}
use Rattle.tht_tree.specs.declared.body.StmtKind.{StmtKind, roll-StmtKind, map-StmtKind, fold-roll-StmtKind}
use Rattle.tht_tree.specs.declared.body.StmtKind.TheVariants as s
use Rattle.tht_tree.specs.Syntax.{Names}
use Rattle.tht_logic.specs.Programs.{Whole, Before, code, stmt_code, stmt_kind_code, end_code, end_kind_code, in_order, end_at, stmt_at, body_at, spotted_end, spotted_stmt}

module _ (roots : Names) where
  -- a body is its statements in their order, and its end
  pub code_is : (x : Body) → code roots x ≡ in_order (map (stmt_code roots) (out-Body x).stmts) (end_code roots (out-Body x).end)
  unfolding code stmt_code end_code
  code_is x = fold_out-Body Whole Before Whole Whole Before (end_at roots) (stmt_at roots) (body_at roots) (spotted_end roots) (spotted_stmt roots) x

  pub rolled_code : (x : b.Body-F EndKind StmtKind Body End Stmt) → code roots (roll-Body x) ≡ in_order (map (stmt_code roots) x.stmts) (end_code roots x.end)
  unfolding code stmt_code end_code
  rolled_code x = fold-roll-Body Whole Before Whole Whole Before (end_at roots) (stmt_at roots) (body_at roots) (spotted_end roots) (spotted_stmt roots) x

  -- where a statement or an end stands does not matter
  pub stmt_is : (x : Stmt) → stmt_code roots x ≡ stmt_kind_code roots x.kind
  unfolding stmt_code stmt_kind_code
  stmt_is x = fold_out-Stmt Whole Before Whole Whole Before (end_at roots) (stmt_at roots) (body_at roots) (spotted_end roots) (spotted_stmt roots) x

  pub end_is : (x : End) → end_code roots x ≡ end_kind_code roots x.kind
  unfolding end_code end_kind_code
  end_is x = fold_out-End Whole Before Whole Whole Before (end_at roots) (stmt_at roots) (body_at roots) (spotted_end roots) (spotted_stmt roots) x

  -- a level with the program of each part
  abbrev pub stmt_level : b.StmtKind-F EndKind StmtKind Body End Stmt → b.StmtKind-F Whole Before Whole Whole Before
  stmt_level = map-StmtKind EndKind StmtKind Body End Stmt Whole Before Whole Whole Before (end_kind_code roots) (stmt_kind_code roots) (code roots) (end_code roots) (stmt_code roots)

  abbrev pub end_level : b.EndKind-F EndKind StmtKind Body End Stmt → b.EndKind-F Whole Before Whole Whole Before
  end_level = map-EndKind EndKind StmtKind Body End Stmt Whole Before Whole Whole Before (end_kind_code roots) (stmt_kind_code roots) (code roots) (end_code roots) (stmt_code roots)

  pub stmt_kind_is : (x : b.StmtKind-F EndKind StmtKind Body End Stmt) → stmt_kind_code roots (roll-StmtKind x) ≡ stmt_at roots (stmt_level x)
  unfolding code stmt_code stmt_kind_code end_code end_kind_code
  stmt_kind_is x = fold-roll-StmtKind Whole Before Whole Whole Before (end_at roots) (stmt_at roots) (body_at roots) (spotted_end roots) (spotted_stmt roots) x

  pub end_kind_is : (x : b.EndKind-F EndKind StmtKind Body End Stmt) → end_kind_code roots (roll-EndKind x) ≡ end_at roots (end_level x)
  unfolding code stmt_code stmt_kind_code end_code end_kind_code
  end_kind_is x = fold-roll-EndKind Whole Before Whole Whole Before (end_at roots) (stmt_at roots) (body_at roots) (spotted_end roots) (spotted_stmt roots) x

  -- ---- statements

  pub read_is : (x : List ℕ) (r : Sort) (t : Term) (i : ℕ) (h : List ℕ) (q : Proof) → stmt_kind_code roots (s.Read x r t i h q) ≡ stmt_at roots (b.Read x r t i h q)
  read_is x r t i h q = ap (stmt_kind_code roots) (sym (s.rolls-Read x r t i h q)) ∙ stmt_kind_is (b.Read x r t i h q)

  pub write_is : (t u : Term) (i : ℕ) (q : Proof) → stmt_kind_code roots (s.Write t u i q) ≡ stmt_at roots (b.Write t u i q)
  write_is t u i q = ap (stmt_kind_code roots) (sym (s.rolls-Write t u i q)) ∙ stmt_kind_is (b.Write t u i q)

  pub alloc_is : (x : List ℕ) (ts : List Term) → stmt_kind_code roots (s.Alloc x ts) ≡ stmt_at roots (b.Alloc x ts)
  alloc_is x ts = ap (stmt_kind_code roots) (sym (s.rolls-Alloc x ts)) ∙ stmt_kind_is (b.Alloc x ts)

  pub free_is : (t : Term) (i : ℕ) (q : Proof) → stmt_kind_code roots (s.Free t i q) ≡ stmt_at roots (b.Free t i q)
  free_is t i q = ap (stmt_kind_code roots) (sym (s.rolls-Free t i q)) ∙ stmt_kind_is (b.Free t i q)

  pub publish_is : (t : Term) (i : ℕ) (q : Proof) → stmt_kind_code roots (s.Publish t i q) ≡ stmt_at roots (b.Publish t i q)
  publish_is t i q = ap (stmt_kind_code roots) (sym (s.rolls-Publish t i q)) ∙ stmt_kind_is (b.Publish t i q)

  pub retract_is : (t : Term) (i : ℕ) (q : Proof) → stmt_kind_code roots (s.Retract t i q) ≡ stmt_at roots (b.Retract t i q)
  retract_is t i q = ap (stmt_kind_code roots) (sym (s.rolls-Retract t i q)) ∙ stmt_kind_is (b.Retract t i q)

  pub call_is : (x f : List ℕ) (ts us : List Term) (g : Give) → stmt_kind_code roots (s.Call x f ts us g) ≡ stmt_at roots (b.Call x f ts us g)
  call_is x f ts us g = ap (stmt_kind_code roots) (sym (s.rolls-Call x f ts us g)) ∙ stmt_kind_is (b.Call x f ts us g)

  pub do_is : (x : List ℕ) (r : Sort) (ns : List ℕ) (body : Body) (box : Assn) → stmt_kind_code roots (s.Do x r ns body box) ≡ stmt_at roots (b.Do x r ns (code roots body) box)
  do_is x r ns body box = ap (stmt_kind_code roots) (sym (s.rolls-Do x r ns body box)) ∙ stmt_kind_is (b.Do x r ns body box)

  pub atomic_is : (x : List ℕ) (r : Sort) (ns : List ℕ) (body : Body) (box : Assn) → stmt_kind_code roots (s.Atomic x r ns body box) ≡ stmt_at roots (b.Atomic x r ns (code roots body) box)
  atomic_is x r ns body box = ap (stmt_kind_code roots) (sym (s.rolls-Atomic x r ns body box)) ∙ stmt_kind_is (b.Atomic x r ns body box)

  pub par_is : (x : List ℕ) (r : Sort) (y : List ℕ) (p : Sort) (ns : List ℕ) (body : Body) (box : Assn) (ms : List ℕ) (other : Body) (last : Assn)
      → stmt_kind_code roots (s.Par x r y p ns body box ms other last) ≡ stmt_at roots (b.Par x r y p ns (code roots body) box ms (code roots other) last)
  par_is x r y p ns body box ms other last =
      ap (stmt_kind_code roots) (sym (s.rolls-Par x r y p ns body box ms other last)) ∙ stmt_kind_is (b.Par x r y p ns body box ms other last)

  pub proof_is : (x : Step) → stmt_kind_code roots (s.Proof x) ≡ stmt_at roots (b.Proof x)
  proof_is x = ap (stmt_kind_code roots) (sym (s.rolls-Proof x)) ∙ stmt_kind_is (b.Proof x)

  -- ---- ends

  pub ret_is : (t : Term) (g : Give) → end_kind_code roots (e.Ret t g) ≡ end_at roots (b.Ret t g)
  ret_is t g = ap (end_kind_code roots) (sym (e.rolls-Ret t g)) ∙ end_kind_is (b.Ret t g)

  pub if_is : (t : Term) (h : List ℕ) (body other : Body) → end_kind_code roots (e.If t h body other) ≡ end_at roots (b.If t h (code roots body) (code roots other))
  if_is t h body other = ap (end_kind_code roots) (sym (e.rolls-If t h body other)) ∙ end_kind_is (b.If t h body other)

  pub case_atom_is : (i : ℕ) (body other : Body) → end_kind_code roots (e.CaseAtom i body other) ≡ end_at roots (b.CaseAtom i (code roots body) (code roots other))
  case_atom_is i body other = ap (end_kind_code roots) (sym (e.rolls-CaseAtom i body other)) ∙ end_kind_is (b.CaseAtom i body other)

  pub case_bool_is : (t : Term) (h : List ℕ) (body other : Body)
      → end_kind_code roots (e.CaseBool t h body other) ≡ end_at roots (b.CaseBool t h (code roots body) (code roots other))
  case_bool_is t h body other = ap (end_kind_code roots) (sym (e.rolls-CaseBool t h body other)) ∙ end_kind_is (b.CaseBool t h body other)

  pub case_seq_is : (t : Term) (h : List ℕ) (body : Body) (x y : List ℕ) (other : Body)
      → end_kind_code roots (e.CaseSeq t h body x y other) ≡ end_at roots (b.CaseSeq t h (code roots body) x y (code roots other))
  case_seq_is t h body x y other = ap (end_kind_code roots) (sym (e.rolls-CaseSeq t h body x y other)) ∙ end_kind_is (b.CaseSeq t h body x y other)

  pub dead_is : (q : Proof) (body : Body) → end_kind_code roots (e.Dead q body) ≡ end_at roots (b.Dead q (code roots body))
  dead_is q body = ap (end_kind_code roots) (sym (e.rolls-Dead q body)) ∙ end_kind_is (b.Dead q body)
