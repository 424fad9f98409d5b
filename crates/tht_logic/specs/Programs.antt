-- Programs, the erasure of bodies: proofs, proof steps, gives, boxes, the numbers of atoms, the arguments of calls in brackets, the names of
-- hypotheses and the names that an author gave to variables are gone, a `case` is its first body, and a `dead` its body. The sorts of results stay:
-- the machine looks at that of a `read`, and the comparison of two programs at each.
use Rattle.std.specs.Prelude.{ℕ, List, [], ◌∷◌, map}
use Rattle.tht_tree.specs.declared.plain.Sort.{Sort}
use Rattle.tht_tree.specs.declared.body.Body.{Body, fold-Body}
use Rattle.tht_tree.specs.declared.body.End.{End, fold-End}
use Rattle.tht_tree.specs.declared.body.EndKind.{EndKind, fold-EndKind}
use Rattle.tht_tree.specs.declared.body.Stmt.{Stmt, fold-Stmt}
use Rattle.tht_tree.specs.declared.body.StmtKind.{StmtKind, fold-StmtKind}
use Rattle.tht_tree.specs.declared.body.EndKind.TheOpen as b
use Rattle.tht_tree.specs.declared.file.Source1.{Source1}
use Rattle.tht_tree.specs.Syntax.{Trm, Names, trm}

-- A program: a return, a choice of two, and each statement with what follows it (`drop` is `free`, and `nest` is `do`). An inner body stands with the
-- sort of its result.
pub data Code : Type 0 where
  ret : Trm → Code
  test : Trm → Code → Code → Code
  read : Sort → Trm → Code → Code
  write : Trm → Trm → Code → Code
  alloc : List Trm → Code → Code
  drop : Trm → Code → Code
  publish : Trm → Code → Code
  retract : Trm → Code → Code
  call : List ℕ → List Trm → Code → Code
  nest : Sort → Code → Code → Code
  atomic : Sort → Code → Code → Code
  par : Sort → Sort → Code → Code → Code → Code

-- the names of the roots of a file: one of the forms that are built declares none
abbrev pub root_names : Source1 → Names
root_names file = []

-- a program where these names are bound, the innermost first; and a statement, which stands before such a program
abbrev pub Whole : Type 0
Whole = Names → Code

abbrev pub Before : Type 0
Before = Whole → Whole

abbrev pub in_order : List Before → Whole → Whole
in_order [] end = end
in_order (s ∷ ss) end = s (in_order ss end)

module _ (roots : Names) where
  abbrev pub stmt_at : b.StmtKind-F Whole Before Whole Whole Before → Before
  stmt_at (b.Read x s t i h p) next xs = read s (trm roots xs t) (next (x ∷ xs))
  stmt_at (b.Write t u i p) next xs = write (trm roots xs t) (trm roots xs u) (next xs)
  stmt_at (b.Alloc x ts) next xs = alloc (map (trm roots xs) ts) (next (x ∷ xs))
  stmt_at (b.Free t i p) next xs = drop (trm roots xs t) (next xs)
  stmt_at (b.Publish t i p) next xs = publish (trm roots xs t) (next xs)
  stmt_at (b.Retract t i p) next xs = retract (trm roots xs t) (next xs)
  stmt_at (b.Call x f ts us g) next xs = call f (map (trm roots xs) ts) (next (x ∷ xs))
  stmt_at (b.Do x s ns body box) next xs = nest s (body xs) (next (x ∷ xs))
  stmt_at (b.Atomic x s ns body box) next xs = atomic s (body xs) (next (x ∷ xs))
  stmt_at (b.Par x s y r ns left box ms right more) next xs = par s r (left xs) (right xs) (next (y ∷ x ∷ xs))
  stmt_at (b.Proof x) next xs = next xs

  abbrev pub end_at : b.EndKind-F Whole Before Whole Whole Before → Whole
  end_at (b.Ret t g) xs = ret (trm roots xs t)
  end_at (b.If t h body other) xs = test (trm roots xs t) (body xs) (other xs)
  end_at (b.CaseAtom i body other) xs = body xs
  end_at (b.CaseBool t h body other) xs = body xs
  end_at (b.CaseSeq t h body x s other) xs = body xs
  end_at (b.Dead p body) xs = body xs

  abbrev pub body_at : b.Body-F Whole Before Whole Whole Before → Whole
  body_at x = in_order x.stmts x.end

  abbrev pub spotted_end : b.End-F Whole Before Whole Whole Before → Whole
  spotted_end x = x.kind

  abbrev pub spotted_stmt : b.Stmt-F Whole Before Whole Whole Before → Before
  spotted_stmt x = x.kind

  -- the program of a body, where these are the roots and these names are bound, the innermost first; and the same of its parts
  unfoldable pub code : Body → Whole
  code = fold-Body Whole Before Whole Whole Before end_at stmt_at body_at spotted_end spotted_stmt

  unfoldable pub end_code : End → Whole
  end_code = fold-End Whole Before Whole Whole Before end_at stmt_at body_at spotted_end spotted_stmt

  unfoldable pub end_kind_code : EndKind → Whole
  end_kind_code = fold-EndKind Whole Before Whole Whole Before end_at stmt_at body_at spotted_end spotted_stmt

  unfoldable pub stmt_code : Stmt → Before
  stmt_code = fold-Stmt Whole Before Whole Whole Before end_at stmt_at body_at spotted_end spotted_stmt

  unfoldable pub stmt_kind_code : StmtKind → Before
  stmt_kind_code = fold-StmtKind Whole Before Whole Whole Before end_at stmt_at body_at spotted_end spotted_stmt
