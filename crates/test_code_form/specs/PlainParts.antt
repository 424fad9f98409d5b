-- Which bodies call nothing and have no term that makes a sequence, by their parts.
use Rattle.std.specs.Prelude.{Bool, true, false, ◌&&◌}
use Rattle.std.specs.List.{list_all}
use Rattle.tht_tree.specs.declared.body.Body.{Body, fold-Body}
use Rattle.tht_tree.specs.declared.body.End.{End, fold-End}
use Rattle.tht_tree.specs.declared.body.EndKind.{EndKind, fold-EndKind}
use Rattle.tht_tree.specs.declared.body.EndKind.TheOpen as b
use Rattle.tht_tree.specs.declared.body.Stmt.{Stmt, fold-Stmt}
use Rattle.tht_tree.specs.declared.body.StmtKind.{StmtKind, fold-StmtKind}
use Rattle.tht_tree.specs.Rules.Scoping.{sequence_free}

abbrev pub stmt_at : b.StmtKind-F Bool Bool Bool Bool Bool → Bool
stmt_at (b.Read x s t i h p) = sequence_free t
stmt_at (b.Write t u i p) = sequence_free t && sequence_free u
stmt_at (b.Alloc x ts) = list_all sequence_free ts
stmt_at (b.Free t i p) = sequence_free t
stmt_at (b.Publish t i p) = sequence_free t
stmt_at (b.Retract t i p) = sequence_free t
stmt_at (b.Call x f ts us g) = false
stmt_at (b.Do x s ns body box) = body
stmt_at (b.Atomic x s ns body box) = body
stmt_at (b.Par x s y z ns left box ms right last) = left && right
stmt_at (b.Proof x) = true

abbrev pub end_at : b.EndKind-F Bool Bool Bool Bool Bool → Bool
end_at (b.Ret t g) = sequence_free t
end_at (b.If t h body other) = sequence_free t && body && other
end_at (b.CaseAtom i body other) = body
end_at (b.CaseBool t h body other) = body
end_at (b.CaseSeq t h body x s other) = body
end_at (b.Dead p body) = body

abbrev pub body_at : b.Body-F Bool Bool Bool Bool Bool → Bool
body_at x = list_all (λ s. s) x.stmts && x.end

abbrev pub spotted_end : b.End-F Bool Bool Bool Bool Bool → Bool
spotted_end x = x.kind

abbrev pub spotted_stmt : b.Stmt-F Bool Bool Bool Bool Bool → Bool
spotted_stmt x = x.kind

abbrev pub body_plain : Body → Bool
body_plain = fold-Body Bool Bool Bool Bool Bool end_at stmt_at body_at spotted_end spotted_stmt

abbrev pub end_plain : End → Bool
end_plain = fold-End Bool Bool Bool Bool Bool end_at stmt_at body_at spotted_end spotted_stmt

abbrev pub end_kind_plain : EndKind → Bool
end_kind_plain = fold-EndKind Bool Bool Bool Bool Bool end_at stmt_at body_at spotted_end spotted_stmt

abbrev pub stmt_plain : Stmt → Bool
stmt_plain = fold-Stmt Bool Bool Bool Bool Bool end_at stmt_at body_at spotted_end spotted_stmt

abbrev pub stmt_kind_plain : StmtKind → Bool
stmt_kind_plain = fold-StmtKind Bool Bool Bool Bool Bool end_at stmt_at body_at spotted_end spotted_stmt
