-- Whether each form of a body is built, by one level of the tree.
use Rattle.std.proofs.Common.{◌≡◌, Bool, ◌&&◌, map}
use Rattle.std.specs.List.{list_all}
use Rattle.tht_tree.specs.declared.body.Body.{Body, roll-Body, fold-roll-Body}
use Rattle.tht_tree.specs.declared.body.End.{End, fold-End, fold_out-End}
use Rattle.tht_tree.specs.declared.body.EndKind.{EndKind, roll-EndKind, map-EndKind, fold-EndKind, fold-roll-EndKind}
use Rattle.tht_tree.specs.declared.body.EndKind.TheOpen as b
use Rattle.tht_tree.specs.declared.body.Stmt.{Stmt, fold-Stmt, fold_out-Stmt}
use Rattle.tht_tree.specs.declared.body.StmtKind.{StmtKind, roll-StmtKind, map-StmtKind, fold-StmtKind, fold-roll-StmtKind}
use Rattle.tht_logic.specs.Built.{body, stmt_at, end_at, body_at, spotted_end, spotted_stmt}

abbrev pub stmt_built : Stmt → Bool
stmt_built = fold-Stmt Bool Bool Bool Bool Bool end_at stmt_at body_at spotted_end spotted_stmt

abbrev pub stmt_kind_built : StmtKind → Bool
stmt_kind_built = fold-StmtKind Bool Bool Bool Bool Bool end_at stmt_at body_at spotted_end spotted_stmt

abbrev pub end_built : End → Bool
end_built = fold-End Bool Bool Bool Bool Bool end_at stmt_at body_at spotted_end spotted_stmt

abbrev pub end_kind_built : EndKind → Bool
end_kind_built = fold-EndKind Bool Bool Bool Bool Bool end_at stmt_at body_at spotted_end spotted_stmt

-- a level with the answer for each part
abbrev pub stmt_level : b.StmtKind-F EndKind StmtKind Body End Stmt → b.StmtKind-F Bool Bool Bool Bool Bool
stmt_level = map-StmtKind EndKind StmtKind Body End Stmt Bool Bool Bool Bool Bool end_kind_built stmt_kind_built body end_built stmt_built

abbrev pub end_level : b.EndKind-F EndKind StmtKind Body End Stmt → b.EndKind-F Bool Bool Bool Bool Bool
end_level = map-EndKind EndKind StmtKind Body End Stmt Bool Bool Bool Bool Bool end_kind_built stmt_kind_built body end_built stmt_built

pub rolled_built : (x : b.Body-F EndKind StmtKind Body End Stmt) → body (roll-Body x) ≡ (list_all (λ s. s) (map stmt_built x.stmts) && end_built x.end)
unfolding body
rolled_built x = fold-roll-Body Bool Bool Bool Bool Bool end_at stmt_at body_at spotted_end spotted_stmt x

pub stmt_is : (x : Stmt) → stmt_built x ≡ stmt_kind_built x.kind
stmt_is x = fold_out-Stmt Bool Bool Bool Bool Bool end_at stmt_at body_at spotted_end spotted_stmt x

pub end_is : (x : End) → end_built x ≡ end_kind_built x.kind
end_is x = fold_out-End Bool Bool Bool Bool Bool end_at stmt_at body_at spotted_end spotted_stmt x

pub stmt_kind_is : (x : b.StmtKind-F EndKind StmtKind Body End Stmt) → stmt_kind_built (roll-StmtKind x) ≡ stmt_at (stmt_level x)
unfolding body
stmt_kind_is x = fold-roll-StmtKind Bool Bool Bool Bool Bool end_at stmt_at body_at spotted_end spotted_stmt x

pub end_kind_is : (x : b.EndKind-F EndKind StmtKind Body End Stmt) → end_kind_built (roll-EndKind x) ≡ end_at (end_level x)
unfolding body
end_kind_is x = fold-roll-EndKind Bool Bool Bool Bool Bool end_at stmt_at body_at spotted_end spotted_stmt x
