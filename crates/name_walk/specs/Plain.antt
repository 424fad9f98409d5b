-- Statements with no body in them.
use Rattle.std.specs.Prelude.{Bool, true, false}
use Rattle.tht_tree.specs.declared.body.StmtKind.{StmtKind, out-StmtKind}
use Rattle.tht_tree.specs.declared.body.EndKind.TheOpen as b
use Rattle.tht_tree.specs.declared.body.EndKind.{EndKind}
use Rattle.tht_tree.specs.declared.body.Body.{Body}
use Rattle.tht_tree.specs.declared.body.Stmt.{Stmt}
use Rattle.tht_tree.specs.declared.body.End.{End}

abbrev pub is_plain_at : b.StmtKind-F EndKind StmtKind Body End Stmt → Bool
is_plain_at (b.Do x s ns body a) = false
is_plain_at (b.Atomic x s ns body a) = false
is_plain_at (b.Par x s y r ns body a ms other c) = false
is_plain_at _ = true

abbrev pub is_plain : StmtKind → Bool
is_plain k = is_plain_at (out-StmtKind k)
