-- Which proofs, gives, assertions and bodies are built, by their parts.
use Rattle.std.specs.Prelude.{Bool}
use Rattle.tht_tree.specs.declared.assn.Assn.{Assn, fold-Assn}
use Rattle.tht_tree.specs.declared.body.Body.{Body, fold-Body}
use Rattle.tht_tree.specs.declared.body.End.{End, fold-End}
use Rattle.tht_tree.specs.declared.body.EndKind.{EndKind, fold-EndKind}
use Rattle.tht_tree.specs.declared.body.Stmt.{Stmt, fold-Stmt}
use Rattle.tht_tree.specs.declared.body.StmtKind.{StmtKind, fold-StmtKind}
use Rattle.tht_tree.specs.declared.give.Give.{Give, fold-Give}
use Rattle.tht_tree.specs.declared.give.GiveKind.{GiveKind, fold-GiveKind}
use Rattle.tht_tree.specs.declared.proof.Proof.{Proof, fold-Proof}
use Rattle.tht_tree.specs.declared.proof.ProofKind.{ProofKind, fold-ProofKind}
use Rattle.tht_tree.specs.declared.proof.LinEntry.{LinEntry, fold-LinEntry}
use Rattle.tht_logic.specs.Built.{proof_at, entry_at, spotted_proof, give_at, spotted_give, assn_at, end_at, stmt_at, body_at, spotted_end, spotted_stmt}

abbrev pub proof_built : Proof → Bool
proof_built = fold-Proof Bool Bool Bool proof_at entry_at spotted_proof

abbrev pub kind_built : ProofKind → Bool
kind_built = fold-ProofKind Bool Bool Bool proof_at entry_at spotted_proof

abbrev pub entry_built : LinEntry → Bool
entry_built = fold-LinEntry Bool Bool Bool proof_at entry_at spotted_proof

abbrev pub give_built : Give → Bool
give_built = fold-Give Bool Bool give_at spotted_give

abbrev pub give_kind_built : GiveKind → Bool
give_kind_built = fold-GiveKind Bool Bool give_at spotted_give

abbrev pub assn_built : Assn → Bool
assn_built = fold-Assn Bool assn_at

abbrev pub body_built : Body → Bool
body_built = fold-Body Bool Bool Bool Bool Bool end_at stmt_at body_at spotted_end spotted_stmt

abbrev pub end_built : End → Bool
end_built = fold-End Bool Bool Bool Bool Bool end_at stmt_at body_at spotted_end spotted_stmt

abbrev pub end_kind_built : EndKind → Bool
end_kind_built = fold-EndKind Bool Bool Bool Bool Bool end_at stmt_at body_at spotted_end spotted_stmt

abbrev pub stmt_built : Stmt → Bool
stmt_built = fold-Stmt Bool Bool Bool Bool Bool end_at stmt_at body_at spotted_end spotted_stmt

abbrev pub stmt_kind_built : StmtKind → Bool
stmt_kind_built = fold-StmtKind Bool Bool Bool Bool Bool end_at stmt_at body_at spotted_end spotted_stmt
