-- One level of a tree, its parts without their spots.
use Rattle.std.specs.Prelude.{Bool, true, false}
use Rattle.tht_tree.specs.declared.proof.Proof.{Proof}
use Rattle.tht_tree.specs.declared.proof.ProofKind.{ProofKind, map-ProofKind, out-ProofKind}
use Rattle.tht_tree.specs.declared.proof.ProofKind.TheOpen as p
use Rattle.tht_tree.specs.declared.proof.LinEntry.{LinEntry, map-LinEntry, out-LinEntry}
use Rattle.tht_tree.specs.declared.give.Give.{Give}
use Rattle.tht_tree.specs.declared.give.GiveKind.{GiveKind, map-GiveKind, out-GiveKind}
use Rattle.tht_tree.specs.declared.give.GiveKind.TheOpen as g
use Rattle.tht_tree.specs.declared.body.Body.{Body, map-Body, out-Body}
use Rattle.tht_tree.specs.declared.body.Stmt.{Stmt}
use Rattle.tht_tree.specs.declared.body.StmtKind.{StmtKind, map-StmtKind, out-StmtKind}
use Rattle.tht_tree.specs.declared.body.End.{End}
use Rattle.tht_tree.specs.declared.body.EndKind.{EndKind, map-EndKind, out-EndKind}
use Rattle.tht_tree.specs.declared.body.EndKind.TheOpen as b
use Rattle.tht_tree.specs.WithoutSpots.{bare_proof, bare_proof_kind, bare_entry, bare_give, bare_give_kind, bare_give_parts, bare_body, bare_stmt, bare_stmt_kind, bare_stmt_parts, bare_end, bare_end_kind, bare_end_parts}

abbrev pub proof_level : ProofKind → p.ProofKind-F ProofKind LinEntry Proof
proof_level k = map-ProofKind ProofKind LinEntry Proof ProofKind LinEntry Proof bare_proof_kind bare_entry bare_proof (out-ProofKind k)

-- a proof by `subst`, `cases` or `em`
abbrev pub is_binder_at : p.ProofKind-F ProofKind LinEntry Proof → Bool
is_binder_at (p.Subst x s t a b q r) = true
is_binder_at (p.Cases t q h r g s) = true
is_binder_at (p.Em t h q g r) = true
is_binder_at _ = false

abbrev pub is_binder : ProofKind → Bool
is_binder k = is_binder_at (out-ProofKind k)

abbrev pub entry_level : LinEntry → p.LinEntry-F ProofKind LinEntry Proof
entry_level e = map-LinEntry ProofKind LinEntry Proof ProofKind LinEntry Proof bare_proof_kind bare_entry bare_proof (out-LinEntry e)

abbrev pub give_level : GiveKind → g.GiveKind-F GiveKind Give
give_level k = bare_give_parts (map-GiveKind GiveKind Give GiveKind Give bare_give_kind bare_give (out-GiveKind k))

abbrev pub body_level : Body → b.Body-F EndKind StmtKind Body End Stmt
body_level x = map-Body EndKind StmtKind Body End Stmt EndKind StmtKind Body End Stmt bare_end_kind bare_stmt_kind bare_body bare_end bare_stmt (out-Body x)

abbrev pub stmt_level : StmtKind → b.StmtKind-F EndKind StmtKind Body End Stmt
stmt_level k = bare_stmt_parts (map-StmtKind EndKind StmtKind Body End Stmt EndKind StmtKind Body End Stmt bare_end_kind bare_stmt_kind bare_body bare_end bare_stmt (out-StmtKind k))

abbrev pub is_par_at : b.StmtKind-F EndKind StmtKind Body End Stmt → Bool
is_par_at (b.Par x s y r is k a js l c) = true
is_par_at _ = false

abbrev pub is_par : StmtKind → Bool
is_par k = is_par_at (out-StmtKind k)

abbrev pub end_level : EndKind → b.EndKind-F EndKind StmtKind Body End Stmt
end_level k = bare_end_parts (map-EndKind EndKind StmtKind Body End Stmt EndKind StmtKind Body End Stmt bare_end_kind bare_stmt_kind bare_body bare_end bare_stmt (out-EndKind k))
