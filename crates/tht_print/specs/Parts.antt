-- How parts of proofs, gives and bodies are printed, which a file does not hold alone.
use Rattle.tht_tree.specs.declared.proof.ProofKind.{ProofKind, fold-ProofKind}
use Rattle.tht_tree.specs.declared.proof.LinEntry.{LinEntry, fold-LinEntry}
use Rattle.tht_tree.specs.declared.body.Stmt.{Stmt, fold-Stmt}
use Rattle.tht_tree.specs.declared.body.StmtKind.{StmtKind, fold-StmtKind}
use Rattle.tht_tree.specs.declared.body.End.{End, fold-End}
use Rattle.tht_tree.specs.declared.body.EndKind.{EndKind, fold-EndKind}
use Rattle.tht_tree.specs.Layout.{Printed, proof_layer, entry_layer, stmt_layer, end_layer, body_layer}

unfoldable pub proof_kind : ProofKind → Printed
proof_kind = fold-ProofKind Printed Printed Printed proof_layer entry_layer (λ q. q.kind)

unfoldable pub lin_entry : LinEntry → Printed
lin_entry = fold-LinEntry Printed Printed Printed proof_layer entry_layer (λ q. q.kind)

unfoldable pub stmt : Stmt → Printed
stmt = fold-Stmt Printed Printed Printed Printed Printed end_layer stmt_layer body_layer (λ x. x.kind) (λ x. x.kind)

unfoldable pub stmt_kind : StmtKind → Printed
stmt_kind = fold-StmtKind Printed Printed Printed Printed Printed end_layer stmt_layer body_layer (λ x. x.kind) (λ x. x.kind)

unfoldable pub end : End → Printed
end = fold-End Printed Printed Printed Printed Printed end_layer stmt_layer body_layer (λ x. x.kind) (λ x. x.kind)

unfoldable pub end_kind : EndKind → Printed
end_kind = fold-EndKind Printed Printed Printed Printed Printed end_layer stmt_layer body_layer (λ x. x.kind) (λ x. x.kind)
