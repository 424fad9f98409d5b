-- Proofs that bind names: in their formula, or in the proofs inside them.
use Rattle.std.specs.Prelude.{Bool, true, false}
use Rattle.tht_tree.specs.declared.proof.Proof.{Proof}
use Rattle.tht_tree.specs.declared.proof.LinEntry.{LinEntry}
use Rattle.tht_tree.specs.declared.proof.ProofKind.{ProofKind, out-ProofKind}
use Rattle.tht_tree.specs.declared.proof.ProofKind.TheOpen as p

abbrev pub is_binding_at : p.ProofKind-F ProofKind LinEntry Proof → Bool
is_binding_at (p.Subst x s t a b q r) = true
is_binding_at (p.Cases t q h r g u) = true
is_binding_at (p.Fun h q) = true
is_binding_at (p.Em t h q g r) = true
is_binding_at _ = false

abbrev pub is_binding : ProofKind → Bool
is_binding k = is_binding_at (out-ProofKind k)
