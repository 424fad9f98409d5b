use Rattle.std.proofs.Common.{◌≡◌, ◌+◌, ◌*◌, max, map, drop}
use Rattle.tht_tree.specs.declared.proof.Proof.{size-Proof}
use Rattle.tht_tree.specs.declared.proof.ProofKind.{size-ProofKind}
use Rattle.tht_tree.specs.Walk.Codes.{in_order}
use Rattle.tht_tree.specs.Walk.Proofs.{entry}
use Rattle.term_walk.specs.Scopes.{scope_of}
use Rattle.term_walk.proofs.proofs.+proof.Given as goal

abbrev pub invariant-walk_entries-loop-entry : goal.invariant-walk_entries-loop-entry
invariant-walk_entries-loop-entry l = record {
  left : in_order (map (λ e. e.proof (scope_of l.fn.scope)) (map entry l.entries)) ≡ in_order (map (λ e. e.proof (scope_of l.fn.scope)) (map entry (drop l.entry-index l.entries)));
  same : scope_of l.scope ≡ scope_of l.fn.scope;
}

abbrev pub decreases-walk_proof : goal.decreases-walk_proof
decreases-walk_proof l = 8 * size-Proof l.proof.now + 2

abbrev pub decreases-walk_kind : goal.decreases-walk_kind
decreases-walk_kind l = 8 * size-ProofKind l.kind.now + 1

abbrev pub decreases-one : goal.decreases-one
decreases-one l = 8 * size-Proof l.p.now + 3

abbrev pub decreases-two : goal.decreases-two
decreases-two l = 8 * max (size-Proof l.p.now) (size-Proof l.q.now) + 4

abbrev pub decreases-known : goal.decreases-known
decreases-known l = 8 * size-Proof l.p.now + 3

abbrev pub decreases-both_known : goal.decreases-both_known
decreases-both_known l = 8 * max (size-Proof l.p.now) (size-Proof l.q.now) + 4

abbrev pub decreases-three : goal.decreases-three
decreases-three l = 8 * max (size-Proof l.p.now) (max (size-Proof l.q.now) (size-Proof l.r.now)) + 5

abbrev pub decreases-walk_entries : goal.decreases-walk_entries
decreases-walk_entries l = 8 * goal.size-walk_entries l + 3

abbrev pub decreases-function : goal.decreases-function
decreases-function l = 8 * size-Proof l.p.now + 4

abbrev pub decreases-certificate : goal.decreases-certificate
decreases-certificate l = 8 * goal.size-certificate l + 4

abbrev pub decreases-walk_binding : goal.decreases-walk_binding
decreases-walk_binding l = 8 * size-ProofKind l.kind.now
