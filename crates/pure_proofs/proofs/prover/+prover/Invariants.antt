use Rattle.std.proofs.Common.{◌≡◌, ◌+◌, ◌*◌, max, drop}
use Rattle.tht_tree.specs.declared.proof.Proof.{size-Proof}
use Rattle.tht_tree.specs.declared.proof.ProofKind.{size-ProofKind}
use Rattle.tht_tree.specs.declared.proof.LinEntry.{size-LinEntry}
use Rattle.pure_proofs.specs.Facts.{denied_by}
use Rattle.pure_proofs.specs.Said.{known_in}
use Rattle.pure_proofs.proofs.Entries.{entries_refused}
use Rattle.pure_proofs.proofs.prover.+prover.Given as goal

abbrev pub invariant-prove_facts-loop-entry : goal.invariant-prove_facts-loop-entry
invariant-prove_facts-loop-entry l = record {
  left :
      entries_refused l.setting.roots.now l.setting.spot (known_in l.fn.known.state) (denied_by l.aim) l.entries
      ≡ entries_refused l.setting.roots.now l.setting.spot (known_in l.fn.known.state) (denied_by l.aim) (drop l.entry-index l.entries);
  same : known_in l.known.state ≡ known_in l.fn.known.state;
}

abbrev pub decreases-prove_proof : goal.decreases-prove_proof
decreases-prove_proof l = 8 * size-Proof l.proof.now + 1

abbrev pub decreases-prove_kind : goal.decreases-prove_kind
decreases-prove_kind l = 8 * size-ProofKind l.kind.now

abbrev pub decreases-prove_given : goal.decreases-prove_given
decreases-prove_given l = 8 * size-Proof l.q.now + 2

abbrev pub decreases-prove_made : goal.decreases-prove_made
decreases-prove_made l = 8 * size-Proof l.q.now + 3

abbrev pub decreases-prove_two : goal.decreases-prove_two
decreases-prove_two l = 8 * max (size-Proof l.q.now) (size-Proof l.r.now) + 4

abbrev pub decreases-prove_under : goal.decreases-prove_under
decreases-prove_under l = 8 * size-Proof l.q.now + 2

abbrev pub decreases-prove_branch : goal.decreases-prove_branch
decreases-prove_branch l = 8 * size-Proof l.branch.proof.now + 3

abbrev pub decreases-prove_branches : goal.decreases-prove_branches
decreases-prove_branches l = 8 * max (size-Proof l.left.proof.now) (size-Proof l.right.proof.now) + 4

abbrev pub decreases-by_recast : goal.decreases-by_recast
decreases-by_recast l = 8 * size-Proof l.q.now + 3

abbrev pub decreases-by_symmetry : goal.decreases-by_symmetry
decreases-by_symmetry l = 8 * size-Proof l.q.now + 4

abbrev pub decreases-by_both : goal.decreases-by_both
decreases-by_both l = 8 * max (size-Proof l.q.now) (size-Proof l.r.now) + 5

abbrev pub decreases-by_substitution : goal.decreases-by_substitution
decreases-by_substitution l = 8 * max (size-Proof l.q.now) (size-Proof l.r.now) + 5

abbrev pub decreases-by_pair : goal.decreases-by_pair
decreases-by_pair l = 8 * max (size-Proof l.q.now) (size-Proof l.r.now) + 2

abbrev pub decreases-by_left : goal.decreases-by_left
decreases-by_left l = 8 * size-Proof l.q.now + 2

abbrev pub decreases-by_right : goal.decreases-by_right
decreases-by_right l = 8 * size-Proof l.q.now + 2

abbrev pub decreases-by_cases : goal.decreases-by_cases
decreases-by_cases l = 8 * max (size-Proof l.p.now) (max (size-Proof l.left.proof.now) (size-Proof l.right.proof.now)) + 5

abbrev pub decreases-by_function : goal.decreases-by_function
decreases-by_function l = 8 * size-Proof l.case.proof.now + 4

abbrev pub decreases-by_application : goal.decreases-by_application
decreases-by_application l = 8 * max (size-Proof l.q.now) (size-Proof l.r.now) + 5

abbrev pub decreases-by_contradiction : goal.decreases-by_contradiction
decreases-by_contradiction l = 8 * max (size-Proof l.q.now) (size-Proof l.r.now) + 5

abbrev pub decreases-by_excluded_middle : goal.decreases-by_excluded_middle
decreases-by_excluded_middle l = 8 * max (size-Proof l.holds.proof.now) (size-Proof l.fails.proof.now) + 5

abbrev pub decreases-by_monus : goal.decreases-by_monus
decreases-by_monus l = 8 * size-Proof l.q.now + 4

abbrev pub decreases-by_heads : goal.decreases-by_heads
decreases-by_heads l = 8 * size-Proof l.q.now + 4

abbrev pub decreases-by_tails : goal.decreases-by_tails
decreases-by_tails l = 8 * size-Proof l.q.now + 4

abbrev pub decreases-by_lin : goal.decreases-by_lin
decreases-by_lin l = 8 * goal.size-by_lin l + 6

abbrev pub decreases-prove_certificate : goal.decreases-prove_certificate
decreases-prove_certificate l = 8 * goal.size-prove_certificate l + 5

abbrev pub decreases-prove_facts : goal.decreases-prove_facts
decreases-prove_facts l = 8 * goal.size-prove_facts l + 4

abbrev pub decreases-prove_fact : goal.decreases-prove_fact
decreases-prove_fact l = 8 * size-LinEntry l.entry.now + 3
