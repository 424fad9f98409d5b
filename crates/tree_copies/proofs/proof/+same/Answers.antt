use Rattle.std.proofs.Common.{◌≡◌}
use Rattle.tree_copies.proofs.OneLevel.{proofs_same, entries_same, lin_is}
use Rattle.tht_tree.proofs.Rows.{left_after, left_differs, ended}
use Rattle.tree_copies.proofs.proof.+same.Goals as goal

pub same_proof-returns : goal.same_proof-returns
same_proof-returns t c = proofs_same _ _ c.same_kind.ensures

pub same_kind-returns-then-k-l : goal.same_kind-returns-then-k-l
same_kind-returns-then-k-l t c =
    let k : c.in-Lin-Lin.k ≡ c.in-Lin-Lin.l = c.if-k-l.true in
    rw (c.in-Lin-Lin.is-0, c.in-Lin-Lin.is-1, lin_is, lin_is) (λ h. let g = c.same_entries.ensures.0 h in cc, λ e. c.same_entries.ensures.1 (cc))

pub same_entries-loop-entry-preserved : goal.same_entries-loop-entry-preserved
same_entries-loop-entry-preserved t c =
    left_after _ _ _ _ _ _ _ _ c.in-Some.ensures.steps ((entries_same _ _).0 (c.same_entry.ensures.0 c.if-not-same_entry.false)) c.loop-entry.invariant

pub same_entries-returns : goal.same_entries-returns
same_entries-returns t c = ended _ _ _ _ c.in-None.ensures.steps c.loop-entry.invariant

pub same_entries-returns-then-not-same_entry : goal.same_entries-returns-then-not-same_entry
same_entries-returns-then-not-same_entry t c =
    left_differs _ _ _ _ _ _ _ _ c.in-Some.ensures.steps (λ e. let h = c.same_entry.ensures.1 ((entries_same _ _).1 e) in cc) c.loop-entry.invariant
