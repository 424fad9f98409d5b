use Rattle.std.proofs.Common.{◌∙◌}
use Rattle.term_walk.specs.Scopes.{scope_of}
use Rattle.term_walk.proofs.Shadowing.{known_again}
use Rattle.term_walk.proofs.Entries.{lin_is, entry_refused, entry_passed}
use Rattle.term_walk.proofs.proofs.+proof.Goals as goal

pub known-returns-clause-same : goal.known-returns-clause-same
known-returns-clause-same t c = known_again _ _ _ _ _ _ _ c.in_ok-shadowed.ensures.bound c.in_ok-shadowed.ensures.shadowed c.in_ok-refusal.ensures.same c.in_ok-unbind.ensures

pub walk_entries-returns-in-Some-clause-ok : goal.walk_entries-returns-in-Some-clause-ok
walk_entries-returns-in-Some-clause-ok t c =
    entry_refused c.args.entries.now c.loop-entry.entry-index c.entry-item.result (scope_of c.args.scope.now) (scope_of c.loop-entry.scope) c.get.result.now c.in_ok-refusal.field-0 _ c.loop-entry-test.true c.entry-item.is
    c.loop-entry.invariant.left c.get.ensures c.loop-entry.invariant.same c.in_ok-refusal.ensures.ok c.in-Some.refusal c.in-Some.is

pub walk_entries-loop-entry-preserved : goal.walk_entries-loop-entry-preserved
walk_entries-loop-entry-preserved t c = record {
  left =
      entry_passed c.args.entries.now c.loop-entry.entry-index c.entry-item.result (scope_of c.args.scope.now) (scope_of c.loop-entry.scope) c.get.result.now c.in_ok-refusal.field-0 _ c.loop-entry-test.true c.entry-item.is
      c.loop-entry.invariant.left c.get.ensures c.loop-entry.invariant.same c.in_ok-refusal.ensures.ok c.in_default.is;
  same = c.in_ok-refusal.ensures.same ∙ c.loop-entry.invariant.same;
}

pub walk_kind-returns-in-Lin-clause-ok : goal.walk_kind-returns-in-Lin-clause-ok
walk_kind-returns-in-Lin-clause-ok t c = rw (c.in-Lin.is, lin_is, ← c.as_slice.ensures) c.certificate.ensures.ok
