use Rattle.std.proofs.Common.{◌≡◌, ◌++◌, length}
use Rattle.pure_terms.proofs.queue.Queue.new.Given as goal

abbrev pub invariant-loop-item : goal.invariant-loop-item
invariant-loop-item g l = l.items ++ l.queue.items ≡ l.fn.items

abbrev pub decreases-loop-item : goal.decreases-loop-item
decreases-loop-item g l = length l.items
