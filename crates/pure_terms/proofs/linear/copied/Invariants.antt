use Rattle.std.proofs.Common.{◌≡◌, take}
use Rattle.pure_terms.proofs.linear.copied.Given as goal

abbrev pub invariant-loop-atom : goal.invariant-loop-atom
invariant-loop-atom l = l.copy ≡ take l.atom-index l.product
