use Rattle.tht_front.proofs.Going.{About}
use Rattle.tht_front.proofs.run.run.Given as goal

abbrev pub invariant-steps : goal.invariant-steps
invariant-steps l = About l.file l.budget l.lab l.left

abbrev pub decreases-steps : goal.decreases-steps
decreases-steps l = l.left
