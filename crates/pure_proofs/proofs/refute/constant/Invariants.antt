use Rattle.std.proofs.Common.{◌≡◌, [], drop}
use Rattle.tht_tree.specs.Normal.Linear.{coefficient_of}
use Rattle.pure_proofs.proofs.refute.constant.Given as goal

abbrev pub invariant-loop-term : goal.invariant-loop-term
invariant-loop-term l = coefficient_of [] l.form ≡ coefficient_of [] (drop l.term-index l.form)
