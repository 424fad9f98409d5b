use Rattle.std.proofs.Common.{◌≡◌, ◌++◌, drop}
use Rattle.tht_tree.specs.Normal.Linear.{variables}
use Rattle.pure_terms.proofs.linear.variables.Given as goal

abbrev pub invariant-loop-term : goal.invariant-loop-term
invariant-loop-term l = l.variables ++ variables (drop l.term-index l.form) ≡ variables l.form
