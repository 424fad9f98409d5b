use Rattle.std.proofs.Common.{◌≡◌, map, take}
use Rattle.tht_tree.specs.Normal.Linear.{variables}
use Rattle.pure_terms.proofs.linear.all_variables.Given as goal

abbrev pub invariant-loop-form : goal.invariant-loop-form
invariant-loop-form l = l.lists ≡ map variables (take l.form-index l.forms)
