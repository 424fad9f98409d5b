use Rattle.std.proofs.Common.{◌≡◌, drop}
use Rattle.tht_tree.specs.Walk.Codes.{first}
use Rattle.tht_tree.specs.Walk.Decls.{all_storable}
use Rattle.term_walk.proofs.params.all_storable.Given as goal

abbrev pub invariant-loop-param : goal.invariant-loop-param
invariant-loop-param l = all_storable l.params ≡ first l.code (all_storable (drop l.param-index l.params))
