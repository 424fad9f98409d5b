use Rattle.std.proofs.Common.{◌≡◌, take}
use Rattle.tht_tree.specs.Walk.Names.{param_sorts}
use Rattle.term_walk.proofs.params.sorts_of.Given as goal

abbrev pub invariant-loop-param : goal.invariant-loop-param
invariant-loop-param l = l.sorts ≡ param_sorts (take l.param-index l.params)
