use Rattle.std.proofs.Common.{◌≡◌, ◌+◌, drop}
use Rattle.tht_tree.specs.Walk.Names.{param_number}
use Rattle.term_walk.proofs.params.param_number.Given as goal

abbrev pub invariant-loop-param : goal.invariant-loop-param
invariant-loop-param l = record {
  index : l.number ≡ l.param-index;
  left : param_number l.name l.params ≡ l.number + param_number l.name (drop l.param-index l.params);
}
