use Rattle.std.proofs.Common.{◌≡◌, ◌++◌}
use Rattle.tht_logic.specs.Rules.Definitions.{arguments}
use Rattle.heap_assert.proofs.instances.add_arguments.Given as goal

abbrev pub invariant-loop-param : goal.invariant-loop-param
invariant-loop-param l = l.all ++ arguments l.param-iterator.a.rest.now l.param-iterator.b.rest.now ≡ l.fn.by ++ arguments l.params l.arguments
