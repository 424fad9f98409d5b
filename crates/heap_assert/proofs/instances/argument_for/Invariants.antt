use Rattle.std.proofs.Common.{◌≡◌}
use Rattle.tht_tree.specs.Normal.Putting.{put_name}
use Rattle.tht_logic.specs.Rules.Definitions.{arguments}
use Rattle.heap_assert.proofs.instances.argument_for.Given as goal

abbrev pub invariant-loop-param : goal.invariant-loop-param
invariant-loop-param l = put_name (arguments l.param-iterator.a.rest.now l.param-iterator.b.rest.now) l.name ≡ put_name (arguments l.params l.arguments) l.name
