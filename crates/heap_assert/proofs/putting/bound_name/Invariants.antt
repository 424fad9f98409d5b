use Rattle.std.proofs.Common.{◌≡◌}
use Rattle.std.specs.Prelude.{string_bytes}
use Rattle.tht_logic.specs.Putting.{bound_name}
use Rattle.heap_assert.proofs.putting.bound_name.Given as goal

abbrev pub invariant-loop : goal.invariant-loop
invariant-loop l = string_bytes l.text ≡ bound_name l.counter
