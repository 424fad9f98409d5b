use Rattle.std.proofs.Common.{◌≡◌, ◌+◌, ◌++◌, drop, take, vec_len, vec_capacity}
use Rattle.code_form.specs.Stack.{arguments_of}
use Rattle.code_form.proofs.frames.push_values.Given as goal

abbrev pub invariant-loop-e : goal.invariant-loop-e
invariant-loop-e l = record {
  items : l.values.items ≡ l.fn.values.items ++ arguments_of (drop l.base l.fn.values.items) (take l.e-index l.es);
  len : vec_len l.values ≡ l.len + l.e-index;
  capacity : vec_capacity l.values ≡ vec_capacity l.fn.values;
}
