use Rattle.std.proofs.Common.{◌≡◌, ◌+◌, ◌≤◌, drop, take, vec_len, vec_capacity}
use Rattle.code_form.specs.Codes.{means_of}
use Rattle.code_form.proofs.walk.walk.Given as goal

abbrev pub invariant-loop-next : goal.invariant-loop-next
invariant-loop-next l = record {
  same : means_of l.code l.at (drop l.base l.values.items) ≡ means_of l.code l.from (drop l.base l.fn.values.items);
  rest : take l.base l.values.items ≡ take l.base l.fn.values.items;
  within : l.base ≤ vec_len l.values;
  room : vec_len l.values + l.at ≤ vec_len l.fn.values + l.from;
  capacity : vec_capacity l.values ≡ vec_capacity l.fn.values;
}

abbrev pub decreases-loop-next : goal.decreases-loop-next
decreases-loop-next l = l.at
