use Rattle.std.proofs.Common.{◌≡◌, ◌+◌, ◌<◌, ◌≤◌, drop, take, length, vec_len, vec_capacity}
use Rattle.tht_logic.specs.Machine.{Ended, and_then}
use Rattle.code_form.specs.Codes.{means_of}
use Rattle.code_form.specs.Stack.{Chain, rests}
use Rattle.code_form.proofs.frames.resolve.Given as goal

abbrev pub invariant-loop-i : goal.invariant-loop-i
invariant-loop-i l = record {
  same : and_then (means_of l.code l.at (drop l.base l.values.items)) (rests (means_of l.code) l.values.items l.frames.items Ended) ≡ and_then (means_of l.code l.from (drop l.from_base l.fn.values.items)) (rests (means_of l.code) l.fn.values.items l.fn.frames.items Ended);
  chain : Chain 0 l.frames.items l.base;
  within : l.base ≤ vec_len l.values;
  less : l.base ≤ l.from_base;
  room : vec_len l.values ≤ vec_len l.fn.values + 1;
  capacity : vec_capacity l.values ≡ vec_capacity l.fn.values;
}

abbrev pub decreases-loop-i : goal.decreases-loop-i
decreases-loop-i l = vec_len l.frames
