use Rattle.std.proofs.Common.{◌≡◌, ◌+◌, ◌++◌, Some, map, take, vec_len, vec_capacity}
use Rattle.tagged_interp.proofs.lab.lay.Given as goal

abbrev pub invariant-loop-value : goal.invariant-loop-value
invariant-loop-value l = record {
  items : l.cells.items ≡ l.fn.cells.items ++ map Some (take l.value-index l.values);
  len : vec_len l.cells ≡ vec_len l.fn.cells + l.value-index;
  capacity : vec_capacity l.cells ≡ vec_capacity l.fn.cells;
}
