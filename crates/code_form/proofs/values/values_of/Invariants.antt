use Rattle.std.proofs.Common.{◌≡◌, length, take, drop}
use Rattle.code_form.specs.Eval.{all_of}
use Rattle.code_form.proofs.Rows.{in_front}
use Rattle.code_form.proofs.values.values_of.Given as goal

abbrev pub invariant-loop-e : goal.invariant-loop-e
invariant-loop-e l = record {
  count : l.len ≡ l.e-index;
  room : length l.items ≡ 8;
  so_far : in_front (take l.len l.items) (all_of l.env (drop l.e-index l.row)) ≡ all_of l.env l.row;
}
