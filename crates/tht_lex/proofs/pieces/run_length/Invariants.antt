use Rattle.std.proofs.Common.{◌≡◌, ◌+◌, ◌-◌, ◌≤◌, length, drop}
use Rattle.std.specs.List.{prefix_len}
use Rattle.tht_lex.specs.Pieces.{goes_on}
use Rattle.tht_lex.proofs.pieces.run_length.Given as goal

abbrev pub invariant-loop-end : goal.invariant-loop-end
invariant-loop-end l = record {
  passed : l.end + prefix_len (goes_on l.run) (drop l.end l.bytes) ≡ prefix_len (goes_on l.run) l.bytes;
  within : l.end ≤ length l.bytes;
}

abbrev pub decreases-loop-end : goal.decreases-loop-end
decreases-loop-end l = length l.bytes - l.end
