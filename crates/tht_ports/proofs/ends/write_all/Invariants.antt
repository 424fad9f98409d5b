use Rattle.std.proofs.Common.{◌≡◌, ◌≤◌, length, take, ◌-◌}
use Rattle.std.specs.Io.KnownBytes.{Appends}
use Rattle.tht_ports.proofs.ends.write_all.Given as goal

-- the first `sent` bytes were appended, with no fault
abbrev pub invariant-loop-sent : goal.invariant-loop-sent
invariant-loop-sent g l = record {
  bytes : Appends (g.T.Sink.written l.fn.sink) (g.T.Sink.written l.sink) (take l.sent l.bytes);
  faults : g.T.Sink.faults l.sink ≡ g.T.Sink.faults l.fn.sink;
  bound : l.sent ≤ length l.bytes;
}

abbrev pub decreases-loop-sent : goal.decreases-loop-sent
decreases-loop-sent g l = length l.bytes - l.sent
