use Rattle.std.proofs.Common.{◌≡◌, drop}
use Rattle.pure_terms.specs.Zeros.{only_zeros}
use Rattle.pure_terms.proofs.zeros.are_zeros.Given as goal

abbrev pub invariant-loop-byte : goal.invariant-loop-byte
invariant-loop-byte l = only_zeros (drop l.byte-index l.bytes) ≡ only_zeros l.bytes
