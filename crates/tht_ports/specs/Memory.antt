-- What a source and a sink in memory are seen as.
use Rattle.std.specs.Prelude.{ℕ, List, []}

pub record MemoryInput : Type 0 where
  pub left : List ℕ
  -- the numbers of the pulls that fail, from 1
  pub fails : List ℕ
  -- how many pulls there were
  pub pulls : ℕ
  -- how many of them failed
  pub faults : ℕ
  -- how many bytes a pull moves at most
  pub most : ℕ

-- a source of these bytes, before its first pull
abbrev pub new_input : List ℕ → List ℕ → ℕ → MemoryInput
new_input bytes fails most = record { left = bytes; fails = fails; pulls = 0; faults = 0; most = most }

pub record MemoryOutput : Type 0 where
  pub written : List ℕ
  -- how many bytes fit in all
  pub room : ℕ
  -- the numbers of the pushes that fail, from 1
  pub fails : List ℕ
  -- how many pushes there were
  pub pushes : ℕ
  -- how many of them failed
  pub faults : ℕ
  -- how many bytes a push takes at most
  pub most : ℕ

-- an empty sink with this room, before its first push
abbrev pub new_output : ℕ → List ℕ → ℕ → MemoryOutput
new_output room fails most =
    record { written = []; room = room; fails = fails; pushes = 0; faults = 0; most = most }
