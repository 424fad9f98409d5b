-- How a whole read and a whole write end.
use Rattle.std.specs.Prelude.{◌≡◌, ℕ, ◌≤◌, List, Result, IsErrOf}
use Rattle.std.specs.declared.option.Option.{Option}
use Rattle.std.specs.Io.KnownBytes.{Consumes}
use Rattle.tht_ports.specs.declared.ends.ReadEnd.{ReadEnd}
use Rattle.tht_ports.specs.declared.ends.ReadEnd.TheVariants.{Fault}
use Rattle.tht_ports.specs.declared.ends.WriteEnd.{WriteEnd}
use Rattle.tht_ports.specs.declared.ends.WriteEnd.TheVariants.{Fault as WriteFault}
use Rattle.tht_ports.specs.Causes.{Rose}

-- the count never falls, rose where the read ended with a fault, and is as it was on every other answer
pub record ReadCause {T : Type 0} (before now : ℕ) (result : Result T ReadEnd) : Type 0 where
  pub later : before ≤ now
  pub fault : IsErrOf result Fault → Rose before now
  pub kept : ¬ IsErrOf result Fault → now ≡ before

-- known bytes lost some of their first ones, and nothing else
pub record LosesFront (old new : Option (List ℕ)) : Type 0 where
  pub front : List ℕ
  pub lost : Consumes old new front

-- how many bytes a write has sent before its fault
abbrev pub sent_before : WriteEnd → ℕ
sent_before (WriteFault sent) = sent
