-- The laws of splitting.
use Rattle.std.specs.Prelude.{◌≡◌, ℕ, List}
use Rattle.tht_tree.specs.declared.plain.Spot.{Spot}
use Rattle.tht_tree.specs.Splitting.{Split, Splits}

-- bytes that stand at a spot split into tokens, or have a first fault
abbrev pub SomeSplit : Type 0
SomeSplit = (spot : Spot) (bytes : List ℕ) → (s : Split) × Splits spot bytes s

-- and in one way only
abbrev pub OneSplit : Type 0
OneSplit = (spot : Spot) (bytes : List ℕ) (s u : Split) → Splits spot bytes s → Splits spot bytes u → s ≡ u
