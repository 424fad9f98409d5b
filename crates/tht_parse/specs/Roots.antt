-- How many roots a file may still have.
use Rattle.std.specs.Prelude.{ℕ, zero, suc, Bool, true, false, Option, Some, None}

-- How many more roots may come after one more declaration, where so many may come with it and it is a root or none.
abbrev pub room_after : Bool → ℕ → Option ℕ
room_after true zero = None
room_after true (suc n) = Some n
room_after false n = Some n
