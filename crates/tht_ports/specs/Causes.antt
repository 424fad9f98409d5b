-- Counts of faults, and what a source and a sink do in one call.
use Rattle.std.specs.Prelude.{◌≡◌, ℕ, ◌+◌, ◌-◌, ◌^◌, ◌<◌, ◌≤◌, ◌↔◌, min, List, [], length, Result, OnOk, OnErr, IfOk, IfSome}
use Rattle.std.specs.declared.option.Option.{Option}

-- the number after n, which stays at 2^64 - 1 once it is there
abbrev pub next_count : ℕ → ℕ
next_count n = min (n + 1) (2 ^ 64 - 1)

-- a count of faults rose, or stands at its last value
abbrev pub Rose : ℕ → ℕ → Type 0
Rose before now = next_count before ≤ now

-- the count never falls, rose where the call failed, and is as it was where the call did not
pub record HasCause {T E : Type 0} (before now : ℕ) (result : Result T E) : Type 0 where
  pub later : before ≤ now
  pub failed : OnErr result (Rose before now)
  pub kept : OnOk result (now ≡ before)

-- at `Ok(n)` into a slice that is not empty, n is 0 exactly where nothing was left
abbrev pub GivesNoneAtEnd : {E : Type 0} → Option (List ℕ) → Result ℕ E → List ℕ → Type 0
GivesNoneAtEnd left result into =
    IfSome left (λ bytes. 0 < length into → IfOk result (λ n. (n ≡ 0) ↔ (bytes ≡ [])))

-- at `Ok(n)` at most the whole piece was taken, and something of a piece that is not empty
pub record TakesSome {E : Type 0} (result : Result ℕ E) (piece : List ℕ) : Type 0 where
  pub most : IfOk result (λ n. n ≤ length piece)
  pub some : 0 < length piece → IfOk result (λ n. 0 < n)
