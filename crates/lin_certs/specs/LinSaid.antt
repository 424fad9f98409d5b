-- What each answer says of the forms and their multipliers.
use Rattle.std.specs.Prelude.{◌≡◌, ◌≢◌, ℕ, ◌<◌, List, length, ℤ, pos, ◌≤ℤ◌, ◌<ℤ◌, Option, None, Some}
use Rattle.lin_certs.specs.declared.form.LinForm.{LinForm}
use Rattle.lin_certs.specs.Columns.{column_sum, StaysWithin}

-- the form i is the first at which some column leaves i128
pub record IsFirstWide (forms : List LinForm) (by : List ℕ) (i : ℕ) : Type 0 where
  pub within : i < length forms
  pub column : Option ℕ
  pub leaves : ¬ (StaysWithin column forms by i)
  pub before : (j : ℕ) (other : Option ℕ) → j < i → StaysWithin other forms by j

-- no column leaves i128 at any form
abbrev pub IsNarrow : List LinForm → List ℕ → Type 0
IsNarrow forms by = (i : ℕ) (column : Option ℕ) → i < length forms → StaysWithin column forms by i

-- the variable k cancels out: its column adds up to 0
abbrev pub Cancels : List LinForm → List ℕ → ℕ → Type 0
Cancels forms by k = column_sum (Some k) forms by ≡ pos 0

-- all variables cancel out, and the constants add up to at least 1
pub record IsRefutation (forms : List LinForm) (by : List ℕ) : Type 0 where
  pub narrow : IsNarrow forms by
  pub cancels : (k : ℕ) → Cancels forms by k
  pub positive : pos 1 ≤ℤ column_sum None forms by

-- The column is the first that keeps the forms from a refutation, and s is its sum: that of the first variable that does not
-- cancel out, or that of the constants, below 1, where all variables do.
abbrev pub FailsFirstAt : List LinForm → List ℕ → Option ℕ → ℤ → Type 0
FailsFirstAt forms by (Some k) s = (column_sum (Some k) forms by ≡ s) × (s ≢ pos 0) × ((j : ℕ) → j < k → Cancels forms by j)
FailsFirstAt forms by None s = (column_sum None forms by ≡ s) × (s <ℤ pos 1) × ((j : ℕ) → Cancels forms by j)
