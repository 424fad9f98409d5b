-- Inequalities with their multipliers, as the rules see them.
use Rattle.std.specs.Prelude.{◌≡◌, ℕ, List, [], ◌∷◌, ◌++◌, Result, Ok, Err}
use Rattle.tht_tree.specs.declared.form.NormalEnd.{NormalEnd}
use Rattle.tht_tree.specs.declared.form.NormalEnd.TheVariants as end
use Rattle.tht_tree.specs.Normal.Linear.{Inequality}
use Rattle.tht_tree.specs.Rules.Inequalities.{Row}
use Rattle.pure_proofs.specs.declared.rows.Rows.{Rows}

-- each inequality with its multiplier
abbrev pub in_rows : List Inequality → List ℕ → List Row
in_rows [] ks = []
in_rows (x ∷ xs) [] = []
in_rows (x ∷ xs) (k ∷ ks) = record { by = k; form = x } ∷ in_rows xs ks

abbrev pub rows_of : Rows → List Row
rows_of r = in_rows r.forms r.by.items

-- these rows before those that are read
abbrev pub rows_before : List Row → Result (List Row) NormalEnd → Result (List Row) NormalEnd
rows_before rs (Ok more) = Ok (rs ++ more)
rows_before rs (Err e) = Err e

-- rows that are read, unless memory was wanting
abbrev pub AreRows : Result Rows NormalEnd → Result (List Row) NormalEnd → Type 0
AreRows (Ok rows) r = r ≡ Ok (rows_of rows)
AreRows (Err end.Large) r = r ≡ Err end.Large
AreRows (Err end.Wide) r = r ≡ Err end.Wide
AreRows (Err end.Memory) r = Unit {0}
