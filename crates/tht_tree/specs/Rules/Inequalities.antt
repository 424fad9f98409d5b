-- Inequalities that are added up, each times its multiplier: they refute each other where no variable is left, and a positive
-- constant is to be at most 0.
use Rattle.std.specs.Prelude.{ℕ, Bool, true, not, ◌&&◌, ℤ, pos, ◌+ℤ◌, ◌*ℤ◌, int_le, List, [], ◌∷◌, map, fold, Option, Some, None, if◌then◌else◌}
use Rattle.std.specs.List.{list_all}
use Rattle.tht_tree.specs.Normal.Sums.{Product}
use Rattle.tht_tree.specs.Normal.Linear.{Inequality, is_i128, columns, coefficient_of}
use Rattle.tht_tree.specs.declared.rule.RuleCode.{RuleCode}
use Rattle.tht_tree.specs.declared.rule.RuleCode.TheVariants.{R6, R7}

-- an inequality and its multiplier
pub record Row : Type 0 where
  pub by : ℕ
  pub form : Inequality

-- the variables of some rows
abbrev pub variables_of : List Row → List Product
variables_of rows = columns (map (λ r. r.form) rows)

-- a column: each row's coefficient of this variable times its multiplier; the constants are the column of the empty product
abbrev pub column : List Row → Product → List ℤ
column rows x = map (λ r. pos r.by *ℤ coefficient_of x r.form) rows

abbrev pub total : List ℤ → ℤ
total xs = fold ◌+ℤ◌ (pos 0) xs

-- No number leaves i128, nor does the sum of those up to one, where s is the sum of those before them.
abbrev pub stays_within : ℤ → List ℤ → Bool
stays_within s [] = true
stays_within s (x ∷ xs) = is_i128 x && is_i128 (s +ℤ x) && stays_within (s +ℤ x) xs

-- no column leaves i128
abbrev pub is_narrow : List Row → Bool
is_narrow rows = list_all (λ x. stays_within (pos 0) (column rows x)) ([] ∷ variables_of rows)

abbrev pub is_zero : ℤ → Bool
is_zero z = int_le z (pos 0) && int_le (pos 0) z

-- each variable cancels out, and the constants add up to at least 1
abbrev pub is_refutation : List Row → Bool
is_refutation rows = list_all (λ x. is_zero (total (column rows x))) (variables_of rows) && int_le (pos 1) (total (column rows []))

-- what is refused: a number that is too wide comes first
abbrev pub refused_rows : List Row → Option RuleCode
refused_rows rows =
    if not (is_narrow rows) then Some R7
    else if not (is_refutation rows) then Some R6
    else None
