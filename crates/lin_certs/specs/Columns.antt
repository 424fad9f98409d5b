-- Forms that are added up by multipliers, column by column. The column `None` is the constants of the forms, and `Some k` is
-- their coefficients of the variable k.
use Rattle.std.specs.Prelude.{ℕ, ◌+◌, List, map, take, fold, ℤ, pos, ◌+ℤ◌, ◌*ℤ◌, Option, None, Some, slice_index_or, FitsSigned}
use Rattle.std.specs.Int.{w128}
use Rattle.std.specs.List.{zip}
use Rattle.lin_certs.specs.declared.form.LinForm.{LinForm}
use Rattle.lin_certs.specs.LinForm.{coefficient}

-- the entry of a form in a column
abbrev pub entry : Option ℕ → LinForm → ℤ
entry None form = form.constant
entry (Some k) form = coefficient k form

-- the products of a column: each form's multiplier times its entry
abbrev pub products : Option ℕ → List LinForm → List ℕ → List ℤ
products column forms by = map (λ p. pos p.1 *ℤ entry column p.0) (zip forms by)

-- the sum of whole numbers
abbrev pub sum : List ℤ → ℤ
sum numbers = fold ◌+ℤ◌ (pos 0) numbers

-- the sum of a column's products
abbrev pub column_sum : Option ℕ → List LinForm → List ℕ → ℤ
column_sum column forms by = sum (products column forms by)

-- the prefix sum: of the products up to the form i, and with it
abbrev pub prefix_sum : Option ℕ → List LinForm → List ℕ → ℕ → ℤ
prefix_sum column forms by i = sum (take (i + 1) (products column forms by))

-- the product of the form i
abbrev pub product_at : Option ℕ → List LinForm → List ℕ → ℕ → ℤ
product_at column forms by i = slice_index_or (products column forms by) i (pos 0)

-- at the form i, neither the column's product nor its prefix sum leaves i128
abbrev pub StaysWithin : Option ℕ → List LinForm → List ℕ → ℕ → Type 0
StaysWithin column forms by i = FitsSigned w128 (product_at column forms by i) × FitsSigned w128 (prefix_sum column forms by i)
