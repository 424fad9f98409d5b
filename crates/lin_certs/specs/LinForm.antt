-- Linear forms, and what they say of whole numbers.
use Rattle.std.specs.Prelude.{◌≡◌, ℕ, suc, ◌<◌, List, [], ◌∷◌, ℤ, pos, ◌+ℤ◌, ◌*ℤ◌, ◌≤ℤ◌, length, slice_index_or}
use Rattle.std.specs.List.{All, AllZip}
use Rattle.lin_certs.specs.declared.form.LinForm.{LinForm}

-- the coefficient of the variable k: 0 for one beyond the coefficients
abbrev pub coefficient : ℕ → LinForm → ℤ
coefficient k form = slice_index_or form.coeffs.items k (pos 0)

-- the sum of the coefficients times the variables, where these have the values x
abbrev pub combination : List ℤ → (ℕ → ℤ) → ℤ
combination [] x = pos 0
combination (a ∷ coeffs) x = a *ℤ x 0 +ℤ combination coeffs (λ k. x (suc k))

-- the value of a form where the variables have the values x
abbrev pub value_at : (ℕ → ℤ) → LinForm → ℤ
value_at x form = form.constant +ℤ combination form.coeffs.items x

-- no whole numbers make every form with a positive multiplier at most 0
abbrev pub IsInfeasible : List LinForm → List ℕ → Type 0
IsInfeasible forms by = (x : ℕ → ℤ) → AllZip (λ form m. 0 < m → value_at x form ≤ℤ pos 0) forms by → ⊥

-- how many coefficients the first form has; 0 where there is no form
abbrev pub width : List LinForm → ℕ
width [] = 0
width (form ∷ _) = length form.coeffs.items

-- all forms have as many coefficients as the first
abbrev pub HaveOneWidth : List LinForm → Type 0
HaveOneWidth forms = All (λ form. length form.coeffs.items ≡ width forms) forms
