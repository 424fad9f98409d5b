-- Rows that are kept as two lists: inequalities, and their multipliers.
use Rattle.std.proofs.Common.{◌≡◌, ◌↔◌, ℕ, ℤ, Option, List, [], ◌∷◌, length, map, refl, sym, ◌∙◌, ap, subst, arith}
use Rattle.lin_certs.specs.declared.form.LinForm.{LinForm}
use Rattle.lin_certs.specs.declared.check.LinSaid.{LinSaid}
use Rattle.lin_certs.specs.declared.check.LinSaid.TheVariants as said
use Rattle.lin_certs.specs.LinForm.{HaveOneWidth}
use Rattle.lin_certs.specs.LinSaid.{IsFirstWide, IsNarrow, IsRefutation, FailsFirstAt}
use Rattle.tht_tree.specs.Normal.Linear.{Inequality, columns}
use Rattle.tht_tree.specs.Normal.Sums.{Product}
use Rattle.tht_tree.specs.Rules.Inequalities.{Row, refused_rows}
use Rattle.pure_proofs.specs.Rows.{in_rows}
use Rattle.lin_laws.specs.Forms.{plain, form_over, forms_of, code_of}
use Rattle.lin_laws.proofs.Forms.{multipliers, paired, one_width, said_is}

pub forms_in : (xs : List Inequality) (ks : List ℕ) → length xs ≡ length ks → map (λ (r : Row). r.form) (in_rows xs ks) ≡ xs
forms_in [] ks e = refl
forms_in (x ∷ xs) [] e = absurd (omega arith)
forms_in (x ∷ xs) (k ∷ ks) e = ap (λ ys. x ∷ ys) (forms_in xs ks (omega arith))

pub multipliers_in : (xs : List Inequality) (ks : List ℕ) → length xs ≡ length ks → multipliers (in_rows xs ks) ≡ ks
multipliers_in [] [] e = refl
multipliers_in [] (k ∷ ks) e = absurd (omega arith)
multipliers_in (x ∷ xs) [] e = absurd (omega arith)
multipliers_in (x ∷ xs) (k ∷ ks) e = ap (λ ls. k ∷ ls) (multipliers_in xs ks (omega arith))

map_forms : (ps : List Product) (rows : List Row) → map (form_over ps) (map (λ (r : Row). r.form) rows) ≡ map (λ (r : Row). form_over ps r.form) rows
map_forms ps [] = refl
map_forms ps (r ∷ rows) = ap (λ z. form_over ps r.form ∷ z) (map_forms ps rows)

-- forms over the columns of the inequalities are the forms of the rows
pub made_of : (forms : List LinForm) (ps : List Product) (xs : List Inequality) (ks : List ℕ) → length xs ≡ length ks → ps ≡ columns xs → map plain forms ≡ map (form_over ps) xs
    → map plain forms ≡ forms_of (in_rows xs ks)
made_of forms ps xs ks e p m =
    let f = forms_in xs ks e in
    m ∙ ap (λ qs. map (form_over qs) xs) (p ∙ ap columns (sym f)) ∙ ap (map (form_over (columns (map (λ (r : Row). r.form) (in_rows xs ks))))) (sym f)
    ∙ map_forms (columns (map (λ (r : Row). r.form) (in_rows xs ks))) (in_rows xs ks)

pub lengths_agree : (forms : List LinForm) (xs : List Inequality) (ks : List ℕ) → length xs ≡ length ks → map plain forms ≡ forms_of (in_rows xs ks) → length forms ≡ length ks
lengths_agree forms xs ks e m = paired forms (in_rows xs ks) m ∙ ap length (multipliers_in xs ks e)

pub forms_agree : (forms : List LinForm) (xs : List Inequality) (ks : List ℕ) → map plain forms ≡ forms_of (in_rows xs ks) → HaveOneWidth forms
forms_agree forms xs ks m = one_width forms (in_rows xs ks) m

-- the check of the forms answers what is refused of the rows
pub refused_as_said : (forms : List LinForm) (xs : List Inequality) (ks by : List ℕ) → length xs ≡ length ks → by ≡ ks → map plain forms ≡ forms_of (in_rows xs ks) → (r : LinSaid) →
    ((i : ℕ) → (r ≡ said.Wide i) ↔ IsFirstWide forms by i) → ((r ≡ said.Refutes) ↔ IsRefutation forms by) →
    ((v : Option ℕ) (s : ℤ) → (r ≡ said.Not v s) ↔ (IsNarrow forms by × FailsFirstAt forms by v s)) → refused_rows (in_rows xs ks) ≡ code_of r
refused_as_said forms xs ks by e same m r =
    let P : List ℕ → Type 0 = λ ms. ((i : ℕ) → (r ≡ said.Wide i) ↔ IsFirstWide forms ms i) → ((r ≡ said.Refutes) ↔ IsRefutation forms ms) →
    ((v : Option ℕ) (s : ℤ) → (r ≡ said.Not v s) ↔ (IsNarrow forms ms × FailsFirstAt forms ms v s)) → refused_rows (in_rows xs ks) ≡ code_of r in
    subst P (multipliers_in xs ks e ∙ sym same) (said_is forms (in_rows xs ks) m r)
