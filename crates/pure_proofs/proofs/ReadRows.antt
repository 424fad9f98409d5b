-- Rows that are read one after another.
use Rattle.std.proofs.Common.{◌≡◌, ℕ, List, [], ◌∷◌, ◌++◌, Result, Ok, Err, refl, sym, ◌∙◌, ap, append_assoc, append-nil}
use Rattle.tht_tree.specs.declared.form.NormalEnd.{NormalEnd}
use Rattle.tht_tree.specs.Normal.Linear.{Inequality, Reading}
use Rattle.tht_tree.specs.Rules.Certificates.{with_row}
use Rattle.tht_tree.specs.Rules.Inequalities.{Row}
use Rattle.pure_proofs.specs.Rows.{rows_before}

abbrev pub row_of : ℕ → Inequality → Row
row_of k x = record { by = k; form = x }

pub first_row : (k : ℕ) (r : Reading) (x : Inequality) (rest : Result (List Row) NormalEnd) → r ≡ Ok x → with_row k r rest ≡ rows_before (row_of k x ∷ []) rest
first_row k r x rest e = ap (λ z. with_row k z rest) e ∙ by rest
  where
    by : (rest : Result (List Row) NormalEnd) → with_row k (Ok x) rest ≡ rows_before (row_of k x ∷ []) rest
    by (Ok more) = refl
    by (Err d) = refl

pub next_row : (rs : List Row) (k : ℕ) (r : Reading) (x : Inequality) (rest : Result (List Row) NormalEnd) → r ≡ Ok x
    → rows_before rs (with_row k r rest) ≡ rows_before (rs ++ row_of k x ∷ []) rest
next_row rs k r x rest e = ap (λ z. rows_before rs (with_row k z rest)) e ∙ by rest
  where
    by : (rest : Result (List Row) NormalEnd) → rows_before rs (with_row k (Ok x) rest) ≡ rows_before (rs ++ row_of k x ∷ []) rest
    by (Ok more) = ap Ok (sym (append_assoc rs (row_of k x ∷ []) more))
    by (Err d) = refl

pub all_read : (rs : List Row) → rows_before rs (Ok []) ≡ Ok rs
all_read rs = ap Ok (append-nil rs)
