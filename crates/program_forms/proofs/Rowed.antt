-- The row of a program is that of its statements and its end.
use Rattle.std.proofs.Common.{◌≡◌, ◌∙◌, ℕ, List, [], ◌∷◌, ◌++◌, length, map, refl, sym, ap, arith}
use Rattle.tht_tree.specs.declared.body.Body.{Body, out-Body}
use Rattle.tht_tree.specs.declared.body.End.{End}
use Rattle.tht_tree.specs.declared.body.EndKind.{EndKind, out-EndKind, fold_out-EndKind}
use Rattle.tht_tree.specs.declared.body.EndKind.TheOpen as b
use Rattle.tht_tree.specs.declared.body.Stmt.{Stmt}
use Rattle.tht_tree.specs.declared.body.StmtKind.{StmtKind, out-StmtKind, fold_out-StmtKind}
use Rattle.tht_tree.specs.Syntax.{Names}
use Rattle.tht_logic.specs.Programs.{Whole, Before, code, stmt_code, stmt_kind_code, end_code, end_kind_code, in_order, end_at, stmt_at, body_at, spotted_end, spotted_stmt}
use Rattle.tht_logic.proofs.Levels.{code_is, stmt_is, end_is, stmt_level, end_level}
use Rattle.program_forms.specs.Marks.{Mark}
use Rattle.program_forms.specs.Outside.{outside}
use Rattle.program_forms.specs.Rows.{code_row}
use Rattle.program_forms.specs.Statements.{bound_at, bound_names, binds, unbinds, bound_by, stmt_row_at, stmt_row, stmts_row, end_row_at, end_row}

abbrev StmtLevel : Type 0
StmtLevel = b.StmtKind-F EndKind StmtKind Body End Stmt

abbrev EndLevel : Type 0
EndLevel = b.EndKind-F EndKind StmtKind Body End Stmt

-- ---- one level

stmt_level_row : (x : StmtLevel) (next : Whole) (xs : Names) (r : List Mark)
    → code_row (stmt_at [] (stmt_level [] x) next xs) r ≡ stmt_row_at x xs (code_row (next (binds (bound_at x) xs)) r)
stmt_level_row (b.Read x s t i h p) next xs r = refl
stmt_level_row _ next xs r = refl

end_level_row : (x : EndLevel) (xs : Names) (r : List Mark) → code_row (end_at [] (end_level [] x) xs) r ≡ end_row_at x xs r
end_level_row (b.Ret t g) xs r = refl
end_level_row _ xs r = refl

stmt_kind_out : (x : StmtKind) → stmt_kind_code [] x ≡ stmt_at [] (stmt_level [] (out-StmtKind x))
unfolding code stmt_code stmt_kind_code end_code end_kind_code
stmt_kind_out x = fold_out-StmtKind Whole Before Whole Whole Before (end_at []) (stmt_at []) (body_at []) (spotted_end []) (spotted_stmt []) x

end_kind_out : (x : EndKind) → end_kind_code [] x ≡ end_at [] (end_level [] (out-EndKind x))
unfolding code stmt_code stmt_kind_code end_code end_kind_code
end_kind_out x = fold_out-EndKind Whole Before Whole Whole Before (end_at []) (stmt_at []) (body_at []) (spotted_end []) (spotted_stmt []) x

-- ---- the trees

one_row : (s : Stmt) (next : Whole) (xs : Names) (r : List Mark) → code_row (stmt_code [] s next xs) r ≡ stmt_row s.kind xs (code_row (next (binds (bound_names s.kind) xs)) r)
one_row s next xs r = ap (λ f. code_row (f next xs) r) (stmt_is [] s ∙ stmt_kind_out s.kind) ∙ stmt_level_row (out-StmtKind s.kind) next xs r

all_rows : (ss : List Stmt) (end : Whole) (xs : Names) (r : List Mark) → code_row (in_order (map (stmt_code []) ss) end xs) r ≡ stmts_row ss xs (code_row (end (bound_by ss xs)) r)
all_rows [] end xs r = refl
all_rows (s ∷ ss) end xs r =
    one_row s (in_order (map (stmt_code []) ss) end) xs r ∙ ap (stmt_row s.kind xs) (all_rows ss end (binds (bound_names s.kind) xs) r)

last_row : (e : End) (xs : Names) (r : List Mark) → code_row (end_code [] e xs) r ≡ end_row e.kind xs r
last_row e xs r = ap (λ f. code_row (f xs) r) (end_is [] e ∙ end_kind_out e.kind) ∙ end_level_row (out-EndKind e.kind) xs r

-- the row of a body
pub body_row : (x : Body) (xs : Names) (r : List Mark)
    → code_row (code [] x xs) r ≡ stmts_row (out-Body x).stmts xs (end_row (out-Body x).end.kind (bound_by (out-Body x).stmts xs) r)
body_row x xs r =
    ap (λ f. code_row (f xs) r) (code_is [] x)
    ∙ all_rows (out-Body x).stmts (end_code [] (out-Body x).end) xs r
    ∙ ap (stmts_row (out-Body x).stmts xs) (last_row (out-Body x).end (bound_by (out-Body x).stmts xs) r)

-- ---- statements from the last on

bound_last : (ss : List Stmt) (s : Stmt) (xs : Names) → bound_by (ss ++ s ∷ []) xs ≡ binds (bound_names s.kind) (bound_by ss xs)
bound_last [] s xs = refl
bound_last (t ∷ ss) s xs = bound_last ss s (binds (bound_names t.kind) xs)

rows_last : (ss : List Stmt) (s : Stmt) (xs : Names) (r : List Mark) → stmts_row (ss ++ s ∷ []) xs r ≡ stmts_row ss xs (stmt_row s.kind (bound_by ss xs) r)
rows_last [] s xs r = refl
rows_last (t ∷ ss) s xs r = ap (stmt_row t.kind xs) (rows_last ss s (binds (bound_names t.kind) xs) r)

taken_out : (ys xs : Names) → unbinds ys (binds ys xs) ≡ xs
taken_out [] xs = refl
taken_out (y ∷ ys) xs = ap outside (taken_out ys (y ∷ xs))

-- what statements that are left make of these names and marks, where all of them made that
pub record Left (xs : Names) (whole : List Mark) (ss : List Stmt) (names : Names) (marks : List Mark) : Type 0 where
  pub bound : names ≡ bound_by ss xs
  pub written : whole ≡ stmts_row ss xs marks

-- the last of them is written, and the names that it binds are taken out
pub one_less : (xs : Names) (whole : List Mark) (rest ss : List Stmt) (s : Stmt) (names outer again : Names) (marks more : List Mark) → rest ≡ ss ++ s ∷ []
    → outer ≡ unbinds (bound_names s.kind) names → again ≡ outer → more ≡ stmt_row s.kind outer marks → Left xs whole rest names marks → Left xs whole ss again more
one_less xs whole rest ss s names outer again marks more e u a w left =
    let inner : names ≡ binds (bound_names s.kind) (bound_by ss xs) = left.bound ∙ ap (λ zs. bound_by zs xs) e ∙ bound_last ss s xs in
    let out : outer ≡ bound_by ss xs = u ∙ ap (unbinds (bound_names s.kind)) inner ∙ taken_out (bound_names s.kind) (bound_by ss xs) in
    record {
      bound = a ∙ out;
      written = left.written ∙ ap (λ zs. stmts_row zs xs marks) e ∙ rows_last ss s xs marks ∙ ap (λ zs. stmts_row ss xs (stmt_row s.kind zs marks)) (sym out) ∙ ap (stmts_row ss xs) (sym w);
    }

-- all of them are written
pub all_done : (xs : Names) (whole : List Mark) (rest : List Stmt) (names : Names) (marks : List Mark) → length rest ≡ 0 → Left xs whole rest names marks → (names ≡ xs) × (marks ≡ whole)
all_done xs whole [] names marks e left = (left.bound, sym left.written)
all_done xs whole (s ∷ ss) names marks e left = absurd (omega (arith, e))

-- a body is written whose statements and end are
pub body_written : (x : Body) (outer inner again : Names) (m n o : List Mark) (ss : List Stmt) → ss ≡ (out-Body x).stmts → inner ≡ bound_by ss outer → again ≡ inner
    → n ≡ end_row (out-Body x).end.kind inner m → ((xs : Names) → again ≡ bound_by ss xs → o ≡ stmts_row ss xs n) → o ≡ code_row (code [] x outer) m
body_written x outer inner again m n o ss e b a w all =
    all outer (a ∙ b)
    ∙ ap (λ zs. stmts_row zs outer n) e
    ∙ ap (stmts_row (out-Body x).stmts outer) (w ∙ ap (λ zs. end_row (out-Body x).end.kind zs m) (b ∙ ap (λ zs. bound_by zs outer) e))
    ∙ sym (body_row x outer m)
