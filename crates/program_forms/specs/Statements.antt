-- Statements and ends in a row, before the marks of what follows them, where these names are bound, the innermost first.
use Rattle.std.specs.Prelude.{List, [], ◌∷◌, map}
use Rattle.tht_tree.specs.declared.body.Body.{Body}
use Rattle.tht_tree.specs.declared.body.End.{End}
use Rattle.tht_tree.specs.declared.body.EndKind.{EndKind, out-EndKind}
use Rattle.tht_tree.specs.declared.body.EndKind.TheOpen as b
use Rattle.tht_tree.specs.declared.body.Stmt.{Stmt}
use Rattle.tht_tree.specs.declared.body.StmtKind.{StmtKind, out-StmtKind}
use Rattle.tht_tree.specs.Syntax.{Names, trm}
use Rattle.tht_logic.specs.Programs.{code}
use Rattle.program_forms.specs.declared.row.Word.TheVariants as w
use Rattle.program_forms.specs.Marks.{Mark, a_word, a_sort, a_name}
use Rattle.program_forms.specs.Outside.{outside}
use Rattle.program_forms.specs.Rows.{trm_row, trms_row, code_row}

-- ---- names

-- the names of the program that a statement binds, in their order
abbrev pub bound_at : b.StmtKind-F EndKind StmtKind Body End Stmt → Names
bound_at (b.Read x s t i h p) = x ∷ []
bound_at (b.Alloc x ts) = x ∷ []
bound_at (b.Call x f ts us g) = x ∷ []
bound_at (b.Do x s ns body box) = x ∷ []
bound_at (b.Atomic x s ns body box) = x ∷ []
bound_at (b.Par x s y r ns left box ms right last) = x ∷ y ∷ []
bound_at _ = []

abbrev pub bound_names : StmtKind → Names
bound_names k = bound_at (out-StmtKind k)

-- with these names inside of the others, and without them again
abbrev pub binds : Names → Names → Names
binds [] xs = xs
binds (y ∷ ys) xs = binds ys (y ∷ xs)

abbrev pub unbinds : Names → Names → Names
unbinds [] xs = xs
unbinds (y ∷ ys) xs = outside (unbinds ys xs)

-- the names that are bound behind statements
abbrev pub bound_by : List Stmt → Names → Names
bound_by [] xs = xs
bound_by (s ∷ ss) xs = bound_by ss (binds (bound_names s.kind) xs)

-- ---- marks

abbrev pub stmt_row_at : b.StmtKind-F EndKind StmtKind Body End Stmt → Names → List Mark → List Mark
stmt_row_at (b.Read x s t i h p) xs r = a_word w.Read ∷ a_sort s ∷ trm_row (trm [] xs t) r
stmt_row_at (b.Write t u i p) xs r = a_word w.Write ∷ trm_row (trm [] xs t) (trm_row (trm [] xs u) r)
stmt_row_at (b.Alloc x ts) xs r = a_word w.Alloc ∷ trms_row (map (trm [] xs) ts) r
stmt_row_at (b.Free t i p) xs r = a_word w.Free ∷ trm_row (trm [] xs t) r
stmt_row_at (b.Publish t i p) xs r = a_word w.Publish ∷ trm_row (trm [] xs t) r
stmt_row_at (b.Retract t i p) xs r = a_word w.Retract ∷ trm_row (trm [] xs t) r
stmt_row_at (b.Call x f ts us g) xs r = a_word w.Call ∷ a_name f ∷ trms_row (map (trm [] xs) ts) r
stmt_row_at (b.Do x s ns body box) xs r = a_word w.Nest ∷ a_sort s ∷ code_row (code [] body xs) r
stmt_row_at (b.Atomic x s ns body box) xs r = a_word w.Atomic ∷ a_sort s ∷ code_row (code [] body xs) r
stmt_row_at (b.Par x s y z ns left box ms right last) xs r = a_word w.Par ∷ a_sort s ∷ a_sort z ∷ code_row (code [] left xs) (code_row (code [] right xs) r)
stmt_row_at (b.Proof x) xs r = r

abbrev pub stmt_row : StmtKind → Names → List Mark → List Mark
stmt_row k xs r = stmt_row_at (out-StmtKind k) xs r

abbrev pub stmts_row : List Stmt → Names → List Mark → List Mark
stmts_row [] xs r = r
stmts_row (s ∷ ss) xs r = stmt_row s.kind xs (stmts_row ss (binds (bound_names s.kind) xs) r)

abbrev pub end_row_at : b.EndKind-F EndKind StmtKind Body End Stmt → Names → List Mark → List Mark
end_row_at (b.Ret t g) xs r = a_word w.Ret ∷ trm_row (trm [] xs t) r
end_row_at (b.If t h body other) xs r = a_word w.Test ∷ trm_row (trm [] xs t) (code_row (code [] body xs) (code_row (code [] other xs) r))
end_row_at (b.CaseAtom i body other) xs r = code_row (code [] body xs) r
end_row_at (b.CaseBool t h body other) xs r = code_row (code [] body xs) r
end_row_at (b.CaseSeq t h body x s other) xs r = code_row (code [] body xs) r
end_row_at (b.Dead p body) xs r = code_row (code [] body xs) r

abbrev pub end_row : EndKind → Names → List Mark → List Mark
end_row k xs r = end_row_at (out-EndKind k) xs r
