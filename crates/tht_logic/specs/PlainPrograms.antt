-- Which programs can be made into numbered code: no term of them makes a sequence, which no machine value is, and they call procs of the file alone.
use Rattle.std.specs.Prelude.{ℕ, is_some, Bool, true, false, ◌&&◌, List, [], ◌∷◌}
use Rattle.std.specs.List.{list_all}
use Rattle.tht_tree.specs.declared.body.Body.{Body}
use Rattle.tht_tree.specs.declared.decl.DeclKind.{DeclKind}
use Rattle.tht_tree.specs.declared.decl.DeclKind.TheVariants as d
use Rattle.tht_tree.specs.declared.file.Source1.{Source1}
use Rattle.tht_tree.specs.Syntax.{Names, Trm, lit, len, off, neg, op, cons, cat}
use Rattle.tht_tree.specs.Values.{seq}
use Rattle.tht_logic.specs.Programs.{Code, ret, test, read, write, alloc, drop, publish, retract, call, nest, atomic, par, code, root_names}
use Rattle.tht_logic.specs.Procedures.{Procedures, procedures_of, bound_names}

-- ---- terms

-- no part of the term makes a sequence
abbrev pub no_sequence : Trm → Bool
no_sequence (lit (seq s)) = false
no_sequence (len a) = no_sequence a
no_sequence (off k a) = no_sequence a
no_sequence (neg a) = no_sequence a
no_sequence (op cons a b) = false
no_sequence (op cat a b) = false
no_sequence (op o a b) = no_sequence a && no_sequence b
no_sequence _ = true

abbrev pub no_sequences : List Trm → Bool
no_sequences [] = true
no_sequences (t ∷ ts) = no_sequence t && no_sequences ts

-- ---- programs

-- no term of the program makes a sequence, and each name that it calls is known
abbrev pub is_plain_program : (List ℕ → Bool) → Code → Bool
is_plain_program known (ret t) = no_sequence t
is_plain_program known (test t p q) = no_sequence t && (is_plain_program known p && is_plain_program known q)
is_plain_program known (read s t p) = no_sequence t && is_plain_program known p
is_plain_program known (write t u p) = no_sequence t && (no_sequence u && is_plain_program known p)
is_plain_program known (alloc ts p) = no_sequences ts && is_plain_program known p
is_plain_program known (drop t p) = no_sequence t && is_plain_program known p
is_plain_program known (publish t p) = no_sequence t && is_plain_program known p
is_plain_program known (retract t p) = no_sequence t && is_plain_program known p
is_plain_program known (call f ts p) = known f && (no_sequences ts && is_plain_program known p)
is_plain_program known (nest s p q) = is_plain_program known p && is_plain_program known q
is_plain_program known (atomic s p q) = is_plain_program known p && is_plain_program known q
is_plain_program known (par s r p q rest) = is_plain_program known p && (is_plain_program known q && is_plain_program known rest)

-- ---- files

module _ (roots : Names) (procedures : Procedures) where
  -- the program of a body, where these names are bound, is plain, and the names that it calls are those of procs
  abbrev pub is_plain_body : Names → Body → Bool
  is_plain_body xs x = is_plain_program (λ f. is_some (procedures f)) (code roots x xs)

  -- so is the body of a proc, whose parameters are bound
  abbrev pub is_plain_decl : DeclKind → Bool
  is_plain_decl (d.Proc head x) = is_plain_body (bound_names head.params) x
  is_plain_decl _ = true

-- In main and in each proc no term of the program makes a sequence, and procs of the file alone are called.
unfoldable pub is_plain_file : Source1 → Bool
is_plain_file file =
    list_all (λ x. is_plain_decl (root_names file) (procedures_of file.decls) x.kind) file.decls &&
    is_plain_body (root_names file) (procedures_of file.decls) [] file.main.body
