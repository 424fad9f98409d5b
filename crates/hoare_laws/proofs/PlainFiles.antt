-- A file whose forms are built and whose names and sorts are in order is plain: main's body, and the body of each proc.
use Rattle.std.proofs.Common.{◌≡◌, ℕ, Bool, true, ◌&&◌, is_some, List, [], ◌∷◌, ◌++◌, Option, Some, None, refl, sym, ◌∙◌}
use Rattle.std.proofs.lemmas.List.{append_assoc}
use Rattle.std.specs.Prelude.{option_map}
use Rattle.std.specs.List.{list_all}
use Rattle.tht_tree.specs.declared.body.Body.{Body}
use Rattle.tht_tree.specs.declared.decl.Decl.{Decl}
use Rattle.tht_tree.specs.declared.decl.DeclKind.{DeclKind}
use Rattle.tht_tree.specs.declared.decl.DeclKind.TheVariants as d
use Rattle.tht_tree.specs.declared.decl.Head.{Head}
use Rattle.tht_tree.specs.declared.file.Source1.{Source1}
use Rattle.tht_tree.specs.declared.plain.Sort.{Sort}
use Rattle.tht_tree.specs.declared.walk.Where.TheVariants.{Outside}
use Rattle.tht_tree.specs.Syntax.{Names}
use Rattle.tht_tree.specs.Rules.Context.{no_locals}
use Rattle.tht_tree.specs.Walk.Codes.{first}
use Rattle.tht_tree.specs.Walk.Names as walk
use Rattle.tht_tree.specs.Walk.Bodies as w
use Rattle.tht_tree.specs.Walk.Bodies.{frame, new_result, private_box}
use Rattle.tht_tree.specs.Walk.Files.{WellSorted, has_invariant, at_start, after_decls, decls, main}
use Rattle.tht_logic.specs.Built as built
use Rattle.tht_logic.specs.PlainPrograms.{is_plain_body, is_plain_decl, is_plain_file}
use Rattle.tht_logic.specs.Procedures.{Procedure, Procedures, procedures_of, bound_names}
use Rattle.tht_logic.specs.Programs.{root_names}
use Rattle.tht_logic.specs.Rules.Definitions.{head_scope}
use Rattle.tht_logic.specs.Rules.Files.{declared_in}
use Rattle.assn_laws.specs.FileLaws.{names_in_proc}
use Rattle.assn_laws.specs.Walked.{AreSimple}
use Rattle.assn_laws.proofs.FileLaw.{main_begins}
use Rattle.assn_laws.proofs.KnownNames.{both_true}
use Rattle.assn_laws.proofs.Refusing.{nothing, construct_none, behind_none, both}
use Rattle.assn_laws.proofs.WalkedHeads.{procs_begin}
use Rattle.hoare_laws.specs.Laws.{PlainFiles}
use Rattle.hoare_laws.proofs.FileSound.{simple_decls}
use Rattle.hoare_laws.proofs.PlainBodies.{IsAt, bodies_plain}

module _ (file : Source1) (all_built : built.is_built file ≡ true) (sorted : WellSorted file) where
  abbrev roots : Names
  roots = root_names file

  abbrev procedures : Procedures
  procedures = procedures_of file.decls

  abbrev known : List ℕ → Bool
  known f = is_some (procedures f)

  main_built : ((list_all (λ x. built.decl x.kind) file.decls && built.assn file.main.post) ≡ true) × (built.body file.main.body ≡ true)
  main_built = both_true (list_all (λ x. built.decl x.kind) file.decls && built.assn file.main.post) (built.body file.main.body) all_built

  decls_built : list_all (λ x. built.decl x.kind) file.decls ≡ true
  decls_built = (both_true (list_all (λ x. built.decl x.kind) file.decls) (built.assn file.main.post) main_built.0).0

  simple : AreSimple file.decls
  simple = simple_decls file.decls decls_built

  -- a name that has a head is a proc's
  tells : (f : List ℕ) (x : Head) → (declared_in file).procs f ≡ Some x → known f ≡ true
  tells f x e = from (procedures f) e
    where
      from : (o : Option Procedure) → option_map (λ z. z.head) o ≡ Some x → is_some o ≡ true
      from None g = cc
      from (Some z) g = refl

  abbrev At : walk.Scope → Type 0
  At names = IsAt roots (declared_in file).procs known tells names

  body_plain : (x : Body) (r : Sort) (names : walk.Scope) (xs : Names) → built.body x ≡ true → At names → w.body x (frame Outside r) names ≡ nothing → is_plain_body roots procedures xs x ≡ true
  body_plain x r names xs ok = bodies_plain roots (declared_in file).procs known tells x ok r names xs

  main_plain : is_plain_body roots procedures [] file.main.body ≡ true
  main_plain =
      let x = file.main in
      let names = (after_decls file.decls at_start).scope in
      let begun = main_begins file sorted simple in
      let whole = (behind_none (decls (has_invariant file.decls) file.decls at_start) (main x (after_decls file.decls at_start)) sorted).1 in
      let own = first (new_result names x.result x.sort) (private_box names x.result x.sort x.post) in
      body_plain x.body x.sort names [] main_built.1 (record { scope = no_locals; matches = begun.0; knows = begun.2 }) (construct_none x.spot own (w.body x.body (frame Outside x.sort) names) whole).1

  -- a declaration, with others in front of it and behind it
  decl_plain : (before after : List Decl) (z : Decl) → file.decls ≡ before ++ z ∷ after → built.decl z.kind ≡ true → is_plain_decl roots procedures z.kind ≡ true
  decl_plain before after z all = from z.kind refl
    where
      from : (k : DeclKind) → z.kind ≡ k → built.decl k ≡ true → is_plain_decl roots procedures k ≡ true
      from (d.Proc x y) is ok =
          let begun = procs_begin file sorted simple before after z all x y is in
          body_plain y x.sort (names_in_proc before x) (bound_names x.params) (both_true (built.assn x.pre && built.assn x.post) (built.body y) ok).1 (record { scope = head_scope x; matches = begun.matches; knows = begun.procs }) begun.body_walked
      from _ is ok = refl

  decls_plain : (before xs : List Decl) → file.decls ≡ before ++ xs → list_all (λ z. built.decl z.kind) xs ≡ true → list_all (λ z. is_plain_decl roots procedures z.kind) xs ≡ true
  decls_plain before [] all ok = refl
  decls_plain before (x ∷ xs) all ok =
      let own = both_true (built.decl x.kind) (list_all (λ z. built.decl z.kind) xs) ok in
      both (is_plain_decl roots procedures x.kind) (list_all (λ z. is_plain_decl roots procedures z.kind) xs) (decl_plain before xs x all own.0)
      (decls_plain (before ++ x ∷ []) xs (all ∙ sym (append_assoc before (x ∷ []) xs)) own.1)

-- The law of plain files.
pub plain_files : PlainFiles
unfolding is_plain_file
plain_files file all_built sorted =
    both (list_all (λ z. is_plain_decl (root_names file) (procedures_of file.decls) z.kind) file.decls) (is_plain_body (root_names file) (procedures_of file.decls) [] file.main.body)
    (decls_plain file all_built sorted [] file.decls refl (decls_built file all_built sorted)) (main_plain file all_built sorted)
