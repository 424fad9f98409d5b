-- The preconditions of the procs of a file whose names and sorts are in order are in order.
use Rattle.std.proofs.Common.{◌≡◌, true, Bool, ◌&&◌, All, List, [], ◌∷◌, ◌++◌, refl, sym, ◌∙◌, ap, subst}
use Rattle.std.specs.List.{list_all}
use Rattle.std.proofs.lemmas.List.Elements.{All-nil, All-cons}
use Rattle.tht_tree.specs.declared.decl.Decl.{Decl}
use Rattle.tht_tree.specs.declared.decl.DeclKind.{DeclKind}
use Rattle.tht_tree.specs.declared.decl.DeclKind.TheVariants as d
use Rattle.tht_tree.specs.declared.file.Source1.{Source1}
use Rattle.tht_tree.specs.Walk.Files.{WellSorted}
use Rattle.tht_logic.specs.Built as built
use Rattle.tht_logic.specs.Built.{is_built}
use Rattle.tht_logic.specs.Rules.Definitions.{Declarations}
use Rattle.tht_logic.specs.Rules.Files.{declared, declared_in}
use Rattle.assn_laws.specs.Walked.{AreSimple}
use Rattle.assn_laws.proofs.KnownNames.{both_true}
use Rattle.assn_laws.proofs.WalkedHeads.{procs_begin}
use Rattle.hoare_laws.proofs.FileSound.{simple_decls}
use Rattle.file_checker.specs.Starts.{StartsInOrder}

append_one : {A : Type 0} (xs ys : List A) (y : A) → (xs ++ y ∷ []) ++ ys ≡ xs ++ y ∷ ys
append_one [] ys y = refl
append_one (x ∷ xs) ys y = ap (λ z. x ∷ z) (append_one xs ys y)

module _ (file : Source1) (sorted : WellSorted file) (simple : AreSimple file.decls) where
  abbrev InOrder : DeclKind → Type 0
  InOrder = StartsInOrder (declared_in file)

  -- a declaration with others in front of it and behind it
  at_decl : (before after : List Decl) (z : Decl) → file.decls ≡ before ++ z ∷ after → (k : DeclKind) → z.kind ≡ k → InOrder k
  at_decl before after z all (d.Proc x y) is = (procs_begin file sorted simple before after z all x y is).order.pre
  at_decl before after z all _ is = tt

  all_from : (before rest : List Decl) → file.decls ≡ before ++ rest → All (λ z. InOrder z.kind) rest
  all_from before [] all = All-nil (λ z. InOrder z.kind)
  all_from before (z ∷ after) all =
      All-cons (λ z. InOrder z.kind) z after (at_decl before after z all z.kind refl) (all_from (before ++ z ∷ []) after (all ∙ sym (append_one before after z)))

-- so each declaration starts in order
pub starts_in_order : (file : Source1) → is_built file ≡ true → WellSorted file → (ds : List Decl) → ds ≡ file.decls → (decl : Declarations) → decl ≡ declared [] ds → All (λ z. StartsInOrder decl z.kind) ds
starts_in_order file all sorted ds same decl is =
    let own = both_true (list_all (λ x. built.decl x.kind) file.decls && built.assn file.main.post) (built.body file.main.body) all in
    let simple = simple_decls file.decls (both_true (list_all (λ x. built.decl x.kind) file.decls) (built.assn file.main.post) own.0).0 in
    let first : All (λ z. StartsInOrder (declared [] file.decls) z.kind) file.decls = all_from file sorted simple [] file.decls refl in
    subst (λ k. All (λ z. StartsInOrder k z.kind) ds) (sym is) (subst (λ xs. All (λ z. StartsInOrder (declared [] xs) z.kind) xs) (sym same) first)
