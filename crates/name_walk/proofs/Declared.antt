-- Declarations, one after another.
use Rattle.std.proofs.Common.{◌≡◌, ℕ, ◌+◌, ◌<◌, ◌≤◌, Bool, true, false, ◌||◌, sym, ◌∙◌, ap, suc, List, ◌∷◌, length, drop, get_or, add-one, Option, Some, None}
use Rattle.std.proofs.Math.Seq.{drop-cons}
use Rattle.std.proofs.Math.ListN.{drop_of_length-le}
use Rattle.tht_tree.specs.declared.decl.Decl.{Decl}
use Rattle.tht_tree.specs.declared.file.Main.{Main}
use Rattle.tht_tree.specs.declared.walk.WalkRefusal.{WalkRefusal}
use Rattle.tht_tree.specs.Walk.Codes.{◌▸◌}
use Rattle.tht_tree.specs.Walk.Decls.{Before, decl_kind, after_decl}
use Rattle.tht_tree.specs.Walk.Files.{is_invariant, has_invariant, after_decls, decls, main}

module _ (ds : List Decl) (i : ℕ) (x : Decl) (within : i < length ds) (here : x ≡ get_or ds i x) where
  from_here : drop i ds ≡ x ∷ drop (i + 1) ds
  from_here = rw add-one (drop-cons ds i x within ∙ ap (λ y. y ∷ drop (suc i) ds) (sym here))

  -- whether an invariant is left
  module _ (whole : Bool) (left : whole ≡ has_invariant (drop i ds)) where
    invariant_left : whole ≡ is_invariant x.kind || has_invariant (drop (i + 1) ds)
    invariant_left = left ∙ ap has_invariant from_here

    pub invariant_found : true ≡ is_invariant x.kind → true ≡ whole
    invariant_found e = sym (invariant_left ∙ ap (λ b. b || has_invariant (drop (i + 1) ds)) (sym e))

    pub invariant_behind : false ≡ is_invariant x.kind → whole ≡ has_invariant (drop (i + 1) ds)
    invariant_behind e = invariant_left ∙ ap (λ b. b || has_invariant (drop (i + 1) ds)) (sym e)

  -- what is refused in the declarations that are left, and in main
  module _ (w : Bool) (m : Main) (b : Before) (o whole : Option WalkRefusal) (left : whole ≡ (decls w (drop i ds) b ▸ main m (after_decls (drop i ds) b))) (said : o ≡ decl_kind w x.kind x.spot b) where
    first_left : whole ≡ ((o ▸ decls w (drop (i + 1) ds) (after_decl x.kind b)) ▸ main m (after_decls (drop (i + 1) ds) (after_decl x.kind b)))
    first_left =
        left ∙ ap (λ l. decls w l b ▸ main m (after_decls l b)) from_here
        ∙ ap (λ z. (z ▸ decls w (drop (i + 1) ds) (after_decl x.kind b)) ▸ main m (after_decls (drop (i + 1) ds) (after_decl x.kind b))) (sym said)

    pub decl_refused : (r : WalkRefusal) → o ≡ Some r → Some r ≡ whole
    decl_refused r e = sym (first_left ∙ ap (λ z. (z ▸ decls w (drop (i + 1) ds) (after_decl x.kind b)) ▸ main m (after_decls (drop (i + 1) ds) (after_decl x.kind b))) e)

    pub decl_passed : (later : Before) → later ≡ after_decl x.kind b → o ≡ None → whole ≡ (decls w (drop (i + 1) ds) later ▸ main m (after_decls (drop (i + 1) ds) later))
    decl_passed later l e =
        first_left ∙ ap (λ z. (z ▸ decls w (drop (i + 1) ds) (after_decl x.kind b)) ▸ main m (after_decls (drop (i + 1) ds) (after_decl x.kind b))) e
        ∙ ap (λ z. decls w (drop (i + 1) ds) z ▸ main m (after_decls (drop (i + 1) ds) z)) (sym l)

-- behind the last declaration main is left
pub decls_over : (ds : List Decl) (i : ℕ) → length ds ≤ i → (w : Bool) (m : Main) (b : Before) (whole : Option WalkRefusal)
    → whole ≡ (decls w (drop i ds) b ▸ main m (after_decls (drop i ds) b)) → main m b ≡ whole
decls_over ds i past w m b whole left = sym (left ∙ ap (λ l. decls w l b ▸ main m (after_decls l b)) (drop_of_length-le ds past))
