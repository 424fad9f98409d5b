-- The parameters that are not replaced, one after another.
use Rattle.std.proofs.Common.{◌≡◌, ℕ, ◌+◌, ◌<◌, ◌≤◌, Bool, true, false, refl, sym, ◌∙◌, ap, suc, List, [], ◌∷◌, length, drop, get_or, add-one}
use Rattle.std.proofs.Math.Seq.{drop-cons}
use Rattle.std.proofs.Math.ListN.{drop_of_length-le}
use Rattle.tht_tree.specs.declared.decl.Param.{Param}
use Rattle.tht_tree.specs.Walk.Names.{Scope}
use Rattle.tht_tree.specs.Walk.Decls.{with_logic}
use Rattle.name_walk.specs.Params.{others_left}

module _ (n : List ℕ) (ps : List Param) (i : ℕ) where
  -- what is known behind one more parameter
  pub others_after : (x : Param) → i < length ps → x ≡ get_or ps i x → (now later whole : Scope) (met still : Bool)
      → ((rest : List Param) → with_logic later (others_left still n rest) ≡ with_logic now (others_left met n (x ∷ rest)))
      → whole ≡ with_logic now (others_left met n (drop i ps)) → whole ≡ with_logic later (others_left still n (drop (i + 1) ps))
  others_after x within here now later whole met still bound e = e ∙ ap (λ l. with_logic now (others_left met n l)) from_here ∙ sym (bound (drop (i + 1) ps))
    where
      from_here : drop i ps ≡ x ∷ drop (i + 1) ps
      from_here = rw add-one (drop-cons ps i x within ∙ ap (λ y. y ∷ drop (suc i) ps) (sym here))

  none_left : (met : Bool) (now : Scope) → with_logic now (others_left met n []) ≡ now
  none_left true now = refl
  none_left false now = refl

  -- all are known behind the last one
  pub others_over : length ps ≤ i → (now whole : Scope) (met : Bool) → whole ≡ with_logic now (others_left met n (drop i ps)) → now ≡ whole
  others_over past now whole met e = sym (e ∙ ap (λ l. with_logic now (others_left met n l)) (drop_of_length-le ps past) ∙ none_left met now)
