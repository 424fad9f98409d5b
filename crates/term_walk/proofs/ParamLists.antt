-- Parameters, one after another.
use Rattle.std.proofs.Common.{◌≡◌, ℕ, ◌+◌, ◌<◌, sym, ◌∙◌, ap, suc, List, ◌∷◌, length, drop, get_or, add-one, Option}
use Rattle.std.proofs.Math.Seq.{drop-cons}
use Rattle.tht_tree.specs.declared.plain.Sort.{Sort}
use Rattle.tht_tree.specs.declared.decl.Param.{Param}
use Rattle.tht_tree.specs.declared.walk.Class.{Class}
use Rattle.tht_tree.specs.declared.walk.WalkCode.{WalkCode}
use Rattle.tht_tree.specs.Walk.Codes.{first}
use Rattle.tht_tree.specs.Walk.Names.{Scope, with_name, with_params, new_name, new_params}
use Rattle.tht_tree.specs.Walk.Terms.{storable}
use Rattle.tht_tree.specs.Walk.Decls.{all_storable}
use Rattle.walk_laws.proofs.CodeLaws.{first-assoc}

module _ (class : Sort → Class) (ps : List Param) (i : ℕ) (x : Param) (within : i < length ps) (here : x ≡ get_or ps i x)
    (now later : Scope) (bound : later ≡ with_name now x.name (class x.sort)) where
  from_here : drop i ps ≡ x ∷ drop (i + 1) ps
  from_here = rw add-one (drop-cons ps i x within ∙ ap (λ y. y ∷ drop (suc i) ps) (sym here))

  -- what is refused in the names that are left, and what is known behind them
  pub names_after : (whole code new : Option WalkCode) → whole ≡ first code (new_params class now (drop i ps)) → new ≡ first code (new_name now x.name)
      → whole ≡ first new (new_params class later (drop (i + 1) ps))
  names_after whole code new e h =
      e ∙ ap (λ l. first code (new_params class now l)) from_here
      ∙ sym (first-assoc code (new_name now x.name) (new_params class (with_name now x.name (class x.sort)) (drop (i + 1) ps)))
      ∙ ap (λ c. first c (new_params class (with_name now x.name (class x.sort)) (drop (i + 1) ps))) (sym h)
      ∙ ap (λ s. first new (new_params class s (drop (i + 1) ps))) (sym bound)

  pub known_after : (whole : Scope) → whole ≡ with_params class now (drop i ps) → whole ≡ with_params class later (drop (i + 1) ps)
  known_after whole e = e ∙ ap (with_params class now) from_here ∙ ap (λ s. with_params class s (drop (i + 1) ps)) (sym bound)

pub storable_after : (ps : List Param) (i : ℕ) (x : Param) → i < length ps → x ≡ get_or ps i x → (whole code new : Option WalkCode) → whole ≡ first code (all_storable (drop i ps)) → new ≡ first code (storable x.sort)
    → whole ≡ first new (all_storable (drop (i + 1) ps))
storable_after ps i x within here whole code new e h =
    let d : drop i ps ≡ x ∷ drop (i + 1) ps = rw add-one (drop-cons ps i x within ∙ ap (λ y. y ∷ drop (suc i) ps) (sym here)) in
    e ∙ ap (λ l. first code (all_storable l)) d ∙ sym (first-assoc code (storable x.sort) (all_storable (drop (i + 1) ps))) ∙ ap (λ c. first c (all_storable (drop (i + 1) ps))) (sym h)
