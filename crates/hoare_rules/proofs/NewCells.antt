-- What the rules say of `alloc`.
use Rattle.std.proofs.Common.{◌≡◌, ℕ, ◌+◌, ◌-◌, ◌^◌, ◌<◌, ◌≤◌, true, false, leb, min, suc, List, length, Ok, sym, ◌∙◌, ap, inl, inr, arith}
use Rattle.std.proofs.lemmas.Bool.Decides.{leb_tells}
use Rattle.std.specs.Prelude.{IsTrue, ◌↔◌}
use Rattle.std.specs.List.{list_all}
use Rattle.tht_tree.specs.declared.plain.Spot.{Spot}
use Rattle.tht_tree.specs.declared.rule.RuleCode.TheVariants.{R10}
use Rattle.tht_tree.specs.declared.term.Term.{Term}
use Rattle.tht_tree.specs.Rules.Context.{Context, context_nodes}
use Rattle.tht_tree.specs.Rules.Sizes.{assn_fits}
use Rattle.tht_logic.specs.Rules.Checking.{reject, on_true, if_fits}
use Rattle.tht_logic.specs.Rules.Commands.{new_cells, after_alloc}
use Rattle.hoare_rules.specs.Steps.{with_place, alloc_context, all_nodes}
use Rattle.hoare_rules.proofs.Exact.{IsNumbered, added_size, added_made, cells_count, more_left, too_large, too_many, not_too_large}

module _ (spot : Spot) (c : Context) (x : List ℕ) (ts : List Term) where
  pub one_too_large : false ≡ list_all assn_fits (new_cells x 0 ts) → after_alloc spot c x ts ≡ reject spot R10
  one_too_large e = ap (λ b. on_true spot R10 b (if_fits spot (alloc_context c x ts))) (sym e)

  module _ (each : true ≡ list_all assn_fits (new_cells x 0 ts)) where
    whole : after_alloc spot c x ts ≡ if_fits spot (alloc_context c x ts)
    whole = ap (λ b. on_true spot R10 b (if_fits spot (alloc_context c x ts))) (sym each)

    made : (alloc_context c x ts).made ≡ c.made + length ts
    made = let e = added_made (new_cells x 0 ts) (with_place c x) in let f = cells_count x 0 ts in omega (arith, e, f)

    module _ (numbered : IsNumbered c) (n s m : ℕ) (counted : n ≡ context_nodes c) (size : min s (2 ^ 64 - 1) ≡ min (all_nodes (new_cells x 0 ts)) (2 ^ 64 - 1)) (sum : m ≡ min (n + s) (2 ^ 64 - 1)) where
      left : m ≡ min (context_nodes (alloc_context c x ts)) (2 ^ 64 - 1)
      left = more_left c (alloc_context c x ts) (new_cells x 0 ts) (added_size (new_cells x 0 ts) (with_place c x) numbered) n s m counted size sum

      pub all_too_large : false ≡ leb m 262144 → after_alloc spot c x ts ≡ reject spot R10
      all_too_large e = whole ∙ too_large spot (alloc_context c x ts) m left e

      pub all_fit : c.made + length ts < 2 ^ 32 → true ≡ leb m 262144 → after_alloc spot c x ts ≡ Ok (alloc_context c x ts)
      all_fit few e = whole ∙ not_too_large spot (alloc_context c x ts) m left (let f = made in omega (arith, f)) e

    pub all_too_many : 2 ^ 32 ≤ c.made + length ts → after_alloc spot c x ts ≡ reject spot R10
    all_too_many many = whole ∙ too_many spot (alloc_context c x ts) (let f = made in omega (arith, f))

no_truth : IsTrue false → ⊥
no_truth e = cc

-- there are no more numbers
pub no_numbers : (n : ℕ) → IsTrue false ↔ (n < 2 ^ 32) → 2 ^ 32 ≤ n
no_numbers n tells = elim (leb_tells (suc n) (2 ^ 32)) [ inl h ↦ absurd (no_truth (tells.1 h.1)) | inr h ↦ let le = h.1 in omega arith ]
