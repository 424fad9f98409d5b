-- What is refused of a proof with one more hypothesis.
use Rattle.std.proofs.Common.{◌≡◌, ℕ, List, Option, Some, None, Result, IfOk, sym, ◌∙◌, ap, subst}
use Rattle.std.proofs.lemmas.Result.{IfOk-weaker}
use Rattle.tht_tree.specs.declared.plain.Memory.{Memory}
use Rattle.tht_tree.specs.declared.plain.Spot.{Spot}
use Rattle.tht_tree.specs.declared.term.Term.{Term}
use Rattle.tht_tree.specs.declared.rule.RuleCode.TheVariants.{R10}
use Rattle.tht_tree.specs.declared.rule.RuleRefusal.{RuleRefusal}
use Rattle.tht_tree.specs.Rules.Context.{Context}
use Rattle.tht_tree.specs.Rules.Known.{with_hyp, hyp_fits}
use Rattle.tht_tree.specs.Rules.Proofs.{Prover, proves_with}
use Rattle.tht_tree.specs.Rules.Refusals.{needs, ◌▸◌}

module _ (spot : Spot) (u : Term) (q : Prover) (was : Context) (goal : Term) where
  -- there is no room for the hypothesis
  pub no_room : (k h : List ℕ) (r : RuleRefusal) → k ≡ h → needs spot R10 (hyp_fits was k u) ≡ Some r → Some r ≡ proves_with spot h u q was goal
  no_room k h r e f = subst (λ z. Some r ≡ proves_with spot z u q was goal) e (sym (ap (λ o. o ▸ q (with_hyp was k u) goal) f))

  -- there is, and the proof decides
  pub under : (v : Result (Option RuleRefusal) Memory) (k h : List ℕ) (now : Context) → k ≡ h → needs spot R10 (hyp_fits was k u) ≡ None → now ≡ with_hyp was k u → IfOk v (λ r. r ≡ q now goal)
      → IfOk v (λ r. r ≡ proves_with spot h u q was goal)
  under v k h now e f g =
      IfOk-weaker v (λ r. r ≡ q now goal) (λ r. r ≡ proves_with spot h u q was goal)
      (λ r s. subst (λ z. r ≡ proves_with spot z u q was goal) e (s ∙ ap (λ c. q c goal) g ∙ sym (ap (λ o. o ▸ q (with_hyp was k u) goal) f)))
