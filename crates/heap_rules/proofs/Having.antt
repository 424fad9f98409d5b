-- The rule of `have`, by its proof and by the sizes of what is known then.
use Rattle.std.proofs.Common.{◌≡◌, ℕ, Bool, true, false, ◌&&◌, List, Option, Some, None, Ok, Err, refl, sym, ◌∙◌, ap}
use Rattle.tht_tree.specs.declared.plain.Spot.{Spot}
use Rattle.tht_tree.specs.declared.proof.Proof.{Proof}
use Rattle.tht_tree.specs.declared.rule.RuleCode.TheVariants.{R10}
use Rattle.tht_tree.specs.declared.rule.RuleRefusal.{RuleRefusal}
use Rattle.tht_tree.specs.declared.term.Term.{Term}
use Rattle.tht_tree.specs.Rules.Sizes.{formula_fits}
use Rattle.tht_tree.specs.Rules.Context.{Context, context_fits}
use Rattle.tht_tree.specs.Rules.Refusals.{needs, ◌▸◌}
use Rattle.tht_tree.specs.Rules.Known.{with_hyp, hyp_fits}
use Rattle.tht_tree.specs.Rules.Proofs.{prove, proves}
use Rattle.tht_logic.specs.Rules.Checking.{Checked, unless_refused, on_true, if_fits}
use Rattle.pure_proofs.specs.declared.refusal.Refusal.{Refusal}
use Rattle.pure_proofs.specs.declared.refusal.Refusal.TheVariants.{Rule, Memory}
use Rattle.pure_proofs.specs.Verdicts.{IsStop}
use Rattle.heap_rules.specs.Following.{Stays}
use Rattle.heap_rules.specs.Stages.{undeclared, had}

module _ (spot : Spot) (d : Context) where
  abbrev tested : Bool → Bool → Checked Context
  tested f g = unless_refused (needs spot R10 f) (on_true spot R10 g (Ok d))

  fits_both : (f g : Bool) → needs spot R10 (f && g) ≡ None → tested f g ≡ Ok d
  fits_both true true e = refl
  fits_both true false e = cc
  fits_both false g e = cc

  fails_one : (f g : Bool) (r : RuleRefusal) → needs spot R10 (f && g) ≡ Some r → tested f g ≡ Err r
  fails_one true true r e = cc
  fails_one true false r e = failed e
    where
      failed : needs spot R10 false ≡ Some r → tested true false ≡ Err r
      failed e = cc
  fails_one false g r e = failed e
    where
      failed : needs spot R10 false ≡ Some r → tested false g ≡ Err r
      failed e = cc

module _ (spot : Spot) (c : Context) (h : List ℕ) (t : Term) (q : Proof) where
  abbrev proof_says : Option RuleRefusal
  proof_says = proves spot (prove undeclared q) c t

  pub stops : (e : Refusal) (now : Context) → IsStop e proof_says → now ≡ c → Stays e (had spot c h t q) c now
  stops (Rule r) now g is = (ap (λ z. unless_refused z (if_fits spot (with_hyp c h t))) g, is)
  stops Memory now g is = tt

  module _ (proved : proof_says ≡ None) where
    -- a formula that was proved is not too large
    small : formula_fits t ≡ true
    small = first_passes (formula_fits t) (prove undeclared q c t) proved
      where
        first_passes : (b : Bool) (z : Option RuleRefusal) → (needs spot R10 b ▸ z) ≡ None → b ≡ true
        first_passes true z e = refl
        first_passes false z e = cc

    had_at : had spot c h t q ≡ tested spot (with_hyp c h t) (formula_fits t) (context_fits (with_hyp c h t))
    had_at = ap (λ z. unless_refused z (if_fits spot (with_hyp c h t))) (proved ∙ sym (ap (needs spot R10) small))

    pub passes : (now : Context) → needs spot R10 (hyp_fits c h t) ≡ None → now ≡ with_hyp c h t → had spot c h t q ≡ Ok now
    passes now e f = had_at ∙ fits_both spot (with_hyp c h t) (formula_fits t) (context_fits (with_hyp c h t)) e ∙ ap Ok (sym f)

    pub fails : (e : Refusal) (now : Context) → IsStop e (needs spot R10 (hyp_fits c h t)) → now ≡ c → Stays e (had spot c h t q) c now
    fails (Rule r) now g is = (had_at ∙ fails_one spot (with_hyp c h t) (formula_fits t) (context_fits (with_hyp c h t)) r g, is)
    fails Memory now g is = tt
