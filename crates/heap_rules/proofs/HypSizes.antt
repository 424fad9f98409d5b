-- One more hypothesis, and whether it fits.
use Rattle.std.proofs.Common.{◌≡◌, ℕ, ◌+◌, ◌-◌, ◌^◌, ◌<◌, Bool, true, false, ◌&&◌, leb, min, List, Ok, refl, sym, ◌∙◌, ap, arith}
use Rattle.std.proofs.lemmas.Bool.{lt-ltb, leb-true, leb-false, le-leb, lt-leb}
use Rattle.std.proofs.lemmas.List.Sums.{sum_by_push}
use Rattle.tht_tree.specs.declared.plain.Spot.{Spot}
use Rattle.tht_tree.specs.declared.rule.RuleCode.TheVariants.{R10}
use Rattle.tht_tree.specs.declared.term.Term.{Term}
use Rattle.tht_tree.specs.Rules.Sizes.{nodes, formula_fits}
use Rattle.tht_tree.specs.Rules.Context.{Context, context_nodes, context_fits}
use Rattle.tht_tree.specs.Rules.Known.{with_hyp, hyp_fits}
use Rattle.tht_logic.specs.Rules.Checking.{Checked, reject, on_true, if_fits}

hyp_nodes : (c : Context) (h : List ℕ) (t : Term) → context_nodes (with_hyp c h t) ≡ context_nodes c + nodes t
hyp_nodes c h t = let e = sum_by_push (λ x. nodes x.formula) c.hyps (record { name = h; formula = t }) in omega (arith, e)

module _ (c : Context) (h : List ℕ) (t : Term) (n : ℕ) (size : context_nodes c ≡ n) (below : c.made < 2 ^ 32) where
  pub too_wide : false ≡ formula_fits t → false ≡ hyp_fits c h t
  too_wide e = ap (λ b. b && context_fits (with_hyp c h t)) e

  pub by_nodes : true ≡ formula_fits t → (s m : ℕ) → s ≡ min (nodes t) (2 ^ 64 - 1) → m ≡ min (n + s) (2 ^ 64 - 1) → leb m 262144 ≡ hyp_fits c h t
  by_nodes e s m add total =
      same (leb m 262144) refl ∙ sym (ap (λ b. leb (context_nodes (with_hyp c h t)) 262144 && b) (lt-ltb c.made (2 ^ 32) below)) ∙ ap (λ b. b && context_fits (with_hyp c h t)) e
    where
      whole : context_nodes (with_hyp c h t) ≡ context_nodes c + nodes t
      whole = hyp_nodes c h t

      same : (b : Bool) → leb m 262144 ≡ b → leb m 262144 ≡ (leb (context_nodes (with_hyp c h t)) 262144 && true)
      same true g = g ∙ sym (ap (λ z. z && true) (le-leb (context_nodes (with_hyp c h t)) 262144 (let l = leb-true m 262144 g in let w = whole in omega (arith, w, l))))
      same false g = g ∙ sym (ap (λ z. z && true) (lt-leb (context_nodes (with_hyp c h t)) 262144 (let l = leb-false m 262144 g in let w = whole in omega (arith, w, l))))

module _ (spot : Spot) (c : Context) (h : List ℕ) (t : Term) where
  abbrev pub put_hyp : Checked Context
  put_hyp = on_true spot R10 (formula_fits t) (if_fits spot (with_hyp c h t))

  abbrev by_tests : Bool → Bool → Checked Context
  by_tests f g = on_true spot R10 f (on_true spot R10 g (Ok (with_hyp c h t)))

  pub put_fits : hyp_fits c h t ≡ true → put_hyp ≡ Ok (with_hyp c h t)
  put_fits e = pick (formula_fits t) (context_fits (with_hyp c h t)) e
    where
      pick : (f g : Bool) → (f && g) ≡ true → by_tests f g ≡ Ok (with_hyp c h t)
      pick true true e = refl
      pick true false e = cc
      pick false g e = cc

  pub put_fails : hyp_fits c h t ≡ false → put_hyp ≡ reject spot R10
  put_fails e = pick (formula_fits t) (context_fits (with_hyp c h t)) e
    where
      pick : (f g : Bool) → (f && g) ≡ false → by_tests f g ≡ reject spot R10
      pick true true e = cc
      pick true false e = refl
      pick false g e = refl
