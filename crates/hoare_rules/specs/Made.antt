-- Formulas that are made.
use Rattle.std.specs.Prelude.{◌≡◌, true, Result, Ok, Err}
use Rattle.tht_tree.specs.declared.plain.Spot.{Spot}
use Rattle.tht_tree.specs.declared.term.Term.{Term}
use Rattle.tht_tree.specs.declared.rule.RuleCode.TheVariants.{R10}
use Rattle.tht_tree.specs.Rules.Refusals.{needs}
use Rattle.tht_tree.specs.Rules.Sizes.{formula_fits}
use Rattle.pure_proofs.specs.declared.refusal.Refusal.{Refusal}
use Rattle.pure_proofs.specs.Verdicts.{IsStop}

-- the formula u, where it is not too large
abbrev pub IsMade : Result Term Refusal → Spot → Term → Type 0
IsMade (Ok t) spot u = (t ≡ u) × (formula_fits u ≡ true)
IsMade (Err e) spot u = IsStop e (needs spot R10 (formula_fits u))
