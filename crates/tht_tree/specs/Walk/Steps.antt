-- The names and sorts of a proof step, and what is known after it.
use Rattle.std.specs.Prelude.{None}
use Rattle.tht_tree.specs.declared.plain.Spot.{Spot}
use Rattle.tht_tree.specs.declared.step.Step.{Step}
use Rattle.tht_tree.specs.declared.step.StepKind.{StepKind}
use Rattle.tht_tree.specs.declared.step.StepKind.TheVariants as s
use Rattle.tht_tree.specs.Walk.Codes.{first, construct}
use Rattle.tht_tree.specs.Walk.Names.{Scope, Walk, with_variable, with_hypothesis, new_name}
use Rattle.tht_tree.specs.Walk.Terms.{any_term, formula, predicate, lemma}
use Rattle.tht_tree.specs.Walk.Proofs.{proof}
use Rattle.tht_tree.specs.Walk.Gives.{give}

abbrev pub step_kind : StepKind → Spot → Walk
step_kind (s.Have h t q) spot scope = construct spot (first (new_name scope h) (formula scope t)) (proof q scope)
step_kind (s.OpenVar n x z) spot scope = construct spot (new_name scope x) None
step_kind (s.OpenFact n h) spot scope = construct spot (new_name scope h) None
step_kind (s.Unfold n) spot scope = None
step_kind (s.Fold p ts g) spot scope = construct spot (predicate scope p ts) (give g scope)
step_kind (s.Rewrite m n t q) spot scope = construct spot (any_term scope t) (proof q scope)
step_kind (s.Use l ts g) spot scope = construct spot (lemma scope l ts) (give g scope)

-- what is refused in a proof step
abbrev pub step : Step → Walk
step x = step_kind x.kind x.spot

-- what is known after it
abbrev pub after_step : StepKind → Scope → Scope
after_step (s.Have h t q) scope = with_hypothesis scope h
after_step (s.OpenVar n x z) scope = with_variable scope x z
after_step (s.OpenFact n h) scope = with_hypothesis scope h
after_step _ scope = scope
