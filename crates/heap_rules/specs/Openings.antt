-- The goals that gives make of their goals.
use Rattle.std.specs.Prelude.{[], ◌∷◌}
use Rattle.tht_tree.specs.declared.assn.Assn.{Assn, out-Assn}
use Rattle.tht_tree.specs.declared.plain.Spot.{Spot}
use Rattle.tht_tree.specs.declared.term.Term.{Term}
use Rattle.tht_tree.specs.declared.rule.RuleCode.TheVariants.{R4}
use Rattle.tht_tree.specs.Rules.Context.{Scope}
use Rattle.tht_tree.specs.Rules.Scoping.{sort_of, is_of}
use Rattle.tht_logic.specs.Putting.{put_assn_within}
use Rattle.tht_logic.specs.Rules.Checking.{Checked, on_some, on_true, put_or_refused}
use Rattle.tht_logic.specs.Rules.Definitions.{Declarations, defined}
use Rattle.tht_logic.specs.Rules.Gives.{existential_at, instance_at}

module _ (decl : Declarations) (spot : Spot) where
  -- what stands behind an existential, for this term
  abbrev pub opened : Scope → Term → Assn → Checked Assn
  opened scope t goal =
      on_some spot R4 (existential_at (out-Assn goal)) (λ p.
      on_true spot R4 (is_of p.sort (sort_of decl.proofs.roots scope t)) (put_or_refused spot (put_assn_within ((p.name, t) ∷ []) p.body)))

  -- what an instance is defined as
  abbrev pub unfolded : Assn → Checked Assn
  unfolded goal = on_some spot R4 (instance_at (out-Assn goal)) (λ p. defined decl spot p.0 p.1)
