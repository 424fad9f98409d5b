-- A step in which the walk over names and sorts refuses nothing is in order, and what is in scope after it.
use Rattle.std.proofs.Common.{◌≡◌, Bool, true, ◌&&◌, is_some, refl}
use Rattle.tht_tree.specs.declared.plain.Spot.{Spot}
use Rattle.tht_tree.specs.declared.plain.Sort.TheVariants as sort
use Rattle.tht_tree.specs.declared.proof.Proof.{Proof}
use Rattle.tht_tree.specs.declared.give.Give.{Give}
use Rattle.tht_tree.specs.declared.step.StepKind.{StepKind}
use Rattle.tht_tree.specs.declared.step.StepKind.TheVariants as s
use Rattle.tht_tree.specs.Syntax.{Names}
use Rattle.tht_tree.specs.Rules.Context.{Scope}
use Rattle.tht_tree.specs.Rules.Scoping.{sort_of}
use Rattle.tht_tree.specs.Walk.Codes.{first}
use Rattle.tht_tree.specs.Walk.Names as walk
use Rattle.tht_tree.specs.Walk.Names.{new_name}
use Rattle.tht_tree.specs.Walk.Terms.{any_term, formula, predicate, lemma as use_of}
use Rattle.tht_tree.specs.Walk.Proofs as in_proofs
use Rattle.tht_tree.specs.Walk.Gives as in_gives
use Rattle.tht_tree.specs.Walk.Steps.{step_kind, after_step}
use Rattle.proof_laws.specs.Walked.{Matches}
use Rattle.proof_laws.proofs.WalkedTerms.{first_none}
use Rattle.tht_logic.specs.Rules.Scoped.{Signatures}
use Rattle.tht_logic.specs.Rules.Scoped as scoped
use Rattle.assn_laws.specs.Walked.{WalkedIsInOrder, scope_after, WalkedStepsAreInOrder, WalkedStepsMatch}
use Rattle.assn_laws.proofs.Refusing.{nothing, construct_none, both}
use Rattle.assn_laws.proofs.WalkedNames.{is_new, hypothesis_matches, variable_matches, term_walked, sort_walked}
use Rattle.assn_laws.proofs.WalkedGives.{walked_gives_are_in_order}

module _ (roots : Names) (instance lemma : Signatures) (proof : Proof → Scope → Bool) (names : walk.Scope) (scope : Scope) (o : WalkedIsInOrder roots instance lemma proof names scope) where
  give_good : (x : Give) → in_gives.give x names ≡ nothing → scoped.give roots instance proof x scope ≡ true
  give_good = walked_gives_are_in_order roots instance lemma proof names scope o

  kind_good : (x : StepKind) (spot : Spot) → step_kind x spot names ≡ nothing → scoped.step roots instance proof lemma x scope ≡ true
  kind_good (s.Have h t q) spot e =
      let parts = construct_none spot (first (new_name names h) (formula names t)) (in_proofs.proof q names) e in
      let tests = first_none (new_name names h) (formula names t) parts.0 in
      let new : Bool = scoped.is_new roots scope h in
      let whole : Bool = scoped.is_formula roots scope t in
      both (new && whole) (proof q scope) (both new whole (is_new roots names scope o.matches h tests.0) (term_walked roots names scope o.matches sort.Bool t tests.1)) (o.proofs q parts.1)
  kind_good (s.OpenVar i x r) spot e = is_new roots names scope o.matches x (construct_none spot (new_name names x) nothing e).0
  kind_good (s.OpenFact i h) spot e = is_new roots names scope o.matches h (construct_none spot (new_name names h) nothing e).0
  kind_good (s.Unfold i) spot e = refl
  kind_good (s.Fold q ts x) spot e =
      let parts = construct_none spot (predicate names q ts) (in_gives.give x names) e in
      both (instance scope q ts) (scoped.give roots instance proof x scope) (o.instances q ts parts.0) (give_good x parts.1)
  kind_good (s.Rewrite i k u q) spot e =
      let parts = construct_none spot (any_term names u) (in_proofs.proof q names) e in
      both (is_some (sort_of roots scope u)) (proof q scope) (sort_walked roots names scope o.matches u parts.0) (o.proofs q parts.1)
  kind_good (s.Use l ts x) spot e =
      let parts = construct_none spot (use_of names l ts) (in_gives.give x names) e in
      both (lemma scope l ts) (scoped.give roots instance proof x scope) (o.lemmas l ts parts.0) (give_good x parts.1)

-- The law of steps.
pub walked_steps_are_in_order : WalkedStepsAreInOrder
walked_steps_are_in_order roots instance lemma proof names scope o x e = kind_good roots instance lemma proof names scope o x.kind x.spot e

module _ (roots : Names) (names : walk.Scope) (scope : Scope) (m : Matches roots names scope) where
  kind_matches : (x : StepKind) (spot : Spot) → step_kind x spot names ≡ nothing → Matches roots (after_step x names) (scope_after x scope)
  kind_matches (s.Have h t q) spot e =
      let parts = construct_none spot (first (new_name names h) (formula names t)) (in_proofs.proof q names) e in
      hypothesis_matches roots names scope m h (first_none (new_name names h) (formula names t) parts.0).0
  kind_matches (s.OpenVar i x r) spot e = variable_matches roots names scope m x r (construct_none spot (new_name names x) nothing e).0
  kind_matches (s.OpenFact i h) spot e = hypothesis_matches roots names scope m h (construct_none spot (new_name names h) nothing e).0
  kind_matches (s.Unfold i) spot e = m
  kind_matches (s.Fold q ts x) spot e = m
  kind_matches (s.Rewrite i k u q) spot e = m
  kind_matches (s.Use l ts x) spot e = m

-- What is in scope after a step.
pub walked_steps_match : WalkedStepsMatch
walked_steps_match roots names scope m x e = kind_matches roots names scope m x.kind x.spot e
