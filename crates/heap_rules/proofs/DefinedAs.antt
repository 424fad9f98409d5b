-- What an instance is defined as, by the declaration that was found.
use Rattle.std.proofs.Common.{◌≡◌, ℕ, List, None, Result, ◌∙◌, ap}
use Rattle.tht_tree.specs.declared.assn.Assn.{Assn}
use Rattle.tht_tree.specs.declared.decl.DeclKind.{DeclKind}
use Rattle.tht_tree.specs.declared.plain.Spot.{Spot}
use Rattle.tht_tree.specs.declared.rule.RuleCode.TheVariants.{R13}
use Rattle.tht_tree.specs.declared.term.Term.{Term}
use Rattle.tht_logic.specs.Rules.Checking.{reject}
use Rattle.tht_logic.specs.Rules.Definitions.{Declarations, DefEnd, definition_of, defined_or_refused, defined}
use Rattle.heap_assert.specs.Instances.{predicate_in}

module _ (decl : Declarations) (spot : Spot) (q : List ℕ) (ts : List Term) where
  pub none_found : decl.predicates q ≡ None → defined decl spot q ts ≡ reject spot R13
  none_found e = ap (λ o. defined_or_refused spot (definition_of o ts)) e

  pub found_defined : (k : DeclKind) (r : Result Assn DefEnd) → decl.predicates q ≡ predicate_in k → definition_of (predicate_in k) ts ≡ r → defined decl spot q ts ≡ defined_or_refused spot r
  found_defined k r e f = ap (λ o. defined_or_refused spot (definition_of o ts)) e ∙ ap (defined_or_refused spot) f
