-- Instances of declared predicates, and what is answered of them: what the definitions say, unless memory was wanting.
use Rattle.std.specs.Prelude.{◌≡◌, Option, Some, None, Result, Ok, Err}
use Rattle.tht_tree.specs.declared.assn.Assn.{Assn}
use Rattle.tht_tree.specs.declared.decl.DeclKind.{DeclKind}
use Rattle.tht_tree.specs.declared.decl.DeclKind.TheVariants as d
use Rattle.tht_logic.specs.Rules.Definitions.{Predicate, one_case, two_cases, DefEnd, NoCase, Large}
use Rattle.heap_assert.specs.declared.definition_end.DefinitionEnd.{DefinitionEnd}
use Rattle.heap_assert.specs.declared.definition_end.DefinitionEnd.TheVariants as end

-- the predicate that a declaration declares
abbrev pub predicate_in : DeclKind → Option Predicate
predicate_in (d.Pred access q ps p) = Some (one_case ps p)
predicate_in (d.PredOn access q ps x nil n s cons) = Some (two_cases (record { params = ps; on = x; nil = nil; head = n; tail = s; cons = cons }))
predicate_in _ = None

abbrev pub IsDefinition : Result Assn DefinitionEnd → Result Assn DefEnd → Type 0
IsDefinition (Ok p) r = r ≡ Ok p
IsDefinition (Err end.NoCase) r = r ≡ Err NoCase
IsDefinition (Err end.Large) r = r ≡ Err Large
IsDefinition (Err end.Memory) r = Unit {0}
