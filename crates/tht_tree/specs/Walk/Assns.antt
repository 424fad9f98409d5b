-- The names and sorts of an assertion.
use Rattle.std.specs.Prelude.{Option, None}
use Rattle.tht_tree.specs.declared.plain.Sort.TheVariants as sort
use Rattle.tht_tree.specs.declared.assn.Assn.{Assn, fold-Assn}
use Rattle.tht_tree.specs.declared.assn.Assn.TheOpen as a
use Rattle.tht_tree.specs.declared.walk.WalkCode.{WalkCode}
use Rattle.tht_tree.specs.Walk.Codes.{first}
use Rattle.tht_tree.specs.Walk.Names.{Scope, with_variable, new_name}
use Rattle.tht_tree.specs.Walk.Terms.{term_of, formula, held, predicate}

-- A fact is a formula, a place has sort loc, and what a cell holds can be stored. The variable of an `exists` is of the logic, and
-- known behind the dot.
abbrev pub assn_at : a.Assn-F (Scope → Option WalkCode) → Scope → Option WalkCode
assn_at a.Emp scope = None
assn_at (a.Fact t) scope = formula scope t
assn_at (a.Own t u) scope = first (term_of scope sort.Loc t) (held scope u)
assn_at (a.Shared t u) scope = first (term_of scope sort.Loc t) (held scope u)
assn_at (a.Star x y) scope = first (x scope) (y scope)
assn_at (a.Inst p ts) scope = predicate scope p ts
assn_at (a.Exists x s y) scope = first (new_name scope x) (y (with_variable scope x s))
assn_at (a.Either x y) scope = first (x scope) (y scope)

-- what is refused in an assertion
unfoldable pub assn : Assn → Scope → Option WalkCode
assn = fold-Assn (Scope → Option WalkCode) assn_at
