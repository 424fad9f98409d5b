-- Which environments satisfy the hypotheses and the sorts of variables in scope.
use Rattle.std.specs.Prelude.{◌≡◌, ℕ, true, List, [], ◌∷◌, Some}
use Rattle.tht_tree.specs.declared.plain.Sort.{Sort}
use Rattle.tht_tree.specs.declared.plain.Value.TheVariants as v
use Rattle.tht_tree.specs.declared.state.Hyp.{Hyp}
use Rattle.tht_tree.specs.declared.state.Local.TheVariants.{Variable}
use Rattle.tht_tree.specs.Values.{is, Env, has_sort_val}
use Rattle.tht_tree.specs.Syntax.{Names}
use Rattle.tht_tree.specs.Terms.{value}
use Rattle.tht_tree.specs.Rules.Context.{Scope}

-- each hypothesis is true
abbrev pub HypsHold : Names → Env → List Hyp → Type 0
HypsHold roots env [] = Unit {0}
HypsHold roots env (h ∷ rest) = (value roots env h.formula ≡ is (v.Bool true)) × HypsHold roots env rest

-- each variable in scope has a value of its sort
abbrev pub HasSorts : Env → Scope → Type 0
HasSorts env scope = (x : List ℕ) (s : Sort) → scope x ≡ Some (Variable s) → has_sort_val s (env x) ≡ true
