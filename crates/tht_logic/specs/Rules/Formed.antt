-- Which contexts a command can be checked in.
use Rattle.std.specs.Prelude.{◌≡◌, ◌≤◌, true, All}
use Rattle.std.specs.List.Sorted.{IsStrictlySortedBy}
use Rattle.std.specs.Map.{keys_of}
use Rattle.std.specs.Ordering.{nat_cmp}
use Rattle.tht_tree.specs.Syntax.{Names}
use Rattle.tht_tree.specs.Rules.Context.{Context}
use Rattle.tht_logic.specs.Rules.Scoped.{Signatures, HideNoRoot, is_formula, assn}

-- Where these are the roots, and these arguments fit an instance: the atoms have different numbers, none above the number made; names of
-- atoms and hypotheses are in scope, where they have their sorts; and no variable in scope has the name of a root.
pub record IsFormed (roots : Names) (instance : Signatures) (c : Context) : Type 0 where
  pub ascending : IsStrictlySortedBy nat_cmp (keys_of c.atoms)
  pub numbered : All (λ a. a.0 ≤ c.made) c.atoms
  pub atoms : All (λ a. assn roots instance a.1 c.scope ≡ true) c.atoms
  pub hyps : All (λ h. is_formula roots c.scope h.formula ≡ true) c.hyps
  pub no_root_hidden : HideNoRoot roots c.scope
