-- What a scope says of each name.
use Rattle.std.specs.Prelude.{ℕ, List, [], ◌∷◌, Option, bytes_eq, if◌then◌else◌}
use Rattle.std.specs.BTreeMap.{get_by_text}
use Rattle.tht_tree.specs.declared.walk.Class.{Class}
use Rattle.tht_tree.specs.Walk.Names.{Scope as Names}
use Rattle.term_walk.specs.declared.scope.Scope.{Scope}
use Rattle.term_walk.specs.declared.scope.Shadow.{Shadow}

-- what each name stands for
unfoldable pub scope_of : Scope → Names
scope_of scope x = get_by_text scope.classes x

-- the names in scope where this name stands for this, or for nothing
abbrev pub put_back : Names → List ℕ → Option Class → Names
put_back names x c y = if bytes_eq x y then c else names y

-- the names in scope once those that were bound, the last last, are taken out
abbrev pub unbound : Names → List Shadow → Names
unbound names [] = names
unbound names (b ∷ bs) = put_back (unbound names bs) b.name b.class
