-- The levels of variables: each is counted from the outermost, which has the level 0.
use Rattle.std.specs.Prelude.{◌≡◌, ℕ, bytes_eq, List, [], ◌∷◌, length, map, reverse, Option, Some, None, if◌then◌else◌}
use Rattle.std.specs.Coded.{Π_prop, Coded-set, coded_list, coded_option, coded_ℕ}
use Rattle.std.specs.BTreeMap.{BTreeMap, get_by_text}
use Rattle.std.specs.declared.string.String.{String}
use Rattle.tht_tree.specs.Syntax.{Names}
use Rattle.program_forms.specs.declared.levels.Shadow.{Shadow}

-- the level of the innermost variable with a name, where these are bound, the innermost first
abbrev pub level_in : Names → List ℕ → Option ℕ
level_in [] x = None
level_in (y ∷ ys) x = if bytes_eq y x then Some (length ys) else level_in ys x

-- for each variable the level of its name outside of it
abbrev pub outer_levels : Names → List (Option ℕ)
outer_levels [] = []
outer_levels (x ∷ xs) = level_in xs x ∷ outer_levels xs

-- the names of variables, the innermost first
abbrev pub names_in : List Shadow → Names
names_in bound = map (λ (s : Shadow). s.name) (reverse bound)

abbrev pub levels_in : {Y : Type 0} → BTreeMap (String Y) ℕ → List ℕ → Option ℕ
levels_in m x = get_by_text m x

-- the second map has this level, or none, for this name, and for the others what the first has
abbrev pub Puts : {Y : Type 0} → BTreeMap (String Y) ℕ → BTreeMap (String Y) ℕ → List ℕ → Option ℕ → Type 0
Puts m n x o = (y : List ℕ) → levels_in n y ≡ (if bytes_eq x y then o else levels_in m y)

-- the map has the level of each name
unfoldable pub AreLevels : {Y : Type 0} → BTreeMap (String Y) ℕ → List Shadow → Type 0
AreLevels m bound = (x : List ℕ) → levels_in m x ≡ level_in (names_in bound) x

-- which is so in one way at most
pub AreLevels-prop : {Y : Type 0} (m : BTreeMap (String Y) ℕ) (bound : List Shadow) → IsProp (AreLevels m bound)
unfolding AreLevels
AreLevels-prop m bound = Π_prop (λ x. Coded-set (coded_option coded_ℕ) (levels_in m x) (level_in (names_in bound) x))

-- each variable knows the level of its name outside of it
unfoldable pub AreShadowed : List Shadow → Type 0
AreShadowed bound = map (λ (s : Shadow). s.outer) (reverse bound) ≡ outer_levels (names_in bound)

-- which is so in one way at most
pub AreShadowed-prop : (bound : List Shadow) → IsProp (AreShadowed bound)
unfolding AreShadowed
AreShadowed-prop bound = Coded-set (coded_list (coded_option coded_ℕ)) (map (λ (s : Shadow). s.outer) (reverse bound)) (outer_levels (names_in bound))
