-- The places of hypotheses, by their names.
use Rattle.std.specs.Prelude.{◌≡◌, ℕ, suc, bytes_eq, List, [], ◌∷◌, Option, Some, None, option_map, if◌then◌else◌}
use Rattle.std.specs.List.{slice_get}
use Rattle.std.specs.Coded.{Π_prop, Coded-set, coded_option, coded_ℕ}
use Rattle.std.specs.BTreeMap.{BTreeMap, get_by_text}
use Rattle.std.specs.declared.string.String.{String}
use Rattle.tht_tree.specs.declared.state.Hyp.{Hyp}
use Rattle.tht_tree.specs.declared.term.Term.{Term}

-- the place of the first hypothesis with this name
abbrev pub first_at : List Hyp → List ℕ → Option ℕ
first_at [] x = None
first_at (h ∷ hs) x = if bytes_eq x h.name then Some 0 else option_map suc (first_at hs x)

-- where each name's first hypothesis stands, as a map has it
abbrev pub places_in : {Y : Type 0} → BTreeMap (String Y) ℕ → List ℕ → Option ℕ
places_in m x = get_by_text m x

-- the formula of the hypothesis at this place, if one stands there
abbrev pub formula_at : Option ℕ → List Hyp → Option Term
formula_at None hs = None
formula_at (Some n) hs = option_map (λ h. h.formula) (slice_get hs n)

-- the map has the places of these hypotheses
unfoldable pub ArePlaces : {Y : Type 0} → BTreeMap (String Y) ℕ → List Hyp → Type 0
ArePlaces m hyps = (x : List ℕ) → places_in m x ≡ first_at hyps x

-- which is so in one way at most
pub ArePlaces-prop : {Y : Type 0} (m : BTreeMap (String Y) ℕ) (hyps : List Hyp) → IsProp (ArePlaces m hyps)
unfolding ArePlaces
ArePlaces-prop m hyps = Π_prop (λ x. Coded-set (coded_option coded_ℕ) (places_in m x) (first_at hyps x))
