-- Where the predicates and the procs of a file stand, by their names.
use Rattle.std.specs.Prelude.{◌≡◌, ℕ, suc, bytes_eq, List, [], ◌∷◌, Option, Some, None, option_and_then, if◌then◌else◌}
use Rattle.std.specs.List.{slice_get}
use Rattle.std.specs.Coded.{Π_prop, Coded-set, coded_option, coded_ℕ}
use Rattle.std.specs.BTreeMap.{BTreeMap, get_by_text}
use Rattle.std.specs.declared.string.String.{String}
use Rattle.tht_tree.specs.declared.decl.Decl.{Decl}
use Rattle.tht_tree.specs.declared.decl.DeclKind.{DeclKind}
use Rattle.tht_tree.specs.declared.decl.DeclKind.TheVariants as d
use Rattle.tht_tree.specs.declared.decl.Head.{Head}
use Rattle.tht_logic.specs.Rules.Definitions.{Predicate}
use Rattle.heap_assert.specs.Instances.{predicate_in}

-- the places of declarations by their names
abbrev pub ByName : Type 0
ByName = List ℕ → Option ℕ

abbrev pub with_name : List ℕ → ℕ → ByName → ByName
with_name q n others y = if bytes_eq q y then Some n else others y

-- the name that a declaration gives to what it declares, where that is of one kind
abbrev pub Naming : Type 0
Naming = DeclKind → Option (List ℕ)

-- the name of the predicate that a declaration declares
abbrev pub name_of : Naming
name_of (d.Pred access q ps p) = Some q
name_of (d.PredOn access q ps x nil m s cons) = Some q
name_of _ = None

-- the name of the proc that a declaration declares
abbrev pub proc_name_of : Naming
proc_name_of (d.Proc head body) = Some head.name
proc_name_of _ = None

abbrev pub with_named : Option (List ℕ) → ℕ → ByName → ByName
with_named None n others = others
with_named (Some q) n others = with_name q n others

-- what a map has for a name
abbrev pub places_in : {Y : Type 0} → BTreeMap (String Y) ℕ → ByName
places_in m x = get_by_text m x

module _ (naming : Naming) where
  -- with the place of a declaration, where that is one of the kind
  abbrev pub with_place : DeclKind → ℕ → ByName → ByName
  with_place k n others = with_named (naming k) n others

  -- with those of more declarations, of which the first stands at this place
  abbrev pub places_from : ℕ → ByName → List Decl → ByName
  places_from n known [] = known
  places_from n known (x ∷ xs) = places_from (suc n) (with_place x.kind n known) xs

  -- the place of the last declaration of the kind with this name
  abbrev pub last_at : List Decl → ByName
  last_at = places_from 0 (λ q. None)

  -- the map has the places of the declarations of the kind
  unfoldable pub AreNamed : {Y : Type 0} → BTreeMap (String Y) ℕ → List Decl → Type 0
  AreNamed m decls = (x : List ℕ) → places_in m x ≡ last_at decls x

  -- which is so in one way at most
  pub AreNamed-prop : {Y : Type 0} (m : BTreeMap (String Y) ℕ) (decls : List Decl) → IsProp (AreNamed m decls)
  unfolding AreNamed
  AreNamed-prop m decls = Π_prop (λ x. Coded-set (coded_option coded_ℕ) (places_in m x) (last_at decls x))

-- ---- predicates

-- the predicate that the declaration at a place declares
abbrev pub predicate_at : Option ℕ → List Decl → Option Predicate
predicate_at None decls = None
predicate_at (Some n) decls = option_and_then (λ x. predicate_in x.kind) (slice_get decls n)

-- the map has the places of the predicates in these declarations
abbrev pub ArePlaces : {Y : Type 0} → BTreeMap (String Y) ℕ → List Decl → Type 0
ArePlaces m decls = AreNamed name_of m decls

pub ArePlaces-prop : {Y : Type 0} (m : BTreeMap (String Y) ℕ) (decls : List Decl) → IsProp (ArePlaces m decls)
ArePlaces-prop m decls = AreNamed-prop name_of m decls

-- ---- procs

-- the head of the proc that a declaration declares
abbrev pub head_in : DeclKind → Option Head
head_in (d.Proc head body) = Some head
head_in _ = None

-- the head of the proc that the declaration at a place declares
abbrev pub head_at : Option ℕ → List Decl → Option Head
head_at None decls = None
head_at (Some n) decls = option_and_then (λ x. head_in x.kind) (slice_get decls n)

-- the map has the places of the procs in these declarations
abbrev pub AreProcs : {Y : Type 0} → BTreeMap (String Y) ℕ → List Decl → Type 0
AreProcs m decls = AreNamed proc_name_of m decls

pub AreProcs-prop : {Y : Type 0} (m : BTreeMap (String Y) ℕ) (decls : List Decl) → IsProp (AreProcs m decls)
AreProcs-prop m decls = AreNamed-prop proc_name_of m decls
