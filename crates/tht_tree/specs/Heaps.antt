-- Heaps: from places to what a cell is. Each cell is shared, or a branch's own.
use Rattle.std.specs.Prelude.{◌≡◌, ℕ, Option, Some, None, if◌then◌else◌}
use Rattle.tht_tree.specs.declared.plain.Value.{Value}
use Rattle.tht_tree.specs.declared.plain.Place.{Place}
use Rattle.tht_tree.specs.Values.{same_place}

pub data Held : Type 0 where
  shared : Value → Held
  own : ℕ → Value → Held

abbrev pub held_value : Held → Value
held_value (shared v) = v
held_value (own b v) = v

abbrev pub with_value : Held → Value → Held
with_value (shared w) v = shared v
with_value (own b w) v = own b v

abbrev pub Heap : Type 0
Heap = Place → Option Held

abbrev pub nothing : Heap
nothing p = None

-- what is at each place, but for this at p
abbrev pub with_at : {A : Type 0} → (Place → A) → Place → A → Place → A
with_at h p c q = if same_place p q then c else h q

-- at one place: what two disjoint heaps have is what their union has
pub data JoinAt : Option Held → Option Held → Option Held → Type 0 where
  neither : JoinAt None None None
  left : {c : Held} → JoinAt (Some c) None (Some c)
  right : {c : Held} → JoinAt None (Some c) (Some c)

-- h is the union of the disjoint heaps a and b
abbrev pub Joins : Heap → Heap → Heap → Type 0
Joins a b h = (p : Place) → JoinAt (a p) (b p) (h p)

abbrev pub IsEmpty : Heap → Type 0
IsEmpty h = (p : Place) → h p ≡ None

-- the heap is one cell
abbrev pub IsCell : Heap → Place → Held → Type 0
IsCell h p c = (q : Place) → h q ≡ (if same_place p q then Some c else None)

abbrev pub if_shared : Held → Option Held
if_shared (shared v) = Some (shared v)
if_shared (own b v) = None

abbrev pub if_own : Held → Option Held
if_own (shared v) = None
if_own (own b v) = Some (own b v)

abbrev pub kept : (Held → Option Held) → Option Held → Option Held
kept f None = None
kept f (Some c) = f c

-- the shared cells of a heap, and its private ones
abbrev pub shared_part : Heap → Heap
shared_part h p = kept if_shared (h p)

abbrev pub private_part : Heap → Heap
private_part h p = kept if_own (h p)
