-- What is refused where names and sorts are not in order. The file is walked in the order of its text. A construct's own names,
-- terms and assertions come before the constructs inside it; of what is refused at one construct the first in the table of codes
-- counts.
use Rattle.std.specs.Prelude.{ℕ, nat_le, Bool, true, false, List, [], ◌∷◌, Option, Some, None, if◌then◌else◌}
use Rattle.tht_tree.specs.declared.walk.WalkCode.{WalkCode}
use Rattle.tht_tree.specs.declared.walk.WalkCode.TheVariants.{N1, N2, N3, N4, N5, N6, N7, S1, S2, S3, S4, S5}
use Rattle.tht_tree.specs.declared.walk.WalkRefusal.{WalkRefusal}
use Rattle.tht_tree.specs.declared.plain.Spot.{Spot}

-- a code's line in the table, from 1
abbrev pub line_of : WalkCode → ℕ
line_of N1 = 1
line_of N2 = 2
line_of N3 = 3
line_of N4 = 4
line_of N5 = 5
line_of N6 = 6
line_of N7 = 7
line_of S1 = 8
line_of S2 = 9
line_of S3 = 10
line_of S4 = 11
line_of S5 = 12

-- of what two tests of one construct refuse, if anything, the first in the table
abbrev pub first : Option WalkCode → Option WalkCode → Option WalkCode
first None d = d
first (Some c) None = Some c
first (Some c) (Some d) = if nat_le (line_of c) (line_of d) then Some c else Some d

-- the same of all tests of one construct
abbrev pub first_of : List (Option WalkCode) → Option WalkCode
first_of [] = None
first_of (c ∷ []) = c
first_of (c ∷ d ∷ cs) = first c (first_of (d ∷ cs))

-- this code, where what is wanted does not hold
abbrev pub unless : Bool → WalkCode → Option WalkCode
unless true c = None
unless false c = Some c

-- what is refused in a construct at this place: what its own tests refuse, or else the constructs inside it
abbrev pub construct : Spot → Option WalkCode → Option WalkRefusal → Option WalkRefusal
construct spot (Some c) inside = Some (record { spot = spot; code = c })
construct spot None inside = inside

-- what is refused in what stands first, or else behind it
infixr 60 ◌▸◌
abbrev pub ◌▸◌ : Option WalkRefusal → Option WalkRefusal → Option WalkRefusal
Some r ▸ behind = Some r
None ▸ behind = behind

abbrev pub in_order : List (Option WalkRefusal) → Option WalkRefusal
in_order [] = None
in_order (r ∷ rs) = r ▸ in_order rs
