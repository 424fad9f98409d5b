-- What the program prints of a run.
use Rattle.std.specs.Prelude.{ℕ, ◌+◌, ◌==◌, Bool, true, false, ◌||◌, List, [], ◌∷◌, ◌++◌, length, slice_get, unwrap_or, codes, if◌then◌else◌}
use Rattle.std.specs.Fmt.{decimal}
use Rattle.tht_tree.specs.declared.plain.Spot.{Spot}
use Rattle.tht_tree.specs.declared.text_fault.TextFault.{TextFault}
use Rattle.tht_tree.specs.declared.text_fault.TextFault.TheVariants as f
use Rattle.tht_tree.specs.declared.plain.Place.{Place}
use Rattle.tht_tree.specs.declared.plain.Place.TheVariants.{Null, Root, Cell}
use Rattle.tht_tree.specs.declared.plain.Value.{Value}
use Rattle.tht_tree.specs.declared.plain.Value.TheVariants as v
use Rattle.tht_tree.specs.declared.run.End.{End}
use Rattle.tht_tree.specs.declared.run.End.TheVariants.{Done, Spent, Big}
use Rattle.tht_tree.specs.Lists.{is_nil}

-- ---- values

abbrev pub bool_text : Bool → List ℕ
bool_text true = codes "true"
bool_text false = codes "false"

-- a place, where these are the names of the roots
abbrev pub place_text : List (List ℕ) → Place → List ℕ
place_text roots Null = codes "null"
place_text roots (Root r) = unwrap_or (slice_get roots r) []
place_text roots (Cell a i) = codes "@" ++ (decimal a ++ (codes "." ++ decimal i))

abbrev pub value_text : List (List ℕ) → Value → List ℕ
value_text roots (v.Nat n) = decimal n
value_text roots (v.Bool b) = bool_text b
value_text roots (v.Loc p) = place_text roots p
value_text roots v.Unit = codes "()"

-- ---- the first fault of a text

abbrev pub fault_word : TextFault → List ℕ
fault_word f.Byte = codes "byte"
fault_word f.LongName = codes "longname"
fault_word f.BigNumber = codes "bignumber"
fault_word f.Unexpected = codes "unexpected"
fault_word f.Deep = codes "deep"
fault_word f.Many = codes "many"
fault_word f.Version = codes "version"

-- a fault and where it stands
abbrev pub fault_text : TextFault → Spot → List ℕ
fault_text fault spot = codes "text " ++ (decimal spot.line ++ (codes ":" ++ (decimal spot.column ++ (codes " " ++ (fault_word fault ++ codes "\n")))))

-- ---- the end of a run

-- how it ended, and its result where it has one
abbrev pub end_text : List (List ℕ) → End → List ℕ
end_text roots (Done value) = codes "end done\nresult " ++ (value_text roots value ++ codes "\n")
end_text roots (Spent branch) = codes "end spent " ++ (decimal branch ++ codes "\n")
end_text roots (Big branch) = codes "end big " ++ (decimal branch ++ codes "\n")

-- ---- the order of a run

-- a branch and how often it stands, put before some runs
abbrev pub joined : ℕ → ℕ → List (ℕ × ℕ) → List (ℕ × ℕ)
joined branch count [] = (branch, count) ∷ []
joined branch count (run ∷ runs) =
    if run.0 == branch then (branch, count + run.1) ∷ runs else (branch, count) ∷ run ∷ runs

-- the maximal runs of one branch, each with its length
abbrev pub runs_of : List ℕ → List (ℕ × ℕ)
runs_of [] = []
runs_of (branch ∷ order) = joined branch 1 (runs_of order)

-- the branch alone for one entry, else with their number behind a star
abbrev pub run_text : ℕ × ℕ → List ℕ
run_text run = if run.1 == 1 then decimal run.0 else decimal run.0 ++ (codes "*" ++ decimal run.1)

-- what ends a run, where this many stand before it on its line: a line feed for the last of all and for the sixteenth
abbrev pub run_end : ℕ → Bool → List ℕ
run_end place last = if last || (place == 15) then codes "\n" else codes " "

abbrev pub next_place : ℕ → ℕ
next_place place = if place == 15 then 0 else place + 1

-- the runs, sixteen on a line, where this many stand on the line already
abbrev pub run_lines : ℕ → List (ℕ × ℕ) → List ℕ
run_lines place [] = []
run_lines place (run ∷ runs) = run_text run ++ (run_end place (is_nil runs) ++ run_lines (next_place place) runs)

abbrev pub order_text : List ℕ → List ℕ
order_text order = run_lines 0 (runs_of order)

-- ---- the report

-- How the run ended, the number of its events and its cost, the number of attempts given up, and the branches in the
-- order of their steps.
abbrev pub report_text : List (List ℕ) → End → ℕ → ℕ → List ℕ → List ℕ
report_text roots end cost given_up order = end_text roots end
    ++ (codes "events " ++ (decimal (length order)
    ++ (codes "\ncost " ++ (decimal cost
    ++ (codes "\naborts " ++ (decimal given_up
    ++ (codes "\norder\n" ++ order_text order)))))))
