-- What a Lab keeps, and the states of the machine that it stands for.
use Rattle.std.specs.Prelude.{◌≡◌, ℕ, zero, List, length, slice_get, Option, Some, None, option_map}
use Rattle.tht_tree.specs.declared.plain.Place.{Place}
use Rattle.tht_tree.specs.declared.plain.Place.TheVariants.{Cell}
use Rattle.tht_tree.specs.declared.plain.Value.{Value}
use Rattle.tht_tree.specs.Heaps.{Heap, own}
use Rattle.tht_logic.specs.Machine.{Mem, Prog, Tree, Leaf}
use Rattle.code_form.specs.declared.code.Code.{Code}
use Rattle.code_form.specs.BranchValue.{BranchValue}
use Rattle.code_form.specs.Branches.{at_work, program_of, standing_of, IsOf}

-- the code of a file, its branch 0, and the cells that the branch has made, by their indexes: none where one was freed
pub record LabValue : Type 0 where
  pub code : Code
  pub main : BranchValue
  pub cells : List (Option Value)

-- the branch is of the code, is at work and has the number 0, and the next cell that it makes stands behind those that it has made
pub record IsWhole (code : Code) (main : BranchValue) (cells : List (Option Value)) : Type 0 where
  pub of_code : IsOf code main
  pub works : standing_of code main ≡ at_work (program_of code main)
  pub number : main.number ≡ 0
  pub next : main.next_index ≡ length cells

-- ---- cells

abbrev pub flattened : Option (Option Value) → Option Value
flattened None = None
flattened (Some o) = o

-- what the cell at a place holds, where there is one
abbrev pub held : List (Option Value) → Place → Option Value
held cells (Cell zero i) = flattened (slice_get cells i)
held cells _ = None

abbrev pub index_of : Place → ℕ
index_of (Cell a i) = i
index_of _ = 0

-- the cells as a heap: each is a cell of branch 0
abbrev pub heap_of : List (Option Value) → Heap
heap_of cells p = option_map (own 0) (held cells p)

-- ---- states

-- the program that branch 0 is about to carry out
abbrev pub program : LabValue → Prog
program lab = program_of lab.code lab.main

-- The Lab stands for a memory and a tree of branches: the heap is its cells, place by place, and its branch is at work alone. Versions and the
-- entry under way are not kept.
pub record StandsFor (lab : LabValue) (m : Mem) (t : Tree) : Type 0 where
  pub heap : (p : Place) → m.heap p ≡ heap_of lab.cells p
  pub made : m.made 0 ≡ length lab.cells
  pub tree : t ≡ Leaf 0 (program lab)
