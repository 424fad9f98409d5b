use Rattle.std.proofs.Common.{◌≡◌, ℕ, ◌+◌, ◌-◌, ◌^◌, min, List, drop}
use Rattle.tht_logic.specs.Rules.Commands.{new_cells}
use Rattle.hoare_rules.specs.Steps.{all_nodes}
use Rattle.hoare_rules.proofs.allocs.cells_size.Given as goal

abbrev pub invariant-loop-index : goal.invariant-loop-index
invariant-loop-index l =
    (x : List ℕ) → min (l.total + all_nodes (new_cells x l.index (drop l.index l.values))) (2 ^ 64 - 1) ≡ min (all_nodes (new_cells x 0 l.values)) (2 ^ 64 - 1)
