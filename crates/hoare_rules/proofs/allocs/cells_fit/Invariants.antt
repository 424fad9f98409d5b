use Rattle.std.proofs.Common.{◌≡◌, ℕ, List, drop}
use Rattle.std.specs.List.{list_all}
use Rattle.tht_tree.specs.Rules.Sizes.{assn_fits}
use Rattle.tht_logic.specs.Rules.Commands.{new_cells}
use Rattle.hoare_rules.proofs.allocs.cells_fit.Given as goal

abbrev pub invariant-loop-index : goal.invariant-loop-index
invariant-loop-index l = (x : List ℕ) → list_all assn_fits (new_cells x 0 l.values) ≡ list_all assn_fits (new_cells x l.index (drop l.index l.values))
