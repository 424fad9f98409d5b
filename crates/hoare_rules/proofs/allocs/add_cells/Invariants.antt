use Rattle.std.proofs.Common.{◌≡◌, ◌+◌, ◌^◌, ◌<◌, ◌≤◌, length, drop}
use Rattle.tht_tree.specs.Rules.Context.{context_of, context_nodes}
use Rattle.tht_logic.specs.Flatten.{with_atoms}
use Rattle.tht_logic.specs.Rules.Commands.{new_cells}
use Rattle.hoare_rules.specs.Steps.{all_nodes}
use Rattle.hoare_rules.proofs.allocs.add_cells.Given as goal

abbrev pub invariant-loop-index : goal.invariant-loop-index
invariant-loop-index l = record {
  made : with_atoms (new_cells l.name 0 l.values) (context_of l.initial.known.state) ≡ with_atoms (new_cells l.name l.index (drop l.index l.values)) (context_of l.known.state);
  room : context_nodes (context_of l.known.state) + all_nodes (new_cells l.name l.index (drop l.index l.values)) ≤ 262144;
  numbers : l.known.state.made + length (drop l.index l.values) < 2 ^ 32;
}
