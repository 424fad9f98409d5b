-- How large the atom of a cell is.
use Rattle.std.proofs.Common.{◌≡◌, ℕ, ◌+◌, max}
use Rattle.tht_tree.specs.declared.assn.Assn.TheVariants as a
use Rattle.tht_tree.specs.declared.term.Term.{Term}
use Rattle.tht_tree.specs.Rules.Sizes.{nodes, levels, assn_nodes, assn_nodes_at, assn_levels, assn_levels_at}
use Rattle.assn_laws.proofs.AssnLevels.{at-Own}

pub own_nodes : (t u : Term) → assn_nodes (a.Own t u) ≡ nodes t + nodes u + 1
own_nodes t u = at-Own ℕ assn_nodes_at t u

pub own_levels : (t u : Term) → assn_levels (a.Own t u) ≡ max (levels t) (levels u) + 1
own_levels t u = at-Own ℕ assn_levels_at t u
