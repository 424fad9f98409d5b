-- How large the atom of a cell is.
use Rattle.std.proofs.Common.{◌≡◌, ◌≢◌, ℕ, zero, suc, ◌+◌, max, List, refl, sym, ◌∙◌, ap, arith}
use Rattle.tht_tree.specs.declared.assn.Assn.TheVariants as a
use Rattle.tht_tree.specs.declared.term.Term.{Term}
use Rattle.tht_tree.specs.declared.term.Term.TheVariants.{Var, Offset}
use Rattle.tht_tree.specs.Rules.Sizes.{nodes, nodes_at, levels, levels_at, assn_nodes, assn_nodes_at, assn_levels, assn_levels_at}
use Rattle.tht_tree.proofs.TermFolds.{at-Var, at-Offset}
use Rattle.tht_logic.specs.Rules.Commands.{place_behind}
use Rattle.assn_laws.proofs.AssnLevels.{at-Own}

pub own_nodes : (t u : Term) → assn_nodes (a.Own t u) ≡ nodes t + nodes u + 1
own_nodes t u = at-Own ℕ assn_nodes_at t u

pub own_levels : (t u : Term) → assn_levels (a.Own t u) ≡ max (levels t) (levels u) + 1
own_levels t u = at-Own ℕ assn_levels_at t u

-- ---- the places of new cells

var_nodes : (x : List ℕ) → nodes (Var x) ≡ 1
var_nodes x = at-Var ℕ nodes_at x

var_levels : (x : List ℕ) → levels (Var x) ≡ 1
var_levels x = at-Var ℕ levels_at x

pub first_nodes : (x : List ℕ) (k : ℕ) → k ≡ 0 → 1 ≡ nodes (place_behind x k)
first_nodes x k e = sym (ap (λ i. nodes (place_behind x i)) e ∙ var_nodes x)

pub first_levels : (x : List ℕ) (k : ℕ) → k ≡ 0 → 1 ≡ levels (place_behind x k)
first_levels x k e = sym (ap (λ i. levels (place_behind x i)) e ∙ var_levels x)

pub later_nodes : (x : List ℕ) (k : ℕ) → k ≢ 0 → 2 ≡ nodes (place_behind x k)
later_nodes x zero n = absurd (n refl)
later_nodes x (suc k) n =
    let e : nodes (Offset (Var x) (suc k)) ≡ nodes (Var x) + 1 = at-Offset ℕ nodes_at (Var x) (suc k) in
    let f = var_nodes x in
    omega (arith, e, f)

pub later_levels : (x : List ℕ) (k : ℕ) → k ≢ 0 → 2 ≡ levels (place_behind x k)
later_levels x zero n = absurd (n refl)
later_levels x (suc k) n =
    let e : levels (Offset (Var x) (suc k)) ≡ levels (Var x) + 1 = at-Offset ℕ levels_at (Var x) (suc k) in
    let f = var_levels x in
    omega (arith, e, f)
