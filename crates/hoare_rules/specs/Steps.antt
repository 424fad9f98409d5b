-- What is known after each statement that is not refused, and the rules of statements once their cell is named.
use Rattle.std.specs.Prelude.{ℕ, ◌+◌, List, [], ◌∷◌}
use Rattle.tht_tree.specs.declared.plain.Spot.{Spot}
use Rattle.tht_tree.specs.declared.plain.Sort.{Sort}
use Rattle.tht_tree.specs.declared.plain.Sort.TheVariants as sort
use Rattle.tht_tree.specs.declared.term.Term.{Term}
use Rattle.tht_tree.specs.declared.term.Term.TheVariants as term
use Rattle.tht_tree.specs.declared.assn.Assn.{Assn}
use Rattle.tht_tree.specs.declared.assn.Assn.TheVariants as a
use Rattle.tht_tree.specs.declared.rule.RuleCode.TheVariants.{R10}
use Rattle.tht_tree.specs.declared.state.Local.TheVariants.{Variable}
use Rattle.tht_tree.specs.Rules.Sizes.{assn_nodes, formula_fits, assn_fits}
use Rattle.tht_tree.specs.Rules.Context.{with_local, Context, atom_at, without_atom, with_atom}
use Rattle.tht_tree.specs.Rules.Refusals.{needs}
use Rattle.tht_tree.specs.Rules.Known.{with_hyp}
use Rattle.tht_logic.specs.Flatten.{with_atoms}
use Rattle.tht_logic.specs.Rules.Checking.{Checked, unless_refused, if_fits}
use Rattle.tht_logic.specs.Rules.Commands.{on_cell, place_behind, new_cells}

-- ---- what is known after each statement that is not refused

abbrev pub read_context : Context → List ℕ → Sort → List ℕ → Term → Context
read_context c x r h value = with_hyp (record c { scope = with_local c.scope x (Variable r) }) h (term.Eq (term.Var x) value)

abbrev pub write_context : Context → ℕ → Term → Term → Context
write_context c i place u = record c { atoms = with_atom i (a.Own place u) c.atoms }

abbrev pub free_context : Context → ℕ → Context
free_context c i = record c { atoms = without_atom i c.atoms }

-- with the name of a new place
abbrev pub with_place : Context → List ℕ → Context
with_place c x = record c { scope = with_local c.scope x (Variable sort.Loc) }

-- with an atom more, under the next number
abbrev pub with_next : Assn → Context → Context
with_next p c = record c { atoms = with_atom (c.made + 1) p c.atoms; made = c.made + 1 }

abbrev pub alloc_context : Context → List ℕ → List Term → Context
alloc_context c x ts = with_atoms (new_cells x 0 ts) (with_place c x)

-- ---- new cells

-- one of them, so many behind the first
abbrev pub new_cell : List ℕ → ℕ → Term → Assn
new_cell x k t = a.Own (place_behind x k) t

-- the nodes of these atoms
abbrev pub all_nodes : List Assn → ℕ
all_nodes [] = 0
all_nodes (p ∷ ps) = assn_nodes p + all_nodes ps

-- ---- the rules behind the name of a cell

abbrev pub learnt : Spot → Context → ℕ → List ℕ → Sort → List ℕ → Checked Context
learnt spot c i x r h = on_cell spot (atom_at i c.atoms) (λ place value.
    unless_refused (needs spot R10 (formula_fits (term.Eq (term.Var x) value))) (if_fits spot (read_context c x r h value)))

abbrev pub written : Spot → Context → ℕ → Term → Checked Context
written spot c i u = on_cell spot (atom_at i c.atoms) (λ place value. unless_refused (needs spot R10 (assn_fits (a.Own place u))) (if_fits spot (write_context c i place u)))

abbrev pub freed : Spot → Context → ℕ → Checked Context
freed spot c i = on_cell spot (atom_at i c.atoms) (λ place value. if_fits spot (free_context c i))
