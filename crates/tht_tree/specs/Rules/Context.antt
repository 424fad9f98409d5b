-- What the checker knows before a command.
use Rattle.std.specs.Prelude.{ℕ, ◌+◌, ◌^◌, nat_le, nat_lt, Bool, ◌&&◌, sum_by, List, [], Option, Some, None, bytes_eq, if◌then◌else◌}
use Rattle.std.specs.Ordering.{nat_cmp}
use Rattle.std.specs.BTreeMap.{get_by_text, is_at, insert_entry}
use Rattle.std.specs.Map.{lookup, remove_entry}
use Rattle.tht_tree.specs.declared.assn.Assn.{Assn}
use Rattle.tht_tree.specs.declared.state.Local.{Local}
use Rattle.tht_tree.specs.declared.state.Hyp.{Hyp}
use Rattle.tht_tree.specs.declared.state.State.{State}
use Rattle.tht_tree.specs.Rules.Sizes.{nodes, assn_nodes}

-- what each name stands for, where it is a local name in scope
abbrev pub Scope : Type 0
Scope = List ℕ → Option Local

abbrev pub no_locals : Scope
no_locals x = None

abbrev pub with_local : Scope → List ℕ → Local → Scope
with_local scope x l y = if bytes_eq x y then Some l else scope y

-- The local names, the hypotheses, the atoms by ascending numbers, and how many atoms were numbered.
pub record Context : Type 0 where
  pub scope : Scope
  pub hyps : List Hyp
  pub atoms : List (ℕ × Assn)
  pub made : ℕ

-- what a state says
abbrev pub context_of : State → Context
context_of s = record { scope = λ x. get_by_text s.scope x; hyps = s.hyps; atoms = s.atoms.entries; made = s.made }

-- the context before the first command of main
abbrev pub no_context : Context
no_context = record { scope = no_locals; hyps = []; atoms = []; made = 0 }

-- the atom with this number
abbrev pub atom_at : ℕ → List (ℕ × Assn) → Option Assn
atom_at i atoms = lookup (is_at (nat_cmp i)) atoms

-- the other atoms
abbrev pub without_atom : ℕ → List (ℕ × Assn) → List (ℕ × Assn)
without_atom i atoms = remove_entry (is_at (nat_cmp i)) atoms

-- the atoms, where the one with this number is now this
abbrev pub with_atom : ℕ → Assn → List (ℕ × Assn) → List (ℕ × Assn)
with_atom i a atoms = insert_entry nat_cmp atoms i a

-- all nodes of the hypotheses and the atoms
abbrev pub context_nodes : Context → ℕ
context_nodes c = sum_by (λ h. nodes h.formula) c.hyps + sum_by (λ a. assn_nodes a.1) c.atoms

-- one context: at most 262,144 nodes, and at most 2^32 - 1 atoms were numbered
abbrev pub context_fits : Context → Bool
context_fits c = nat_le (context_nodes c) 262144 && nat_lt c.made (2 ^ 32)
