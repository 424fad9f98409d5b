-- Atoms of some numbers, found one after the other.
use Rattle.std.specs.Prelude.{ℕ, List, [], ◌∷◌, Option, Some, None}
use Rattle.tht_tree.specs.declared.assn.Assn.{Assn}
use Rattle.tht_tree.specs.Rules.Context.{atom_at, without_atom, with_atom}
use Rattle.tht_logic.specs.Rules.Gives.{Atoms}

-- with the atom that was found, if there is one
abbrev pub with_found : ℕ → Option Assn → Atoms → Atoms
with_found i None es = es
with_found i (Some p) es = with_atom i p es

-- with those of these numbers that are there
abbrev pub gathered : List ℕ → Atoms → Atoms → Atoms
gathered [] atoms es = es
gathered (i ∷ ns) atoms es = gathered ns atoms (with_found i (atom_at i atoms) es)

-- without those of these numbers
abbrev pub left_of : List ℕ → Atoms → Atoms
left_of [] es = es
left_of (i ∷ ns) es = left_of ns (without_atom i es)
