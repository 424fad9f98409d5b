-- The atoms that a give has consumed, and those that are left.
use Rattle.std.specs.Prelude.{◌≡◌, ℕ, ◌+◌, ◌-◌, ◌<◌, ◌^◌, min, false, Some, List, [], ◌∷◌, Result, Ok, Err, sum_by}
use Rattle.std.specs.List.{list_any}
use Rattle.std.specs.BTreeMap.{is_at}
use Rattle.std.specs.Ordering.{nat_cmp}
use Rattle.tht_tree.specs.declared.assn.Assn.{Assn}
use Rattle.tht_tree.specs.Rules.Context.{Context, atom_at, without_atom}
use Rattle.tht_tree.specs.Rules.Sizes.{assn_nodes}
use Rattle.tht_logic.specs.Rules.Checking.{Checked}
use Rattle.tht_logic.specs.Rules.Gives.{Atoms}
use Rattle.pure_proofs.specs.declared.refusal.Refusal.{Refusal}
use Rattle.heap_rules.specs.declared.consumed.Consumed.{Consumed}
use Rattle.heap_rules.specs.Changes.{less_older}
use Rattle.heap_rules.specs.Following.{Refuses}

-- the atoms without those of these numbers
abbrev pub without_each : List ℕ → Atoms → Atoms
without_each [] atoms = atoms
without_each (i ∷ is) atoms = without_each is (without_atom i atoms)

-- the atoms that are left
unfoldable pub left_of : Consumed → Atoms → Atoms
left_of s atoms = without_each s.numbers.keys atoms

-- no atom of this number was consumed
abbrev pub IsNew : ℕ → Consumed → Type 0
IsNew i s = list_any (is_at (nat_cmp i)) s.numbers.keys ≡ false

abbrev pub atoms_nodes : Atoms → ℕ
atoms_nodes atoms = sum_by (λ a. assn_nodes a.1) atoms

-- the nodes of those that were consumed are counted
unfoldable pub IsCounted : Consumed → Atoms → Type 0
IsCounted s atoms = atoms_nodes (left_of s atoms) + s.nodes ≡ atoms_nodes atoms

-- the atom that is left with this number has so many nodes, as far as they are counted, and all have not too many to be counted
pub record IsNext (i k : ℕ) (s : Consumed) (atoms : Atoms) : Type 0 where
  pub atom : Assn
  pub at : atom_at i (left_of s atoms) ≡ Some atom
  pub size : k ≡ min (assn_nodes atom) (2 ^ 64 - 1)
  pub range : atoms_nodes atoms < 2 ^ 64

-- what is known without the atoms of these numbers, as far as they are among the first n
abbrev pub less_each : ℕ → List ℕ → Context → Context
less_each n [] c = c
less_each n (i ∷ is) c = less_each n is (less_older n i c)

-- what is known without those that were consumed, as far as they are among the first n
unfoldable pub older_left_in : ℕ → Consumed → Context → Context
older_left_in n s c = less_each n s.numbers.keys c

-- what the rules leave is left, or they refuse
abbrev pub Leaves : {A : Type 0} → Result A Refusal → Checked Atoms → Atoms → Type 0
Leaves (Ok x) said left = said ≡ Ok left
Leaves (Err e) said left = Refuses e said

-- the same where what was consumed is told
abbrev pub Consumes : Result Consumed Refusal → Checked Atoms → Atoms → Type 0
Consumes (Ok s) said atoms = said ≡ Ok (left_of s atoms)
Consumes (Err e) said atoms = Refuses e said
