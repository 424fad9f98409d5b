-- What is known after a change of it; and what is found in it.
use Rattle.std.specs.Prelude.{◌≡◌, ℕ, ◌+◌, ◌≤◌, nat_le, List, [], ◌∷◌, Result, Ok, Err, if◌then◌else◌}
use Rattle.std.specs.Borrow.{Bor}
use Rattle.tht_tree.specs.declared.assn.Assn.{Assn}
use Rattle.tht_tree.specs.declared.state.Local.{Local}
use Rattle.tht_tree.specs.Rules.Context.{Context, with_local, without_atom, with_atom}
use Rattle.tht_logic.specs.Rules.Checking.{Checked}
use Rattle.pure_proofs.specs.declared.refusal.Refusal.{Refusal}
use Rattle.heap_rules.specs.Following.{Refuses}

-- without an atom
abbrev pub less : ℕ → Context → Context
less i c = record c { atoms = without_atom i c.atoms }

-- without an atom, if that is one of the first n
abbrev pub less_older : ℕ → ℕ → Context → Context
less_older n i c = if nat_le i n then less i c else c

-- the first n atoms alone
abbrev pub upto : ℕ → List (ℕ × Assn) → List (ℕ × Assn)
upto n [] = []
upto n (a ∷ atoms) = if nat_le a.0 n then a ∷ upto n atoms else upto n atoms

abbrev pub older : ℕ → Context → Context
older n c = record c { atoms = upto n c.atoms; made = n }

-- what was known before is known still, with no atom of a new number
pub record KeepsOlder (before now : Context) : Type 0 where
  pub made : before.made ≤ now.made
  pub same : (n : ℕ) → n ≤ before.made → older n now ≡ older n before

-- with this atom under its number
abbrev pub changed : ℕ → Assn → Context → Context
changed i p c = record c { atoms = with_atom i p c.atoms }

-- with this atom under the next number
abbrev pub more : Assn → Context → Context
more p c = record c { atoms = with_atom (c.made + 1) p c.atoms; made = c.made + 1 }

-- with a local name
abbrev pub named : List ℕ → Local → Context → Context
named x l c = record c { scope = with_local c.scope x l }

-- what the rules find is found, or they refuse
abbrev pub Finds : {A : Type 0} → Result (Bor A) Refusal → Checked A → Type 0
Finds (Ok x) said = said ≡ Ok x.now
Finds (Err e) said = Refuses e said
