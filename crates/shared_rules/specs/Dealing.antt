-- What is answered where atoms are dealt: what the rules say, unless memory was wanting.
use Rattle.std.specs.Prelude.{◌≡◌, ℕ, Some, None, Result, Ok, Err, ⊤}
use Rattle.std.specs.BTreeMap.{BTreeMap}
use Rattle.tht_tree.specs.declared.assn.Assn.{Assn}
use Rattle.tht_tree.specs.declared.plain.Spot.{Spot}
use Rattle.tht_tree.specs.declared.rule.RuleCode.TheVariants.{R1}
use Rattle.tht_tree.specs.declared.state.State.{State}
use Rattle.tht_tree.specs.Rules.Context.{Context, context_of, atom_at, without_atom, with_atom}
use Rattle.tht_logic.specs.Rules.Checking.{Checked}
use Rattle.tht_logic.specs.Rules.Calls.{Dealt}
use Rattle.tht_logic.specs.Rules.Gives.{Atoms}
use Rattle.pure_proofs.specs.declared.refusal.Refusal.{Refusal}
use Rattle.pure_proofs.specs.declared.refusal.Refusal.TheVariants.{Rule, Memory}

-- refused as the rules refuse, or want of memory
abbrev pub Refuses : {A : Type 0} → Refusal → Checked A → Type 0
Refuses (Rule r) said = said ≡ Err r
Refuses Memory said = ⊤

-- the atoms of the state that is made are those that are given, and those of what is known then are the frame; or the rules refuse it
abbrev pub Deals : Result State Refusal → Checked Dealt → Context → Type 0
Deals (Ok s) said now = said ≡ Ok (record { given = (context_of s).atoms; frame = now.atoms })
Deals (Err e) said now = Refuses e said

-- these are the atoms that are given, and those the frame; or the rules refuse it
abbrev pub Moves : Result (BTreeMap ℕ Assn) Refusal → Checked Dealt → Atoms → Type 0
Moves (Ok m) said frame = said ≡ Ok (record { given = m.entries; frame = frame })
Moves (Err e) said frame = Refuses e said

-- one atom is moved from those that are there to those that are given, or is not there
pub record IsMoved (i : ℕ) (atoms given left then : Atoms) : Type 0 where
  pub atom : Assn
  pub there : atom_at i atoms ≡ Some atom
  pub taken : left ≡ without_atom i atoms
  pub added : then ≡ with_atom i atom given

abbrev pub NotThere : Refusal → Spot → ℕ → Atoms → Type 0
NotThere (Rule r) spot i atoms = (record { spot = spot; code = R1 } ≡ r) × (atom_at i atoms ≡ None)
NotThere Memory spot i atoms = ⊤

abbrev pub MovesOne : {A : Type 0} → Result A Refusal → Spot → ℕ → Atoms → Atoms → Atoms → Atoms → Type 0
MovesOne (Ok x) spot i atoms given left then = IsMoved i atoms given left then
MovesOne (Err e) spot i atoms given left then = NotThere e spot i atoms
