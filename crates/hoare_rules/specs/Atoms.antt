-- The cell of an atom.
use Rattle.std.specs.Prelude.{◌≡◌, Option, Some, Result, Ok, Err}
use Rattle.tht_tree.specs.declared.plain.Spot.{Spot}
use Rattle.tht_tree.specs.declared.term.Term.{Term}
use Rattle.tht_tree.specs.declared.assn.Assn.{Assn}
use Rattle.tht_tree.specs.declared.assn.Assn.TheVariants as a
use Rattle.tht_tree.specs.Rules.Context.{Context}
use Rattle.tht_logic.specs.Rules.Checking.{Checked}
use Rattle.tht_logic.specs.Rules.Commands.{on_cell}
use Rattle.pure_proofs.specs.declared.refusal.Refusal.{Refusal}
use Rattle.pure_proofs.specs.declared.refusal.Refusal.TheVariants.{Rule, Memory}
use Rattle.hoare_rules.specs.declared.atoms.Cell.{Cell}

-- whatever goes on with the cell is refused so
abbrev pub NoCell : Refusal → Spot → Option Assn → Type 0
NoCell (Rule r) spot o = (go : Term → Term → Checked Context) → on_cell spot o go ≡ Err r
NoCell Memory spot o = ⊥

-- the atom is this cell, or what is refused where it is none
abbrev pub FindsCell : Result Cell Refusal → Spot → Option Assn → Type 0
FindsCell (Ok x) spot o = o ≡ Some (a.Own x.place.now x.value.now)
FindsCell (Err e) spot o = NoCell e spot o
