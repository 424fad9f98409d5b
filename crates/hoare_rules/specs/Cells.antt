-- The cell that a command names, and what is refused of it; and what the rules answer.
use Rattle.std.specs.Prelude.{◌≡◌, true, [], Option, Some, None, Result, Ok, Err, ⊤}
use Rattle.tht_tree.specs.declared.plain.Spot.{Spot}
use Rattle.tht_tree.specs.declared.plain.Sort.{Sort}
use Rattle.tht_tree.specs.declared.term.Term.{Term}
use Rattle.tht_tree.specs.declared.term.Term.TheVariants as term
use Rattle.tht_tree.specs.declared.assn.Assn.TheVariants as a
use Rattle.tht_tree.specs.declared.rule.RuleCode.TheVariants.{R2}
use Rattle.tht_tree.specs.declared.rule.RuleRefusal.{RuleRefusal}
use Rattle.tht_tree.specs.declared.state.State.{State}
use Rattle.tht_tree.specs.Rules.Sizes.{formula_fits}
use Rattle.tht_tree.specs.Rules.Context.{Context, Scope, context_of, atom_at}
use Rattle.tht_tree.specs.Rules.Scoping.{is_of, sort_of}
use Rattle.tht_tree.specs.Rules.Refusals.{needs, ◌▸◌}
use Rattle.tht_tree.specs.Rules.Known.{Declared}
use Rattle.tht_logic.specs.Rules.Checking.{Checked}
use Rattle.tht_logic.specs.Rules.Commands.{on_cell, needs_place}
use Rattle.heap_rules.specs.Following.{Refuses}
use Rattle.pure_proofs.specs.declared.refusal.Refusal.{Refusal}
use Rattle.pure_proofs.specs.declared.refusal.Refusal.TheVariants.{Rule, Memory}
use Rattle.pure_proofs.specs.Verdicts.{without_lemmas}
use Rattle.hoare_rules.specs.declared.cells.NamedCell.{NamedCell}

-- what is declared where no declaration stands
abbrev pub undeclared : Declared
undeclared = without_lemmas []

-- ---- answers

-- what is known then is what the rules say, or they refuse
abbrev pub Says : {A : Type 0} → Result A Refusal → Checked Context → Context → Type 0
Says (Ok x) said now = said ≡ Ok now
Says (Err e) said now = Refuses e said

-- a state with what is known then, or they refuse
abbrev pub MakesState : Result State Refusal → Checked Context → Type 0
MakesState (Ok s) said = said ≡ Ok (context_of s)
MakesState (Err e) said = Refuses e said

-- ---- cells

-- R2: the value has another sort than wanted
abbrev pub value_refused : Spot → Scope → Option Sort → Term → Option RuleRefusal
value_refused spot scope None value = None
value_refused spot scope (Some r) value = needs spot R2 (is_of r (sort_of [] scope value))

-- what is refused of a cell with this place and value, where a command names it so, and this sort may be wanted
abbrev pub cell_refused : NamedCell → Option Sort → Context → Term → Term → Option RuleRefusal
cell_refused n wanted c place value = value_refused n.spot c.scope wanted value ▸ needs_place undeclared n.spot c n.proof.now n.place.now place

-- whatever goes on with the cell, and refuses what is refused of the cell, answers this refusal
abbrev pub StopsWith : NamedCell → Option Sort → Context → RuleRefusal → Type 0
StopsWith n wanted c r =
    (go : Term → Term → Checked Context)
    → ((place value : Term) (q : RuleRefusal) → cell_refused n wanted c place value ≡ Some q → go place value ≡ Err q)
    → on_cell n.spot (atom_at n.number c.atoms) go ≡ Err r

abbrev pub Stops : Refusal → NamedCell → Option Sort → Context → Type 0
Stops (Rule r) n wanted c = StopsWith n wanted c r
Stops Memory n wanted c = ⊤

-- the cell is there, and nothing is refused of it
pub record IsNamed (n : NamedCell) (wanted : Option Sort) (c : Context) : Type 0 where
  pub place : Term
  pub value : Term
  pub at : atom_at n.number c.atoms ≡ Some (a.Own place value)
  pub accepted : cell_refused n wanted c place value ≡ None

-- the command names a cell, or the rules refuse it
abbrev pub Agrees : {A : Type 0} → Result A Refusal → NamedCell → Option Sort → Context → Type 0
Agrees (Ok x) n wanted c = IsNamed n wanted c
Agrees (Err e) n wanted c = Stops e n wanted c

-- this is the goal that the command's place is that of its cell, whose value has the sort that is wanted
pub record IsGoal (goal : Term) (n : NamedCell) (wanted : Option Sort) (c : Context) : Type 0 where
  pub place : Term
  pub value : Term
  pub at : atom_at n.number c.atoms ≡ Some (a.Own place value)
  pub sorted : value_refused n.spot c.scope wanted value ≡ None
  pub fits : formula_fits (term.Eq n.place.now place) ≡ true
  pub is : goal ≡ term.Eq n.place.now place

abbrev pub MakesGoal : Result Term Refusal → NamedCell → Option Sort → Context → Type 0
MakesGoal (Ok goal) n wanted c = IsGoal goal n wanted c
MakesGoal (Err e) n wanted c = Stops e n wanted c
