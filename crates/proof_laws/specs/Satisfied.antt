-- Which environments and heaps satisfy what a proof may use.
use Rattle.std.specs.Prelude.{◌≡◌, ◌≢◌, ℕ, true, List, [], ◌∷◌, Option, Some, None}
use Rattle.tht_tree.specs.declared.plain.Sort.{Sort}
use Rattle.tht_tree.specs.declared.plain.Sort.TheVariants as sort
use Rattle.tht_tree.specs.declared.plain.Place.{Place}
use Rattle.tht_tree.specs.declared.plain.Place.TheVariants.{Null}
use Rattle.tht_tree.specs.declared.term.Term.{Term}
use Rattle.tht_tree.specs.declared.assn.Assn.{Assn}
use Rattle.tht_tree.specs.declared.proof.Proof.{Proof}
use Rattle.tht_tree.specs.Values.{Env, a_bool, a_place}
use Rattle.tht_tree.specs.Syntax.{Names, position}
use Rattle.tht_tree.specs.Satisfaction.{HasSorts, HypsHold}
use Rattle.tht_tree.specs.declared.state.Local.TheVariants.{Variable}
use Rattle.tht_tree.specs.Heaps.{Heap, Held, Joins}
use Rattle.tht_tree.specs.Rules.Context.{Context, Scope}
use Rattle.tht_tree.specs.Rules.Scoping.{sort_of}
use Rattle.tht_tree.specs.Terms.{value}
use Rattle.tht_tree.specs.Rules.Known.{Declared, cell_place}
use Rattle.proof_laws.specs.Scoped.{Signatures, is_scoped}
use Rattle.tht_tree.specs.Rules.Proofs.{prove}

-- the formula is true
abbrev pub IsTrueIn : Names → Env → Term → Type 0
IsTrueIn roots env u = value roots env u ≡ a_bool true

-- no variable in scope has the name of a root
abbrev pub HaveOtherNames : Names → Scope → Type 0
HaveOtherNames roots scope = (x : List ℕ) (s : Sort) → scope x ≡ Some (Variable s) → position 0 roots x ≡ None

-- The heap has something at the place of a cell, which is not null; of an atom that is no cell nothing is said.
abbrev pub HasCell : Names → Env → Option Term → Heap → Type 0
HasCell roots env None h = Unit {0}
HasCell roots env (Some t) h = (p : Place) × (c : Held) × (p ≢ Null) × (value roots env t ≡ a_place p) × (h p ≡ Some c)

-- the heap is a disjoint union of heaps, one for each atom and one that is left, and each cell is in the heap of its atom
abbrev pub HasCells : Names → Env → List (ℕ × Assn) → Heap → Type 0
HasCells roots env [] h = Unit {0}
HasCells roots env (a ∷ rest) h = (x y : Heap) × Joins x y h × HasCell roots env (cell_place a.1) x × HasCells roots env rest y

-- the environment and the heap satisfy what is known
pub record Satisfies (roots : Names) (env : Env) (c : Context) (h : Heap) : Type 0 where
  pub sorts : HasSorts env c.scope
  pub names : HaveOtherNames roots c.scope
  pub hyps : HypsHold roots env c.hyps
  pub cells : HasCells roots env c.atoms h

-- The lemmas are true: with arguments that fit, what a lemma wants is a formula, and where that is true, so is what it gives.
pub record LemmasHold (known : Declared) (fits : Signatures) (env : Env) : Type 0 where
  pub sorted : (scope : Scope) (l : List ℕ) (ts : List Term) (t u : Term) → fits scope l ts ≡ true → known.lemmas l ts ≡ Some (t, u) → sort_of known.roots scope t ≡ Some sort.Bool
  pub holds : (scope : Scope) (l : List ℕ) (ts : List Term) (t u : Term) → HasSorts env scope → HaveOtherNames known.roots scope → fits scope l ts ≡ true → known.lemmas l ts ≡ Some (t, u) →
      IsTrueIn known.roots env t → IsTrueIn known.roots env u

-- The law: what is proved is true, wherever what is known is satisfied. Names and sorts are in order, and the lemmas are true.
abbrev pub ProofsAreSound : Type 0
ProofsAreSound =
    (known : Declared) (fits : Signatures) (env : Env) (h : Heap) → LemmasHold known fits env →
    (q : Proof) (c : Context) → Satisfies known.roots env c h → is_scoped known.roots fits q c.scope ≡ true →
    (goal : Term) → sort_of known.roots c.scope goal ≡ Some sort.Bool →
    prove known q c goal ≡ None → IsTrueIn known.roots env goal
