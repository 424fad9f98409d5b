-- `alloc` of many cells: what it makes of a heap, and its law, as statements.
use Rattle.std.specs.Prelude.{◌≡◌, ◌≤◌, ℕ, suc, Bool, true, All, List, [], ◌∷◌, map, Some, None, Ok}
use Rattle.tht_tree.specs.declared.plain.Place.TheVariants.{Cell}
use Rattle.tht_tree.specs.declared.plain.Spot.{Spot}
use Rattle.tht_tree.specs.declared.plain.Value.{Value}
use Rattle.tht_tree.specs.declared.proof.Proof.{Proof}
use Rattle.tht_tree.specs.declared.term.Term.{Term}
use Rattle.tht_tree.specs.Values.{Env, bind, a_place, value_in}
use Rattle.tht_tree.specs.Syntax.{Names}
use Rattle.tht_tree.specs.Terms.{value}
use Rattle.tht_tree.specs.Heaps.{Heap, own, with_at}
use Rattle.tht_logic.specs.Machine.{Mem, alloc_cells}
use Rattle.tht_tree.specs.Rules.Context.{Scope, Context}
use Rattle.tht_tree.specs.Rules.Scoping.{is_storable_sort, sort_of}
use Rattle.tht_logic.specs.Satisfaction.{Meaning}
use Rattle.tht_logic.specs.Rules.Definitions.{Declarations}
use Rattle.tht_logic.specs.Rules.Commands.{after_alloc}
use Rattle.tht_logic.specs.Rules.Scoped.{Signatures}
use Rattle.tht_logic.specs.Rules.Scoped as scoped
use Rattle.assn_laws.specs.Laws.{IsModel, AreTyped}

-- the heap with these values in cells of branch b, next to each other in its arena, from index i on
abbrev pub with_cells : ℕ → ℕ → List Value → Heap → Heap
with_cells b i [] h = h
with_cells b i (v ∷ vs) h = with_cells b (suc i) vs (with_at h (Cell b i) (Some (own b v)))

-- there is no cell of branch b from index i on
abbrev pub IsFree : ℕ → ℕ → Heap → Type 0
IsFree b i h = (j : ℕ) → i ≤ j → h (Cell b j) ≡ None

-- the machine makes these cells, from the next index of the branch on
abbrev pub AllocsMakeCells : Type 0
AllocsMakeCells = (m : Mem) (b : ℕ) (vs : List Value) → (alloc_cells m b vs).heap ≡ with_cells b (m.made b) vs m.heap

-- the values of these terms, as a cell holds them
abbrev pub values_in : Names → Env → List Term → List Value
values_in roots env ts = map (λ t. value_in (value roots env t)) ts

module _ (decl : Declarations) (proof : Proof → Scope → Bool) (instance lemma : Signatures) where
  -- What satisfied the old state satisfies, with the new cells, the new one, where x has the place of the first.
  abbrev pub AllocsAreSound : Meaning → Type 0
  AllocsAreSound M =
      AreTyped decl proof instance lemma → (c next : Context) (env : Env) (h : Heap) → IsModel decl proof instance lemma M c env h
      → (spot : Spot) (x : List ℕ) (ts : List Term) → scoped.is_new decl.proofs.roots c.scope x ≡ true
      → All (λ t. is_storable_sort (sort_of decl.proofs.roots c.scope t) ≡ true) ts → after_alloc spot c x ts ≡ Ok next
      → (b i : ℕ) → IsFree b i h → IsModel decl proof instance lemma M next (bind env x (a_place (Cell b i))) (with_cells b i (values_in decl.proofs.roots env ts) h)
