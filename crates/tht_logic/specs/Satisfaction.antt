-- Which heaps an assertion holds of, and which the checker's state.
use Rattle.std.specs.Prelude.{◌≡◌, ◌≢◌, ◌⊎◌, ℕ, true, List, [], ◌∷◌, map}
use Rattle.tht_tree.specs.declared.plain.Place.{Place}
use Rattle.tht_tree.specs.declared.plain.Place.TheVariants.{Null}
use Rattle.tht_tree.specs.declared.plain.Value.{Value}
use Rattle.tht_tree.specs.declared.assn.Assn.{Assn}
use Rattle.tht_tree.specs.Values.{Val, is, Env, a_bool, a_place, has_sort_val}
use Rattle.tht_tree.specs.Syntax.{Names}
use Rattle.tht_tree.specs.Terms.{value_of}
use Rattle.tht_tree.specs.Heaps.{Heap, Joins, IsEmpty, IsCell}
use Rattle.tht_tree.specs.Heaps as heap
use Rattle.tht_tree.specs.Satisfaction.{HasSorts, HypsHold}
use Rattle.tht_tree.specs.Rules.Context.{Context}
use Rattle.tht_logic.specs.Assertions.{Asn, emp, fact, own, shared, star, inst, exist, either, asn}

-- an interpretation of the predicates: of which heaps the one with this name holds, with these arguments
abbrev pub Meaning : Type 1
Meaning = List ℕ → List Val → Heap → Type 0

-- The assertion holds of the heap, where predicates mean this, and free names and bound variables have these values. A private
-- cell may be any branch's own.
abbrev pub Satisfies : Meaning → Env → List Val → Asn → Heap → Type 0
Satisfies M env vs emp h = IsEmpty h
Satisfies M env vs (fact t) h = IsEmpty h × (value_of env vs t ≡ a_bool true)
Satisfies M env vs (own t u) h =
    (b : ℕ) × (p : Place) × (w : Value) × (p ≢ Null) × (value_of env vs t ≡ a_place p) × (value_of env vs u ≡ is w) × IsCell h p (heap.own b w)
Satisfies M env vs (shared t u) h =
    (p : Place) × (w : Value) × (p ≢ Null) × (value_of env vs t ≡ a_place p) × (value_of env vs u ≡ is w) × IsCell h p (heap.shared w)
Satisfies M env vs (star p q) h = (x y : Heap) × Joins x y h × Satisfies M env vs p x × Satisfies M env vs q y
Satisfies M env vs (inst p ts) h = M p (map (value_of env vs) ts) h
Satisfies M env vs (exist s p) h = (v : Val) × (has_sort_val s v ≡ true) × Satisfies M env (v ∷ vs) p h
Satisfies M env vs (either p q) h = Satisfies M env vs p h ⊎ Satisfies M env vs q h

-- the heap is a disjoint union of heaps, one for each assertion: their iterated separating conjunction
abbrev pub PartsHold : Meaning → Names → Env → List Assn → Heap → Type 0
PartsHold M roots env [] h = IsEmpty h
PartsHold M roots env (p ∷ ps) h = (x y : Heap) × Joins x y h × Satisfies M env [] (asn roots [] p) x × PartsHold M roots env ps y

-- the same of numbered atoms
abbrev pub AtomsHold : Meaning → Names → Env → List (ℕ × Assn) → Heap → Type 0
AtomsHold M roots env atoms h = PartsHold M roots env (map (λ a. a.1) atoms) h

-- the environment and the heap satisfy what the checker knows
pub record SatisfiesState (M : Meaning) (roots : Names) (env : Env) (known : Context) (h : Heap) : Type 0 where
  pub sorts : HasSorts env known.scope
  pub hyps : HypsHold roots env known.hyps
  pub atoms : AtomsHold M roots env known.atoms h
