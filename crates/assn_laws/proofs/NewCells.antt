-- Heaps of new cells, next to each other in one arena.
use Rattle.std.proofs.Common.{◌≡◌, ℕ, suc, ◌≤◌, Bool, true, false, cond, arith, List, [], ◌∷◌, Option, Some, refl, ◌∙◌, ap, inl, inr}
use Rattle.tht_tree.specs.declared.plain.Place.TheVariants.{Cell}
use Rattle.tht_tree.specs.declared.plain.Value.{Value}
use Rattle.tht_tree.specs.Values.{same_place}
use Rattle.tht_tree.specs.Heaps.{Heap, Held, own, nothing, Joins, with_at}
use Rattle.tht_logic.specs.Machine.{Mem, put, laid}
use Rattle.tht_logic.proofs.HeapLaws.{Joins-swap, beside_nothing}
use Rattle.tht_logic.proofs.Acts as acts
use Rattle.tht_tree.proofs.Cells.{Joins-new, place_tells}
use Rattle.tht_logic.proofs.Parts.{AllOwn, IsOwnAt}
use Rattle.assn_laws.specs.Allocs.{with_cells, IsFree, AllocsMakeCells}

laid_cells : (m : Mem) (b i : ℕ) (vs : List Value) → (laid b i vs m).heap ≡ with_cells b i vs m.heap
laid_cells m b i [] = refl
laid_cells m b i (v ∷ vs) = laid_cells (put m (Cell b i) (Some (own b v))) b (suc i) vs

-- What the machine makes.
pub allocs_make_cells : AllocsMakeCells
allocs_make_cells m b vs = laid_cells m b (m.made b) vs

index_same : (b i j : ℕ) → Cell b i ≡ Cell b j → i ≡ j
index_same b i j e = cc

not_below : (i j : ℕ) → suc i ≤ j → i ≡ j → ⊥
not_below i j l e = omega (arith, l, e)

-- no cell is behind a new one
pub free_behind : (b i : ℕ) (c : Option Held) (h : Heap) → IsFree b i h → IsFree b (suc i) (with_at h (Cell b i) c)
free_behind b i c h free j l = elim (place_tells (Cell b i) (Cell b j)) [
  | inl e ↦ absurd (not_below i j l (index_same b i j e.1))
  | inr e ↦ ap (λ s. cond s c (h (Cell b j))) e.0 ∙ free j (omega (arith, l))
]

-- the new cells stand beside what was there
pub cells_beside : (b i : ℕ) (vs : List Value) (a y h : Heap) → IsFree b i h → Joins a y h → Joins a (with_cells b i vs y) (with_cells b i vs h)
cells_beside b i [] a y h free j = j
cells_beside b i (v ∷ vs) a y h free j =
    let c : Option Held = Some (own b v) in
    cells_beside b (suc i) vs a (with_at y (Cell b i) c) (with_at h (Cell b i) c) (free_behind b i c h free) (Joins-swap (Joins-new (Joins-swap j) (Cell b i) c (free i (omega arith))))

-- alone, they are all that is new
pub new_beside : (b i : ℕ) (vs : List Value) (h : Heap) → IsFree b i h → Joins (with_cells b i vs nothing) h (with_cells b i vs h)
new_beside b i vs h free = Joins-swap (cells_beside b i vs h nothing h free (beside_nothing h))

-- the first, and those behind it
pub first_beside : (b i : ℕ) (v : Value) (vs : List Value) → Joins (with_at nothing (Cell b i) (Some (own b v))) (with_cells b (suc i) vs nothing) (with_cells b i (v ∷ vs) nothing)
first_beside b i v vs =
    let one : Heap = with_at nothing (Cell b i) (Some (own b v)) in
    cells_beside b (suc i) vs one nothing one (free_behind b i (Some (own b v)) nothing (λ j l. refl)) (beside_nothing one)

-- ---- as the machine's law of `alloc` says it

-- the same heap
pub acted_cells : (b i : ℕ) (vs : List Value) (h : Heap) → acts.with_cells b i vs h ≡ with_cells b i vs h
acted_cells b i [] h = refl
acted_cells b i (v ∷ vs) h = acted_cells b (suc i) vs (with_at h (Cell b i) (Some (own b v)))

own_at : (h : Heap) (b i : ℕ) (v : Value) → AllOwn h → AllOwn (with_at h (Cell b i) (Some (own b v)))
own_at h b i v all q = pick (same_place (Cell b i) q)
  where
    pick : (s : Bool) → IsOwnAt (cond s (Some (own b v)) (h q))
    pick true = tt
    pick false = all q

-- of private cells alone, where it was
pub own_cells : (b i : ℕ) (vs : List Value) (h : Heap) → AllOwn h → AllOwn (with_cells b i vs h)
own_cells b i [] h all = all
own_cells b i (v ∷ vs) h all = own_cells b (suc i) vs (with_at h (Cell b i) (Some (own b v))) (own_at h b i v all)
