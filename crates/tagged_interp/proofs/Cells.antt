-- The cells of a Lab, and the heap of the machine.
use Rattle.std.proofs.Common.{◌≡◌, ◌≢◌, ℕ, zero, suc, ◌==◌, ◌&&◌, cond, false, List, [], ◌∷◌, ◌++◌, map, length, slice_get, slice_set, Option, Some, None, option_map, refl, sym, ◌∙◌, ap, subst, inl, inr, arith, append-nil, append_assoc}
use Rattle.std.proofs.lemmas.Bool.Decides.{eqb_tells}
use Rattle.std.proofs.lemmas.List.{length_push}
use Rattle.tht_tree.specs.declared.plain.Place.{Place}
use Rattle.tht_tree.specs.declared.plain.Place.TheVariants.{Null, Root, Cell}
use Rattle.tht_tree.specs.declared.plain.Value.{Value}
use Rattle.tht_tree.specs.Heaps.{Heap, own, with_at}
use Rattle.tht_logic.specs.Machine.{Mem, put, laid}
use Rattle.tagged_interp.specs.Labs.{flattened, held, index_of, heap_of}

-- ---- a list with another item at an index, or one more

get_set_same : {A : Type 0} (xs : List A) (i : ℕ) (x c : A) → slice_get xs i ≡ Some x → slice_get (slice_set xs i c) i ≡ Some c
get_set_same [] i x c e = cc
get_set_same (y ∷ ys) zero x c e = refl
get_set_same (y ∷ ys) (suc i) x c e = get_set_same ys i x c e

get_set_other : {A : Type 0} (xs : List A) (i j : ℕ) (c : A) → i ≢ j → slice_get (slice_set xs i c) j ≡ slice_get xs j
get_set_other [] i j c e = refl
get_set_other (y ∷ ys) zero zero c e = absurd (e refl)
get_set_other (y ∷ ys) zero (suc j) c e = refl
get_set_other (y ∷ ys) (suc i) zero c e = refl
get_set_other (y ∷ ys) (suc i) (suc j) c e = get_set_other ys i j c (λ h. e (ap suc h))

get_push_same : {A : Type 0} (xs : List A) (c : A) → slice_get (xs ++ c ∷ []) (length xs) ≡ Some c
get_push_same [] c = refl
get_push_same (x ∷ xs) c = get_push_same xs c

get_push_other : {A : Type 0} (xs : List A) (j : ℕ) (c : A) → length xs ≢ j → slice_get (xs ++ c ∷ []) j ≡ slice_get xs j
get_push_other [] zero c e = absurd (e refl)
get_push_other [] (suc j) c e = refl
get_push_other (x ∷ xs) zero c e = refl
get_push_other (x ∷ xs) (suc j) c e = get_push_other xs j c (λ h. e (ap suc h))

-- ---- the heap

-- the heap is that of the cells
abbrev pub IsHeapOf : List (Option Value) → Heap → Type 0
IsHeapOf cells h = (p : Place) → h p ≡ heap_of cells p

-- only branch 0 has cells
pub no_other : (a : ℕ) → (0 == suc a) ≡ false
no_other a = elim (eqb_tells 0 (suc a)) [ inl t ↦ let e = t.1 in absurd (omega arith) | inr t ↦ t.0 ]

module _ (cells new : List (Option Value)) (h : Heap) (i : ℕ) (c : Option Value) where
  -- a changed heap and changed cells, whose item with this index is this, and whose others are as they were
  changed : IsHeapOf cells h → flattened (slice_get new i) ≡ c → ((j : ℕ) → i ≢ j → slice_get new j ≡ slice_get cells j) → IsHeapOf new (with_at h (Cell 0 i) (option_map (own 0) c))
  changed is here others Null = is Null
  changed is here others (Root r) = is (Root r)
  changed is here others (Cell (suc a) j) = ap (λ b. cond (b && (i == j)) (option_map (own 0) c) (h (Cell (suc a) j))) (no_other a) ∙ is (Cell (suc a) j)
  changed is here others (Cell zero j) =
      elim (eqb_tells i j) [
        | inl y ↦ ap (λ b. cond b (option_map (own 0) c) (h (Cell 0 j))) y.0 ∙ ap (option_map (own 0)) (sym here ∙ ap (λ k. flattened (slice_get new k)) y.1)
        | inr y ↦ ap (λ b. cond b (option_map (own 0) c) (h (Cell 0 j))) y.0 ∙ is (Cell 0 j) ∙ ap (λ o. option_map (own 0) (flattened o)) (sym (others j y.1))
      ]

flat_some : (o : Option (Option Value)) (w : Value) → flattened o ≡ Some w → o ≡ Some (Some w)
flat_some None w e = cc
flat_some (Some o) w e = ap Some e

-- a cell that is there holds another value, or is gone
pub heap_set : (cells : List (Option Value)) (h : Heap) (p : Place) (w : Value) (c : Option Value) → IsHeapOf cells h → held cells p ≡ Some w
    → IsHeapOf (slice_set cells (index_of p) c) (with_at h p (option_map (own 0) c))
heap_set cells h (Cell zero i) w c is e =
    changed cells (slice_set cells i c) h i c is (ap flattened (get_set_same cells i (Some w) c (flat_some (slice_get cells i) w e))) (λ j d. get_set_other cells i j c d)
heap_set cells h _ w c is e = absurd (cc)

-- a cell that is read is as it was
pub heap_same : (cells : List (Option Value)) (h : Heap) (p : Place) (w : Value) → IsHeapOf cells h → held cells p ≡ Some w → IsHeapOf cells (with_at h p (Some (own 0 w)))
heap_same cells h (Cell zero i) w is e = changed cells cells h i (Some w) is e (λ j d. refl)
heap_same cells h _ w is e = absurd (cc)

-- a new cell
heap_push : (cells : List (Option Value)) (h : Heap) (w : Value) → IsHeapOf cells h → IsHeapOf (cells ++ Some w ∷ []) (with_at h (Cell 0 (length cells)) (Some (own 0 w)))
heap_push cells h w is = changed cells (cells ++ Some w ∷ []) h (length cells) (Some w) is (ap flattened (get_push_same cells (Some w))) (λ j d. get_push_other cells j (Some w) d)

-- new cells in a row
pub heap_laid : (vs : List Value) (cells : List (Option Value)) (m : Mem) (i : ℕ) → i ≡ length cells → IsHeapOf cells m.heap → IsHeapOf (cells ++ map Some vs) (laid 0 i vs m).heap
heap_laid [] cells m i ends is = subst (λ l. IsHeapOf l m.heap) (sym (append-nil cells)) is
heap_laid (v ∷ vs) cells m i ends is =
    let one = length_push cells (Some v) in
    let here : IsHeapOf (cells ++ Some v ∷ []) (put m (Cell 0 i) (Some (own 0 v))).heap = rw ends (heap_push cells m.heap v is) in
    let P : List (Option Value) → Type 0 = λ l. IsHeapOf l (laid 0 i (v ∷ vs) m).heap in
    subst P (append_assoc cells (Some v ∷ []) (map Some vs)) (heap_laid vs (cells ++ Some v ∷ []) (put m (Cell 0 i) (Some (own 0 v))) (suc i) (omega arith) here)
