-- What plain statements do to the cells that they name.
use Rattle.std.proofs.Common.{◌≡◌, ℕ, suc, ◌≤◌, cond, Bool, true, List, [], ◌∷◌, refl, sym, ◌∙◌, ap, subst, le_refl, inl, inr, Some, None, Option, arith}
use Rattle.tht_tree.specs.declared.plain.Place.{Place}
use Rattle.tht_tree.specs.declared.plain.Place.TheVariants.{Cell}
use Rattle.tht_tree.specs.declared.plain.Sort.{Sort}
use Rattle.tht_tree.specs.declared.plain.Value.{Value}
use Rattle.tht_tree.specs.declared.plain.Value.TheVariants.{Loc}
use Rattle.tht_tree.specs.Values.{unit_value, has_sort}
use Rattle.tht_tree.specs.Heaps.{Held, Heap, own, held_value, Joins, with_at}
use Rattle.tht_logic.specs.Machine.{Bodies, Prog, Cmd, TermBig, Read, Write, Alloc, Free, Call, and_then, Mem, retag, put, laid, Ran, Next, Wrong, touched, if_may, at, plain_step, is_in}
use Rattle.tht_logic.specs.Soundness.{HasTags, IsMade, IsSafe, Leads}
use Rattle.tht_logic.proofs.HeapLaws.{Joins-within}
use Rattle.tht_tree.proofs.Cells.{Joins-change, Joins-new, place_tells}

-- One plain statement from the heap h beside any other cells: no fault, those cells as they were, and a heap and a rest of
-- which P holds.
pub record Acts (F : Bodies) (above : List ℕ) (b : ℕ) (inside : Bool) (c : Cmd) (rest : Value → Prog) (h : Heap) (P : Prog → Heap → Type 0) : Type 0 where
  pub safe : (f : Heap) (m : Mem) → Joins h f m.heap → HasTags h (b ∷ above) → IsMade m → IsSafe (plain_step F above b inside m c rest)
  pub ends : (f : Heap) (m : Mem) → Joins h f m.heap → HasTags h (b ∷ above) → IsMade m → Leads (plain_step F above b inside m c rest) (λ r. (q : Heap) × Joins q f r.0.heap × P r.1 q)

-- a term that does not fit leads nowhere
pub big_acts : (F : Bodies) (above : List ℕ) (b : ℕ) (inside : Bool) (rest : Value → Prog) (h : Heap) → Acts F above b inside TermBig rest h (λ p q. ⊥)
big_acts F above b inside rest h = record { safe = λ f m j t d. tt; ends = λ f m j t d. tt }

-- branch b may touch a cell that is its own or an ancestor's
may_touch : (above : List ℕ) (b : ℕ) (inside : Bool) (a : ℕ) (v : Value) → is_in a (b ∷ above) ≡ true → touched above b inside (Some (own a v)) ≡ Some (own b v)
may_touch above b inside a v e = ap (λ c. if_may c (own b v)) e

said_read : (rest : Value → Prog) (m : Mem) (s : Sort) (x : Place) (c : Held) (o : Option Held) → o ≡ Some c → has_sort s (held_value c) ≡ true →
    at {A = Ran} x o (λ c. cond (has_sort s (held_value c)) (Next (retag m x (Some c), rest (held_value c))) Wrong) ≡ Next (retag m x (Some c), rest (held_value c))
said_read rest m s x c o e h = rw e (rw h refl)

module _ (F : Bodies) (above : List ℕ) (b : ℕ) (inside : Bool) (rest : Value → Prog) (h : Heap) (x : Place) (a : ℕ) (v : Value) (here : h x ≡ Some (own a v)) where
  -- the touch of an own cell succeeds in every heap of which h is a part
  touch_own : (f : Heap) (m : Mem) → Joins h f m.heap → HasTags h (b ∷ above) → touched above b inside (m.heap x) ≡ Some (own b v)
  touch_own f m j t = ap (touched above b inside) (Joins-within j x (own a v) here) ∙ may_touch above b inside a v (t x a v here)

  pub read_acts : (s : Sort) → has_sort s v ≡ true → Acts F above b inside (Read s x) rest h (λ p q. (p ≡ rest v) × (q ≡ with_at h x (Some (own b v))))
  read_acts s e =
      let said : (f : Heap) (m : Mem) → Joins h f m.heap → HasTags h (b ∷ above) → plain_step F above b inside m (Read s x) rest ≡ Next (retag m x (Some (own b v)), rest v) =
      λ f m j t. said_read rest m s x (own b v) _ (touch_own f m j t) e in
      record {
        safe = λ f m j t d. subst IsSafe (sym (said f m j t)) tt;
        ends = λ f m j t d. rw (said f m j t) (with_at h x (Some (own b v)), Joins-change j x (own a v) (Some (own b v)) here, (refl, refl));
      }

  pub write_acts : (w : Value) → Acts F above b inside (Write x w) rest h (λ p q. (p ≡ rest unit_value) × (q ≡ with_at h x (Some (own b w))))
  write_acts w = record {
    safe = λ f m j t d. rw (touch_own f m j t) tt;
    ends = λ f m j t d. rw (touch_own f m j t) (with_at h x (Some (own b w)), Joins-change j x (own a v) (Some (own b w)) here, (refl, refl));
  }

  pub free_acts : Acts F above b inside (Free x) rest h (λ p q. (p ≡ rest unit_value) × (q ≡ with_at h x None))
  free_acts = record {
    safe = λ f m j t d. rw (touch_own f m j t) tt;
    ends = λ f m j t d. rw (touch_own f m j t) (with_at h x None, Joins-change j x (own a v) None here, (refl, refl));
  }

none_of : (o : Option Held) → ((c : Held) → o ≡ Some c → ⊥) → o ≡ None
none_of None f = refl
none_of (Some c) f = absurd (f c refl)

abbrev index_of : Place → ℕ
index_of (Cell a i) = i
index_of p = 0

-- the arena b has no cell from index i on
abbrev pub IsFreeFrom : ℕ → ℕ → Heap → Type 0
IsFreeFrom b i h = (j : ℕ) → i ≤ j → h (Cell b j) ≡ None

still_free : (b i : ℕ) (c : Held) (h : Heap) → IsFreeFrom b i h → IsFreeFrom b (suc i) (with_at h (Cell b i) (Some c))
still_free b i c h f j l =
    elim (place_tells (Cell b i) (Cell b j)) [
      | inl y ↦ let e = ap index_of y.1 in absurd (omega (arith, e))
      | inr y ↦ ap (λ s. cond s (Some c) (h (Cell b j))) y.0 ∙ f j (omega arith)
    ]

-- the heap with these values in new cells of branch b from index i on
abbrev pub with_cells : ℕ → ℕ → List Value → Heap → Heap
with_cells b i [] h = h
with_cells b i (v ∷ vs) h = with_cells b (suc i) vs (with_at h (Cell b i) (Some (own b v)))

-- a row of new cells, in a part and in the whole
laid_joins : (b : ℕ) (vs : List Value) (i : ℕ) (a f : Heap) (m : Mem) → Joins a f m.heap → IsFreeFrom b i m.heap → Joins (with_cells b i vs a) f (laid b i vs m).heap
laid_joins b [] i a f m j e = j
laid_joins b (v ∷ vs) i a f m j e =
    laid_joins b vs (suc i) (with_at a (Cell b i) (Some (own b v))) f (put m (Cell b i) (Some (own b v)))
    (Joins-new j (Cell b i) (Some (own b v)) (e i (le_refl i))) (still_free b i (own b v) m.heap e)

pub alloc_acts : (F : Bodies) (above : List ℕ) (b : ℕ) (inside : Bool) (rest : Value → Prog) (h : Heap) (vs : List Value) →
    Acts F above b inside (Alloc vs) rest h (λ p q. (i : ℕ) × (p ≡ rest (Loc (Cell b i))) × (q ≡ with_cells b i vs h) × IsFreeFrom b i h)
alloc_acts F above b inside rest h vs =
    let fresh : (m : Mem) → IsMade m → IsFreeFrom b (m.made b) m.heap = λ m d j l. none_of _ (λ c e. absurd (omega (arith, d b j c e))) in
    record {
      safe = λ f m j t d. tt;
      ends = λ f m j t d. (
        with_cells b (m.made b) vs h,
        laid_joins b vs (m.made b) h f m j (fresh m d),
        (m.made b, refl, refl, λ i l. none_of _ (λ c e. absurd (omega (arith, d b i c (Joins-within j (Cell b i) c e))))),
      );
    }

-- a call changes no cell
pub call_acts : (F : Bodies) (above : List ℕ) (b : ℕ) (inside : Bool) (rest : Value → Prog) (h : Heap) (f : List ℕ) (vs : List Value) →
    Acts F above b inside (Call f vs) rest h (λ p q. (p ≡ and_then (F f vs) rest) × (q ≡ h))
call_acts F above b inside rest h f vs = record { safe = λ g m j t d. tt; ends = λ g m j t d. (h, j, (refl, refl)) }
