-- One cell of a heap: found, changed, taken away, or new.
use Rattle.std.proofs.Common.{◌≡◌, ◌≢◌, eqb, ◌&&◌, cond, Bool, true, false, refl, sym, ap, subst, ◌⊎◌, inl, inr, Some, None, Option}
use Rattle.std.proofs.lemmas.Bool.Decides.{eqb_tells}
use Rattle.tht_tree.specs.declared.plain.Place.{Place}
use Rattle.tht_tree.specs.declared.plain.Place.TheVariants.{Null, Root, Cell}
use Rattle.tht_tree.specs.Values.{same_place}
use Rattle.tht_tree.specs.Heaps.{Held, Heap, JoinAt, neither, left, right, Joins, with_at}

no_and : (a b : Bool) → (a ≡ false) ⊎ (b ≡ false) → (a && b) ≡ false
no_and false b e = refl
no_and true b (inl e) = cc
no_and true b (inr e) = e

both_true : (a b : Bool) → a ≡ true → b ≡ true → (a && b) ≡ true
both_true a b e f = cc

pub place_tells : (p q : Place) → ((same_place p q ≡ true) × (p ≡ q)) ⊎ ((same_place p q ≡ false) × (p ≢ q))
place_tells Null Null = inl (refl, refl)
place_tells Null (Root s) = inr (refl, λ e. cc)
place_tells Null (Cell a i) = inr (refl, λ e. cc)
place_tells (Root r) Null = inr (refl, λ e. cc)
place_tells (Root r) (Root s) = elim (eqb_tells r s) [ inl h ↦ inl (h.0, ap Root h.1) | inr h ↦ inr (h.0, λ e. h.1 (cc)) ]
place_tells (Root r) (Cell a i) = inr (refl, λ e. cc)
place_tells (Cell a i) Null = inr (refl, λ e. cc)
place_tells (Cell a i) (Root s) = inr (refl, λ e. cc)
place_tells (Cell a i) (Cell b j) =
    elim (eqb_tells a b) [
      | inl h ↦ elim (eqb_tells i j) [
        | inl g ↦ inl (both_true (eqb a b) (eqb i j) h.0 g.0, let e = h.1 in let f = g.1 in cc)
        | inr g ↦ inr (no_and (eqb a b) (eqb i j) (inr g.0), λ e. g.1 (cc))
      ]
      | inr h ↦ inr (no_and (eqb a b) (eqb i j) (inl h.0), λ e. h.1 (cc))
    ]

pub same_here : (p : Place) → same_place p p ≡ true
same_here p = elim (place_tells p p) [ inl h ↦ h.0 | inr h ↦ absurd (h.1 refl) ]

pub with_here : {A : Type 0} (h : Place → A) (p : Place) (c : A) → with_at h p c p ≡ c
with_here h p c = ap (λ b. cond b c (h p)) (same_here p)

some_at : {a b c : Option Held} {x : Held} → JoinAt a b c → a ≡ Some x → (b ≡ None) × (c ≡ Some x)
some_at neither e = cc
some_at left e = (refl, e)
some_at right e = cc

no_cell_at : {a b c : Option Held} → JoinAt a b c → c ≡ None → b ≡ None
no_cell_at neither e = refl
no_cell_at left e = cc
no_cell_at right e = cc

join_with : (c : Option Held) (o : Option Held) → o ≡ None → JoinAt c o c
join_with None o e = subst (λ z. JoinAt None z None) (sym e) neither
join_with (Some x) o e = subst (λ z. JoinAt (Some x) z (Some x)) (sym e) left

-- what is said of a changed heap, place by place
changed_at : (s : Bool) (a f h c : Option Held) → JoinAt a f h → (s ≡ true → JoinAt c f c) → JoinAt (cond s c a) f (cond s c h)
changed_at true a f h c j e = e refl
changed_at false a f h c j e = j

-- a cell of the first part changes, or goes
pub Joins-change : {a f h : Heap} → Joins a f h → (p : Place) (x : Held) (c : Option Held) → a p ≡ Some x → Joins (with_at a p c) f (with_at h p c)
Joins-change {a} {f} {h} j p x c e q =
    elim (place_tells p q) [
      | inl y ↦ changed_at (same_place p q) (a q) (f q) (h q) c (j q) (λ _. join_with c (f q) (some_at (j q) (subst (λ z. a z ≡ Some x) y.1 e)).0)
      | inr y ↦ changed_at (same_place p q) (a q) (f q) (h q) c (j q) (λ z. let n = y.0 in cc)
    ]

-- a new cell
pub Joins-new : {a f h : Heap} → Joins a f h → (p : Place) (c : Option Held) → h p ≡ None → Joins (with_at a p c) f (with_at h p c)
Joins-new {a} {f} {h} j p c e q =
    elim (place_tells p q) [
      | inl y ↦ changed_at (same_place p q) (a q) (f q) (h q) c (j q) (λ _. join_with c (f q) (no_cell_at (j q) (subst (λ z. h z ≡ None) y.1 e)))
      | inr y ↦ changed_at (same_place p q) (a q) (f q) (h q) c (j q) (λ z. let n = y.0 in cc)
    ]
