-- What a branch's statements do to the owners of cells, to the arenas' counts and to the next number.
use Rattle.std.proofs.Common.{◌≡◌, ℕ, suc, ◌<◌, ◌≤◌, ◌+◌, eqb, cond, Bool, true, false, List, [], ◌∷◌, length, refl, sym, ◌∙◌, ap, subst, le_refl, ◌⊎◌, inl, inr, Some, None, Option, arith}
use Rattle.std.proofs.lemmas.Bool.Decides.{eqb_tells}
use Rattle.tht_tree.specs.declared.plain.Place.{Place}
use Rattle.tht_tree.specs.declared.plain.Place.TheVariants.{Cell}
use Rattle.tht_tree.specs.declared.plain.Value.{Value}
use Rattle.tht_tree.specs.Values.{has_sort}
use Rattle.tht_tree.specs.Heaps.{Held, shared, own, held_value, with_value, with_at}
use Rattle.tht_logic.specs.Machine.{Bodies, Prog, Cmd, TermBig, Read, Write, Alloc, Free, Publish, Retract, Call, Mem, retag, put, laid, raised, alloc_cells, Said, Next, Wrong, touched, if_may, at, plain_step, is_in}
use Rattle.tht_logic.specs.Soundness.{IsMade, Leads}
use Rattle.tht_tree.proofs.Cells.{place_tells}

-- what branch b may do to the memory: no cell becomes another branch's
pub record Local (b : ℕ) (m n : Mem) : Type 0 where
  pub next : n.next_branch ≡ m.next_branch
  pub made : IsMade m → IsMade n
  pub tags : (p : Place) (a : ℕ) (v : Value) → n.heap p ≡ Some (own a v) → (a ≡ b) ⊎ ((w : Value) × (m.heap p ≡ Some (own a w)))

at_leads : {A : Type 0} (p : Place) (o : Option Held) (go : Held → Said A) (P : A → Type 0) → ((c : Held) → o ≡ Some c → Leads (go c) P) → Leads (at p o go) P
at_leads p None go P h = tt
at_leads p (Some c) go P h = h c refl

-- the cell, if it is private, is b's
abbrev IsOf : ℕ → Option Held → Type 0
IsOf b o = (a : ℕ) (v : Value) → o ≡ Some (own a v) → a ≡ b

own_of : (b : ℕ) (w : Value) → IsOf b (Some (own b w))
own_of b w a v e = cc

shared_of : (b : ℕ) (w : Value) → IsOf b (Some (shared w))
shared_of b w a v e = cc

none_of : (b : ℕ) → IsOf b None
none_of b a v e = cc

if_may_is : (b : ℕ) (t : Bool) (d c : Held) → IsOf b (Some d) → if_may t d ≡ Some c → IsOf b (Some c)
if_may_is b true d c h e = subst (IsOf b) e h
if_may_is b false d c h e = cc

touched_is : (above : List ℕ) (b : ℕ) (i : Bool) (o : Option Held) (c : Held) → touched above b i o ≡ Some c → ((d : Held) × (o ≡ Some d)) × IsOf b (Some c)
touched_is above b i None c e = cc
touched_is above b i (Some (shared v)) c e = ((shared v, refl), if_may_is b i (shared v) c (shared_of b v) e)
touched_is above b i (Some (own a v)) c e = ((own a v, refl), if_may_is b (is_in a (b ∷ above)) (own b v) c (own_of b v) e)

other_value : (b : ℕ) (c : Held) (w : Value) → IsOf b (Some c) → IsOf b (Some (with_value c w))
other_value b (shared u) w h = shared_of b w
other_value b (own x u) w h = subst (λ z. IsOf b (Some (own z w))) (sym (h x u refl)) (own_of b w)

-- a memory that differs at the place of a cell alone
changed_local : (b : ℕ) (m n : Mem) (p : Place) (d : Held) (o : Option Held) → m.heap p ≡ Some d → IsOf b o →
    n.heap ≡ with_at m.heap p o → n.made ≡ m.made → n.next_branch ≡ m.next_branch → Local b m n
changed_local b m n p d o h t heap made next = record {
  next = next;
  made = λ u a i c e. let f : with_at m.heap p o (Cell a i) ≡ Some c = sym (ap (λ z. z (Cell a i)) heap) ∙ e in
      subst (λ z. i < z a) (sym made) (elim (place_tells p (Cell a i)) [
        | inl y ↦ u a i d (subst (λ z. m.heap z ≡ Some d) y.1 h)
        | inr y ↦ u a i c (sym (ap (λ s. cond s o (m.heap (Cell a i))) y.0) ∙ f)
      ]);
  tags = λ q a v e. let f : with_at m.heap p o q ≡ Some (own a v) = sym (ap (λ z. z q) heap) ∙ e in
      elim (place_tells p q) [
        | inl y ↦ inl (t a v (sym (ap (λ s. cond s o (m.heap q)) y.0) ∙ f))
        | inr y ↦ inr (v, sym (ap (λ s. cond s o (m.heap q)) y.0) ∙ f)
      ];
}

sort_leads : {A : Type 0} (c : Bool) (a : A) (P : A → Type 0) → P a → Leads (cond c (Next a) Wrong) P
sort_leads true a P h = h
sort_leads false a P h = tt

laid_tags : (b : ℕ) (vs : List Value) (i : ℕ) (m : Mem) (p : Place) (a : ℕ) (v : Value) → (laid b i vs m).heap p ≡ Some (own a v) → (a ≡ b) ⊎ ((w : Value) × (m.heap p ≡ Some (own a w)))
laid_tags b [] i m p a v e = inr (v, e)
laid_tags b (x ∷ vs) i m p a v e =
    elim (laid_tags b vs (suc i) (put m (Cell b i) (Some (own b x))) p a v e) [
      | inl y ↦ inl y
      | inr y ↦ elim (place_tells (Cell b i) p) [
        | inl z ↦ inl (own_of b x a y.0 (sym (ap (λ s. cond s (Some (own b x)) (m.heap p)) z.0) ∙ y.1))
        | inr z ↦ inr (y.0, sym (ap (λ s. cond s (Some (own b x)) (m.heap p)) z.0) ∙ y.1)
      ]
    ]

abbrev index_of : Place → ℕ
index_of (Cell a i) = i
index_of p = 0

abbrev arena_of : Place → ℕ
arena_of (Cell a i) = a
arena_of p = 0

laid_made : (b : ℕ) (vs : List Value) (i : ℕ) (m : Mem) (a j : ℕ) (c : Held) → (laid b i vs m).heap (Cell a j) ≡ Some c → ((a ≡ b) × (j < i + length vs)) ⊎ (m.heap (Cell a j) ≡ Some c)
laid_made b [] i m a j c e = inr e
laid_made b (x ∷ vs) i m a j c e =
    elim (laid_made b vs (suc i) (put m (Cell b i) (Some (own b x))) a j c e) [
      | inl y ↦ inl (y.0, omega (arith, y.1))
      | inr y ↦ elim (place_tells (Cell b i) (Cell a j)) [
        | inl z ↦ let f = ap arena_of z.1 in let g = ap index_of z.1 in inl (sym f, omega (arith, g))
        | inr z ↦ inr (sym (ap (λ s. cond s (Some (own b x)) (m.heap (Cell a j))) z.0) ∙ y)
      ]
    ]

laid_next : (b : ℕ) (vs : List Value) (i : ℕ) (m : Mem) → (laid b i vs m).next_branch ≡ m.next_branch
laid_next b [] i m = refl
laid_next b (x ∷ vs) i m = laid_next b vs (suc i) (put m (Cell b i) (Some (own b x)))

raised_le : (made : ℕ → ℕ) (b n a : ℕ) → made a ≤ raised made b n a
raised_le made b n a = le (eqb b a)
  where
    le : (c : Bool) → made a ≤ cond c (made a + n) (made a)
    le true = omega arith
    le false = le_refl (made a)

raised_here : (made : ℕ → ℕ) (b n a : ℕ) → a ≡ b → raised made b n a ≡ made b + n
raised_here made b n a e = elim (eqb_tells b a) [ inl h ↦ ap (λ c. cond c (made a + n) (made a)) h.0 ∙ ap (λ z. made z + n) e | inr h ↦ absurd (h.1 (sym e)) ]

alloc_local : (b : ℕ) (m : Mem) (vs : List Value) → Local b m (alloc_cells m b vs)
alloc_local b m vs = record {
  next = laid_next b vs (m.made b) m;
  made = λ d a i c e. elim (laid_made b vs (m.made b) m a i c e) [
    | inl y ↦ let r = raised_here m.made b (length vs) a y.0 in omega (arith, r, y.1)
    | inr y ↦ omega (arith, d a i c y, raised_le m.made b (length vs) a)
  ];
  tags = λ p a v e. laid_tags b vs (m.made b) m p a v e;
}

pub plain_local : (F : Bodies) (above : List ℕ) (b : ℕ) (inside : Bool) (m : Mem) (c : Cmd) (rest : Value → Prog) → Leads (plain_step F above b inside m c rest) (λ r. Local b m r.0)
plain_local F above b inside m TermBig rest = tt
plain_local F above b inside m (Read s p) rest =
    at_leads p (touched above b inside (m.heap p)) _ _
    (λ c e. let t = touched_is above b inside (m.heap p) c e in
    sort_leads (has_sort s (held_value c)) _ _ (changed_local b m (retag m p (Some c)) p t.0.0 (Some c) t.0.1 t.1 refl refl refl))
plain_local F above b inside m (Write p v) rest =
    at_leads p (touched above b inside (m.heap p)) _ _
    (λ c e. let t = touched_is above b inside (m.heap p) c e in
    changed_local b m (put m p (Some (with_value c v))) p t.0.0 (Some (with_value c v)) t.0.1 (other_value b c v t.1) refl refl refl)
plain_local F above b inside m (Alloc vs) rest = alloc_local b m vs
plain_local F above b inside m (Free p) rest =
    at_leads p (touched above b inside (m.heap p)) _ _
    (λ c e. let t = touched_is above b inside (m.heap p) c e in
    changed_local b m (retag m p None) p t.0.0 None t.0.1 (none_of b) refl refl refl)
plain_local F above b inside m (Publish p) rest = tt
plain_local F above b inside m (Retract p) rest = tt
plain_local F above b inside m (Call f vs) rest = record { next = refl; made = λ d. d; tags = λ p a v e. inr (v, e) }
