-- Atoms that are dealt out of copies of those with the numbers alone.
use Rattle.std.proofs.Common.{◌≡◌, ◌≢◌, ◌⊎◌, inl, inr, ℕ, ◌≤◌, cond, true, false, All, List, [], ◌∷◌, Option, Some, None, Result, Ok, Err, refl, sym, ◌∙◌, ap, subst, arith}
use Rattle.std.proofs.lemmas.Bool.Decides.{eqb_tells}
use Rattle.std.proofs.lemmas.List.Elements.{All-head, All-tail, All-cons, All-nil, All-weaker}
use Rattle.std.specs.Prelude.{OnErr}
use Rattle.std.specs.BTreeMap.{BTreeMap}
use Rattle.std.specs.List.Sorted.{IsStrictlySortedBy}
use Rattle.std.specs.Map.{keys_of}
use Rattle.std.specs.Ordering.{nat_cmp, is_eq}
use Rattle.tht_tree.specs.declared.plain.Spot.{Spot}
use Rattle.tht_tree.specs.declared.assn.Assn.{Assn}
use Rattle.tht_tree.specs.declared.rule.RuleCode.TheVariants.{R1}
use Rattle.tht_tree.specs.Rules.Context.{atom_at, without_atom, with_atom}
use Rattle.tht_logic.specs.Rules.Calls.{Dealt, dealt}
use Rattle.tht_logic.specs.Rules.Checking.{Checked, on_ok, on_some}
use Rattle.tht_logic.specs.Rules.Gives.{Atoms}
use Rattle.assn_laws.proofs.AtomLists.{order, below, same, above, Ascends, Ascends-without, ascends_from, All-with, with_below, with_same, with_above}
use Rattle.assn_laws.proofs.TakenAtoms.{at_other, at_same}
use Rattle.pure_proofs.specs.declared.refusal.Refusal.{Refusal}
use Rattle.pure_proofs.specs.declared.refusal.Refusal.TheVariants.{Rule, Memory}
use Rattle.shared_rules.specs.Dealing.{Moves}
use Rattle.shared_rules.specs.Gathering.{with_found, gathered, left_of}
use Rattle.shared_rules.proofs.Dealt.{entry_at, plus}

-- what holds anyhow holds after an `Err`
pub always : {A E : Type 0} (r : Result A E) (P : Type 0) → P → OnErr r P
always (Ok x) P h = tt
always (Err e) P h = h

-- ---- an atom that is put in

self : (i : ℕ) → is_eq (nat_cmp i i) ≡ true
self i = elim (order i i) [ below f l ↦ absurd (omega (arith, l)) | same f l ↦ ap is_eq f | above f l ↦ absurd (omega (arith, l)) ]

differ : (i j : ℕ) → i ≢ j → is_eq (nat_cmp i j) ≡ false
differ i j d = elim (order i j) [ below f l ↦ ap is_eq f | same f l ↦ absurd (d l) | above f l ↦ ap is_eq f ]

here : (i : ℕ) (e : ℕ × Assn) (es : Atoms) → is_eq (nat_cmp i e.0) ≡ true → atom_at i (e ∷ es) ≡ Some e.1
here i e es g = ap (λ c. cond c (Some e.1) (atom_at i es)) g

behind : (i : ℕ) (e : ℕ × Assn) (es : Atoms) → is_eq (nat_cmp i e.0) ≡ false → atom_at i (e ∷ es) ≡ atom_at i es
behind i e es g = ap (λ c. cond c (Some e.1) (atom_at i es)) g

-- it is there
put_there : (i : ℕ) (p : Assn) (es : Atoms) → atom_at i (with_atom i p es) ≡ Some p
put_there i p [] = here i (i, p) [] (self i)
put_there i p (e ∷ es) = elim (order i e.0) [
  | below f l ↦ ap (atom_at i) (with_below i p e es f) ∙ here i (i, p) (e ∷ es) (self i)
  | same f l ↦ ap (atom_at i) (with_same i p e es f) ∙ here i (e.0, p) es (ap is_eq f)
  | above f l ↦ ap (atom_at i) (with_above i p e es f) ∙ behind i e (with_atom i p es) (ap is_eq f) ∙ put_there i p es
]

-- another is where it was
put_beside : (i j : ℕ) (p : Assn) (es : Atoms) → i ≢ j → atom_at i (with_atom j p es) ≡ atom_at i es
put_beside i j p [] d = behind i (j, p) [] (differ i j d)
put_beside i j p (e ∷ es) d = elim (order j e.0) [
  | below f l ↦ ap (atom_at i) (with_below j p e es f) ∙ behind i (j, p) (e ∷ es) (differ i j d)
  | same f l ↦
      let other : is_eq (nat_cmp i e.0) ≡ false = differ i e.0 (λ q. d (q ∙ sym l)) in
      ap (atom_at i) (with_same j p e es f) ∙ behind i (e.0, p) es other ∙ sym (behind i e es other)
  | above f l ↦ ap (atom_at i) (with_above j p e es f) ∙ ap (λ z. cond (is_eq (nat_cmp i e.0)) (Some e.1) z) (put_beside i j p es d)
]

-- ---- those that are found

-- both lists have the same atom with this number, or none
abbrev Same : Atoms → Atoms → ℕ → Type 0
Same xs ys m = atom_at m xs ≡ atom_at m ys

module _ (atoms : Atoms) where
  put_same : (i : ℕ) (p : Assn) (es : Atoms) (m : ℕ) → atom_at i atoms ≡ Some p → m ≡ i → Same (with_atom i p es) atoms m
  put_same i p es m f e = ap (λ z. atom_at z (with_atom i p es)) e ∙ put_there i p es ∙ sym f ∙ ap (λ z. atom_at z atoms) (sym e)

  found_keeps : (i : ℕ) (es : Atoms) (m : ℕ) → Same es atoms m → Same (with_found i (atom_at i atoms) es) atoms m
  found_keeps i es m e = pick (atom_at i atoms) refl
    where
      pick : (o : Option Assn) → atom_at i atoms ≡ o → Same (with_found i o es) atoms m
      pick None f = e
      pick (Some p) f = elim (eqb_tells m i) [ inl g ↦ put_same i p es m f g.1 | inr g ↦ put_beside m i p es g.1 ∙ e ]

  gathered_keeps : (ns : List ℕ) (es : Atoms) (m : ℕ) → Same es atoms m → Same (gathered ns atoms es) atoms m
  gathered_keeps [] es m e = e
  gathered_keeps (i ∷ ns) es m e = gathered_keeps ns (with_found i (atom_at i atoms) es) m (found_keeps i es m e)

  -- no other atoms are in the list
  abbrev Partly : Atoms → Type 0
  Partly es = (m : ℕ) → (atom_at m es ≡ None) ⊎ Same es atoms m

  found_partly : (i : ℕ) (es : Atoms) → Partly es → Partly (with_found i (atom_at i atoms) es)
  found_partly i es h m = pick (atom_at i atoms) refl
    where
      beside : (p : Assn) → m ≢ i → (atom_at m es ≡ None) ⊎ Same es atoms m → (atom_at m (with_atom i p es) ≡ None) ⊎ Same (with_atom i p es) atoms m
      beside p d (inl e) = inl (put_beside m i p es d ∙ e)
      beside p d (inr e) = inr (put_beside m i p es d ∙ e)

      pick : (o : Option Assn) → atom_at i atoms ≡ o → (atom_at m (with_found i o es) ≡ None) ⊎ Same (with_found i o es) atoms m
      pick None f = h m
      pick (Some p) f = elim (eqb_tells m i) [ inl g ↦ inr (put_same i p es m f g.1) | inr g ↦ beside p g.1 (h m) ]

  found_same : (i : ℕ) (es : Atoms) → Partly es → Same (with_found i (atom_at i atoms) es) atoms i
  found_same i es h = pick (atom_at i atoms) refl
    where
      pick : (o : Option Assn) → atom_at i atoms ≡ o → Same (with_found i o es) atoms i
      pick None f = elim (h i) [ inl e ↦ e ∙ sym f | inr e ↦ e ]
      pick (Some p) f = put_same i p es i f refl

  gathered_same : (ns : List ℕ) (es : Atoms) → Partly es → All (Same (gathered ns atoms es) atoms) ns
  gathered_same [] es h = All-nil (Same es atoms)
  gathered_same (i ∷ ns) es h =
      let next : Atoms = with_found i (atom_at i atoms) es in
      All-cons (Same (gathered ns atoms next) atoms) i ns (gathered_keeps ns next i (found_same i es h)) (gathered_same ns next (found_partly i es h))

  -- what holds of each atom holds of those that are found
  gathered_all : (P : ℕ × Assn → Type 0) → All P atoms → (ns : List ℕ) (es : Atoms) → All P es → All P (gathered ns atoms es)
  gathered_all P all [] es h = h
  gathered_all P all (i ∷ ns) es h = gathered_all P all ns (with_found i (atom_at i atoms) es) (pick (atom_at i atoms) refl)
    where
      pick : (o : Option Assn) → atom_at i atoms ≡ o → All P (with_found i o es)
      pick None f = h
      pick (Some p) f = All-with P i p es h (entry_at P i p atoms all f)

pub numbered : (made : ℕ) (ns : List ℕ) (atoms es : Atoms) → es ≡ gathered ns atoms [] → All (λ a. a.0 ≤ made) atoms → All (λ a. a.0 ≤ made) es
numbered made ns atoms es is all = subst (All (λ a. a.0 ≤ made)) (sym is) (gathered_all atoms (λ a. a.0 ≤ made) all ns [] (All-nil (λ a. a.0 ≤ made)))

-- ---- dealt out of lists that are alike

still_same : (i : ℕ) (ns : List ℕ) (xs ys : Atoms) → Ascends xs → Ascends ys → All (Same xs ys) ns → All (Same (without_atom i xs) (without_atom i ys)) ns
still_same i ns xs ys ax ay h = All-weaker {X = ℕ} (Same xs ys) (Same (without_atom i xs) (without_atom i ys)) each ns h
  where
    each : (m : ℕ) → Same xs ys m → Same (without_atom i xs) (without_atom i ys) m
    each m e = elim (eqb_tells m i) [
      | inl g ↦ ap (λ k. atom_at k (without_atom i xs)) g.1 ∙ at_same i xs ax ∙ sym (at_same i ys ay) ∙ ap (λ k. atom_at k (without_atom i ys)) (sym g.1)
      | inr g ↦ at_other m i xs g.1 ∙ e ∙ sym (at_other m i ys g.1)
    ]

-- with this for the frame
abbrev with_frame : Atoms → Dealt → Checked Dealt
with_frame f d = Ok (record d { frame = f })

turned : (r : Checked Dealt) (i : ℕ) (p : Assn) (f : Atoms) → on_ok (on_ok r (with_frame f)) (plus i p) ≡ on_ok (on_ok r (plus i p)) (with_frame f)
turned (Ok d) i p f = refl
turned (Err e) i p f = refl

dealt_alike : (spot : Spot) (ns : List ℕ) (xs ys : Atoms) → Ascends xs → Ascends ys → All (Same xs ys) ns → dealt spot ns ys ≡ on_ok (dealt spot ns xs) (with_frame (left_of ns ys))
dealt_alike spot [] xs ys ax ay h = refl
dealt_alike spot (i ∷ ns) xs ys ax ay h =
    let first : Same xs ys i = All-head (Same xs ys) i ns h in
    let rest = still_same i ns xs ys ax ay (All-tail (Same xs ys) i ns h) in
    let more = dealt_alike spot ns (without_atom i xs) (without_atom i ys) (Ascends-without i xs ax) (Ascends-without i ys ay) rest in
    ap (λ o. on_some spot R1 o (λ p. on_ok (dealt spot ns (without_atom i ys)) (plus i p))) (sym first) ∙ pick (atom_at i xs) more
  where
    pick : (o : Option Assn) → dealt spot ns (without_atom i ys) ≡ on_ok (dealt spot ns (without_atom i xs)) (with_frame (left_of ns (without_atom i ys)))
        → on_some spot R1 o (λ p. on_ok (dealt spot ns (without_atom i ys)) (plus i p))
        ≡ on_ok (on_some spot R1 o (λ p. on_ok (dealt spot ns (without_atom i xs)) (plus i p))) (with_frame (left_of ns (without_atom i ys)))
    pick None more = refl
    pick (Some p) more = ap (λ z. on_ok z (plus i p)) more ∙ turned (dealt spot ns (without_atom i xs)) i p (left_of ns (without_atom i ys))

moves_alike : (spot : Spot) (ns : List ℕ) (xs ys left : Atoms) (r : Result (BTreeMap ℕ Assn) Refusal) → dealt spot ns ys ≡ on_ok (dealt spot ns xs) (with_frame (left_of ns ys)) → Moves r (dealt spot ns xs) left
    → Moves r (dealt spot ns ys) (left_of ns ys)
moves_alike spot ns xs ys left (Ok m) alike said = alike ∙ ap (λ z. on_ok z (with_frame (left_of ns ys))) said
moves_alike spot ns xs ys left (Err (Rule e)) alike said = alike ∙ ap (λ z. on_ok z (with_frame (left_of ns ys))) said
moves_alike spot ns xs ys left (Err Memory) alike said = tt

-- what is dealt out of those that were found is dealt out of all
pub dealt_of_found : (spot : Spot) (ns : List ℕ) (atoms es left : Atoms) (r : Result (BTreeMap ℕ Assn) Refusal) → es ≡ gathered ns atoms [] → IsStrictlySortedBy nat_cmp (keys_of es)
    → IsStrictlySortedBy nat_cmp (keys_of atoms) → Moves r (dealt spot ns es) left → Moves r (dealt spot ns atoms) (left_of ns atoms)
dealt_of_found spot ns atoms es left r is asc all said =
    let found : All (Same (gathered ns atoms []) atoms) ns = gathered_same atoms ns [] (λ m. inl refl) in
    let alike : All (Same es atoms) ns = subst (λ z. All (Same z atoms) ns) (sym is) found in
    moves_alike spot ns es atoms left r (dealt_alike spot ns es atoms (ascends_from es asc) (ascends_from atoms all) alike) said
