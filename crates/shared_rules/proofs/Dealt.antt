-- Atoms that are dealt one after another.
use Rattle.std.proofs.Common.{◌≡◌, ◌≢◌, ℕ, ◌<◌, ◌≤◌, cond, All, List, [], ◌∷◌, Option, Some, None, Ok, Err, refl, sym, ◌∙◌, ap, subst, arith}
use Rattle.std.proofs.lemmas.List.Elements.{All-head, All-tail, All-cons, All-nil}
use Rattle.std.specs.Ordering.{nat_cmp, is_eq}
use Rattle.std.specs.declared.cmp.Ordering.TheVariants.{Less, Greater}
use Rattle.tht_tree.specs.declared.plain.Spot.{Spot}
use Rattle.tht_tree.specs.declared.assn.Assn.{Assn}
use Rattle.tht_tree.specs.declared.rule.RuleCode.TheVariants.{R1}
use Rattle.tht_tree.specs.Rules.Context.{atom_at, without_atom, with_atom}
use Rattle.tht_logic.specs.Rules.Calls.{Dealt, dealt}
use Rattle.tht_logic.specs.Rules.Checking.{Checked, on_ok, on_some}
use Rattle.tht_logic.specs.Rules.Gives.{Atoms}
use Rattle.assn_laws.proofs.Answers.{some_same, ok_same, from_some, from_ok}
use Rattle.assn_laws.proofs.AtomLists.{order, below, same, above, IsAbove, Ascends, Ascends-without, All-with, All-without, without_same, without_above, with_below, with_same, with_above}
use Rattle.pure_proofs.specs.declared.refusal.Refusal.{Refusal}
use Rattle.pure_proofs.specs.declared.refusal.Refusal.TheVariants.{Rule, Memory}
use Rattle.shared_rules.specs.Dealing.{IsMoved, NotThere, Refuses}

-- ---- atoms by their numbers

-- no atom of the list has this number
abbrev pub IsAbsent : ℕ → Atoms → Type 0
IsAbsent i es = All (λ e. i ≢ e.0) es

other_below : (i k : ℕ) → i < k → i ≢ k
other_below i k l e = omega (arith, l, e)

other_above : (i k : ℕ) → k < i → i ≢ k
other_above i k l e = omega (arith, l, e)

absent_above : (i k : ℕ) (es : Atoms) → i ≡ k → IsAbove k es → IsAbsent i es
absent_above i k [] s h = All-nil (λ e. i ≢ e.0)
absent_above i k (e ∷ es) s h = All-cons (λ e. i ≢ e.0) e es (other_below i e.0 (omega (arith, s, h.0))) (absent_above i k es s h.1)

-- an atom that is taken away is not there
absent_without : (i : ℕ) (es : Atoms) → Ascends es → IsAbsent i (without_atom i es)
absent_without i [] h = All-nil (λ e. i ≢ e.0)
absent_without i (e ∷ es) h = elim (order i e.0) [
  | below f l ↦ subst (IsAbsent i) (sym (ap (λ o. cond (is_eq o) es (e ∷ without_atom i es)) f)) (All-cons (λ e. i ≢ e.0) e (without_atom i es) (other_below i e.0 l) (absent_without i es h.1))
  | same f l ↦ subst (IsAbsent i) (sym (without_same i e es f)) (absent_above i e.0 es l h.0)
  | above f l ↦ subst (IsAbsent i) (sym (without_above i e es f)) (All-cons (λ e. i ≢ e.0) e (without_atom i es) (other_above i e.0 l) (absent_without i es h.1))
]

-- one that is not there changes nothing where it is taken away
without_absent : (i : ℕ) (es : Atoms) → IsAbsent i es → without_atom i es ≡ es
without_absent i [] h = refl
without_absent i (e ∷ es) h =
    let head : i ≢ e.0 = All-head (λ e. i ≢ e.0) e es h in
    let tail = without_absent i es (All-tail (λ e. i ≢ e.0) e es h) in
    elim (order i e.0) [
      | below f l ↦ ap (λ o. cond (is_eq o) es (e ∷ without_atom i es)) f ∙ ap (λ z. e ∷ z) tail
      | same f l ↦ absurd (head l)
      | above f l ↦ without_above i e es f ∙ ap (λ z. e ∷ z) tail
    ]

-- what holds of each atom with its number holds of the one with this number
pub entry_at : (P : ℕ × Assn → Type 0) (i : ℕ) (p : Assn) (es : Atoms) → All P es → atom_at i es ≡ Some p → P (i, p)
entry_at P i p [] h e = cc
entry_at P i p (x ∷ es) h e =
    let tail = entry_at P i p es (All-tail P x es h) in
    elim (order i x.0) [
      | below f l ↦ tail (sym (ap (λ o. cond (is_eq o) (Some x.1) (atom_at i es)) f) ∙ e)
      | same f l ↦
          let its : x.1 ≡ p = some_same x.1 p (sym (ap (λ o. cond (is_eq o) (Some x.1) (atom_at i es)) f) ∙ e) in
          subst P (λ k. (sym l k, its k)) (All-head P x es h)
      | above f l ↦ tail (sym (ap (λ o. cond (is_eq o) (Some x.1) (atom_at i es)) f) ∙ e)
    ]

-- ---- atoms that are dealt

-- the atom with the first number, and what is dealt of the others
pub record First (spot : Spot) (i : ℕ) (ns : List ℕ) (atoms : Atoms) (d : Dealt) : Type 0 where
  pub atom : Assn
  pub others : Dealt
  pub at : atom_at i atoms ≡ Some atom
  pub deals : dealt spot ns (without_atom i atoms) ≡ Ok others
  pub given : with_atom i atom others.given ≡ d.given
  pub frame : others.frame ≡ d.frame

pub first_of : (spot : Spot) (i : ℕ) (ns : List ℕ) (atoms : Atoms) (d : Dealt) → dealt spot (i ∷ ns) atoms ≡ Ok d → First spot i ns atoms d
first_of spot i ns atoms d e =
    let rest : Checked Dealt = dealt spot ns (without_atom i atoms) in
    let r = from_some spot R1 (atom_at i atoms) (λ p. on_ok rest (λ k. Ok (record k { given = with_atom i p k.given }))) d e in
    let w = from_ok rest (λ k. Ok (record k { given = with_atom i r.0 k.given })) d r.2 in
    let is : record { given = with_atom i r.0 w.0.given; frame = w.0.frame } ≡ d = ok_same (record { given = with_atom i r.0 w.0.given; frame = w.0.frame }) d w.2 in
    record { atom = r.0; others = w.0; at = r.1; deals = w.1; given = ap (λ k. k.given) is; frame = ap (λ k. k.frame) is }

pub none_dealt : (spot : Spot) (atoms : Atoms) (d : Dealt) → dealt spot [] atoms ≡ Ok d → ([] ≡ d.given) × (atoms ≡ d.frame)
none_dealt spot atoms d e =
    let none : Dealt = record { given = []; frame = atoms } in
    let is : none ≡ d = ok_same none d e in
    (ap (λ k. k.given) is, ap (λ k. k.frame) is)

-- what holds of each atom holds of each one that is given, and of each one in the frame
pub dealt_all : (P : ℕ × Assn → Type 0) (spot : Spot) (ns : List ℕ) (atoms : Atoms) (d : Dealt) → dealt spot ns atoms ≡ Ok d → All P atoms → All P d.given × All P d.frame
dealt_all P spot [] atoms d e all = let is = none_dealt spot atoms d e in (subst (All P) is.0 (All-nil P), subst (All P) is.1 all)
dealt_all P spot (i ∷ ns) atoms d e all =
    let w : First spot i ns atoms d = first_of spot i ns atoms d e in
    let more = dealt_all P spot ns (without_atom i atoms) w.others w.deals (All-without P i atoms all) in
    (subst (All P) w.given (All-with P i w.atom w.others.given more.0 (entry_at P i w.atom atoms all w.at)), subst (All P) w.frame more.1)

-- ---- two atoms that are put in

less_of : (i j : ℕ) → i < j → nat_cmp i j ≡ Less
less_of i j l = elim (order i j) [ below f g ↦ f | same f g ↦ absurd (omega (arith, l, g)) | above f g ↦ absurd (omega (arith, l, g)) ]

greater_of : (i j : ℕ) → i < j → nat_cmp j i ≡ Greater
greater_of i j l = elim (order j i) [ below f g ↦ absurd (omega (arith, l, g)) | same f g ↦ absurd (omega (arith, l, g)) | above f g ↦ f ]

-- an atom comes before those with greater numbers
put_first : (i j : ℕ) (p q : Assn) (e : ℕ × Assn) (es : Atoms) → i < j → nat_cmp i e.0 ≡ Less → with_atom i p (with_atom j q (e ∷ es)) ≡ (i, p) ∷ with_atom j q (e ∷ es)
put_first i j p q e es l f = elim (order j e.0) [
  | below g m ↦
      let is = with_below j q e es g in
      ap (with_atom i p) is ∙ with_below i p (j, q) (e ∷ es) (less_of i j l) ∙ ap (λ z. (i, p) ∷ z) (sym is)
  | same g m ↦
      let is = with_same j q e es g in
      ap (with_atom i p) is ∙ with_below i p (e.0, q) es f ∙ ap (λ z. (i, p) ∷ z) (sym is)
  | above g m ↦
      let is = with_above j q e es g in
      ap (with_atom i p) is ∙ with_below i p e (with_atom j q es) f ∙ ap (λ z. (i, p) ∷ z) (sym is)
]

swap_below : (i j : ℕ) (p q : Assn) (es : Atoms) → i < j → with_atom i p (with_atom j q es) ≡ with_atom j q (with_atom i p es)
swap_below i j p q [] l = with_below i p (j, q) [] (less_of i j l) ∙ sym (with_above j q (i, p) [] (greater_of i j l))
swap_below i j p q (e ∷ es) l =
    let rest = swap_below i j p q es l in
    elim (order i e.0) [
      | below f g ↦
          put_first i j p q e es l f ∙ sym (with_above j q (i, p) (e ∷ es) (greater_of i j l)) ∙ sym (ap (with_atom j q) (with_below i p e es f))
      | same f g ↦
          let far : nat_cmp j e.0 ≡ Greater = greater_of e.0 j (omega (arith, l, g)) in
          ap (with_atom i p) (with_above j q e es far) ∙ with_same i p e (with_atom j q es) f ∙ sym (with_above j q (e.0, p) es far) ∙ sym (ap (with_atom j q) (with_same i p e es f))
      | above f g ↦
          let far : nat_cmp j e.0 ≡ Greater = greater_of e.0 j (omega (arith, l, g)) in
          ap (with_atom i p) (with_above j q e es far) ∙ with_above i p e (with_atom j q es) f ∙ ap (λ z. e ∷ z) rest ∙ sym (with_above j q e (with_atom i p es) far)
          ∙ sym (ap (with_atom j q) (with_above i p e es f))
    ]

-- two with different numbers are put in in either order
swap : (i j : ℕ) (p q : Assn) (es : Atoms) → i ≢ j → with_atom i p (with_atom j q es) ≡ with_atom j q (with_atom i p es)
swap i j p q es d = elim (order i j) [
  | below f l ↦ swap_below i j p q es l
  | same f e ↦ absurd (d e)
  | above f l ↦ sym (swap_below j i q p es l)
]

-- ---- those that are given are put in as they come

-- dealt, where these are given already
abbrev pub dealt_onto : Spot → List ℕ → Atoms → Atoms → Checked Dealt
dealt_onto spot [] atoms given = Ok (record { given = given; frame = atoms })
dealt_onto spot (i ∷ ns) atoms given = on_some spot R1 (atom_at i atoms) (λ p. dealt_onto spot ns (without_atom i atoms) (with_atom i p given))

-- with one more that is given
abbrev pub plus : ℕ → Assn → Dealt → Checked Dealt
plus i p d = Ok (record d { given = with_atom i p d.given })

onto_with : (spot : Spot) (ns : List ℕ) (atoms given : Atoms) (i : ℕ) (p : Assn) → IsAbsent i atoms → dealt_onto spot ns atoms (with_atom i p given) ≡ on_ok (dealt_onto spot ns atoms given) (plus i p)
onto_with spot [] atoms given i p absent = refl
onto_with spot (j ∷ ns) atoms given i p absent =
    by (atom_at j atoms) refl (λ q. onto_with spot ns (without_atom j atoms) (with_atom j q given) i p (All-without (λ e. i ≢ e.0) j atoms absent))
  where
    by : (o : Option Assn) → atom_at j atoms ≡ o
        → ((q : Assn) → dealt_onto spot ns (without_atom j atoms) (with_atom i p (with_atom j q given)) ≡ on_ok (dealt_onto spot ns (without_atom j atoms) (with_atom j q given)) (plus i p))
        → on_some spot R1 o (λ q. dealt_onto spot ns (without_atom j atoms) (with_atom j q (with_atom i p given)))
        ≡ on_ok (on_some spot R1 o (λ q. dealt_onto spot ns (without_atom j atoms) (with_atom j q given))) (plus i p)
    by None e rest = refl
    by (Some q) e rest =
        let apart : i ≢ j = entry_at (λ e. i ≢ e.0) j q atoms absent e in
        ap (dealt_onto spot ns (without_atom j atoms)) (sym (swap i j p q given apart)) ∙ rest q

-- which is what is dealt, where none is given before
pub onto_is : (spot : Spot) (ns : List ℕ) (atoms : Atoms) → Ascends atoms → dealt_onto spot ns atoms [] ≡ dealt spot ns atoms
onto_is spot [] atoms asc = refl
onto_is spot (i ∷ ns) atoms asc =
    let rest = onto_is spot ns (without_atom i atoms) (Ascends-without i atoms asc) in
    let each : (p : Assn) → dealt_onto spot ns (without_atom i atoms) (with_atom i p []) ≡ on_ok (dealt spot ns (without_atom i atoms)) (plus i p) =
    λ p. onto_with spot ns (without_atom i atoms) [] i p (absent_without i atoms asc) ∙ ap (λ z. on_ok z (plus i p)) rest in
    λ k. on_some spot R1 (atom_at i atoms) (λ p. each p k)

-- ---- one atom after another

module _ (spot : Spot) (ns rest : List ℕ) (i : ℕ) (atoms given : Atoms) (is : ns ≡ i ∷ rest) where
  pub onto_next : (left then : Atoms) → IsMoved i atoms given left then → dealt_onto spot ns atoms given ≡ dealt_onto spot rest left then
  onto_next left then w =
      ap (λ z. dealt_onto spot z atoms given) is ∙ ap (λ o. on_some spot R1 o (λ p. dealt_onto spot rest (without_atom i atoms) (with_atom i p given))) w.there
      ∙ ap (λ z. dealt_onto spot rest z (with_atom i w.atom given)) (sym w.taken) ∙ ap (dealt_onto spot rest left) (sym w.added)

  pub onto_stops : (e : Refusal) (whole : Checked Dealt) → whole ≡ dealt_onto spot ns atoms given → NotThere e spot i atoms → Refuses e whole
  onto_stops (Rule r) whole left h =
      left ∙ ap (λ z. dealt_onto spot z atoms given) is ∙ ap (λ o. on_some spot R1 o (λ p. dealt_onto spot rest (without_atom i atoms) (with_atom i p given))) h.1
      ∙ ap (λ z. Err z) h.0
  onto_stops Memory whole left h = tt

-- at the end
pub all_moved : (spot : Spot) (rest : List ℕ) (atoms given : Atoms) (whole : Checked Dealt) → whole ≡ dealt_onto spot rest atoms given → rest ≡ [] → whole ≡ Ok (record { given = given; frame = atoms })
all_moved spot rest atoms given whole left end = left ∙ ap (λ z. dealt_onto spot z atoms given) end

-- at the start
pub none_moved : (spot : Spot) (ns : List ℕ) (atoms given : Atoms) → Ascends atoms → given ≡ [] → dealt spot ns atoms ≡ dealt_onto spot ns atoms given
none_moved spot ns atoms given asc none = sym (onto_is spot ns atoms asc) ∙ ap (dealt_onto spot ns atoms) (sym none)

-- ---- numbers

module _ (m : ℕ) (spot : Spot) (ns : List ℕ) (atoms given frame : Atoms) (deals : dealt spot ns atoms ≡ Ok (record { given = given; frame = frame })) (numbered : All (λ a. a.0 ≤ m) atoms) where
  pub given_numbered : All (λ a. a.0 ≤ m) given
  given_numbered = (dealt_all (λ a. a.0 ≤ m) spot ns atoms (record { given = given; frame = frame }) deals numbered).0

  pub frame_numbered : All (λ a. a.0 ≤ m) frame
  frame_numbered = (dealt_all (λ a. a.0 ≤ m) spot ns atoms (record { given = given; frame = frame }) deals numbered).1
