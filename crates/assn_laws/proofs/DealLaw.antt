-- The law of atoms that are dealt: the heap splits into one for those that are given and one for the frame.
use Rattle.std.proofs.Common.{◌≡◌, ◌≢◌, ℕ, ◌≤◌, ◌<◌, Bool, true, cond, All, List, [], ◌∷◌, Some, Ok, refl, sym, ◌∙◌, ap, subst, arith}
use Rattle.std.proofs.lemmas.List.Elements.{All-head, All-tail, All-cons, All-nil}
use Rattle.std.specs.Ordering.{is_eq}
use Rattle.tht_tree.specs.declared.plain.Spot.{Spot}
use Rattle.tht_tree.specs.declared.proof.Proof.{Proof}
use Rattle.tht_tree.specs.declared.assn.Assn.{Assn}
use Rattle.tht_tree.specs.declared.rule.RuleCode.TheVariants.{R1}
use Rattle.tht_tree.specs.Values.{Env}
use Rattle.tht_tree.specs.Syntax.{Names}
use Rattle.tht_tree.specs.Heaps.{Heap, nothing, Joins}
use Rattle.tht_tree.specs.Rules.Context.{Context, Scope, atom_at, without_atom, with_atom}
use Rattle.tht_logic.proofs.HeapLaws.{Joins-front, Joins-swap, beside_nothing}
use Rattle.tht_logic.specs.Satisfaction.{Meaning, AtomsHold}
use Rattle.tht_logic.specs.Rules.Calls.{Dealt, dealt}
use Rattle.tht_logic.specs.Rules.Checking.{Checked, on_ok}
use Rattle.tht_logic.specs.Rules.Definitions.{Declarations}
use Rattle.tht_logic.specs.Rules.Gives.{Atoms}
use Rattle.tht_logic.specs.Rules.Scoped.{Signatures}
use Rattle.tht_logic.specs.Rules.Scoped as scoped
use Rattle.assn_laws.specs.Laws.{IsModel}
use Rattle.assn_laws.specs.ControlLaws.{DealsSplitHeaps}
use Rattle.assn_laws.proofs.Answers.{some_same, ok_same, from_some, from_ok}
use Rattle.assn_laws.proofs.AtomLists.{order, below, same, above, IsAbove, Ascends, ascends_from, ascends_to, Ascends-with, Ascends-without, All-with, All-without, without_same, without_above}
use Rattle.assn_laws.proofs.AtomHeaps.{taken_out, put_in}

-- ---- atoms by their numbers

-- no atom of the list has this number
abbrev IsAbsent : ℕ → Atoms → Type 0
IsAbsent i es = All (λ e. i ≢ e.0) es

other_below : (i k : ℕ) → i < k → i ≢ k
other_below i k l e = omega (arith, l, e)

other_above : (i k : ℕ) → k < i → i ≢ k
other_above i k l e = omega (arith, l, e)

absent_above : (i k : ℕ) (es : Atoms) → i ≡ k → IsAbove k es → IsAbsent i es
absent_above i k [] s h = All-nil (λ e. i ≢ e.0)
absent_above i k (e ∷ es) s h = All-cons (λ e. i ≢ e.0) e es (other_below i e.0 (omega (arith, s, h.0))) (absent_above i k es s h.1)

-- an atom that is taken away is not there
absent_without : (i : ℕ) (es : Atoms) → Ascends es → IsAbsent i (without_atom i es)
absent_without i [] h = All-nil (λ e. i ≢ e.0)
absent_without i (e ∷ es) h = elim (order i e.0) [
  | below f l ↦ subst (IsAbsent i) (sym (ap (λ o. cond (is_eq o) es (e ∷ without_atom i es)) f)) (All-cons (λ e. i ≢ e.0) e (without_atom i es) (other_below i e.0 l) (absent_without i es h.1))
  | same f l ↦ subst (IsAbsent i) (sym (without_same i e es f)) (absent_above i e.0 es l h.0)
  | above f l ↦ subst (IsAbsent i) (sym (without_above i e es f)) (All-cons (λ e. i ≢ e.0) e (without_atom i es) (other_above i e.0 l) (absent_without i es h.1))
]

-- one that is not there changes nothing where it is taken away
without_absent : (i : ℕ) (es : Atoms) → IsAbsent i es → without_atom i es ≡ es
without_absent i [] h = refl
without_absent i (e ∷ es) h =
    let head : i ≢ e.0 = All-head (λ e. i ≢ e.0) e es h in
    let tail = without_absent i es (All-tail (λ e. i ≢ e.0) e es h) in
    elim (order i e.0) [
      | below f l ↦ ap (λ o. cond (is_eq o) es (e ∷ without_atom i es)) f ∙ ap (λ z. e ∷ z) tail
      | same f l ↦ absurd (head l)
      | above f l ↦ without_above i e es f ∙ ap (λ z. e ∷ z) tail
    ]

-- what holds of each atom with its number holds of the one with this number
entry_at : (P : ℕ × Assn → Type 0) (i : ℕ) (p : Assn) (es : Atoms) → All P es → atom_at i es ≡ Some p → P (i, p)
entry_at P i p [] h e = cc
entry_at P i p (x ∷ es) h e =
    let tail = entry_at P i p es (All-tail P x es h) in
    elim (order i x.0) [
      | below f l ↦ tail (sym (ap (λ o. cond (is_eq o) (Some x.1) (atom_at i es)) f) ∙ e)
      | same f l ↦
          let its : x.1 ≡ p = some_same x.1 p (sym (ap (λ o. cond (is_eq o) (Some x.1) (atom_at i es)) f) ∙ e) in
          subst P (λ k. (sym l k, its k)) (All-head P x es h)
      | above f l ↦ tail (sym (ap (λ o. cond (is_eq o) (Some x.1) (atom_at i es)) f) ∙ e)
    ]

-- ---- atoms that are dealt

-- the atom with the first number, and what is dealt of the others
record First (spot : Spot) (i : ℕ) (ns : List ℕ) (atoms : Atoms) (d : Dealt) : Type 0 where
  atom : Assn
  others : Dealt
  at : atom_at i atoms ≡ Some atom
  deals : dealt spot ns (without_atom i atoms) ≡ Ok others
  given : with_atom i atom others.given ≡ d.given
  frame : others.frame ≡ d.frame

first_of : (spot : Spot) (i : ℕ) (ns : List ℕ) (atoms : Atoms) (d : Dealt) → dealt spot (i ∷ ns) atoms ≡ Ok d → First spot i ns atoms d
first_of spot i ns atoms d e =
    let rest : Checked Dealt = dealt spot ns (without_atom i atoms) in
    let r = from_some spot R1 (atom_at i atoms) (λ p. on_ok rest (λ k. Ok (record k { given = with_atom i p k.given }))) d e in
    let w = from_ok rest (λ k. Ok (record k { given = with_atom i r.0 k.given })) d r.2 in
    let is : record { given = with_atom i r.0 w.0.given; frame = w.0.frame } ≡ d = ok_same (record { given = with_atom i r.0 w.0.given; frame = w.0.frame }) d w.2 in
    record { atom = r.0; others = w.0; at = r.1; deals = w.1; given = ap (λ k. k.given) is; frame = ap (λ k. k.frame) is }

none_dealt : (spot : Spot) (atoms : Atoms) (d : Dealt) → dealt spot [] atoms ≡ Ok d → ([] ≡ d.given) × (atoms ≡ d.frame)
none_dealt spot atoms d e =
    let none : Dealt = record { given = []; frame = atoms } in
    let is : none ≡ d = ok_same none d e in
    (ap (λ k. k.given) is, ap (λ k. k.frame) is)

-- what holds of each atom holds of each one that is given, and of each one in the frame
dealt_all : (P : ℕ × Assn → Type 0) (spot : Spot) (ns : List ℕ) (atoms : Atoms) (d : Dealt) → dealt spot ns atoms ≡ Ok d → All P atoms → All P d.given × All P d.frame
dealt_all P spot [] atoms d e all = let is = none_dealt spot atoms d e in (subst (All P) is.0 (All-nil P), subst (All P) is.1 all)
dealt_all P spot (i ∷ ns) atoms d e all =
    let w : First spot i ns atoms d = first_of spot i ns atoms d e in
    let more = dealt_all P spot ns (without_atom i atoms) w.others w.deals (All-without P i atoms all) in
    (subst (All P) w.given (All-with P i w.atom w.others.given more.0 (entry_at P i w.atom atoms all w.at)), subst (All P) w.frame more.1)

-- their numbers ascend
dealt_ascends : (spot : Spot) (ns : List ℕ) (atoms : Atoms) (d : Dealt) → dealt spot ns atoms ≡ Ok d → Ascends atoms → Ascends d.given × Ascends d.frame
dealt_ascends spot [] atoms d e asc = let is = none_dealt spot atoms d e in (subst Ascends is.0 tt, subst Ascends is.1 asc)
dealt_ascends spot (i ∷ ns) atoms d e asc =
    let w : First spot i ns atoms d = first_of spot i ns atoms d e in
    let more = dealt_ascends spot ns (without_atom i atoms) w.others w.deals (Ascends-without i atoms asc) in
    (subst Ascends w.given (Ascends-with i w.atom w.others.given more.0), subst Ascends w.frame more.1)

-- the heap splits
module _ (M : Meaning) (roots : Names) (env : Env) where
  abbrev Hold : Atoms → Heap → Type 0
  Hold = AtomsHold M roots env

  dealt_split : (spot : Spot) (ns : List ℕ) (atoms : Atoms) (d : Dealt) (h : Heap) → dealt spot ns atoms ≡ Ok d → Ascends atoms → Hold atoms h
      → (a f : Heap) × Joins a f h × Hold d.given a × Hold d.frame f
  dealt_split spot [] atoms d h e asc holds =
      let is = none_dealt spot atoms d e in
      (nothing, h, Joins-swap (beside_nothing h), subst (λ z. Hold z nothing) is.0 (λ p. refl), subst (λ z. Hold z h) is.1 holds)
  dealt_split spot (i ∷ ns) atoms d h e asc holds =
      let w : First spot i ns atoms d = first_of spot i ns atoms d e in
      let less : Ascends (without_atom i atoms) = Ascends-without i atoms asc in
      let z = taken_out M roots env atoms i w.atom h w.at holds in
      let more = dealt_split spot ns (without_atom i atoms) w.others z.1 w.deals less z.4 in
      let j = Joins-front more.2 z.2 in
      let other : without_atom i w.others.given ≡ w.others.given
      = without_absent i w.others.given (dealt_all (λ e. i ≢ e.0) spot ns (without_atom i atoms) w.others w.deals (absent_without i atoms asc)).0 in
      let given : Hold (with_atom i w.atom w.others.given) j.0
      = put_in M roots env w.others.given i w.atom z.0 more.0 j.0 (dealt_ascends spot ns (without_atom i atoms) w.others w.deals less).0
      (subst (λ y. Hold y more.0) (sym other) more.3) j.1 z.3 in
      (j.0, more.1, j.2, subst (λ y. Hold y j.0) w.given given, subst (λ y. Hold y more.1) w.frame more.4)

-- ---- the law

module _ (decl : Declarations) (proof : Proof → Scope → Bool) (instance lemma : Signatures) (M : Meaning) where
  -- some of the atoms, and a heap for them
  with_some : (c : Context) (env : Env) (h : Heap) → IsModel decl proof instance lemma M c env h → (es : Atoms) (x : Heap) → Ascends es → All (λ e. e.0 ≤ c.made) es
      → All (λ e. scoped.assn decl.proofs.roots instance e.1 c.scope ≡ true) es → AtomsHold M decl.proofs.roots env es x → IsModel decl proof instance lemma M (record c { atoms = es }) env x
  with_some c env h at es x asc numbered order holds = record {
    formed = record { ascending = ascends_to es asc; numbered = numbered; atoms = order; hyps = at.formed.hyps; no_root_hidden = at.formed.no_root_hidden };
    satisfied = record { sorts = at.satisfied.sorts; hyps = at.satisfied.hyps; atoms = holds };
  }

  pub deals_split_heaps : DealsSplitHeaps decl proof instance lemma M
  deals_split_heaps c env h at spot ns d e =
      let asc : Ascends c.atoms = ascends_from c.atoms at.formed.ascending in
      let ascend = dealt_ascends spot ns c.atoms d e asc in
      let numbered = dealt_all (λ k. k.0 ≤ c.made) spot ns c.atoms d e at.formed.numbered in
      let order = dealt_all (λ k. scoped.assn decl.proofs.roots instance k.1 c.scope ≡ true) spot ns c.atoms d e at.formed.atoms in
      let w = dealt_split M decl.proofs.roots env spot ns c.atoms d h e asc at.satisfied.atoms in (
        w.0,
        w.1,
        w.2,
        with_some c env h at d.given w.0 ascend.0 numbered.0 order.0 w.3,
        with_some c env h at d.frame w.1 ascend.1 numbered.1 order.1 w.4,
      )
