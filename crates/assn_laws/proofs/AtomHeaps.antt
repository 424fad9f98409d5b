-- The heaps of atoms: one atom's taken out, put back, changed or added.
use Rattle.std.proofs.Common.{◌≡◌, ℕ, Bool, true, false, cond, [], ◌∷◌, Some, sym, subst}
use Rattle.std.specs.Ordering.{nat_cmp, is_eq}
use Rattle.tht_tree.specs.declared.assn.Assn.{Assn}
use Rattle.tht_tree.specs.Values.{Env}
use Rattle.tht_tree.specs.Syntax.{Names}
use Rattle.tht_tree.specs.Heaps.{Heap, Joins}
use Rattle.tht_tree.specs.Rules.Context.{atom_at, without_atom, with_atom}
use Rattle.tht_logic.proofs.HeapLaws.{Joins-rest, Joins-swap}
use Rattle.tht_logic.specs.Satisfaction.{Meaning, AtomsHold}
use Rattle.assn_laws.specs.AssertionLaws.{Holds as HoldsOf}
use Rattle.assn_laws.proofs.Answers.{some_same}
use Rattle.assn_laws.proofs.AtomLists.{Atoms, order, below, same, above, IsAbove, IsAbove-less, Ascends, without_below, without_same, without_above, with_below, with_same, with_above}

module _ (M : Meaning) (roots : Names) (env : Env) where
  abbrev pub Holds : Assn → Heap → Type 0
  Holds a h = HoldsOf M roots env a h

  -- one atom's heap, beside the others'
  abbrev TakenOut : Atoms → Atoms → Assn → Heap → Type 0
  TakenOut atoms rest a h = (x d : Heap) × Joins x d h × Holds a x × AtomsHold M roots env rest d

  pub taken_out : (atoms : Atoms) (i : ℕ) (a : Assn) (h : Heap) → atom_at i atoms ≡ Some a → AtomsHold M roots env atoms h → TakenOut atoms (without_atom i atoms) a h
  taken_out [] i a h e w = cc
  taken_out (e ∷ es) i a h at w = pick (is_eq (nat_cmp i e.0)) (λ f. taken_out es i a w.1 f w.4) at
    where
      pick : (c : Bool) → (atom_at i es ≡ Some a → TakenOut es (without_atom i es) a w.1) → cond c (Some e.1) (atom_at i es) ≡ Some a → TakenOut (e ∷ es) (cond c es (e ∷ without_atom i es)) a h
      pick true more f = (w.0, w.1, w.2, subst (λ z. Holds z w.0) (some_same e.1 a f) w.3, w.4)
      pick false more f =
          let r = more f in
          let z = Joins-rest r.2 (Joins-swap w.2) in
          (r.0, z.0, z.2, r.3, (w.0, r.1, Joins-swap z.1, w.3, r.4))

  -- a heap of the atom beside the others' is a heap of all
  pub put_back : (atoms : Atoms) (i : ℕ) (a : Assn) (x d h : Heap) → atom_at i atoms ≡ Some a → AtomsHold M roots env (without_atom i atoms) d → Joins x d h → Holds a x → AtomsHold M roots env atoms h
  put_back [] i a x d h e w j s = cc
  put_back (e ∷ es) i a x d h at w j s = pick (is_eq (nat_cmp i e.0)) (λ k f y q. put_back es i a x k y f q.0 q.1 s) at w
    where
      pick : (c : Bool) → ((k : Heap) → atom_at i es ≡ Some a → (y : Heap) → AtomsHold M roots env (without_atom i es) k × Joins x k y → AtomsHold M roots env es y) →
          cond c (Some e.1) (atom_at i es) ≡ Some a → AtomsHold M roots env (cond c es (e ∷ without_atom i es)) d → AtomsHold M roots env (e ∷ es) h
      pick true more f w = (x, d, j, subst (λ z. Holds z x) (sym (some_same e.1 a f)) s, w)
      pick false more f w =
          let r = Joins-rest w.2 (Joins-swap j) in
          (w.0, r.0, r.2, w.3, more w.1 f r.0 (w.4, Joins-swap r.1))

  -- the same of an atom that is changed, or new
  pub put_in : (atoms : Atoms) (i : ℕ) (a : Assn) (x d h : Heap) → Ascends atoms → AtomsHold M roots env (without_atom i atoms) d → Joins x d h → Holds a x → AtomsHold M roots env (with_atom i a atoms) h
  put_in [] i a x d h o w j s = (x, d, j, s, w)
  put_in (e ∷ es) i a x d h o w j s = elim (order i e.0) [
    | below f g ↦
        let all_above : IsAbove i (e ∷ es) = (g, IsAbove-less i e.0 es g o.0) in
        subst (λ z. AtomsHold M roots env z h) (sym (with_below i a e es f)) (x, d, j, s, subst (λ z. AtomsHold M roots env z d) (without_below i (e ∷ es) all_above) w)
    | same f g ↦
        subst (λ z. AtomsHold M roots env z h) (sym (with_same i a e es f)) (x, d, j, s, subst (λ z. AtomsHold M roots env z d) (without_same i e es f) w)
    | above f g ↦
        let v : AtomsHold M roots env (e ∷ without_atom i es) d = subst (λ z. AtomsHold M roots env z d) (without_above i e es f) w in
        let r = Joins-rest v.2 (Joins-swap j) in
        subst (λ z. AtomsHold M roots env z h) (sym (with_above i a e es f)) (v.0, r.0, r.2, v.3, put_in es i a x v.1 r.0 o.1 v.4 (Joins-swap r.1) s)
  ]
