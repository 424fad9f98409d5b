-- Atoms that are added, with the next numbers: they are in order, and their heaps stand beside the others.
use Rattle.std.proofs.Common.{◌≡◌, ℕ, ◌+◌, ◌≤◌, true, arith, All, List, [], ◌∷◌, refl, sym, ◌∙◌, subst}
use Rattle.std.proofs.lemmas.List.Elements.{All-head, All-tail, All-cons, All-nil, All-append}
use Rattle.std.specs.List.Sorted.{IsStrictlySortedBy}
use Rattle.std.specs.Map.{keys_of}
use Rattle.std.specs.Ordering.{nat_cmp}
use Rattle.tht_tree.specs.declared.assn.Assn.{Assn}
use Rattle.tht_tree.specs.declared.assn.Assn.TheVariants as a
use Rattle.tht_tree.specs.Values.{Env}
use Rattle.tht_tree.specs.Syntax.{Names}
use Rattle.tht_tree.specs.Heaps.{Heap, Joins}
use Rattle.tht_tree.specs.Rules.Context.{Context, Scope, without_atom, with_atom}
use Rattle.tht_logic.proofs.HeapLaws.{Joins-rest, Joins-swap}
use Rattle.tht_logic.specs.Satisfaction.{Meaning, PartsHold, AtomsHold}
use Rattle.tht_logic.specs.Flatten.{flatten, with_atoms}
use Rattle.tht_logic.specs.Rules.Gives.{Atoms}
use Rattle.tht_logic.specs.Rules.Scoped.{Signatures}
use Rattle.tht_logic.specs.Rules.Scoped as scoped
use Rattle.assn_laws.proofs.AssnLevels.{Star, Exists, Either, Star-is, Exists-is, Either-is}
use Rattle.assn_laws.proofs.Flattening.{flatten-Emp, flatten-Fact, flatten-Own, flatten-Shared, flatten-Star, flatten-Inst, flatten-Exists, flatten-Either}
use Rattle.assn_laws.proofs.FlattenHeaps.{behind_empty}
use Rattle.assn_laws.proofs.KnownNames.{both_true}
use Rattle.assn_laws.proofs.ScopedLevels.{scoped-Star}
use Rattle.assn_laws.proofs.AtomLists.{ascends_from, ascends_to, Ascends-with, All-with, without_new}
use Rattle.assn_laws.proofs.AtomHeaps.{put_in}

module _ (roots : Names) (instance : Signatures) where
  -- ---- what flattening makes of what is in order

  abbrev In : Scope → Assn → Type 0
  In scope p = scoped.assn roots instance p scope ≡ true

  abbrev FlatIn : Assn → Type 0
  FlatIn p = (scope : Scope) → In scope p → All (In scope) (flatten p)

  by_itself : (p : Assn) → flatten p ≡ p ∷ [] → FlatIn p
  by_itself p e scope i = subst (All (In scope)) (sym e) (All-cons (In scope) p [] i (All-nil (In scope)))

  of_star : (p q : Assn) → FlatIn p → FlatIn q → FlatIn (a.Star p q)
  of_star p q f g scope i =
      let b : (scoped.assn roots instance p scope ≡ true) × (scoped.assn roots instance q scope ≡ true)
      = both_true (scoped.assn roots instance p scope) (scoped.assn roots instance q scope) (sym (scoped-Star roots instance p q scope) ∙ i) in
      subst (All (In scope)) (sym (flatten-Star p q)) (All-append (In scope) (flatten p) (flatten q) (f scope b.0) (g scope b.1))

  pub flat_in_order : (p : Assn) → FlatIn p
  flat_in_order a.Emp = λ scope i. subst (All (In scope)) (sym flatten-Emp) (All-nil (In scope))
  flat_in_order (a.Fact t) = by_itself (a.Fact t) (flatten-Fact t)
  flat_in_order (a.Own t u) = by_itself (a.Own t u) (flatten-Own t u)
  flat_in_order (a.Shared t u) = by_itself (a.Shared t u) (flatten-Shared t u)
  flat_in_order (Star p q) = subst FlatIn (Star-is p q) (of_star p q (flat_in_order p) (flat_in_order q))
  flat_in_order (a.Inst n ts) = by_itself (a.Inst n ts) (flatten-Inst n ts)
  flat_in_order (Exists x s p) = subst FlatIn (Exists-is x s p) (by_itself (a.Exists x s p) (flatten-Exists x s p))
  flat_in_order (Either p q) = subst FlatIn (Either-is p q) (by_itself (a.Either p q) (flatten-Either p q))

  -- ---- atoms in order

  pub record Good (scope : Scope) (made : ℕ) (atoms : Atoms) : Type 0 where
    pub ascending : IsStrictlySortedBy nat_cmp (keys_of atoms)
    pub numbered : All (λ e. e.0 ≤ made) atoms
    pub in_order : All (λ e. scoped.assn roots instance e.1 scope ≡ true) atoms

  one_more : (made : ℕ) (atoms : Atoms) → All (λ e. e.0 ≤ made) atoms → All (λ e. e.0 ≤ made + 1) atoms
  one_more made [] h = All-nil (λ e. e.0 ≤ made + 1)
  one_more made (e ∷ es) h =
      let head = All-head (λ e. e.0 ≤ made) e es h in
      All-cons (λ e. e.0 ≤ made + 1) e es (omega (arith, head)) (one_more made es (All-tail (λ e. e.0 ≤ made) e es h))

  pub good_with : (scope : Scope) (made : ℕ) (atoms : Atoms) (p : Assn) → Good scope made atoms → In scope p → Good scope (made + 1) (with_atom (made + 1) p atoms)
  good_with scope made atoms p g i = record {
    ascending = ascends_to (with_atom (made + 1) p atoms) (Ascends-with (made + 1) p atoms (ascends_from atoms g.ascending));
    numbered = All-with (λ e. e.0 ≤ made + 1) (made + 1) p atoms (one_more made atoms g.numbered) (omega arith);
    in_order = All-with (λ e. scoped.assn roots instance e.1 scope ≡ true) (made + 1) p atoms g.in_order i;
  }

  abbrev pub GoodAtoms : Context → Type 0
  GoodAtoms c = Good c.scope c.made c.atoms

  pub good_added : (ps : List Assn) (c : Context) → GoodAtoms c → All (In c.scope) ps → GoodAtoms (with_atoms ps c)
  good_added [] c g i = g
  good_added (p ∷ ps) c g i =
      good_added ps (record c { atoms = with_atom (c.made + 1) p c.atoms; made = c.made + 1 }) (good_with c.scope c.made c.atoms p g (All-head (In c.scope) p ps i)) (All-tail (In c.scope) p ps i)

  -- ---- what is added changes nothing else

  pub added_scope : (ps : List Assn) (c : Context) → (with_atoms ps c).scope ≡ c.scope
  added_scope [] c = refl
  added_scope (p ∷ ps) c = added_scope ps (record c { atoms = with_atom (c.made + 1) p c.atoms; made = c.made + 1 })

  pub added_hyps : (ps : List Assn) (c : Context) → (with_atoms ps c).hyps ≡ c.hyps
  added_hyps [] c = refl
  added_hyps (p ∷ ps) c = added_hyps ps (record c { atoms = with_atom (c.made + 1) p c.atoms; made = c.made + 1 })

  -- ---- heaps

  module _ (M : Meaning) (env : Env) where
    pub added_hold : (ps : List Assn) (c : Context) (x y h : Heap) → GoodAtoms c → All (In c.scope) ps → PartsHold M roots env ps x → AtomsHold M roots env c.atoms y → Joins x y h → AtomsHold M roots env (with_atoms ps c).atoms h
    added_hold [] c x y h g i e w j = subst (AtomsHold M roots env c.atoms) (behind_empty j e) w
    added_hold (p ∷ ps) c x y h g i parts w j =
        let r = Joins-rest (Joins-swap parts.2) j in
        let same : without_atom (c.made + 1) c.atoms ≡ c.atoms = without_new c.made (c.made + 1) c.atoms g.numbered (omega arith) in
        let more : AtomsHold M roots env (with_atom (c.made + 1) p c.atoms) r.0
        = put_in M roots env c.atoms (c.made + 1) p parts.0 y r.0 (ascends_from c.atoms g.ascending) (subst (λ z. AtomsHold M roots env z y) (sym same) w) r.1 parts.3 in
        added_hold ps (record c { atoms = with_atom (c.made + 1) p c.atoms; made = c.made + 1 }) parts.1 r.0 h
        (good_with c.scope c.made c.atoms p g (All-head (In c.scope) p ps i)) (All-tail (In c.scope) p ps i) parts.4 more r.2
