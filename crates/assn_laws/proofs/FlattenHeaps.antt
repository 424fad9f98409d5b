-- The law of flattening: a heap satisfies an assertion exactly where it is a disjoint union of heaps, one for each of its atoms.
use Rattle.std.proofs.Common.{◌≡◌, ◌↔◌, List, [], ◌∷◌, ◌++◌, refl, sym, subst}
use mathlib.Core.Path.{fun_ext}
use Rattle.tht_tree.specs.declared.assn.Assn.{Assn}
use Rattle.tht_tree.specs.declared.assn.Assn.TheVariants as a
use Rattle.tht_tree.specs.Values.{Env}
use Rattle.tht_tree.specs.Syntax.{Names}
use Rattle.tht_tree.specs.Heaps.{Heap, nothing, Joins, IsEmpty}
use Rattle.tht_logic.proofs.HeapLaws.{Joins-rest, Joins-front, Joins-swap, Joins-nothing, beside_nothing}
use Rattle.tht_logic.specs.Satisfaction.{Meaning, Satisfies, PartsHold}
use Rattle.tht_logic.specs.Flatten.{flatten}
use Rattle.assn_laws.specs.AssertionLaws.{Holds, FlatteningKeepsHeaps}
use Rattle.assn_laws.proofs.AssnLevels.{Star, Exists, Either, Star-is, Exists-is, Either-is}
use Rattle.assn_laws.proofs.Nameless.{asn-Emp, asn-Star}
use Rattle.assn_laws.proofs.Flattening.{flatten-Emp, flatten-Fact, flatten-Own, flatten-Shared, flatten-Star, flatten-Inst, flatten-Exists, flatten-Either}

empty_is_nothing : (h : Heap) → IsEmpty h → h ≡ nothing
empty_is_nothing h e = fun_ext e

-- what is beside an empty heap is the whole
pub beside_empty : {x y h : Heap} → Joins x y h → IsEmpty y → x ≡ h
beside_empty {x} {y} {h} j e = Joins-nothing (subst (λ z. Joins x z h) (empty_is_nothing y e) j)

pub behind_empty : {x y h : Heap} → Joins x y h → IsEmpty x → y ≡ h
behind_empty j e = beside_empty (Joins-swap j) e

module _ (M : Meaning) (roots : Names) (env : Env) where
  abbrev pub Of : Assn → Heap → Type 0
  Of = Holds M roots env

  abbrev pub Parts : List Assn → Heap → Type 0
  Parts = PartsHold M roots env

  -- one part
  one_part : (p : Assn) (h : Heap) → Of p h ↔ Parts (p ∷ []) h
  one_part p h = (λ s. (h, nothing, beside_nothing h, s, λ q. refl), λ w. subst (Of p) (beside_empty w.2 w.4) w.3)

  -- parts of two lists
  pub join_parts : (ps qs : List Assn) (x y h : Heap) → Joins x y h → Parts ps x → Parts qs y → Parts (ps ++ qs) h
  join_parts [] qs x y h j e w = subst (Parts qs) (behind_empty j e) w
  join_parts (p ∷ ps) qs x y h j w z =
      let r : (bc : Heap) × Joins w.1 y bc × Joins w.0 bc h = Joins-rest w.2 j in
      (w.0, r.0, r.2, w.3, join_parts ps qs w.1 y r.0 r.1 w.4 z)

  pub split_parts : (ps qs : List Assn) (h : Heap) → Parts (ps ++ qs) h → (x y : Heap) × Joins x y h × Parts ps x × Parts qs y
  split_parts [] qs h w = (nothing, h, Joins-swap (beside_nothing h), λ q. refl, w)
  split_parts (p ∷ ps) qs h w = split_parts_more (split_parts ps qs w.1 w.4)
    where
      split_parts_more : ((x y : Heap) × Joins x y w.1 × Parts ps x × Parts qs y) → (x y : Heap) × Joins x y h × Parts (p ∷ ps) x × Parts qs y
      split_parts_more r =
          let f : (ab : Heap) × Joins w.0 r.0 ab × Joins ab r.1 h = Joins-front r.2 w.2 in
          (f.0, r.1, f.2, (w.0, r.0, f.1, w.3, r.3), r.4)

  -- an assertion that is an atom itself
  by_itself : (p : Assn) → flatten p ≡ p ∷ [] → (h : Heap) → Of p h ↔ Parts (flatten p) h
  by_itself p e h = subst (λ ps. Of p h ↔ Parts ps h) (sym e) (one_part p h)

  abbrev Law : Assn → Type 0
  Law p = (h : Heap) → Of p h ↔ Parts (flatten p) h

  of_emp : Law a.Emp
  of_emp h =
      subst (λ ps. Of a.Emp h ↔ Parts ps h) (sym flatten-Emp)
      (subst (λ z. Satisfies M env [] z h ↔ IsEmpty h) (sym (asn-Emp roots [])) (λ e. e, λ e. e))

  of_star : (p q : Assn) → Law p → Law q → Law (a.Star p q)
  of_star p q f g h =
      subst (λ ps. Of (a.Star p q) h ↔ Parts ps h) (sym (flatten-Star p q))
      (subst (λ z. Satisfies M env [] z h ↔ Parts (flatten p ++ flatten q) h) (sym (asn-Star roots [] p q)) (
        λ w. join_parts (flatten p) (flatten q) w.0 w.1 h w.2 ((f w.0).0 w.3) ((g w.1).0 w.4),
        λ w. let r : (x y : Heap) × Joins x y h × Parts (flatten p) x × Parts (flatten q) y = split_parts (flatten p) (flatten q) h w in
            (r.0, r.1, r.2, (f r.0).1 r.3, (g r.1).1 r.4),
      ))

  pub of_atoms : (p : Assn) → Law p
  of_atoms a.Emp = of_emp
  of_atoms (a.Fact t) = by_itself (a.Fact t) (flatten-Fact t)
  of_atoms (a.Own t u) = by_itself (a.Own t u) (flatten-Own t u)
  of_atoms (a.Shared t u) = by_itself (a.Shared t u) (flatten-Shared t u)
  of_atoms (Star p q) = subst Law (Star-is p q) (of_star p q (of_atoms p) (of_atoms q))
  of_atoms (a.Inst n ts) = by_itself (a.Inst n ts) (flatten-Inst n ts)
  of_atoms (Exists x s p) = subst Law (Exists-is x s p) (by_itself (a.Exists x s p) (flatten-Exists x s p))
  of_atoms (Either p q) = subst Law (Either-is p q) (by_itself (a.Either p q) (flatten-Either p q))

pub flattening_keeps_heaps : (M : Meaning) → FlatteningKeepsHeaps M
flattening_keeps_heaps M roots env p h = of_atoms M roots env p h
