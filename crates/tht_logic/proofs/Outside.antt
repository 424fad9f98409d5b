-- A branch at work outside atomic blocks: a value, a term that does not fit, and a plain statement.
use Rattle.std.proofs.Common.{◌≡◌, ℕ, zero, suc, eqb, false, List, ap, subst}
use Rattle.tht_tree.specs.declared.plain.Value.{Value}
use Rattle.tht_tree.specs.Heaps.{Heap, shared_part}
use Rattle.tht_logic.specs.Machine.{Bodies, Prog, Ended, FrontBig, Plain, Block, Fork, Cmd, Mem, Tree, Leaf, Cannot, Big, plain_step}
use Rattle.tht_logic.specs.Soundness.{Assertion, Postcondition, Stands, Keeps}
use Rattle.tht_logic.proofs.Said.{leads_map, leads_on_next, leads_unless_zero, leads_if, IsSafe-on_next, IsSafe-unless_zero, IsSafe-if}
use Rattle.tht_logic.proofs.HeapLaws.{Joins-rest, Joins-front, Joins-swap}
use Rattle.tht_logic.proofs.Parts.{AllOwn, AllShared, is_split, private_own, shared_shared, first_own, second_own, parts_private, parts_shared}
use Rattle.tht_logic.proofs.Acts.{Acts}

pub stands_own : {I : Assertion} {above : List ℕ} {t : Tree} {p f : Heap} {m : Mem} → Stands I above t p f m → AllOwn p
stands_own {m = m} s = first_own s.parts (private_own m.heap)

-- what follows from the state in which a tree stands may be assumed where it is shown to keep
pub when_stands : (F : Bodies) (I : Assertion) (k : ℕ) (above : List ℕ) (t : Tree) (p : Heap) (Q : Postcondition) → ((f : Heap) (m : Mem) → Stands I above t p f m → Keeps F I (suc k) above t p Q) → Keeps F I (suc k) above t p Q
when_stands F I k above t p Q g = record { ends = λ f m s. (g f m s).ends f m s; safe = λ f m s. (g f m s).safe f m s; goes = λ f m s. (g f m s).goes f m s }

abbrev value_of_leaf : Value → Tree → Value
value_of_leaf d (Leaf b (Ended v)) = v
value_of_leaf d (Leaf b FrontBig) = d
value_of_leaf d (Leaf b (Plain c rest)) = d
value_of_leaf d (Leaf b (Block p rest)) = d
value_of_leaf d (Leaf b (Fork p q rest)) = d

pub keeps_value : (F : Bodies) (I : Assertion) (k : ℕ) (above : List ℕ) (b : ℕ) (v : Value) (p : Heap) (Q : Postcondition) → Q v p → Keeps F I k above (Leaf b (Ended v)) p Q
keeps_value F I zero above b v p Q h = tt
keeps_value F I (suc k) above b v p Q h = record {
  ends = λ f m s c w e. subst (λ z. Q z p) (ap (value_of_leaf v) e) h;
  safe = λ f m s c n. IsSafe-if (eqb b c) Cannot tt;
  goes = λ f m s c n. leads_if (eqb b c) Cannot _ tt;
}

not_big : (b c : ℕ) (v : Value) → Leaf b FrontBig ≡ Leaf c (Ended v) → ⊥
not_big b c v e = cc

pub keeps_big : (F : Bodies) (I : Assertion) (k : ℕ) (above : List ℕ) (b : ℕ) (p : Heap) (Q : Postcondition) → Keeps F I k above (Leaf b FrontBig) p Q
keeps_big F I zero above b p Q = tt
keeps_big F I (suc k) above b p Q = record {
  ends = λ f m s c v e. absurd (not_big b c v e);
  safe = λ f m s c n. IsSafe-if (eqb b c) Big tt;
  goes = λ f m s c n. leads_if (eqb b c) Big _ tt;
}

not_value : (b c : ℕ) (x : Cmd) (r : Value → Prog) (v : Value) → Leaf b (Plain x r) ≡ Leaf c (Ended v) → ⊥
not_value b c x r v e = cc

module _ (F : Bodies) (I : Assertion) (k : ℕ) (above : List ℕ) (b : ℕ) (c : Cmd) (rest : Value → Prog) (p : Heap) (Q : Postcondition) (P : Prog → Heap → Type 0)
    (acts : Acts F above b false c rest p P)
    (goes_on : (u : Prog) (q : Heap) → P u q → AllOwn q × Keeps F I k above (Leaf b u) q Q) where
  -- a plain statement keeps for one step more than what follows it
  pub keeps_plain : Keeps F I (suc k) above (Leaf b (Plain c rest)) p Q
  keeps_plain = record {
    ends = λ f m s x v e. absurd (not_value b x c rest v e);
    safe = λ f m s x n.
        let i = Joins-rest s.parts (is_split m.heap) in
        IsSafe-if (eqb b x) _ (IsSafe-unless_zero n _ (IsSafe-on_next (plain_step F above b false m c rest) _ (acts.safe i.0 m i.2 s.tags s.is_made)));
    goes = λ f m s x n.
        let i = Joins-rest s.parts (is_split m.heap) in
        leads_if (eqb b x) _ _
        (leads_unless_zero n _ _
        (leads_on_next (plain_step F above b false m c rest) _ _
        (leads_map (plain_step F above b false m c rest) _ _
        (λ r y.
        let g = goes_on r.1 y.0 y.2 in
        let w = Joins-front (Joins-swap i.1) y.1 in
        let u : AllShared (shared_part m.heap) = shared_shared m.heap in
        let o : AllOwn f = second_own s.parts (private_own m.heap) in
        (y.0, parts_private w.1 w.2 g.0 u o, subst I (parts_shared w.1 w.2 g.0 u o) s.invariant, g.1))
        (acts.ends i.0 m i.2 s.tags s.is_made))));
  }
