-- What a step of a tree does to the branches' numbers and to the owners of cells.
use Rattle.std.proofs.Common.{◌≡◌, ℕ, ◌<◌, ◌≤◌, eqb, true, false, List, sym, le_of_eq, ◌⊎◌, inl, inr, Some}
use Rattle.tht_tree.specs.declared.plain.Place.{Place}
use Rattle.tht_tree.specs.declared.plain.Value.{Value}
use Rattle.tht_tree.specs.Heaps.{own}
use Rattle.tht_logic.specs.Machine.{Bodies, Prog, Ended, FrontBig, Plain, Block, Fork, Wrong, Mem, Tree, Leaf, Moved, plain_step, work, step_of, is_in, branches}
use Rattle.tht_logic.specs.Soundness.{IsMade, Leads, AreDistinct}
use Rattle.tht_logic.proofs.Said.{leads_map, leads_on_next, leads_unless_zero, leads_if}
use Rattle.tht_logic.proofs.Numbers.{decide, is_in_alone}
use Rattle.tht_logic.proofs.Local.{Local, plain_local}

-- no number is used again, and each cell's owner is a branch of the tree, or is as it was
pub record Moves (above : List ℕ) (m : Mem) (t : Tree) (r : Moved) : Type 0 where
  pub next : m.next_branch ≤ r.mem.next_branch
  pub made : IsMade m → IsMade r.mem
  pub grown : (a : ℕ) → is_in a (branches r.tree) ≡ true → (is_in a (branches t) ≡ true) ⊎ ((m.next_branch ≤ a) × (a < r.mem.next_branch))
  pub distinct : AreDistinct above r.tree
  pub tags : (p : Place) (a : ℕ) (v : Value) → r.mem.heap p ≡ Some (own a v) → (is_in a (branches r.tree) ≡ true) ⊎ ((is_in a (branches t) ≡ false) × ((w : Value) × (m.heap p ≡ Some (own a w))))

stays : (above : List ℕ) (m : Mem) (b cost : ℕ) (p q : Prog) (n : Mem) → is_in b above ≡ false → Local b m n → Moves above m (Leaf b p) (record { cost = cost; mem = n; tree = Leaf b q })
stays above m b cost p q n d l = record {
  next = le_of_eq (sym l.next);
  made = l.made;
  grown = λ a e. inl e;
  distinct = d;
  tags = λ x a v e. elim (l.tags x a v e) [
    | inl h ↦ inl (is_in_alone a b h)
    | inr h ↦ elim (decide (is_in a (branches (Leaf b p)))) [ inl y ↦ inl y | inr y ↦ inr (y, h) ]
  ];
}

work_moves : (F : Bodies) (above : List ℕ) (b n : ℕ) (m : Mem) (p : Prog) → is_in b above ≡ false → Leads (work F above b n m p) (Moves above m (Leaf b p))
work_moves F above b n m (Ended v) d = tt
work_moves F above b n m FrontBig d = tt
work_moves F above b n m (Plain c rest) d =
    leads_unless_zero n _ _ (leads_on_next (plain_step F above b false m c rest) _ _
    (leads_map (plain_step F above b false m c rest) _ _ (λ r x. stays above m b 1 (Plain c rest) r.1 r.0 d x) (plain_local F above b false m c rest)))
work_moves F above b n m (Block p rest) d = leads_unless_zero n Wrong _ tt
work_moves F above b n m (Fork p q rest) d = leads_unless_zero n Wrong _ tt

pub step_moves : (F : Bodies) (above : List ℕ) (c n : ℕ) (m : Mem) (t : Tree) → AreDistinct above t → Leads (step_of F above c n m t) (Moves above m t)
step_moves F above c n m (Leaf b p) d = leads_if (eqb b c) _ _ (work_moves F above b n m p d)
