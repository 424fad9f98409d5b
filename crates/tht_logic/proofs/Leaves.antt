-- The step of a branch at work: none comes only where a value stands in front, and one that comes costs 1, which was left.
use Rattle.std.proofs.Common.{◌≡◌, ◌≢◌, ℕ, zero, suc, ◌≤◌, ◌==◌, Bool, true, false, [], Option, Some, None, refl, sym, ap, arith, if◌then◌else◌}
use Rattle.tht_tree.specs.declared.plain.Value.{Value}
use Rattle.tht_tree.specs.declared.plain.Place.{Place}
use Rattle.tht_tree.specs.declared.plain.Sort.{Sort}
use Rattle.tht_tree.specs.Values.{has_sort, unit_value}
use Rattle.tht_tree.specs.Heaps.{Held, held_value, with_value}
use Rattle.tht_logic.specs.Machine.{Bodies, Cmd, TermBig, Read, Write, Alloc, Free, Publish, Retract, Call, Prog, Ended, FrontBig, Plain, Block, Fork, Mem, retag, put, touched, Tree, Leaf, Said, Next, Cannot, Big, Longer, Touch, Wrong, Ran, on_next, at, at_leaf, plain_step, Moved, work, step_of}

pub record CostsOne (r : Moved) (left : ℕ) : Type 0 where
  pub one : r.cost ≡ 1
  pub less : 1 ≤ left

abbrev cost_in : Said Moved → ℕ
cost_in (Next r) = r.cost
cost_in _ = 1

ran_costs : (b left : ℕ) (s : Said Ran) (r : Moved) → on_next s (λ x. Next (at_leaf b x)) ≡ Next r → CostsOne r (suc left)
ran_costs b left (Next x) r e = record { one = ap cost_in (sym e); less = omega arith }
ran_costs b left _ r e = absurd (cc)

abbrev next_ran : Ran → Said Ran
next_ran r = Next r

at_can : (p : Place) (o : Option Held) (go : Held → Said Ran) → ((c : Held) → go c ≢ Cannot) → at p o go ≢ Cannot
at_can p None go h e = cc
at_can p (Some c) go h e = h c e

sorted_can : (b : Bool) (r : Ran) → (if b then next_ran r else Wrong) ≢ Cannot
sorted_can true r e = cc
sorted_can false r e = cc

ran_can : (b : ℕ) (s : Said Ran) → on_next s (λ x. Next (at_leaf b x)) ≡ Cannot → s ≡ Cannot
ran_can b Cannot e = refl
ran_can b (Next x) e = absurd (cc)
ran_can b Big e = absurd (cc)
ran_can b Longer e = absurd (cc)
ran_can b (Touch p) e = absurd (cc)
ran_can b Wrong e = absurd (cc)

module _ (F : Bodies) (m : Mem) where
  work_costs : (b left : ℕ) (p : Prog) (r : Moved) → work F [] b left m p ≡ Next r → CostsOne r left
  work_costs b left (Ended v) r e = absurd (cc)
  work_costs b left FrontBig r e = absurd (cc)
  work_costs b zero (Plain c rest) r e = absurd (cc)
  work_costs b (suc left) (Plain c rest) r e = ran_costs b left (plain_step F [] b false m c rest) r e
  work_costs b zero (Block p rest) r e = absurd (cc)
  work_costs b (suc left) (Block p rest) r e = absurd (cc)
  work_costs b zero (Fork p q rest) r e = absurd (cc)
  work_costs b (suc left) (Fork p q rest) r e = absurd (cc)

  if_costs : (here : Bool) (b left : ℕ) (p : Prog) (r : Moved) → (if here then work F [] b left m p else Cannot) ≡ Next r → CostsOne r left
  if_costs true b left p r e = work_costs b left p r e
  if_costs false b left p r e = absurd (cc)

  pub step_costs : (c left : ℕ) (t : Tree) (r : Moved) → step_of F [] c left m t ≡ Next r → CostsOne r left
  step_costs c left (Leaf b p) r e = if_costs (b == c) b left p r e

  -- what a statement says of the cell that it has touched
  abbrev read_says : Sort → Place → (Value → Prog) → Held → Said Ran
  read_says s p rest c = if has_sort s (held_value c) then next_ran (retag m p (Some c), rest (held_value c)) else Wrong

  abbrev write_says : Place → Value → (Value → Prog) → Held → Said Ran
  write_says p v rest c = next_ran (put m p (Some (with_value c v)), rest unit_value)

  abbrev free_says : Place → (Value → Prog) → Held → Said Ran
  free_says p rest c = next_ran (retag m p None, rest unit_value)

  plain_can : (b : ℕ) (c : Cmd) (rest : Value → Prog) → plain_step F [] b false m c rest ≢ Cannot
  plain_can b TermBig rest e = cc
  plain_can b (Read s p) rest e = at_can p (touched [] b false (m.heap p)) (read_says s p rest) (λ c. sorted_can (has_sort s (held_value c)) (retag m p (Some c), rest (held_value c))) e
  plain_can b (Write p v) rest e = at_can p (touched [] b false (m.heap p)) (write_says p v rest) (λ c z. cc) e
  plain_can b (Alloc vs) rest e = cc
  plain_can b (Free p) rest e = at_can p (touched [] b false (m.heap p)) (free_says p rest) (λ c z. cc) e
  plain_can b (Publish p) rest e = cc
  plain_can b (Retract p) rest e = cc
  plain_can b (Call f vs) rest e = cc

  pub only_a_value : (b left : ℕ) (p : Prog) → work F [] b left m p ≡ Cannot → (v : Value) × (p ≡ Ended v)
  only_a_value b left (Ended v) e = (v, refl)
  only_a_value b left FrontBig e = absurd (cc)
  only_a_value b zero (Plain c rest) e = absurd (cc)
  only_a_value b (suc left) (Plain c rest) e = absurd (plain_can b c rest (ran_can b (plain_step F [] b false m c rest) e))
  only_a_value b zero (Block p rest) e = absurd (cc)
  only_a_value b (suc left) (Block p rest) e = absurd (cc)
  only_a_value b zero (Fork p q rest) e = absurd (cc)
  only_a_value b (suc left) (Fork p q rest) e = absurd (cc)
