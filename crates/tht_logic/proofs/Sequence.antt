-- The law of sequence and frame: a body keeps to its postcondition, and from there what follows it keeps to another, beside a frame that the body
-- does not see. So the body with what follows keeps to that one, from the body's cells and the frame.
use Rattle.std.proofs.Common.{◌≡◌, ℕ, zero, suc, ◌≤◌, le_refl, eqb, cond, Bool, true, false, List, ◌∷◌, [], refl, sym, ◌∙◌, ap, subst, inl, inr, Some, None, Option, arith}
use Rattle.tht_tree.specs.declared.plain.Place.{Place}
use Rattle.tht_tree.specs.declared.plain.Value.{Value}
use Rattle.tht_tree.specs.Values.{unit_value, has_sort}
use Rattle.tht_tree.specs.Heaps.{Heap, Held, own, held_value, with_value, Joins, private_part}
use Rattle.tht_logic.specs.Machine.{Bodies, Prog, Ended, FrontBig, Plain, Block, Fork, and_then, Cmd, TermBig, Read, Write, Alloc, Free, Publish, Retract, Call, Mem, retag, put, Ran, at, touched, plain_step, Said, Next, Cannot, Big, Longer, Touch, Wrong, on_next, Tree, Leaf, Moved, at_leaf, unless_zero, work, step_of, is_in}
use Rattle.tht_logic.specs.Soundness.{Assertion, Postcondition, Stands, Keeps, Leaves, Leads, IsSafe}
use Rattle.tht_logic.proofs.Said.{leads_map, leads_on_next, leads_both, leads_if, leads_unless_zero, IsSafe-on_next}
use Rattle.tht_logic.proofs.HeapLaws.{Joins-rest, Joins-front, Joins-within}
use Rattle.tht_logic.proofs.Outside.{when_stands, keeps_value, keeps_big}

-- ---- a step of a body is one of the body with what follows

pub and_then-and_then : (p : Prog) (f g : Value → Prog) → and_then (and_then p f) g ≡ and_then p (λ v. and_then (f v) g)
and_then-and_then (Ended v) f g = refl
and_then-and_then FrontBig f g = refl
and_then-and_then (Plain c next) f g = λ i. Plain c (λ v. and_then-and_then (next v) f g i)
and_then-and_then (Block p next) f g = λ i. Block p (λ v. and_then-and_then (next v) f g i)
and_then-and_then (Fork p q next) f g = λ i. Fork p q (λ v w. and_then-and_then (next v w) f g i)

abbrev carried : (Value → Prog) → Ran → Said Ran
carried k r = Next (r.0, and_then r.1 k)

at_then : (k : Value → Prog) (p : Place) (o : Option Held) (go other : Held → Said Ran) → ((c : Held) → other c ≡ on_next (go c) (carried k)) → at p o other ≡ on_next (at p o go) (carried k)
at_then k p None go other e = refl
at_then k p (Some c) go other e = e c

if_then : (k : Value → Prog) (b : Bool) (r : Ran) → cond b (carried k r) Wrong ≡ on_next (cond b (Next r) Wrong) (carried k)
if_then k true r = refl
if_then k false r = refl

plain_then : (F : Bodies) (above : List ℕ) (b : ℕ) (inside : Bool) (m : Mem) (c : Cmd) (rest k : Value → Prog) →
    plain_step F above b inside m c (λ v. and_then (rest v) k) ≡ on_next (plain_step F above b inside m c rest) (carried k)
plain_then F above b inside m TermBig rest k = refl
plain_then F above b inside m (Read s p) rest k = at_then k p _ _ _ (λ c. if_then k (has_sort s (held_value c)) _)
plain_then F above b inside m (Write p v) rest k = at_then k p (touched above b inside (m.heap p)) (λ c. Next (put m p (Some (with_value c v)), rest unit_value)) _ (λ c. refl)
plain_then F above b inside m (Alloc vs) rest k = refl
plain_then F above b inside m (Free p) rest k = at_then k p (touched above b inside (m.heap p)) (λ c. Next (retag m p None, rest unit_value)) _ (λ c. refl)
plain_then F above b inside m (Publish p) rest k = refl
plain_then F above b inside m (Retract p) rest k = refl
plain_then F above b inside m (Call f vs) rest k = ap (λ (x : Prog). Next (m, x)) (sym (and_then-and_then (F f vs) rest k))

-- the tree with what follows its body
abbrev pub then_tree : Tree → (Value → Prog) → Tree
then_tree (Leaf b p) k = Leaf b (and_then p k)

abbrev moved_then : (Value → Prog) → Said Moved → Said Moved
moved_then k s = on_next s (λ r. Next (record r { tree = then_tree r.tree k }))

unless_zero_then : (k : Value → Prog) (n : ℕ) (s t : Said Moved) → t ≡ moved_then k s → unless_zero n t ≡ moved_then k (unless_zero n s)
unless_zero_then k zero s t e = refl
unless_zero_then k (suc n) s t e = e

ran_then : (k : Value → Prog) (b : ℕ) (s : Said Ran) → on_next (on_next s (carried k)) (λ r. Next (at_leaf b r)) ≡ moved_then k (on_next s (λ r. Next (at_leaf b r)))
ran_then k b (Next r) = refl
ran_then k b Cannot = refl
ran_then k b Big = refl
ran_then k b Longer = refl
ran_then k b (Touch p) = refl
ran_then k b Wrong = refl

plain_work : (F : Bodies) (above : List ℕ) (b n : ℕ) (m : Mem) (c : Cmd) (rest k : Value → Prog) → work F above b n m (and_then (Plain c rest) k) ≡ moved_then k (work F above b n m (Plain c rest))
plain_work F above b n m c rest k =
    unless_zero_then k n _ _ (ap (λ (s : Said Ran). on_next s (λ r. Next (at_leaf b r))) (plain_then F above b false m c rest k) ∙ ran_then k b (plain_step F above b false m c rest))

cond_then : (k : Value → Prog) (b : Bool) (s t : Said Moved) → t ≡ moved_then k s → cond b t Cannot ≡ moved_then k (cond b s Cannot)
cond_then k true s t e = e
cond_then k false s t e = refl

step_then : (F : Bodies) (above : List ℕ) (c n : ℕ) (m : Mem) (b : ℕ) (x : Cmd) (rest k : Value → Prog) →
    step_of F above c n m (Leaf b (and_then (Plain x rest) k)) ≡ moved_then k (step_of F above c n m (Leaf b (Plain x rest)))
step_then F above c n m b x rest k = cond_then k (eqb b c) _ _ (plain_work F above b n m x rest k)

-- a step leaves a leaf of the same branch
abbrev IsLeafOf : ℕ → Tree → Type 0
IsLeafOf b (Leaf c p) = b ≡ c

any_leaf : (b n : ℕ) (s : Said Ran) → Leads (unless_zero n (on_next s (λ r. Next (at_leaf b r)))) (λ r. IsLeafOf b r.tree)
any_leaf b zero s = tt
any_leaf b (suc n) (Next r) = refl
any_leaf b (suc n) Cannot = tt
any_leaf b (suc n) Big = tt
any_leaf b (suc n) Longer = tt
any_leaf b (suc n) (Touch p) = tt
any_leaf b (suc n) Wrong = tt

-- ---- the law

value_stands : (I : Assertion) (above : List ℕ) (b : ℕ) (x y : Prog) (p beside h f g : Heap) (m : Mem) →
    Joins p beside h → Joins beside f g → Joins p g (private_part m.heap) → Stands I above (Leaf b x) h f m → Stands I above (Leaf b y) p g m
value_stands I above b x y p beside h f g m j k l s = record {
  parts = l;
  invariant = s.invariant;
  distinct = s.distinct;
  numbered = s.numbered;
  tags = λ z a w e. s.tags z a w (Joins-within j z (own a w) e);
  apart = λ z a w e. refl;
  is_made = s.is_made;
}

not_value : (b c : ℕ) (x : Cmd) (r : Value → Prog) (v : Value) → Leaf b (Plain x r) ≡ Leaf c (Ended v) → ⊥
not_value b c x r v e = cc

not_block : (b c : ℕ) (p : Prog) (r : Value → Prog) (v : Value) → Leaf b (Block p r) ≡ Leaf c (Ended v) → ⊥
not_block b c p r v e = cc

not_fork : (b c : ℕ) (p q : Prog) (r : Value → Value → Prog) (v : Value) → Leaf b (Fork p q r) ≡ Leaf c (Ended v) → ⊥
not_fork b c p q r v e = cc

module _ (F : Bodies) (I : Assertion) (above : List ℕ) (b : ℕ) (rest : Value → Prog) (beside : Heap) (Q R : Postcondition) where
  -- what follows, for at most k steps: at each value with cells that satisfy the body's postcondition, beside the frame
  abbrev pub Follows : ℕ → Type 0
  Follows k = (j : ℕ) → j ≤ k → (v : Value) (q h : Heap) → Q v q → Joins q beside h → Keeps F I j above (Leaf b (rest v)) h R

  abbrev Goes : ℕ → Type 0
  Goes k = (p : Prog) (q h : Heap) → Joins q beside h → Keeps F I k above (Leaf b p) q Q → Follows k → Keeps F I k above (Leaf b (and_then p rest)) h R

  after : (k : ℕ) → Goes k → (t : Tree) → IsLeafOf b t → (q h : Heap) → Joins q beside h → Keeps F I k above t q Q → Follows k → Keeps F I k above (then_tree t rest) h R
  after k more (Leaf c u) is q h j keeps follows =
      subst (λ z. Keeps F I k above (Leaf z (and_then u rest)) h R) is (more u q h j (subst (λ z. Keeps F I k above (Leaf z u) q Q) (sym is) keeps) follows)

  -- for every number of steps
  pub in_sequence : (k : ℕ) → Goes k
  in_sequence zero p q h j keeps follows = tt
  in_sequence (suc k) (Ended v) q h j keeps follows =
      when_stands F I k above (Leaf b (rest v)) h R (λ f m s.
      let g = Joins-rest j s.parts in
      follows (suc k) (le_refl (suc k)) v q h (keeps.ends g.0 m (value_stands I above b (rest v) (Ended v) q beside h f g.0 m j g.1 g.2 s) b v refl) j)
  in_sequence (suc k) FrontBig q h j keeps follows = keeps_big F I (suc k) above b h R
  in_sequence (suc k) (Plain c p) q h j keeps follows = record {
    ends = λ f m s x v e. absurd (not_value b x c _ v e);
    safe = λ f m s x n.
        let g = Joins-rest j s.parts in
        let t = value_stands I above b (and_then (Plain c p) rest) (Plain c p) q beside h f g.0 m j g.1 g.2 s in
        subst IsSafe (sym (step_then F above x n m b c p rest)) (IsSafe-on_next (step_of F above x n m (Leaf b (Plain c p))) _ (keeps.safe g.0 m t x n));
    goes = λ f m s x n.
        let g = Joins-rest j s.parts in
        let t = value_stands I above b (and_then (Plain c p) rest) (Plain c p) q beside h f g.0 m j g.1 g.2 s in
        subst (λ z. Leads z (Leaves (λ u i. Keeps F I k above u i R) I f)) (sym (step_then F above x n m b c p rest))
        (leads_on_next (step_of F above x n m (Leaf b (Plain c p))) _ _
        (leads_map (step_of F above x n m (Leaf b (Plain c p))) (λ r. Leaves (λ u i. Keeps F I k above u i Q) I g.0 r × IsLeafOf b r.tree) _
        (λ r y. let i = Joins-front g.1 y.0.1 in (i.0, i.2, y.0.2, after k (in_sequence k) r.tree y.1 y.0.0 i.0 i.1 y.0.3 (λ a l. follows a (omega (arith, l)))))
        (leads_both (step_of F above x n m (Leaf b (Plain c p))) _ _ (keeps.goes g.0 m t x n) (leads_if (eqb b x) _ _ (any_leaf b n (plain_step F above b false m c p))))));
  }
  in_sequence (suc k) (Block c p) q h j keeps follows = record {
    ends = λ f m s x v e. absurd (not_block b x c _ v e);
    safe = λ f m s x n.
        let g = Joins-rest j s.parts in
        keeps.safe g.0 m (value_stands I above b (and_then (Block c p) rest) (Block c p) q beside h f g.0 m j g.1 g.2 s) x n;
    goes = λ f m s x n. leads_if (eqb b x) (unless_zero n Wrong) _ (leads_unless_zero n Wrong _ tt);
  }
  in_sequence (suc k) (Fork c d p) q h j keeps follows = record {
    ends = λ f m s x v e. absurd (not_fork b x c d _ v e);
    safe = λ f m s x n.
        let g = Joins-rest j s.parts in
        keeps.safe g.0 m (value_stands I above b (and_then (Fork c d p) rest) (Fork c d p) q beside h f g.0 m j g.1 g.2 s) x n;
    goes = λ f m s x n. leads_if (eqb b x) (unless_zero n Wrong) _ (leads_unless_zero n Wrong _ tt);
  }
