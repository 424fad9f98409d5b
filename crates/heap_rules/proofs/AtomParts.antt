-- Parts of atoms, form by form.
use Rattle.std.proofs.Common.{◌≡◌, ◌≢◌, ℕ, zero, suc, ◌≤◌, List, [], ◌∷◌, length, Option, Some, None, refl, sym, ◌∙◌, ap, arith}
use Rattle.std.specs.Prelude.{slice_get, option_map}
use Rattle.tht_tree.specs.declared.term.Term.{Term}
use Rattle.tht_tree.specs.declared.assn.Assn.{Assn, out-Assn}
use Rattle.tht_tree.specs.declared.assn.Assn.TheVariants as a
use Rattle.tht_logic.specs.Rules.Parts.{Part, part_at, side, argument_from_1, replaced}
use Rattle.heap_rules.specs.Stages.{argument_at, argument_put}
use Rattle.assn_laws.proofs.AssnLevels.{Star, Exists, Either, Star-is, Exists-is, Either-is, out-Emp, out-Fact, out-Own, out-Shared, out-Star, out-Inst, out-Exists, out-Either}

-- ---- sides

pub no_side : {A : Type 0} (k : ℕ) (x y : A) → k ≢ 1 → k ≢ 2 → side k x y ≡ None
no_side zero x y n m = refl
no_side (suc zero) x y n m = absurd (n refl)
no_side (suc (suc zero)) x y n m = absurd (m refl)
no_side (suc (suc (suc k))) x y n m = refl

map_side : {A B : Type 0} (g : A → B) (k : ℕ) (x y : A) → option_map g (side k x y) ≡ side k (g x) (g y)
map_side g zero x y = refl
map_side g (suc zero) x y = refl
map_side g (suc (suc zero)) x y = refl
map_side g (suc (suc (suc k))) x y = refl

-- ---- the terms that are parts

abbrev pub term_at : ℕ → Assn → Option Term
term_at k p = option_map (λ part. part.term) (part_at k (out-Assn p))

pub own_part : (k : ℕ) (t u : Term) → term_at k (a.Own t u) ≡ side k t u
own_part k t u = ap (λ o. option_map (λ part. part.term) (part_at k o)) (out-Own t u) ∙ map_side (λ part. part.term) k _ _

pub shared_part : (k : ℕ) (t u : Term) → term_at k (a.Shared t u) ≡ side k t u
shared_part k t u = ap (λ o. option_map (λ part. part.term) (part_at k o)) (out-Shared t u) ∙ map_side (λ part. part.term) k _ _

same_option : (o : Option Term) (g : Term → Part) → ((t : Term) → (g t).term ≡ t) → option_map (λ part. part.term) (option_map g o) ≡ o
same_option None g e = refl
same_option (Some t) g e = ap Some (e t)

from_1 : (k : ℕ) (q : List ℕ) (ts : List Term) → option_map (λ part. part.term) (argument_from_1 k q ts) ≡ argument_at k ts
from_1 zero q ts = refl
from_1 (suc k) q ts = same_option (slice_get ts k) (λ t. record { term = t; with = λ u. a.Inst q (replaced k u ts) }) (λ t. refl)

pub instance_part : (k : ℕ) (q : List ℕ) (ts : List Term) → term_at k (a.Inst q ts) ≡ argument_at k ts
instance_part k q ts = ap (λ o. option_map (λ part. part.term) (part_at k o)) (out-Inst q ts) ∙ from_1 k q ts

-- what is neither a cell nor an instance has no part
pub no_part : (k : ℕ) (p : Assn) → ((t u : Term) → p ≢ a.Own t u) → ((t u : Term) → p ≢ a.Shared t u) → ((q : List ℕ) (ts : List Term) → p ≢ a.Inst q ts) → part_at k (out-Assn p) ≡ None
no_part k a.Emp x y z = ap (part_at k) out-Emp
no_part k (a.Fact t) x y z = ap (part_at k) (out-Fact t)
no_part k (a.Own t u) x y z = absurd (x t u refl)
no_part k (a.Shared t u) x y z = absurd (y t u refl)
no_part k (Star p q) x y z = ap (λ r. part_at k (out-Assn r)) (sym (Star-is p q)) ∙ ap (part_at k) (out-Star p q)
no_part k (a.Inst n ts) x y z = absurd (z n ts refl)
no_part k (Exists n s p) x y z = ap (λ r. part_at k (out-Assn r)) (sym (Exists-is n s p)) ∙ ap (part_at k) (out-Exists n s p)
no_part k (Either p q) x y z = ap (λ r. part_at k (out-Assn r)) (sym (Either-is p q)) ∙ ap (part_at k) (out-Either p q)

-- ---- another term for a part

-- a pair of terms, with another for one of them
two_put : (C : Term → Term → Assn) (k : ℕ) (t u w x y : Term) (part : Part) → (k ≡ 1 → (x ≡ w) × (y ≡ u)) → (k ≡ 2 → (x ≡ t) × (y ≡ w))
    → side k (record { term = t; with = λ w. C w u }) (record { term = u; with = λ w. C t w }) ≡ Some part → C x y ≡ part.with w
two_put C zero t u w x y part n m e = cc
two_put C (suc zero) t u w x y part n m e = let h = n refl in (λ i. C (h.0 i) (h.1 i)) ∙ ap (λ o. with_of o) e
  where
    with_of : Option Part → Assn
    with_of None = C t u
    with_of (Some p) = p.with w
two_put C (suc (suc zero)) t u w x y part n m e = let h = m refl in (λ i. C (h.0 i) (h.1 i)) ∙ ap (λ o. with_of o) e
  where
    with_of : Option Part → Assn
    with_of None = C t u
    with_of (Some p) = p.with w
two_put C (suc (suc (suc k))) t u w x y part n m e = cc

pub own_put : (k : ℕ) (t u w x y : Term) (part : Part) → (k ≡ 1 → (x ≡ w) × (y ≡ u)) → (k ≡ 2 → (x ≡ t) × (y ≡ w)) → part_at k (out-Assn (a.Own t u)) ≡ Some part → a.Own x y ≡ part.with w
own_put k t u w x y part n m e = two_put a.Own k t u w x y part n m (sym (ap (part_at k) (out-Own t u)) ∙ e)

pub shared_put : (k : ℕ) (t u w x y : Term) (part : Part) → (k ≡ 1 → (x ≡ w) × (y ≡ u)) → (k ≡ 2 → (x ≡ t) × (y ≡ w)) → part_at k (out-Assn (a.Shared t u)) ≡ Some part → a.Shared x y ≡ part.with w
shared_put k t u w x y part n m e = two_put a.Shared k t u w x y part n m (sym (ap (part_at k) (out-Shared t u)) ∙ e)

argument_with : (k : ℕ) (q : List ℕ) (ts : List Term) (w : Term) (o : Option Term) (part : Part) → option_map (λ t. record { term = t; with = λ u. a.Inst q (replaced k u ts) }) o ≡ Some part → a.Inst q (replaced k w ts) ≡ part.with w
argument_with k q ts w None part e = cc
argument_with k q ts w (Some t) part e = ap with_of e
  where
    with_of : Option Part → Assn
    with_of None = a.Inst q (replaced k w ts)
    with_of (Some p) = p.with w

pub instance_put : (k : ℕ) (q : List ℕ) (ts : List Term) (w : Term) (part : Part) → part_at k (out-Assn (a.Inst q ts)) ≡ Some part → a.Inst q (argument_put k w ts) ≡ part.with w
instance_put zero q ts w part e = absurd (none (sym (ap (part_at 0) (out-Inst q ts)) ∙ e))
  where
    none : ◌≡◌ {A = Option Part} None (Some part) → ⊥
    none g = cc
instance_put (suc k) q ts w part e = argument_with k q ts w (slice_get ts k) part (sym (ap (part_at (suc k)) (out-Inst q ts)) ∙ e)

-- ---- lists of arguments

pub replaced_none : (k : ℕ) (u : Term) (ts : List Term) → length ts ≤ k → replaced k u ts ≡ ts
replaced_none k u [] h = refl
replaced_none zero u (t ∷ ts) h = absurd (omega arith)
replaced_none (suc k) u (t ∷ ts) h = ap (λ z. t ∷ z) (replaced_none k u ts (omega arith))
