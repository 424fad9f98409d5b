-- A formula that has a shape is the formula of that shape with those parts.
use Rattle.std.proofs.Common.{◌≡◌, ℕ, ◌==◌, ◌&&◌, Bool, true, false, cond, ◌⊎◌, inl, inr, Option, Some, None, option_and_then, refl, sym, ◌∙◌, ap}
use Rattle.std.proofs.lemmas.Bool.{eqb-true}
use Rattle.tht_tree.specs.declared.term.Term.{Term, out-Term, roll-Term, roll-out-Term}
use Rattle.tht_tree.specs.declared.term.Term.TheVariants as t
use Rattle.tht_tree.specs.declared.term.Term.TheOpen.{Term-F}
use Rattle.tht_tree.specs.declared.term.Term.TheOpen as f
use Rattle.tht_tree.specs.SameTree.{same_of, is_num, is_null, is_nil_term, is_true, is_false}
use Rattle.tht_tree.proofs.SameTerm.{same_of-true}
use Rattle.tht_tree.specs.Rules.Shapes.{Pair, conjunction_at, as_conjunction, disjunction_at, as_disjunction, implication_at, as_implication, equation_at, as_equation, disequation_at, as_disequation, is_some_cons, says_nocons, some_holds, is_nocons, left_of_null, as_nonnull, difference_at, restored, monus_at, as_monus}
use Rattle.proof_laws.proofs.Refusing.{both_true}

abbrev pub a_term : Term → Option Term
a_term u = Some u

pub rolled : (u : Term) (x : Term-F Term) → out-Term u ≡ x → u ≡ roll-Term x
rolled u x e = sym (roll-out-Term u) ∙ ap roll-Term e

abbrev pair : Term → Term → Pair
pair a b = (a, b)

abbrev pub a_pair : Pair → Option Pair
a_pair p = Some p

-- ---- connectives

conjunction_level : (x : Term-F Term) (p : Pair) → conjunction_at x ≡ a_pair p → x ≡ f.And p.0 p.1
conjunction_level (f.And a b) p e = let h : pair a b ≡ p = cc in λ i. f.And (h i).0 (h i).1
conjunction_level _ p e = cc

pub conjunction_is : (u : Term) (p : Pair) → as_conjunction u ≡ a_pair p → u ≡ t.And p.0 p.1
conjunction_is u p e = rolled u (f.And p.0 p.1) (conjunction_level (out-Term u) p e) ∙ t.rolls-And p.0 p.1

disjunction_level : (x : Term-F Term) (p : Pair) → disjunction_at x ≡ a_pair p → x ≡ f.Or p.0 p.1
disjunction_level (f.Or a b) p e = let h : pair a b ≡ p = cc in λ i. f.Or (h i).0 (h i).1
disjunction_level _ p e = cc

pub disjunction_is : (u : Term) (p : Pair) → as_disjunction u ≡ a_pair p → u ≡ t.Or p.0 p.1
disjunction_is u p e = rolled u (f.Or p.0 p.1) (disjunction_level (out-Term u) p e) ∙ t.rolls-Or p.0 p.1

implication_level : (x : Term-F Term) (p : Pair) → implication_at x ≡ a_pair p → (x ≡ f.Imp p.0 p.1) ⊎ ((x ≡ f.Not p.0) × (p.1 ≡ t.False))
implication_level (f.Imp a b) p e = let h : pair a b ≡ p = cc in inl (λ i. f.Imp (h i).0 (h i).1)
implication_level (f.Not a) p e = let h : pair a t.False ≡ p = cc in inr ((λ i. f.Not (h i).0), λ i. (sym h i).1)
implication_level _ p e = cc

-- a implies b, or it is a negation and b is `false`
pub implication_is : (u : Term) (p : Pair) → as_implication u ≡ a_pair p → (u ≡ t.Imp p.0 p.1) ⊎ ((u ≡ t.Not p.0) × (p.1 ≡ t.False))
implication_is u p e = from (implication_level (out-Term u) p e)
  where
    from : (out-Term u ≡ f.Imp p.0 p.1) ⊎ ((out-Term u ≡ f.Not p.0) × (p.1 ≡ t.False)) → (u ≡ t.Imp p.0 p.1) ⊎ ((u ≡ t.Not p.0) × (p.1 ≡ t.False))
    from (inl h) = inl (rolled u (f.Imp p.0 p.1) h ∙ t.rolls-Imp p.0 p.1)
    from (inr h) = inr (rolled u (f.Not p.0) h.0 ∙ t.rolls-Not p.0, h.1)

-- ---- equations

equation_level : (x : Term-F Term) (p : Pair) → equation_at x ≡ a_pair p → x ≡ f.Eq p.0 p.1
equation_level (f.Eq a b) p e = let h : pair a b ≡ p = cc in λ i. f.Eq (h i).0 (h i).1
equation_level _ p e = cc

pub equation_is : (u : Term) (p : Pair) → as_equation u ≡ a_pair p → u ≡ t.Eq p.0 p.1
equation_is u p e = rolled u (f.Eq p.0 p.1) (equation_level (out-Term u) p e) ∙ t.rolls-Eq p.0 p.1

disequation_level : (x : Term-F Term) (p : Pair) → disequation_at x ≡ a_pair p → x ≡ f.Not (t.Eq p.0 p.1)
disequation_level (f.Not a) p e = ap f.Not (equation_is a p e)
disequation_level _ p e = cc

pub disequation_is : (u : Term) (p : Pair) → as_disequation u ≡ a_pair p → u ≡ t.Not (t.Eq p.0 p.1)
disequation_is u p e = rolled u (f.Not (t.Eq p.0 p.1)) (disequation_level (out-Term u) p e) ∙ t.rolls-Not (t.Eq p.0 p.1)

nil_level : (x : Term-F Term) → is_nil_term x ≡ true → x ≡ f.Nil
nil_level f.Nil e = refl
nil_level _ e = cc

null_level : (x : Term-F Term) → is_null x ≡ true → x ≡ f.Null
null_level f.Null e = refl
null_level _ e = cc

true_level : (x : Term-F Term) → is_true x ≡ true → x ≡ f.True
true_level f.True e = refl
true_level _ e = cc

false_level : (x : Term-F Term) → is_false x ≡ true → x ≡ f.False
false_level f.False e = refl
false_level _ e = cc

cons_level : (x : Term-F Term) → is_some_cons x ≡ true → (a : Term) × (s : Term) × (x ≡ f.Cons a s)
cons_level (f.Cons a s) e = (a, s, refl)
cons_level _ e = cc

num_level : (x : Term-F Term) → is_num 0 x ≡ true → x ≡ f.Num 0
num_level (f.Num n) e = ap f.Num (zero_is n e)
  where
    zero_is : (n : ℕ) → (0 == n) ≡ true → n ≡ 0
    zero_is n e = sym (eqb-true 0 n e)
num_level _ e = cc

pub nil_is : (u : Term) → is_nil_term (out-Term u) ≡ true → u ≡ t.Nil
nil_is u e = rolled u f.Nil (nil_level (out-Term u) e) ∙ t.rolls-Nil

pub null_is : (u : Term) → is_null (out-Term u) ≡ true → u ≡ t.Null
null_is u e = rolled u f.Null (null_level (out-Term u) e) ∙ t.rolls-Null

pub true_is : (u : Term) → is_true (out-Term u) ≡ true → u ≡ t.True
true_is u e = rolled u f.True (true_level (out-Term u) e) ∙ t.rolls-True

pub false_is : (u : Term) → is_false (out-Term u) ≡ true → u ≡ t.False
false_is u e = rolled u f.False (false_level (out-Term u) e) ∙ t.rolls-False

pub zero_is : (u : Term) → is_num 0 (out-Term u) ≡ true → u ≡ t.Num 0
zero_is u e = rolled u (f.Num 0) (num_level (out-Term u) e) ∙ t.rolls-Num 0

cons_is : (u : Term) → is_some_cons (out-Term u) ≡ true → (a : Term) × (s : Term) × (u ≡ t.Cons a s)
cons_is u e = let h = cons_level (out-Term u) e in (h.0, h.1, rolled u (f.Cons h.0 h.1) h.2 ∙ t.rolls-Cons h.0 h.1)

-- not (nil = (x :: s))
pub nocons_is : (u : Term) → is_nocons u ≡ true → (x : Term) × (s : Term) × (u ≡ t.Not (t.Eq t.Nil (t.Cons x s)))
nocons_is u e = from (as_disequation u) refl e
  where
    from : (o : Option Pair) → as_disequation u ≡ o → some_holds says_nocons o ≡ true → (x : Term) × (s : Term) × (u ≡ t.Not (t.Eq t.Nil (t.Cons x s)))
    from None h g = cc
    from (Some p) h g =
        let parts = both_true (is_nil_term (out-Term p.0)) (is_some_cons (out-Term p.1)) g in
        let right = cons_is p.1 parts.1 in
        (right.0, right.1, disequation_is u p h ∙ (λ i. t.Not (t.Eq (nil_is p.0 parts.0 i) (right.2 i))))

-- not (a = null)
pub nonnull_is : (u a : Term) → as_nonnull u ≡ a_term a → u ≡ t.Not (t.Eq a t.Null)
nonnull_is u a e = from (as_disequation u) refl e
  where
    by_right : (p : Pair) (c : Bool) → is_null (out-Term p.1) ≡ c → cond c (a_term p.0) None ≡ a_term a → (p.0 ≡ a) × (p.1 ≡ t.Null)
    by_right p true h g = (cc, null_is p.1 h)
    by_right p false h g = cc

    from : (o : Option Pair) → as_disequation u ≡ o → option_and_then left_of_null o ≡ a_term a → u ≡ t.Not (t.Eq a t.Null)
    from None h g = cc
    from (Some p) h g =
        let parts = by_right p (is_null (out-Term p.1)) refl g in
        disequation_is u p h ∙ (λ i. t.Not (t.Eq (parts.0 i) (parts.1 i)))

-- ---- differences

difference_level : (x : Term-F Term) (p : Pair) → difference_at x ≡ a_pair p → x ≡ f.Sub p.0 p.1
difference_level (f.Sub a b) p e = let h : pair a b ≡ p = cc in λ i. f.Sub (h i).0 (h i).1
difference_level _ p e = cc

-- an equation of the first kind or of the second, where p is what must hold
abbrev pub OfMonus : Term → Pair → Type 0
OfMonus u p = (u ≡ t.Eq (t.Add (t.Sub p.1 p.0) p.0) p.1) ⊎ (u ≡ t.Eq (t.Sub p.0 p.1) (t.Num 0))

pub monus_is : (u : Term) (p : Pair) → as_monus u ≡ a_pair p → OfMonus u p
monus_is u p e = from (as_equation u) refl e
  where
    by_same : (c d : Term) (q : Pair) (b : Bool) → (same_of c q.1 && same_of d q.0) ≡ b → cond b (a_pair (q.1, q.0)) None ≡ a_pair p → (c ≡ p.0) × (d ≡ p.1) × (q ≡ pair p.1 p.0)
    by_same c d q true h g =
        let parts = both_true (same_of c q.1) (same_of d q.0) h in
        let turned : pair q.1 q.0 ≡ p = cc in
        (same_of-true c q.1 parts.0 ∙ ap (λ (x : Pair). x.0) turned, same_of-true d q.0 parts.1 ∙ ap (λ (x : Pair). x.1) turned, ap (λ (x : Pair). pair x.1 x.0) turned)
    by_same c d q false h g = cc

    by_zero : (a b d : Term) (c : Bool) → is_num 0 (out-Term d) ≡ c → cond c (a_pair (a, b)) None ≡ a_pair p → (pair a b ≡ p) × (d ≡ t.Num 0)
    by_zero a b d true h g = (cc, zero_is d h)
    by_zero a b d false h g = cc

    sum : (c d : Term) (w : Term) (o : Option Pair) → difference_at (out-Term w) ≡ o → option_and_then (restored c d) o ≡ a_pair p → (w ≡ t.Sub p.1 p.0) × (c ≡ p.0) × (d ≡ p.1)
    sum c d w None h g = cc
    sum c d w (Some q) h g =
        let parts = by_same c d q (same_of c q.1 && same_of d q.0) refl g in
        let is = rolled w (f.Sub q.0 q.1) (difference_level (out-Term w) q h) ∙ t.rolls-Sub q.0 q.1 in
        (is ∙ (λ i. t.Sub (parts.2 i).0 (parts.2 i).1), parts.0, parts.1)

    level : (x : Term-F Term) (d a : Term) → out-Term a ≡ x → monus_at x d ≡ a_pair p → u ≡ t.Eq a d → OfMonus u p
    level (f.Add w c) d a h g is =
        let parts = sum c d w (difference_at (out-Term w)) refl g in
        let left = rolled a (f.Add w c) h ∙ t.rolls-Add w c in
        inl (is ∙ (λ i. t.Eq (left i) d) ∙ (λ i. t.Eq (t.Add (parts.0 i) (parts.1 i)) (parts.2 i)))
    level (f.Sub b c) d a h g is =
        let parts = by_zero b c d (is_num 0 (out-Term d)) refl g in
        let left = rolled a (f.Sub b c) h ∙ t.rolls-Sub b c in
        inr (is ∙ (λ i. t.Eq (left i) d) ∙ (λ i. t.Eq (t.Sub (parts.0 i).0 (parts.0 i).1) (parts.1 i)))
    level _ d a h g is = cc

    from : (o : Option Pair) → as_equation u ≡ o → option_and_then (λ q. monus_at (out-Term q.0) q.1) o ≡ a_pair p → OfMonus u p
    from None h g = cc
    from (Some q) h g = level (out-Term q.0) q.1 q.0 refl g (equation_is u q h)
