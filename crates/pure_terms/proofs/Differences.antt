-- Inequalities that are made of two sums, term by term.
use Rattle.std.proofs.Common.{◌≡◌, ℕ, ◌+◌, ◌^◌, ◌<◌, ◌&&◌, Bool, true, false, cond, [], ◌∷◌, ◌++◌, ℤ, pos, negsuc, ◌-ℤ◌, FitsSigned, Option, Some, None, Result, Ok, Err, refl, sym, ◌∙◌, ap, subst, arith, Ordering, Less, Equal, Greater, append_assoc, append-nil}
use Rattle.std.specs.Prelude.{neg_ℤ}
use Rattle.std.specs.Int.{w128}
use Rattle.std.specs.Ordering.{match_ordering}
use Rattle.std.proofs.lemmas.Int.{ints}
use Rattle.std.proofs.lemmas.Bool.Decides.{nat_tests}
use Rattle.tht_tree.specs.declared.form.Monomial.{Monomial}
use Rattle.tht_tree.specs.declared.form.LinearTerm.{LinearTerm}
use Rattle.tht_tree.specs.declared.form.NormalEnd.{NormalEnd}
use Rattle.tht_tree.specs.declared.form.NormalEnd.TheVariants.{Wide}
use Rattle.tht_tree.specs.Normal.Sums.{Product, Sum, monomial, compare_products, before_monomial, plus}
use Rattle.tht_tree.specs.Normal.Linear.{Inequality, Reading, linear_term, positive, negative, before_term, take_away, left_side, is_i128, has_factor, in_range}
use Rattle.pure_terms.specs.declared.linear.Difference.{Difference}
use Rattle.pure_terms.specs.Making.{first_lower}
use Rattle.pure_terms.specs.Readings.{IsReading, is_narrow, constant_of, without_constant, difference_of, term_in, IsInLeft, IsInRight, IsNextTerm, IsLess}

-- ---- the next term

less_zero : (n : ℕ) → pos n ≡ pos n -ℤ pos 0
less_zero n = omega (arith, ints)

from_zero : (n : ℕ) → neg_ℤ (pos n) ≡ pos 0 -ℤ pos n
from_zero n = omega (arith, ints)

the_some : {A : Type 0} (x y : A) → Some x ≡ Some y → x ≡ y
the_some x y e = cc

abbrev by_order : Monomial → Sum → Monomial → Sum → Ordering → Inequality
by_order m p n q o =
    match_ordering o (positive m ∷ take_away p (n ∷ q)) (linear_term (pos m.coefficient -ℤ pos n.coefficient) m.atoms ∷ take_away p q) (negative n ∷ before_term m (take_away p) q)

left_first : (m : Monomial) (p q : Sum) → first_lower (m ∷ p) q ≡ Some Less → take_away (m ∷ p) q ≡ linear_term (pos m.coefficient -ℤ pos 0) m.atoms ∷ take_away p q
left_first m p [] e = ap (λ z. linear_term z m.atoms ∷ take_away p []) (less_zero m.coefficient)
left_first m p (n ∷ q) e =
    ap (by_order m p n q) (the_some (compare_products m.atoms n.atoms) Less e)
    ∙ ap (λ z. linear_term z m.atoms ∷ take_away p (n ∷ q)) (less_zero m.coefficient)

right_first : (n : Monomial) (p q : Sum) → first_lower p (n ∷ q) ≡ Some Greater → take_away p (n ∷ q) ≡ linear_term (pos 0 -ℤ pos n.coefficient) n.atoms ∷ take_away p q
right_first n [] q e = ap (λ z. linear_term z n.atoms ∷ take_away [] q) (from_zero n.coefficient)
right_first n (m ∷ p) q e =
    ap (by_order m p n q) (the_some (compare_products m.atoms n.atoms) Greater e)
    ∙ ap (λ z. linear_term z n.atoms ∷ take_away (m ∷ p) q) (from_zero n.coefficient)

both_first : (m n : Monomial) (p q : Sum) → first_lower (m ∷ p) (n ∷ q) ≡ Some Equal → take_away (m ∷ p) (n ∷ q) ≡ linear_term (pos m.coefficient -ℤ pos n.coefficient) m.atoms ∷ take_away p q
both_first m n p q e = ap (by_order m p n q) (the_some (compare_products m.atoms n.atoms) Equal e)

pub no_next : (p q : Sum) → first_lower p q ≡ None → take_away p q ≡ []
no_next [] [] e = refl
no_next [] (n ∷ q) e = cc
no_next (m ∷ p) [] e = cc
no_next (m ∷ p) (n ∷ q) e = cc

empty_left : (q : Sum) → first_lower [] q ≡ Some Less → ⊥
empty_left [] e = cc
empty_left (n ∷ q) e = let f = the_some Greater Less e in cc

empty_right : (p : Sum) → first_lower p [] ≡ Some Greater → ⊥
empty_right [] e = cc
empty_right (m ∷ p) e = let f = the_some Less Greater e in cc

pub next_left : (r : Option Difference) (p rest q : Sum) → first_lower p q ≡ Some Less → IsInLeft r p rest → IsNextTerm r (take_away p q) (take_away rest q)
next_left (Some d) p rest q e h =
    ap (λ z. take_away z q) h.0 ∙ left_first (monomial d.left d.atoms) rest q (subst (λ z. first_lower z q ≡ Some Less) h.0 e)
    ∙ ap (λ k. linear_term (pos d.left -ℤ pos k) d.atoms ∷ take_away rest q) (sym h.1)
next_left None p rest q e h = absurd (empty_left q (subst (λ z. first_lower z q ≡ Some Less) h e))

pub next_right : (r : Option Difference) (p q rest : Sum) → first_lower p q ≡ Some Greater → IsInRight r q rest → IsNextTerm r (take_away p q) (take_away p rest)
next_right (Some d) p q rest e h =
    ap (take_away p) h.0 ∙ right_first (monomial d.right d.atoms) p rest (subst (λ z. first_lower p z ≡ Some Greater) h.0 e)
    ∙ ap (λ k. linear_term (pos k -ℤ pos d.right) d.atoms ∷ take_away p rest) (sym h.1)
next_right None p q rest e h = absurd (empty_right p (subst (λ z. first_lower p z ≡ Some Greater) h e))

pub next_both : (m n : Monomial) (p rest q others : Sum) → first_lower p q ≡ Some Equal → p ≡ m ∷ rest → q ≡ n ∷ others →
    take_away p q ≡ linear_term (pos m.coefficient -ℤ pos n.coefficient) m.atoms ∷ take_away rest others
next_both m n p rest q others e f g =
    (λ i. take_away (f i) (g i)) ∙ both_first m n rest others (subst (λ z. first_lower (m ∷ rest) z ≡ Some Equal) g (subst (λ z. first_lower z q ≡ Some Equal) f e))

none_left : (q : Sum) → first_lower [] q ≡ Some Equal → ⊥
none_left [] e = cc
none_left (n ∷ q) e = let f = the_some Greater Equal e in cc

none_right : (p : Sum) → first_lower p [] ≡ Some Equal → ⊥
none_right [] e = cc
none_right (m ∷ p) e = let f = the_some Less Equal e in cc

-- where both have a first product, neither is empty
pub no_left : (p q : Sum) → first_lower p q ≡ Some Equal → p ≡ [] → ⊥
no_left p q e h = none_left q (subst (λ z. first_lower z q ≡ Some Equal) h e)

pub no_right : (p q : Sum) → first_lower p q ≡ Some Equal → q ≡ [] → ⊥
no_right p q e h = none_right p (subst (λ z. first_lower p z ≡ Some Equal) h e)

pub less_left : (r : Option Difference) (a b c : ℕ) → IsLess r a b → IsLess r (a + c) (b + c)
less_left (Some d) a b c h = omega arith
less_left None a b c h = tt

pub less_right : (r : Option Difference) (a b c : ℕ) → IsLess r a b → IsLess r (c + a) (c + b)
less_right (Some d) a b c h = omega arith
less_right None a b c h = tt

-- ---- coefficients in range

pub fits_is : (z : ℤ) → FitsSigned w128 z → is_i128 z ≡ true
fits_is (pos n) h = let g : n < 2 ^ 127 = h.sfits in grind (arith, nat_tests)
fits_is (negsuc n) h = let g : n < 2 ^ 127 = h.sfits in grind (arith, nat_tests)

in_range_if : (z : ℤ) → is_i128 z ≡ true → FitsSigned w128 z
in_range_if (pos n) e = let g : n < 2 ^ 127 = grind (arith, nat_tests) in record { sfits = g }
in_range_if (negsuc n) e = let g : n < 2 ^ 127 = grind (arith, nat_tests) in record { sfits = g }

pub no_fit : (z : ℤ) → (FitsSigned w128 z → ⊥) → is_i128 z ≡ false
no_fit z h = by (is_i128 z) refl
  where
    by : (b : Bool) → is_i128 z ≡ b → is_i128 z ≡ false
    by true e = absurd (h (in_range_if z e))
    by false e = e

abbrev by_range : Inequality → Bool → Reading
by_range x b = cond b (Ok x) (Err Wide)

pub made : (x : Inequality) → is_narrow x ≡ true → in_range x ≡ Ok x
made x e = ap (by_range x) e

pub wide : (x : Inequality) → is_narrow x ≡ false → in_range x ≡ Err Wide
wide x e = ap (by_range x) e

and_assoc : (a b c : Bool) → (a && (b && c)) ≡ ((a && b) && c)
and_assoc true b c = refl
and_assoc false b c = refl

narrow_append : (x y : Inequality) → is_narrow (x ++ y) ≡ (is_narrow x && is_narrow y)
narrow_append [] y = refl
narrow_append (t ∷ x) y = ap (λ z. is_i128 t.coefficient && z) (narrow_append x y) ∙ and_assoc (is_i128 t.coefficient) (is_narrow x) (is_narrow y)

both_true : (a b : Bool) → a ≡ true → b ≡ true → (a && (b && true)) ≡ true
both_true a b e f = cc

second_false : (a b c : Bool) → b ≡ false → (a && (b && c)) ≡ false
second_false true b c e = ap (λ z. z && c) e
second_false false b c e = refl

-- ---- the terms so far

-- the terms so far and what is left of the sums are the whole inequality
pub record Away (form : Inequality) (left right : Sum) (whole : Inequality) : Type 0 where
  pub all : form ++ take_away left right ≡ whole
  pub narrow : is_narrow form ≡ true

pub with_term : (d : Difference) (t : LinearTerm) (form : Inequality) (left right rest others : Sum) (whole : Inequality) → IsNextTerm (Some d) (take_away left right) (take_away rest others) →
    FitsSigned w128 (difference_of d) × (t ≡ term_in d) → Away form left right whole → Away (form ++ t ∷ []) rest others whole
with_term d t form left right rest others whole e f a =
    record {
      all = append_assoc form (t ∷ []) (take_away rest others) ∙ ap (λ z. form ++ z ∷ take_away rest others) f.1 ∙ ap (λ z. form ++ z) (sym e) ∙ a.all;
      narrow =
          narrow_append form (t ∷ [])
          ∙ both_true (is_narrow form) (is_i128 t.coefficient) a.narrow (ap (λ (z : LinearTerm). is_i128 z.coefficient) f.1 ∙ fits_is (difference_of d) f.0);
    }

pub at_end : (form : Inequality) (left right : Sum) (whole : Inequality) → take_away left right ≡ [] → Away form left right whole → IsReading (Ok form) (in_range whole)
at_end form left right whole e a =
    let f : form ≡ whole = sym (append-nil form) ∙ ap (λ z. form ++ z) (sym e) ∙ a.all in
    made whole (ap is_narrow (sym f) ∙ a.narrow) ∙ ap Ok (sym f)

pub at_wide : (d : Difference) (form : Inequality) (left right rest others : Sum) (whole : Inequality) → IsNextTerm (Some d) (take_away left right) (take_away rest others) →
    (FitsSigned w128 (difference_of d) → ⊥) → Away form left right whole → IsReading (Err Wide) (in_range whole)
at_wide d form left right rest others whole e f a =
    wide whole
    (ap is_narrow (sym a.all ∙ ap (λ z. form ++ z) e) ∙ narrow_append form (term_in d ∷ take_away rest others)
    ∙ second_false (is_narrow form) (is_i128 (difference_of d)) (is_narrow (take_away rest others)) (no_fit (difference_of d) f))

-- ---- one more on the left

side_is : (p : Sum) → left_side true p ≡ monomial (1 + constant_of p) [] ∷ without_constant p
side_is [] = refl
side_is (m ∷ p) = by m.atoms
  where
    by : (xs : Product) → match_ordering (compare_products [] xs) (monomial 1 [] ∷ m ∷ p) (monomial (1 + m.coefficient) [] ∷ p) (m ∷ before_monomial (monomial 1 []) (plus []) p)
        ≡ monomial (1 + cond (has_factor xs) 0 m.coefficient) [] ∷ cond (has_factor xs) (m ∷ p) p
    by [] = refl
    by (x ∷ xs) = refl

away_is : (k : ℕ) (p q : Sum) → take_away (monomial k [] ∷ p) q ≡ linear_term (pos k -ℤ pos (constant_of q)) [] ∷ take_away p (without_constant q)
away_is k p [] = ap (λ z. linear_term z [] ∷ take_away p []) (less_zero k)
away_is k p (n ∷ q) = by n.atoms
  where
    by : (xs : Product) → match_ordering (compare_products [] xs) (linear_term (pos k) [] ∷ take_away p (n ∷ q)) (linear_term (pos k -ℤ pos n.coefficient) [] ∷ take_away p q)
        (negative n ∷ before_term (monomial k []) (take_away p) q)
        ≡ linear_term (pos k -ℤ pos (cond (has_factor xs) 0 n.coefficient)) [] ∷ take_away p (cond (has_factor xs) (n ∷ q) q)
    by [] = refl
    by (x ∷ xs) = ap (λ z. linear_term z [] ∷ take_away p (n ∷ q)) (less_zero k)

abbrev pub strict_constant : Sum → Sum → ℤ
strict_constant p q = pos (1 + constant_of p) -ℤ pos (constant_of q)

strict_is : (p q : Sum) → take_away (left_side true p) q ≡ linear_term (strict_constant p q) [] ∷ take_away (without_constant p) (without_constant q)
strict_is p q = ap (λ z. take_away z q) (side_is p) ∙ away_is (1 + constant_of p) (without_constant p) q

pub strict_wide : (p q : Sum) → (FitsSigned w128 (strict_constant p q) → ⊥) → IsReading (Err Wide) (in_range (take_away (left_side true p) q))
strict_wide p q h =
    let rest = take_away (without_constant p) (without_constant q) in
    wide (take_away (left_side true p) q) (ap is_narrow (strict_is p q) ∙ ap (λ z. z && is_narrow rest) (no_fit (strict_constant p q) h))

pub strict_made : (r : Result Inequality NormalEnd) (p q : Sum) (t : LinearTerm) → t ≡ linear_term (strict_constant p q) [] →
    IsReading r (in_range (t ∷ take_away (without_constant p) (without_constant q))) → IsReading r (in_range (take_away (left_side true p) q))
strict_made r p q t e h = subst (λ z. IsReading r (in_range z)) (ap (λ z. z ∷ take_away (without_constant p) (without_constant q)) e ∙ sym (strict_is p q)) h

pub strict_narrow : (p q : Sum) (t : LinearTerm) → t ≡ linear_term (strict_constant p q) [] → FitsSigned w128 (strict_constant p q) → is_narrow (t ∷ []) ≡ true
strict_narrow p q t e h = ap (λ (z : LinearTerm). is_narrow (z ∷ [])) e ∙ ap (λ z. z && true) (fits_is (strict_constant p q) h)
