-- What the next monomial of two sums together is.
use Rattle.std.proofs.Common.{◌≡◌, ◌+◌, ◌||◌, true, false, [], ◌∷◌, ◌++◌, Some, None, refl, sym, ◌∙◌, ap, subst, Less, Equal, Greater, append_assoc, append-nil}
use Rattle.std.specs.Ordering.{match_ordering}
use Rattle.tht_tree.specs.declared.form.Monomial.{Monomial}
use Rattle.tht_tree.specs.Normal.Sums.{Sum, monomial, compare_products, before_monomial, plus}
use Rattle.tht_tree.specs.Normal.Forms.{is_wide}
use Rattle.pure_terms.specs.declared.sums.Next.{Next}
use Rattle.pure_terms.specs.declared.sums.Next.TheVariants as next
use Rattle.pure_terms.specs.Making.{has_wide, first_lower}
use Rattle.pure_terms.specs.Turns.{IsNext, IsJoined}
use Rattle.pure_terms.proofs.WideTests.{none_or, first_or, second_or, or_assoc}
use Rattle.pure_terms.proofs.WideSums.{wide_left, wide_right}

pub none_next : (p q : Sum) → first_lower p q ≡ None → plus p q ≡ []
none_next [] [] e = refl
none_next [] (n ∷ q) e = cc
none_next (m ∷ p) [] e = cc
none_next (m ∷ p) (n ∷ q) e = cc

the_some : {A : Type 0} (x y : A) → Some x ≡ Some y → x ≡ y
the_some x y e = cc

-- the left one's first monomial stands first
pub left_first : (m : Monomial) (p q : Sum) → first_lower (m ∷ p) q ≡ Some Less → plus (m ∷ p) q ≡ m ∷ plus p q
left_first m p [] e = refl
left_first m p (n ∷ q) e =
    ap (λ o. match_ordering o (m ∷ plus p (n ∷ q)) (monomial (m.coefficient + n.coefficient) m.atoms ∷ plus p q) (n ∷ before_monomial m (plus p) q))
    (the_some (compare_products m.atoms n.atoms) Less e)

pub right_first : (n : Monomial) (p q : Sum) → first_lower p (n ∷ q) ≡ Some Greater → plus p (n ∷ q) ≡ n ∷ plus p q
right_first n [] q e = refl
right_first n (m ∷ p) q e =
    ap (λ o. match_ordering o (m ∷ plus p (n ∷ q)) (monomial (m.coefficient + n.coefficient) m.atoms ∷ plus p q) (n ∷ before_monomial m (plus p) q))
    (the_some (compare_products m.atoms n.atoms) Greater e)

pub both_first : (m n : Monomial) (p q : Sum) → first_lower (m ∷ p) (n ∷ q) ≡ Some Equal → plus (m ∷ p) (n ∷ q) ≡ monomial (m.coefficient + n.coefficient) m.atoms ∷ plus p q
both_first m n p q e =
    ap (λ o. match_ordering o (m ∷ plus p (n ∷ q)) (monomial (m.coefficient + n.coefficient) m.atoms ∷ plus p q) (n ∷ before_monomial m (plus p) q))
    (the_some (compare_products m.atoms n.atoms) Equal e)

empty_left : (q : Sum) → first_lower [] q ≡ Some Less → ⊥
empty_left [] e = cc
empty_left (n ∷ q) e = let f = the_some Greater Less e in cc

empty_right : (p : Sum) → first_lower p [] ≡ Some Greater → ⊥
empty_right [] e = cc
empty_right (m ∷ p) e = let f = the_some Less Greater e in cc

pub next_left : (r : Next) (p rest q : Sum) → first_lower p q ≡ Some Less → IsNext r p rest → IsNext r (plus p q) (plus rest q)
next_left (next.Monomial m) p rest q e h = (ap (λ z. plus z q) h.0 ∙ left_first m rest q (subst (λ z. first_lower z q ≡ Some Less) h.0 e), h.1)
next_left next.Wide p rest q e h = wide_left p q h
next_left next.End p rest q e h = absurd (empty_left q (subst (λ z. first_lower z q ≡ Some Less) h e))

pub next_right : (r : Next) (p q rest : Sum) → first_lower p q ≡ Some Greater → IsNext r q rest → IsNext r (plus p q) (plus p rest)
next_right (next.Monomial n) p q rest e h = (ap (plus p) h.0 ∙ right_first n p rest (subst (λ z. first_lower p z ≡ Some Greater) h.0 e), h.1)
next_right next.Wide p q rest e h = wide_right p q h
next_right next.End p q rest e h = absurd (empty_right p (subst (λ z. first_lower p z ≡ Some Greater) h e))

pub next_both : (r : Next) (m n : Monomial) (p q : Sum) → first_lower (m ∷ p) (n ∷ q) ≡ Some Equal → IsJoined r m n → IsNext r (plus (m ∷ p) (n ∷ q)) (plus p q)
next_both (next.Monomial k) m n p q e h = (both_first m n p q e ∙ ap (λ z. z ∷ plus p q) (sym h.0), h.1)
next_both next.Wide m n p q e h = ap has_wide (both_first m n p q e) ∙ first_or (is_wide (m.coefficient + n.coefficient)) (has_wide (plus p q)) h
next_both next.End m n p q e h = absurd h

-- ---- the sum so far

-- the monomials so far and what is left of the sums are the whole sum
pub record SumsTo (sum left right whole : Sum) : Type 0 where
  pub sums : sum ++ plus left right ≡ whole
  pub narrow : has_wide sum ≡ false

any_append : (p q : Sum) → has_wide (p ++ q) ≡ (has_wide p || has_wide q)
any_append [] q = refl
any_append (m ∷ p) q = ap (λ z. is_wide m.coefficient || z) (any_append p q) ∙ or_assoc (is_wide m.coefficient) (has_wide p) (has_wide q)

pub with_next : (m : Monomial) (sum left right left2 right2 whole : Sum) → IsNext (next.Monomial m) (plus left right) (plus left2 right2) → SumsTo sum left right whole →
    SumsTo (sum ++ m ∷ []) left2 right2 whole
with_next m sum left right left2 right2 whole h s =
    record {
      sums = append_assoc sum (m ∷ []) (plus left2 right2) ∙ ap (λ z. sum ++ z) (sym h.0) ∙ s.sums;
      narrow = any_append sum (m ∷ []) ∙ none_or (has_wide sum) (is_wide m.coefficient || false) s.narrow (none_or (is_wide m.coefficient) false h.1 refl);
    }

pub at_end : (sum left right whole : Sum) → plus left right ≡ [] → SumsTo sum left right whole → (sum ≡ whole) × (has_wide whole ≡ false)
at_end sum left right whole e s =
    let f : sum ≡ whole = sym (append-nil sum) ∙ ap (λ z. sum ++ z) (sym e) ∙ s.sums in
    (f, ap has_wide (sym f) ∙ s.narrow)

pub at_wide : (sum left right whole : Sum) → has_wide (plus left right) ≡ true → SumsTo sum left right whole → has_wide whole ≡ true
at_wide sum left right whole e s = ap has_wide (sym s.sums) ∙ any_append sum (plus left right) ∙ second_or (has_wide sum) (has_wide (plus left right)) e
