-- Sums that are added in pairs, one pair after the other.
use Rattle.std.proofs.Common.{◌≡◌, ◌||◌, true, false, List, [], ◌∷◌, ◌++◌, refl, sym, ◌∙◌, ap, subst, append_assoc, append-nil}
use Rattle.tht_tree.specs.Normal.InPairs.{pairs}
use Rattle.tht_tree.specs.Normal.Sums.{Sum, plus}
use Rattle.pure_terms.specs.Making.{has_wide, have_wide}
use Rattle.pure_terms.proofs.WideTests.{neither, none_or, first_or, second_or, or_assoc}

-- the sums so far, and the pairs of those that are left, are the pairs of all
pub record PairsTo (made rest whole : List Sum) : Type 0 where
  pub all : made ++ pairs plus rest ≡ pairs plus whole
  pub narrow : have_wide made ≡ false
  pub left : have_wide rest ≡ false

pub any_append : (ps qs : List Sum) → have_wide (ps ++ qs) ≡ (have_wide ps || have_wide qs)
any_append [] qs = refl
any_append (p ∷ ps) qs = ap (λ z. has_wide p || z) (any_append ps qs) ∙ or_assoc (has_wide p) (have_wide ps) (have_wide qs)

-- after a pair
pub after_pair : (made rest whole longer behind left : List Sum) (p q s : Sum) → rest ≡ p ∷ behind → behind ≡ q ∷ left → s ≡ plus p q → has_wide (plus p q) ≡ false → longer ≡ made ++ s ∷ [] →
    PairsTo made rest whole → PairsTo longer left whole
after_pair made rest whole longer behind left p q s a b e n g k =
    let h : PairsTo made (p ∷ q ∷ left) whole = subst (λ (z : List Sum). PairsTo made z whole) (a ∙ ap (λ z. p ∷ z) b) k in
    let after : PairsTo (made ++ s ∷ []) left whole = record {
      all = append_assoc made (s ∷ []) (pairs plus left) ∙ ap (λ z. made ++ z ∷ pairs plus left) e ∙ h.all;
      narrow = any_append made (s ∷ []) ∙ none_or (have_wide made) (has_wide s || false) h.narrow (none_or (has_wide s) false (ap has_wide e ∙ n) refl);
      left = (neither (has_wide q) (have_wide left) (neither (has_wide p) (has_wide q || have_wide left) h.left).1).1;
    } in
    subst (λ (z : List Sum). PairsTo z left whole) (sym g) after

-- after a last one alone
pub after_last : (made whole : List Sum) (p : Sum) → PairsTo made (p ∷ []) whole → PairsTo (made ++ p ∷ []) [] whole
after_last made whole p h =
    record {
      all = append-nil (made ++ p ∷ []) ∙ h.all;
      narrow = any_append made (p ∷ []) ∙ none_or (have_wide made) (has_wide p || false) h.narrow h.left;
      left = refl;
    }

pub all_paired : (made whole : List Sum) → PairsTo made [] whole → (made ≡ pairs plus whole) × (have_wide (pairs plus whole) ≡ false)
all_paired made whole h =
    let e : made ≡ pairs plus whole = sym (append-nil made) ∙ h.all in
    (e, ap have_wide (sym e) ∙ h.narrow)

pub pair_wide : (made rest whole : List Sum) (p q : Sum) → has_wide (plus p q) ≡ true → PairsTo made (p ∷ q ∷ rest) whole → have_wide (pairs plus whole) ≡ true
pair_wide made rest whole p q w h =
    ap have_wide (sym h.all) ∙ any_append made (plus p q ∷ pairs plus rest) ∙ second_or (have_wide made) (has_wide (plus p q) || have_wide (pairs plus rest)) (first_or (has_wide (plus p q)) (have_wide (pairs plus rest)) w)
