-- Lists of sums that grow.
use Rattle.std.proofs.Common.{◌≡◌, ℕ, suc, ◌<◌, ◌||◌, inl, inr, true, false, List, [], ◌∷◌, ◌++◌, flat_map, length, drop, get_or, drop-cons, Err, sym, ◌∙◌, ap, append_assoc, append-nil}
use Rattle.tht_tree.specs.declared.form.Monomial.{Monomial}
use Rattle.tht_tree.specs.declared.form.NormalEnd.{NormalEnd}
use Rattle.tht_tree.specs.Normal.Sums.{Sum, times}
use Rattle.pure_terms.specs.Making.{have_wide, products_with, IsMade, AreMade}
use Rattle.pure_terms.proofs.WideTests.{none_or, first_or, second_or}
use Rattle.pure_terms.proofs.PairedSums.{any_append}
use Rattle.pure_terms.proofs.WideSums.{wide_sum_of}

-- those that were made, of which no number is wide, and what is left to make are the whole
pub record GrownTo (made rest whole : List Sum) : Type 0 where
  pub all : made ++ rest ≡ whole
  pub narrow : have_wide made ≡ false

pub grown_by : (made rest whole more left : List Sum) → rest ≡ more ++ left → have_wide more ≡ false → GrownTo made rest whole → GrownTo (made ++ more) left whole
grown_by made rest whole more left e n h =
    record {
      all = append_assoc made more left ∙ ap (λ z. made ++ z) (sym e) ∙ h.all;
      narrow = any_append made more ∙ none_or (have_wide made) (have_wide more) h.narrow n;
    }

pub grown_all : (made rest whole : List Sum) → rest ≡ [] → GrownTo made rest whole → (made ≡ whole) × (have_wide whole ≡ false)
grown_all made rest whole e h =
    let f : made ≡ whole = sym (append-nil made) ∙ ap (λ z. made ++ z) (sym e) ∙ h.all in
    (f, ap have_wide (sym f) ∙ h.narrow)

pub grown_wide : (made rest whole more left : List Sum) → rest ≡ more ++ left → have_wide more ≡ true → GrownTo made rest whole → have_wide whole ≡ true
grown_wide made rest whole more left e w h =
    ap have_wide (sym h.all) ∙ any_append made rest ∙ ap (λ z. have_wide made || have_wide z) e ∙ ap (λ z. have_wide made || z) (any_append more left)
    ∙ second_or (have_wide made) (have_wide more || have_wide left) (first_or (have_wide more) (have_wide left) w)

-- ---- products

-- the products of each monomial of a sum with each of another
abbrev all_products : Sum → Sum → List Sum
all_products q p = flat_map (λ m. products_with m q) p

row_first : (p q : Sum) (i : ℕ) (m : Monomial) → i < length p → m ≡ get_or p i m → all_products q (drop i p) ≡ products_with m q ++ all_products q (drop (suc i) p)
row_first p q i m h e = ap (all_products q) (drop-cons p i m h ∙ ap (λ (z : Monomial). z ∷ drop (suc i) p) (sym e))

-- where a row of products is not made, the product is not
pub row_end : (p q : Sum) (i : ℕ) (m : Monomial) (made : List Sum) (e : NormalEnd) → i < length p → m ≡ get_or p i m → GrownTo made (all_products q (drop i p)) (all_products q p) →
    AreMade (Err e) (products_with m q) → IsMade (Err e) (times p q)
row_end p q i m made e h g k (inl x) = inl x
row_end p q i m made e h g k (inr w) =
    inr (w.0, wide_sum_of (all_products q p) (grown_wide made (all_products q (drop i p)) (all_products q p) (products_with m q) (all_products q (drop (suc i) p)) (row_first p q i m h g) w.1 k))
