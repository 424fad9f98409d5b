-- Lists of products that are merged.
use Rattle.std.proofs.Common.{◌≡◌, ℕ, ◌+◌, true, List, [], ◌∷◌, Option, Some, None, refl, sym, ◌∙◌, ap, subst, arith, Ordering, Less, Equal, Greater}
use Rattle.std.specs.Ordering.{match_ordering}
use Rattle.std.specs.Set.{merge_step, sorted_merge}
use Rattle.tht_tree.specs.Normal.Sums.{Product, compare_products}
use Rattle.pure_terms.specs.Readings.{first_product_lower, IsNextProduct, IsFewer}

abbrev pub merged : List Product → List Product → List Product
merged = sorted_merge compare_products true

merge_none : (xs : List Product) → merged xs [] ≡ xs
merge_none [] = refl
merge_none (x ∷ xs) = refl

the_some : {A : Type 0} (x y : A) → Some x ≡ Some y → x ≡ y
the_some x y e = cc

abbrev by_order : Product → List Product → Product → List Product → Ordering → List Product
by_order x xs y ys o = match_ordering o (x ∷ merged xs (y ∷ ys)) (x ∷ merged xs ys) (y ∷ merge_step compare_products true x xs (merged xs) ys)

left_first : (x : Product) (xs ys : List Product) → first_product_lower (x ∷ xs) ys ≡ Some Less → merged (x ∷ xs) ys ≡ x ∷ merged xs ys
left_first x xs [] e = ap (λ z. x ∷ z) (sym (merge_none xs))
left_first x xs (y ∷ ys) e = ap (by_order x xs y ys) (the_some (compare_products x y) Less e)

right_first : (y : Product) (xs ys : List Product) → first_product_lower xs (y ∷ ys) ≡ Some Greater → merged xs (y ∷ ys) ≡ y ∷ merged xs ys
right_first y [] ys e = refl
right_first y (x ∷ xs) ys e = ap (by_order x xs y ys) (the_some (compare_products x y) Greater e)

both_first : (x y : Product) (xs ys : List Product) → first_product_lower (x ∷ xs) (y ∷ ys) ≡ Some Equal → merged (x ∷ xs) (y ∷ ys) ≡ x ∷ merged xs ys
both_first x y xs ys e = ap (by_order x xs y ys) (the_some (compare_products x y) Equal e)

pub no_product : (xs ys : List Product) → first_product_lower xs ys ≡ None → merged xs ys ≡ []
no_product [] [] e = refl
no_product [] (y ∷ ys) e = cc
no_product (x ∷ xs) [] e = cc
no_product (x ∷ xs) (y ∷ ys) e = cc

empty_left : (ys : List Product) → first_product_lower [] ys ≡ Some Less → ⊥
empty_left [] e = cc
empty_left (y ∷ ys) e = let f = the_some Greater Less e in cc

empty_right : (xs : List Product) → first_product_lower xs [] ≡ Some Greater → ⊥
empty_right [] e = cc
empty_right (x ∷ xs) e = let f = the_some Less Greater e in cc

pub from_left : (r : Option Product) (xs rest ys : List Product) → first_product_lower xs ys ≡ Some Less → IsNextProduct r xs rest → IsNextProduct r (merged xs ys) (merged rest ys)
from_left (Some x) xs rest ys e h = ap (λ z. merged z ys) h ∙ left_first x rest ys (subst (λ z. first_product_lower z ys ≡ Some Less) h e)
from_left None xs rest ys e h = absurd (empty_left ys (subst (λ z. first_product_lower z ys ≡ Some Less) h e))

pub from_right : (r : Option Product) (xs ys rest : List Product) → first_product_lower xs ys ≡ Some Greater → IsNextProduct r ys rest → IsNextProduct r (merged xs ys) (merged xs rest)
from_right (Some y) xs ys rest e h = ap (merged xs) h ∙ right_first y xs rest (subst (λ z. first_product_lower xs z ≡ Some Greater) h e)
from_right None xs ys rest e h = absurd (empty_right xs (subst (λ z. first_product_lower xs z ≡ Some Greater) h e))

pub from_both : (x y : Product) (xs rest ys others : List Product) → first_product_lower xs ys ≡ Some Equal → xs ≡ x ∷ rest → ys ≡ y ∷ others → merged xs ys ≡ x ∷ merged rest others
from_both x y xs rest ys others e f g =
    (λ i. merged (f i) (g i)) ∙ both_first x y rest others (subst (λ z. first_product_lower (x ∷ rest) z ≡ Some Equal) g (subst (λ z. first_product_lower z ys ≡ Some Equal) f e))

none_left : (ys : List Product) → first_product_lower [] ys ≡ Some Equal → ⊥
none_left [] e = cc
none_left (y ∷ ys) e = let f = the_some Greater Equal e in cc

none_right : (xs : List Product) → first_product_lower xs [] ≡ Some Equal → ⊥
none_right [] e = cc
none_right (x ∷ xs) e = let f = the_some Less Equal e in cc

-- where both have a first product, neither is empty
pub no_left : (xs ys : List Product) → first_product_lower xs ys ≡ Some Equal → xs ≡ [] → ⊥
no_left xs ys e h = none_left ys (subst (λ z. first_product_lower z ys ≡ Some Equal) h e)

pub no_right : (xs ys : List Product) → first_product_lower xs ys ≡ Some Equal → ys ≡ [] → ⊥
no_right xs ys e h = none_right xs (subst (λ z. first_product_lower xs z ≡ Some Equal) h e)

pub fewer_left : (r : Option Product) (a b c : ℕ) → IsFewer r a b → IsFewer r (a + c) (b + c)
fewer_left (Some x) a b c h = omega arith
fewer_left None a b c h = tt

pub fewer_right : (r : Option Product) (a b c : ℕ) → IsFewer r a b → IsFewer r (c + a) (c + b)
fewer_right (Some x) a b c h = omega arith
fewer_right None a b c h = tt
