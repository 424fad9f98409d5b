-- Coefficients that are read in one walk over products and an inequality, where both strictly ascend.
use Rattle.std.proofs.Common.{◌≡◌, Bool, true, false, cond, List, [], ◌∷◌, map, pos, refl, sym, ◌∙◌, ap, Ordering, Less, Equal, Greater}
use Rattle.std.specs.Ordering.{ordering_reverse, is_eq, is_lt, is_gt}
use Rattle.tht_tree.specs.declared.form.LinearTerm.{LinearTerm}
use Rattle.tht_tree.specs.Normal.Sums.{Product, compare_products}
use Rattle.tht_tree.specs.Normal.Linear.{Inequality, coefficient_of}
use Rattle.normal_laws.proofs.OrderTotal.{products_total}
use Rattle.pure_terms.specs.Readings.{ascend_from, ascend, from_product, first_coefficient, merged_row}

abbrev products : Inequality → List Product
products = map (λ t. t.atoms)

-- x stands before each of them
abbrev Below : Product → List Product → Type 0
Below x [] = Unit {0}
Below x (y ∷ ys) = (compare_products x y ≡ Less) × Below x ys

abbrev Ascending : List Product → Type 0
Ascending [] = Unit {0}
Ascending (x ∷ xs) = Below x xs × Ascending xs

below_more : (x y : Product) (ys : List Product) → compare_products x y ≡ Less → Below y ys → Below x ys
below_more x y [] e h = tt
below_more x y (z ∷ zs) e h = (products_total.trans x y z e h.0, below_more x y zs e h.1)

-- each before the next one: so each before all that follow
less_if : (o : Ordering) (rest : Bool) → cond (is_lt o) rest false ≡ true → (o ≡ Less) × (rest ≡ true)
less_if Less rest e = (refl, e)
less_if Equal rest e = cc
less_if Greater rest e = cc

ascending_from : (x : Product) (ys : List Product) → ascend_from x ys ≡ true → Ascending (x ∷ ys)
ascending_from x [] e = (tt, tt)
ascending_from x (y ∷ ys) e =
    let h = less_if (compare_products x y) (ascend_from y ys) e in
    let a = ascending_from y ys h.1 in
    ((h.0, below_more x y ys h.0 a.0), a)

ascending : (xs : List Product) → ascend xs ≡ true → Ascending xs
ascending [] e = tt
ascending (x ∷ xs) e = ascending_from x xs e

turned : (x y : Product) → compare_products x y ≡ Less → compare_products y x ≡ Greater
turned x y e = products_total.antisymm y x ∙ ap ordering_reverse e

turned_less : (x y : Product) → compare_products x y ≡ Greater → compare_products y x ≡ Less
turned_less x y e = products_total.antisymm y x ∙ ap ordering_reverse e

-- ---- one product

there : (p : Product) (t : LinearTerm) (xs : Inequality) (o : Ordering) → compare_products p t.atoms ≡ o → is_eq o ≡ false → coefficient_of p (t ∷ xs) ≡ coefficient_of p xs
there p t xs o e f = ap (λ z. cond (is_eq z) t.coefficient (coefficient_of p xs)) e ∙ ap (λ c. cond c t.coefficient (coefficient_of p xs)) f

absent : (p : Product) (xs : Inequality) → Below p (products xs) → coefficient_of p xs ≡ pos 0
absent p [] b = refl
absent p (t ∷ xs) b = there p t xs Less b.0 refl ∙ absent p xs b.1

-- what is left behind the terms of lower products, by how p stands to the first one
from_lower : (p : Product) (t : LinearTerm) (xs : Inequality) → compare_products p t.atoms ≡ Greater → from_product p (t ∷ xs) ≡ from_product p xs
from_lower p t xs e = ap (λ o. cond (is_gt o) (from_product p xs) (t ∷ xs)) e

from_here : (p : Product) (t : LinearTerm) (xs : Inequality) (o : Ordering) → compare_products p t.atoms ≡ o → is_gt o ≡ false → from_product p (t ∷ xs) ≡ t ∷ xs
from_here p t xs o e f = ap (λ z. cond (is_gt z) (from_product p xs) (t ∷ xs)) e ∙ ap (λ c. cond c (from_product p xs) (t ∷ xs)) f

first_is : (p : Product) (t : LinearTerm) (xs : Inequality) (o : Ordering) → compare_products p t.atoms ≡ o → first_coefficient p (t ∷ xs) ≡ cond (is_eq o) t.coefficient (pos 0)
first_is p t xs o e = ap (λ z. cond (is_eq z) t.coefficient (pos 0)) e

-- the terms of lower products do not count
read_first : (p : Product) (xs : Inequality) → Ascending (products xs) → coefficient_of p xs ≡ first_coefficient p (from_product p xs)
read_first p [] a = refl
read_first p (t ∷ xs) a = by (compare_products p t.atoms) refl (read_first p xs a.1)
  where
    by : (o : Ordering) → compare_products p t.atoms ≡ o → coefficient_of p xs ≡ first_coefficient p (from_product p xs) →
        coefficient_of p (t ∷ xs) ≡ first_coefficient p (from_product p (t ∷ xs))
    by Less e h =
        there p t xs Less e refl ∙ absent p xs (below_more p t.atoms (products xs) e a.0)
        ∙ sym (ap (first_coefficient p) (from_here p t xs Less e refl) ∙ first_is p t xs Less e)
    by Equal e h =
        ap (λ z. cond (is_eq z) t.coefficient (coefficient_of p xs)) e
        ∙ sym (ap (first_coefficient p) (from_here p t xs Equal e refl) ∙ first_is p t xs Equal e)
    by Greater e h = there p t xs Greater e refl ∙ h ∙ sym (ap (first_coefficient p) (from_lower p t xs e))

-- nor do they for higher products
read_later : (p q : Product) → compare_products p q ≡ Less → (xs : Inequality) → coefficient_of q (from_product p xs) ≡ coefficient_of q xs
read_later p q l [] = refl
read_later p q l (t ∷ xs) = by (compare_products p t.atoms) refl (read_later p q l xs)
  where
    by : (o : Ordering) → compare_products p t.atoms ≡ o → coefficient_of q (from_product p xs) ≡ coefficient_of q xs → coefficient_of q (from_product p (t ∷ xs)) ≡ coefficient_of q (t ∷ xs)
    by Less e h = ap (coefficient_of q) (from_here p t xs Less e refl)
    by Equal e h = ap (coefficient_of q) (from_here p t xs Equal e refl)
    by Greater e h =
        ap (coefficient_of q) (from_lower p t xs e) ∙ h
        ∙ sym (there q t xs Greater (turned t.atoms q (products_total.trans t.atoms p q (turned_less p t.atoms e) l)) refl)

stays_ascending : (p : Product) (xs : Inequality) → Ascending (products xs) → Ascending (products (from_product p xs))
stays_ascending p [] a = tt
stays_ascending p (t ∷ xs) a = by (is_gt (compare_products p t.atoms)) (stays_ascending p xs a.1)
  where
    by : (c : Bool) → Ascending (products (from_product p xs)) → Ascending (products (cond c (from_product p xs) (t ∷ xs)))
    by true h = h
    by false h = a

-- ---- all products

same_later : (p : Product) (xs : Inequality) (ps : List Product) → Below p ps → map (λ q. coefficient_of q (from_product p xs)) ps ≡ map (λ q. coefficient_of q xs) ps
same_later p xs [] b = refl
same_later p xs (q ∷ ps) b = λ i. read_later p q b.0 xs i ∷ same_later p xs ps b.1 i

row_is : (ps : List Product) (xs : Inequality) → Ascending ps → Ascending (products xs) → merged_row ps xs ≡ map (λ q. coefficient_of q xs) ps
row_is [] xs a b = refl
row_is (p ∷ ps) xs a b =
    let later = row_is ps (from_product p xs) a.1 (stays_ascending p xs b) ∙ same_later p xs ps a.0 in
    λ i. sym (read_first p xs b) i ∷ later i

-- The law: one walk reads the coefficients of all.
pub merged_is : (ps : List Product) (xs : Inequality) → ascend ps ≡ true → ascend (products xs) ≡ true → merged_row ps xs ≡ map (λ q. coefficient_of q xs) ps
merged_is ps xs e f = row_is ps xs (ascending ps e) (ascending (products xs) f)
