-- The products of a sum strictly ascend, and stay so when sums are added.
use Rattle.std.proofs.Common.{◌≡◌, ◌+◌, [], ◌∷◌, refl, sym, ◌∙◌, ap, subst, Ordering, Less, Equal, Greater}
use Rattle.std.specs.Ordering.{ordering_reverse, match_ordering}
use Rattle.tht_tree.specs.declared.form.Monomial.{Monomial}
use Rattle.tht_tree.specs.Normal.Sums.{Product, Sum, monomial, compare_products, before_monomial, plus}
use Rattle.normal_laws.proofs.OrderTells.{products_tell}
use Rattle.normal_laws.proofs.OrderTotal.{products_total}

-- x stands before each product of the sum
abbrev pub Above : Product → Sum → Type 0
Above x [] = Unit {0}
Above x (n ∷ q) = (compare_products x n.atoms ≡ Less) × Above x q

abbrev pub Ascends : Sum → Type 0
Ascends [] = Unit {0}
Ascends (m ∷ p) = Above m.atoms p × Ascends p

lower : (x y : Product) (p : Sum) → compare_products x y ≡ Less → Above y p → Above x p
lower x y [] e h = tt
lower x y (n ∷ q) e h = (products_total.trans x y n.atoms e h.0, lower x y q e h.1)

above_before : (x : Product) (m : Monomial) (p : Sum) (rest : Sum → Sum) → compare_products x m.atoms ≡ Less → ((r : Sum) → Above x r → Above x (rest r)) →
    (q : Sum) → Above x q → Above x (before_monomial m rest q)
above_before x m p rest e h [] a = (e, h [] tt)
above_before x m p rest e h (n ∷ q) a = by (compare_products m.atoms n.atoms) (above_before x m p rest e h q a.1)
  where
    by : (o : Ordering) → Above x (before_monomial m rest q) →
        Above x (match_ordering o (m ∷ rest (n ∷ q)) (monomial (m.coefficient + n.coefficient) m.atoms ∷ rest q) (n ∷ before_monomial m rest q))
    by Less b = (e, h (n ∷ q) a)
    by Equal b = (e, h q a.1)
    by Greater b = (a.0, b)

above_plus : (x : Product) (p q : Sum) → Above x p → Above x q → Above x (plus p q)
above_plus x [] q a b = b
above_plus x (m ∷ p) q a b = above_before x m p (plus p) a.0 (λ r c. above_plus x p r a.1 c) q b

after_greater : (x y : Product) → compare_products x y ≡ Greater → compare_products y x ≡ Less
after_greater x y e = products_total.antisymm y x ∙ ap ordering_reverse e

ascends_before : (m : Monomial) (p : Sum) → Above m.atoms p → ((r : Sum) → Ascends r → Ascends (plus p r)) → (q : Sum) → Ascends q → Ascends (before_monomial m (plus p) q)
ascends_before m p a h [] b = (above_plus m.atoms p [] a tt, h [] tt)
ascends_before m p a h (n ∷ q) b = by (compare_products m.atoms n.atoms) refl (ascends_before m p a h q b.1)
  where
    by : (o : Ordering) → compare_products m.atoms n.atoms ≡ o → Ascends (before_monomial m (plus p) q) →
        Ascends (match_ordering o (m ∷ plus p (n ∷ q)) (monomial (m.coefficient + n.coefficient) m.atoms ∷ plus p q) (n ∷ before_monomial m (plus p) q))
    by Less e c = (above_plus m.atoms p (n ∷ q) a (e, lower m.atoms n.atoms q e b.0), h (n ∷ q) b)
    by Equal e c = (above_plus m.atoms p q a (subst (λ z. Above z q) (sym (products_tell m.atoms n.atoms e)) b.0), h q b.1)
    by Greater e c =
        let below = after_greater m.atoms n.atoms e in
        (above_before n.atoms m p (plus p) below (λ r d. above_plus n.atoms p r (lower n.atoms m.atoms p below a) d) q b.0, c)

pub plus_ascends : (p q : Sum) → Ascends p → Ascends q → Ascends (plus p q)
plus_ascends [] q a b = b
plus_ascends (m ∷ p) q a b = ascends_before m p a.0 (λ r c. plus_ascends p r a.1 c) q b
