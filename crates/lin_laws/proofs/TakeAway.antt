-- The products of a difference of two sums strictly ascend, and it is worth the first less the second.
use Rattle.std.proofs.Common.{◌≡◌, ◌↔◌, ℕ, ◌*◌, ◌≤◌, ℤ, pos, negsuc, ◌+ℤ◌, ◌-ℤ◌, ◌*ℤ◌, ◌≤ℤ◌, [], ◌∷◌, map, refl, sym, subst, arith, Ordering, Less, Equal, Greater}
use Rattle.std.specs.Ordering.{match_ordering}
use Rattle.std.proofs.lemmas.Int.{ints}
use borrow.Author.Differences.{product_is}
use Rattle.tht_tree.specs.declared.term.Term.{Term}
use Rattle.tht_tree.specs.Normal.Sums.{Product, Sum, compare_products}
use Rattle.tht_tree.specs.declared.form.Monomial.{Monomial}
use Rattle.tht_tree.specs.Normal.Linear.{Inequality, linear_term, positive, negative, before_term, take_away}
use Rattle.normal_laws.proofs.OrderTells.{products_tell}
use Rattle.normal_laws.proofs.OrderTotal.{products_total}
use Rattle.normal_laws.proofs.SumsAscend.{Above, Ascends}
use Rattle.normal_laws.proofs.SumValues.{product_value}
use Rattle.normal_laws.proofs.LinearValues.{up, down, ups, downs}
use Rattle.lin_laws.proofs.Columns.{Below, Ascending, products, turned_less}
use Rattle.lin_laws.proofs.Values.{worth}

-- ---- it ascends

pub above_more : (x y : Product) (p : Sum) → compare_products x y ≡ Less → Above y p → Above x p
above_more x y [] e h = tt
above_more x y (n ∷ q) e h = (products_total.trans x y n.atoms e h.0, above_more x y q e h.1)

below_negative : (x : Product) (q : Sum) → Above x q → Below x (products (map negative q))
below_negative x [] h = tt
below_negative x (n ∷ q) h = (h.0, below_negative x q h.1)

ascending_negative : (q : Sum) → Ascends q → Ascending (products (map negative q))
ascending_negative [] h = tt
ascending_negative (n ∷ q) h = (below_negative n.atoms q h.0, ascending_negative q h.1)

below_term : (x : Product) (m : Monomial) (rest : Sum → Inequality) → compare_products x m.atoms ≡ Less → ((r : Sum) → Above x r → Below x (products (rest r))) →
    (q : Sum) → Above x q → Below x (products (before_term m rest q))
below_term x m rest e h [] a = (e, h [] tt)
below_term x m rest e h (n ∷ q) a = by (compare_products m.atoms n.atoms) (below_term x m rest e h q a.1)
  where
    by : (o : Ordering) → Below x (products (before_term m rest q)) →
        Below x (products (match_ordering o (positive m ∷ rest (n ∷ q)) (linear_term (pos m.coefficient -ℤ pos n.coefficient) m.atoms ∷ rest q) (negative n ∷ before_term m rest q)))
    by Less b = (e, h (n ∷ q) a)
    by Equal b = (e, h q a.1)
    by Greater b = (a.0, b)

below_away : (x : Product) (p q : Sum) → Above x p → Above x q → Below x (products (take_away p q))
below_away x [] q a b = below_negative x q b
below_away x (m ∷ p) q a b = below_term x m (take_away p) a.0 (λ r c. below_away x p r a.1 c) q b

ascending_term : (m : Monomial) (p : Sum) → Above m.atoms p → ((r : Sum) → Ascends r → Ascending (products (take_away p r))) →
    (q : Sum) → Ascends q → Ascending (products (before_term m (take_away p) q))
ascending_term m p a h [] b = (below_away m.atoms p [] a tt, h [] tt)
ascending_term m p a h (n ∷ q) b = by (compare_products m.atoms n.atoms) refl (ascending_term m p a h q b.1)
  where
    by : (o : Ordering) → compare_products m.atoms n.atoms ≡ o → Ascending (products (before_term m (take_away p) q)) →
        Ascending (products (match_ordering o (positive m ∷ take_away p (n ∷ q)) (linear_term (pos m.coefficient -ℤ pos n.coefficient) m.atoms ∷ take_away p q) (negative n ∷ before_term m (take_away p) q)))
    by Less e c = (below_away m.atoms p (n ∷ q) a (e, above_more m.atoms n.atoms q e b.0), h (n ∷ q) b)
    by Equal e c = (below_away m.atoms p q a (subst (λ z. Above z q) (sym (products_tell m.atoms n.atoms e)) b.0), h q b.1)
    by Greater e c =
        let less = turned_less m.atoms n.atoms e in
        (below_term n.atoms m (take_away p) less (λ r d. below_away n.atoms p r (above_more n.atoms m.atoms p less a) d) q b.0, c)

pub take_away_ascends : (p q : Sum) → Ascends p → Ascends q → Ascending (products (take_away p q))
take_away_ascends [] q a b = ascending_negative q b
take_away_ascends (m ∷ p) q a b = ascending_term m p a.0 (λ r c. take_away_ascends p r a.1 c) q b

-- ---- its value

part_times : (c : ℤ) (n : ℕ) → c *ℤ pos n +ℤ pos (down c * n) ≡ pos (up c * n)
part_times (pos a) n = let p = product_is (pos a) (pos n) in omega (arith, ints, p)
part_times (negsuc a) n = let p = product_is (negsuc a) (pos n) in omega (arith, ints, p)

-- given the values of the atoms, products have the whole numbers of their values
module _ (v : Term → ℕ) where
  abbrev pub whole : Product → ℤ
  whole p = pos (product_value v p)

  pub worth-is : (xs : Inequality) → worth whole xs +ℤ pos (downs v xs) ≡ pos (ups v xs)
  worth-is [] = refl
  worth-is (t ∷ xs) =
      let a = part_times t.coefficient (product_value v t.atoms) in
      let b = worth-is xs in
      omega (arith, ints, a, b)

  -- an inequality is true where its positive part is at most its negative one
  pub worth_says : (xs : Inequality) → (worth whole xs ≤ℤ pos 0) ↔ (ups v xs ≤ downs v xs)
  worth_says xs = let e = worth-is xs in (λ h. omega (arith, ints, e, h), λ h. omega (arith, ints, e, h))
