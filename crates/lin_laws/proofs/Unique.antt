-- Sums are told apart by their coefficients: two that strictly ascend, without zeros, and have the same coefficient of each product, are the same list.
use Rattle.std.proofs.Common.{◌≡◌, ℕ, ◌+◌, ◌<◌, Bool, true, false, cond, [], ◌∷◌, if◌then◌else◌, refl, sym, ◌∙◌, ap, subst, arith, Ordering, Less, Equal, Greater}
use Rattle.std.specs.Ordering.{is_eq, match_ordering}
use Rattle.tht_tree.specs.Normal.Sums.{Product, Sum, monomial, compare_products, before_monomial, plus}
use Rattle.tht_tree.specs.declared.form.Monomial.{Monomial}
use Rattle.normal_laws.proofs.OrderTells.{products_tell}
use Rattle.normal_laws.proofs.SumsAscend.{Above, Ascends, plus_ascends}
use Rattle.lin_laws.proofs.Columns.{turned_less}
use Rattle.lin_laws.proofs.Values.{same_product}
use Rattle.lin_laws.proofs.TakeAway.{above_more}

-- the coefficient of a product, 0 where it does not stand there
abbrev pub coefficient_in : Product → Sum → ℕ
coefficient_in x [] = 0
coefficient_in x (m ∷ p) = if is_eq (compare_products x m.atoms) then m.coefficient else coefficient_in x p

-- no coefficient is 0
abbrev pub Positive : Sum → Type 0
Positive [] = Unit {0}
Positive (m ∷ p) = (0 < m.coefficient) × Positive p

here : (x : Product) (m : Monomial) (p : Sum) → compare_products x m.atoms ≡ Equal → coefficient_in x (m ∷ p) ≡ m.coefficient
here x m p e = ap (λ o. cond (is_eq o) m.coefficient (coefficient_in x p)) e

there : (x : Product) (m : Monomial) (p : Sum) (o : Ordering) → compare_products x m.atoms ≡ o → is_eq o ≡ false → coefficient_in x (m ∷ p) ≡ coefficient_in x p
there x m p o e f = ap (λ o. cond (is_eq o) m.coefficient (coefficient_in x p)) e ∙ ap (λ c. cond c m.coefficient (coefficient_in x p)) f

absent : (x : Product) (p : Sum) → Above x p → coefficient_in x p ≡ 0
absent x [] h = refl
absent x (m ∷ p) h = there x m p Less h.0 refl ∙ absent x p h.1

-- ---- the law

first_absent : (m : Monomial) (p q : Sum) → 0 < m.coefficient → Above m.atoms q → ((x : Product) → coefficient_in x (m ∷ p) ≡ coefficient_in x q) → ⊥
first_absent m p q l a h =
    let e : m.coefficient ≡ 0 = sym (here m.atoms m p (same_product m.atoms)) ∙ h m.atoms ∙ absent m.atoms q a in
    omega arith

-- the rest of two sums that begin with one product
rest_same : (m n : Monomial) (p q : Sum) → m.atoms ≡ n.atoms → Above m.atoms p → Above n.atoms q → ((x : Product) → coefficient_in x (m ∷ p) ≡ coefficient_in x (n ∷ q)) →
    (x : Product) → coefficient_in x p ≡ coefficient_in x q
rest_same m n p q e a b h x = by (compare_products x m.atoms) refl
  where
    at_first : x ≡ m.atoms → coefficient_in x p ≡ coefficient_in x q
    at_first g = absent x p (subst (λ z. Above z p) (sym g) a) ∙ sym (absent x q (subst (λ z. Above z q) (sym (g ∙ e)) b))

    past : (o : Ordering) → compare_products x m.atoms ≡ o → is_eq o ≡ false → coefficient_in x p ≡ coefficient_in x q
    past o g f = sym (there x m p o g f) ∙ h x ∙ there x n q o (ap (compare_products x) (sym e) ∙ g) f

    by : (o : Ordering) → compare_products x m.atoms ≡ o → coefficient_in x p ≡ coefficient_in x q
    by Less g = past Less g refl
    by Equal g = at_first (products_tell x m.atoms g)
    by Greater g = past Greater g refl

same_monomial : (m n : Monomial) → m.coefficient ≡ n.coefficient → m.atoms ≡ n.atoms → m ≡ n
same_monomial m n e g = λ i. monomial (e i) (g i)

pub unique : (p q : Sum) → Ascends p → Ascends q → Positive p → Positive q → ((x : Product) → coefficient_in x p ≡ coefficient_in x q) → p ≡ q
unique [] [] a b c d h = refl
unique [] (n ∷ q) a b c d h = absurd (first_absent n q [] d.0 tt (λ x. sym (h x)))
unique (m ∷ p) [] a b c d h = absurd (first_absent m p [] c.0 tt h)
unique (m ∷ p) (n ∷ q) a b c d h = by (compare_products m.atoms n.atoms) refl (λ k. unique p q a.1 b.1 c.1 d.1 k)
  where
    by : (o : Ordering) → compare_products m.atoms n.atoms ≡ o → (((x : Product) → coefficient_in x p ≡ coefficient_in x q) → p ≡ q) → (m ∷ p) ≡ (n ∷ q)
    by Less e k = absurd (first_absent m p (n ∷ q) c.0 (e, above_more m.atoms n.atoms q e b.0) h)
    by Greater e k =
        let less = turned_less m.atoms n.atoms e in
        absurd (first_absent n q (m ∷ p) d.0 (less, above_more n.atoms m.atoms p less a.0) (λ x. sym (h x)))
    by Equal e k =
        let same = products_tell m.atoms n.atoms e in
        let first : m.coefficient ≡ n.coefficient = sym (here m.atoms m p (same_product m.atoms)) ∙ h m.atoms ∙ here m.atoms n q e in
        let rest = k (rest_same m n p q same a.0 b.0 h) in
        λ i. same_monomial m n first same i ∷ rest i

-- ---- sums of sums

before_coefficient : (x : Product) (m : Monomial) (p : Sum) → Above m.atoms p → ((r : Sum) → Ascends r → coefficient_in x (plus p r) ≡ coefficient_in x p + coefficient_in x r) →
    (q : Sum) → Ascends q → coefficient_in x (before_monomial m (plus p) q) ≡ coefficient_in x (m ∷ p) + coefficient_in x q
before_coefficient x m p a h [] b = by (is_eq (compare_products x m.atoms)) (h [] tt)
  where
    by : (c : Bool) → coefficient_in x (plus p []) ≡ coefficient_in x p + 0 → cond c m.coefficient (coefficient_in x (plus p [])) ≡ cond c m.coefficient (coefficient_in x p) + 0
    by true e = omega arith
    by false e = e
before_coefficient x m p a h (n ∷ q) b = by (compare_products m.atoms n.atoms) refl (before_coefficient x m p a h q b.1)
  where
    -- x beside m, and beside n
    less : (o : Ordering) → compare_products x m.atoms ≡ o → compare_products m.atoms n.atoms ≡ Less → coefficient_in x (m ∷ plus p (n ∷ q)) ≡ coefficient_in x (m ∷ p) + coefficient_in x (n ∷ q)
    less Equal g e =
        let same = products_tell x m.atoms g in
        let none : coefficient_in x (n ∷ q) ≡ 0 = absent x (n ∷ q) (subst (λ z. Above z (n ∷ q)) (sym same) (e, above_more m.atoms n.atoms q e b.0)) in
        rw (here x m (plus p (n ∷ q)) g, here x m p g, none) (omega arith)
    less Less g e = there x m (plus p (n ∷ q)) Less g refl ∙ h (n ∷ q) b ∙ ap (λ z. z + coefficient_in x (n ∷ q)) (sym (there x m p Less g refl))
    less Greater g e = there x m (plus p (n ∷ q)) Greater g refl ∙ h (n ∷ q) b ∙ ap (λ z. z + coefficient_in x (n ∷ q)) (sym (there x m p Greater g refl))

    past : (o : Ordering) → compare_products x m.atoms ≡ o → is_eq o ≡ false → compare_products x n.atoms ≡ o →
        coefficient_in x (monomial (m.coefficient + n.coefficient) m.atoms ∷ plus p q) ≡ coefficient_in x (m ∷ p) + coefficient_in x (n ∷ q)
    past o g f k =
        there x (monomial (m.coefficient + n.coefficient) m.atoms) (plus p q) o g f ∙ h q b.1
        ∙ (λ i. sym (there x m p o g f) i + sym (there x n q o k f) i)

    equal : (o : Ordering) → compare_products x m.atoms ≡ o → compare_products m.atoms n.atoms ≡ Equal →
        coefficient_in x (monomial (m.coefficient + n.coefficient) m.atoms ∷ plus p q) ≡ coefficient_in x (m ∷ p) + coefficient_in x (n ∷ q)
    equal Equal g e =
        here x (monomial (m.coefficient + n.coefficient) m.atoms) (plus p q) g
        ∙ (λ i. sym (here x m p g) i + sym (here x n q (ap (compare_products x) (sym (products_tell m.atoms n.atoms e)) ∙ g)) i)
    equal Less g e = past Less g refl (ap (compare_products x) (sym (products_tell m.atoms n.atoms e)) ∙ g)
    equal Greater g e = past Greater g refl (ap (compare_products x) (sym (products_tell m.atoms n.atoms e)) ∙ g)

    after : (o : Ordering) → is_eq o ≡ false → compare_products x n.atoms ≡ o → coefficient_in x (before_monomial m (plus p) q) ≡ coefficient_in x (m ∷ p) + coefficient_in x q →
        coefficient_in x (n ∷ before_monomial m (plus p) q) ≡ coefficient_in x (m ∷ p) + coefficient_in x (n ∷ q)
    after o f k c = there x n (before_monomial m (plus p) q) o k f ∙ c ∙ ap (λ z. coefficient_in x (m ∷ p) + z) (sym (there x n q o k f))

    greater : (o : Ordering) → compare_products x n.atoms ≡ o → compare_products m.atoms n.atoms ≡ Greater → coefficient_in x (before_monomial m (plus p) q) ≡ coefficient_in x (m ∷ p) + coefficient_in x q →
        coefficient_in x (n ∷ before_monomial m (plus p) q) ≡ coefficient_in x (m ∷ p) + coefficient_in x (n ∷ q)
    greater Equal k e c =
        let same = products_tell x n.atoms k in
        let l = turned_less m.atoms n.atoms e in
        let none : coefficient_in x (m ∷ p) ≡ 0 = absent x (m ∷ p) (subst (λ z. Above z (m ∷ p)) (sym same) (l, above_more n.atoms m.atoms p l a)) in
        rw (here x n (before_monomial m (plus p) q) k, here x n q k, none) (omega arith)
    greater Less k e c = after Less refl k c
    greater Greater k e c = after Greater refl k c

    by : (o : Ordering) → compare_products m.atoms n.atoms ≡ o → coefficient_in x (before_monomial m (plus p) q) ≡ coefficient_in x (m ∷ p) + coefficient_in x q →
        coefficient_in x (match_ordering o (m ∷ plus p (n ∷ q)) (monomial (m.coefficient + n.coefficient) m.atoms ∷ plus p q) (n ∷ before_monomial m (plus p) q))
        ≡ coefficient_in x (m ∷ p) + coefficient_in x (n ∷ q)
    by Less e c = less (compare_products x m.atoms) refl e
    by Equal e c = equal (compare_products x m.atoms) refl e
    by Greater e c = greater (compare_products x n.atoms) refl e c

-- the coefficient in a sum of two is the sum of their coefficients
pub plus_coefficient : (x : Product) (p q : Sum) → Ascends p → Ascends q → coefficient_in x (plus p q) ≡ coefficient_in x p + coefficient_in x q
plus_coefficient x [] q a b = omega arith
plus_coefficient x (m ∷ p) q a b = before_coefficient x m p a.0 (λ r c. plus_coefficient x p r a.1 c) q b

before_positive : (m : Monomial) (p : Sum) → 0 < m.coefficient → ((r : Sum) → Positive r → Positive (plus p r)) → (q : Sum) → Positive q → Positive (before_monomial m (plus p) q)
before_positive m p a h [] b = (a, h [] tt)
before_positive m p a h (n ∷ q) b = by (compare_products m.atoms n.atoms) (before_positive m p a h q b.1)
  where
    by : (o : Ordering) → Positive (before_monomial m (plus p) q) →
        Positive (match_ordering o (m ∷ plus p (n ∷ q)) (monomial (m.coefficient + n.coefficient) m.atoms ∷ plus p q) (n ∷ before_monomial m (plus p) q))
    by Less c = (a, h (n ∷ q) b)
    by Equal c = ((let l = b.0 in omega arith), h q b.1)
    by Greater c = (b.0, c)

pub plus_positive : (p q : Sum) → Positive p → Positive q → Positive (plus p q)
plus_positive [] q a b = b
plus_positive (m ∷ p) q a b = before_positive m p a.0 (λ r c. plus_positive p r a.1 c) q b

-- a sum that is as the normal forms of numbers are
abbrev pub Proper : Sum → Type 0
Proper p = Ascends p × Positive p

pub plus_proper : (p q : Sum) → Proper p → Proper q → Proper (plus p q)
plus_proper p q a b = (plus_ascends p q a.0 b.0, plus_positive p q a.1 b.1)

pub plus_comm : (p q : Sum) → Proper p → Proper q → plus p q ≡ plus q p
plus_comm p q a b =
    let c = plus_proper p q a b in
    let d = plus_proper q p b a in
    unique (plus p q) (plus q p) c.0 d.0 c.1 d.1 (λ x. plus_coefficient x p q a.0 b.0 ∙ turned (coefficient_in x p) (coefficient_in x q) ∙ sym (plus_coefficient x q p b.0 a.0))
  where
    turned : (m n : ℕ) → m + n ≡ n + m
    turned m n = omega arith

pub plus_assoc : (p q r : Sum) → Proper p → Proper q → Proper r → plus (plus p q) r ≡ plus p (plus q r)
plus_assoc p q r a b c =
    let ab = plus_proper p q a b in
    let bc = plus_proper q r b c in
    let left = plus_proper (plus p q) r ab c in
    let right = plus_proper p (plus q r) a bc in
    unique (plus (plus p q) r) (plus p (plus q r)) left.0 right.0 left.1 right.1 (λ x.
    plus_coefficient x (plus p q) r ab.0 c.0
    ∙ ap (λ z. z + coefficient_in x r) (plus_coefficient x p q a.0 b.0)
    ∙ moved (coefficient_in x p) (coefficient_in x q) (coefficient_in x r)
    ∙ ap (λ z. coefficient_in x p + z) (sym (plus_coefficient x q r b.0 c.0))
    ∙ sym (plus_coefficient x p (plus q r) a.0 bc.0))
  where
    moved : (k m n : ℕ) → k + m + n ≡ k + (m + n)
    moved k m n = omega arith
