-- The value of an inequality is the value of its form over columns that have all its products.
use Rattle.std.proofs.Common.{◌≡◌, inl, inr, true, false, cond, ℤ, pos, ◌+ℤ◌, ◌*ℤ◌, List, [], ◌∷◌, map, slice_index_or, refl, sym, ◌∙◌, ap, subst, arith, Ordering, Less, Equal, Greater}
use Rattle.std.specs.Ordering.{ordering_reverse, is_eq}
use Rattle.std.proofs.Math.IntN.{zero-*ℤ}
use Rattle.std.proofs.lemmas.Int.{ints}
use borrow.Author.Differences.{product_is}
use Rattle.lin_certs.specs.declared.form.LinForm.{LinForm}
use Rattle.lin_certs.specs.LinForm.{combination, value_at}
use Rattle.tht_tree.specs.Normal.Sums.{Product, compare_products}
use Rattle.tht_tree.specs.declared.form.LinearTerm.{LinearTerm}
use Rattle.tht_tree.specs.Normal.Linear.{Inequality, has_factor, columns, coefficient_of}
use Rattle.normal_laws.proofs.OrderTotal.{products_total}
use Rattle.lin_laws.specs.Forms.{form_over, plain}
use Rattle.lin_laws.proofs.Columns.{Below, Ascending, In, products, below_each, AllAscend, Some_of, IsVariable, IsVariableOf, columns_ascend, column_has, column_only}

-- ---- the order on one product

self : (o : Ordering) → o ≡ ordering_reverse o → o ≡ Equal
self Less e = cc
self Equal e = refl
self Greater e = cc

pub same_product : (x : Product) → compare_products x x ≡ Equal
same_product x = self (compare_products x x) (products_total.antisymm x x)

pub above : (x y : Product) → compare_products x y ≡ Less → compare_products y x ≡ Greater
above x y e = products_total.antisymm y x ∙ ap ordering_reverse e

-- ---- coefficients

-- of a first term, and of another product
here : (t : LinearTerm) (xs : Inequality) (p : Product) → t.atoms ≡ p → coefficient_of p (t ∷ xs) ≡ t.coefficient
here t xs p e = ap (λ o. cond (is_eq o) t.coefficient (coefficient_of p xs)) (ap (compare_products p) e ∙ same_product p)

there : (t : LinearTerm) (xs : Inequality) (p : Product) (o : Ordering) → compare_products p t.atoms ≡ o → is_eq o ≡ false → coefficient_of p (t ∷ xs) ≡ coefficient_of p xs
there t xs p o e f = ap (λ o. cond (is_eq o) t.coefficient (coefficient_of p xs)) e ∙ ap (λ c. cond c t.coefficient (coefficient_of p xs)) f

pub absent : (p : Product) (xs : Inequality) → Below p (products xs) → coefficient_of p xs ≡ pos 0
absent p [] b = refl
absent p (t ∷ xs) b = there t xs p Less b.0 refl ∙ absent p xs b.1

-- each product of the inequality is one of ps
abbrev pub Covers : List Product → Inequality → Type 0
Covers ps [] = Unit {0}
Covers ps (t ∷ xs) = In t.atoms ps × Covers ps xs

-- given the values of products
module _ (w : Product → ℤ) where
  -- the value of an inequality's sum
  abbrev pub worth : Inequality → ℤ
  worth [] = pos 0
  worth (t ∷ xs) = t.coefficient *ℤ w t.atoms +ℤ worth xs

  -- the sum of numbers that products have, each times the value of its product
  abbrev pub across : (Product → ℤ) → List Product → ℤ
  across c [] = pos 0
  across c (p ∷ ps) = c p *ℤ w p +ℤ across c ps

  pub across-same : (c d : Product → ℤ) (ps : List Product) → ((p : Product) → In p ps → c p ≡ d p) → across c ps ≡ across d ps
  across-same c d [] h = refl
  across-same c d (p ∷ ps) h = λ i. h p (inl refl) i *ℤ w p +ℤ across-same c d ps (λ q j. h q (inr j)) i

  pub across-zero : (ps : List Product) → across (λ p. pos 0) ps ≡ pos 0
  across-zero [] = refl
  across-zero (p ∷ ps) =
      let e = zero-*ℤ (w p) in
      let f = across-zero ps in
      omega (arith, ints, e, f)

  first_of : (t : LinearTerm) (xs : Inequality) (p : Product) (ps : List Product) → Below p ps → t.atoms ≡ p → coefficient_of p xs ≡ pos 0 →
      across (λ q. coefficient_of q (t ∷ xs)) (p ∷ ps) ≡ t.coefficient *ℤ w t.atoms +ℤ across (λ q. coefficient_of q xs) (p ∷ ps)
  first_of t xs p ps b e z =
      let head : coefficient_of p (t ∷ xs) *ℤ w p ≡ t.coefficient *ℤ w t.atoms = λ i. here t xs p e i *ℤ w (sym e i) in
      let tail : across (λ q. coefficient_of q (t ∷ xs)) ps ≡ across (λ q. coefficient_of q xs) ps =
      across-same (λ q. coefficient_of q (t ∷ xs)) (λ q. coefficient_of q xs) ps
      (λ q j. there t xs q Greater (ap (compare_products q) e ∙ above p q (below_each p ps b q j)) refl) in
      let none : coefficient_of p xs *ℤ w p ≡ pos 0 = ap (λ c. c *ℤ w p) z ∙ zero-*ℤ (w p) in
      joined (coefficient_of p (t ∷ xs) *ℤ w p) (across (λ q. coefficient_of q (t ∷ xs)) ps) (t.coefficient *ℤ w t.atoms) (across (λ q. coefficient_of q xs) ps) (coefficient_of p xs *ℤ w p) head tail none
    where
      joined : (a b c d z : ℤ) → a ≡ c → b ≡ d → z ≡ pos 0 → a +ℤ b ≡ c +ℤ (z +ℤ d)
      joined a b c d z e f g = omega (arith, ints)

  later_of : (a b c d e : ℤ) → a ≡ c → b ≡ e +ℤ d → a +ℤ b ≡ e +ℤ (c +ℤ d)
  later_of a b c d e f g = omega (arith, ints)

  -- a first term adds its value
  across-more : (t : LinearTerm) (xs : Inequality) (ps : List Product) → Ascending ps → In t.atoms ps → coefficient_of t.atoms xs ≡ pos 0 →
      across (λ q. coefficient_of q (t ∷ xs)) ps ≡ t.coefficient *ℤ w t.atoms +ℤ across (λ q. coefficient_of q xs) ps
  across-more t xs [] a i z = absurd i
  across-more t xs (p ∷ ps) a (inl e) z = first_of t xs p ps a.0 e (ap (λ q. coefficient_of q xs) (sym e) ∙ z)
  across-more t xs (p ∷ ps) a (inr i) z =
      later_of (coefficient_of p (t ∷ xs) *ℤ w p) (across (λ q. coefficient_of q (t ∷ xs)) ps) (coefficient_of p xs *ℤ w p) (across (λ q. coefficient_of q xs) ps) (t.coefficient *ℤ w t.atoms)
      (ap (λ c. c *ℤ w p) (there t xs p Less (below_each p ps a.0 t.atoms i) refl)) (across-more t xs ps a.1 i z)

  -- over ascending products that have all of the inequality's
  pub across-is : (ps : List Product) → Ascending ps → (xs : Inequality) → Ascending (products xs) → Covers ps xs → across (λ q. coefficient_of q xs) ps ≡ worth xs
  across-is ps b [] a c = across-zero ps
  across-is ps b (t ∷ xs) a c = across-more t xs ps b c.0 (absent t.atoms xs a.0) ∙ ap (λ z. t.coefficient *ℤ w t.atoms +ℤ z) (across-is ps b xs a.1 c.1)

-- ---- the columns of all

below_all : (p : Product) (ps : List Product) → ((q : Product) → In q ps → compare_products p q ≡ Less) → Below p ps
below_all p [] h = tt
below_all p (q ∷ ps) h = (h q (inl refl), below_all p ps (λ r i. h r (inr i)))

factor_of : (p : Product) (xs : List Inequality) → IsVariableOf p xs → has_factor p ≡ true
factor_of p [] i = absurd i
factor_of p (x ∷ xs) (inl i) = i.1
factor_of p (x ∷ xs) (inr i) = factor_of p xs i

empty_first : (p : Product) → has_factor p ≡ true → compare_products [] p ≡ Less
empty_first [] e = cc
empty_first (x ∷ p) e = refl

-- the empty product, which stands for the constants, and the columns
abbrev pub all_columns : List Inequality → List Product
all_columns xs = [] ∷ columns xs

pub all_ascend : (xs : List Inequality) → AllAscend xs → Ascending (all_columns xs)
all_ascend xs a = (below_all [] (columns xs) (λ q i. empty_first q (factor_of q xs (column_only q xs i))), columns_ascend xs a)

-- x is one of the inequalities
abbrev pub OneOf : Inequality → List Inequality → Type 0
OneOf x xs = Some_of (λ y. x ≡ y) xs

variable_of : (p : Product) (x : Inequality) (xs : List Inequality) → OneOf x xs → IsVariable p x → IsVariableOf p xs
variable_of p x [] i v = absurd i
variable_of p x (y ∷ xs) (inl e) v = inl (subst (IsVariable p) e v)
variable_of p x (y ∷ xs) (inr i) v = inr (variable_of p x xs i v)

a_column : (p : Product) (x : Inequality) (xs : List Inequality) → OneOf x xs → In p (products x) → In p (all_columns xs)
a_column [] x xs o i = inl refl
a_column (f ∷ p) x xs o i = inr (column_has (f ∷ p) xs (variable_of (f ∷ p) x xs o (i, refl)))

covers_from : (ps : List Product) (y : Inequality) → ((p : Product) → In p (products y) → In p ps) → Covers ps y
covers_from ps [] h = tt
covers_from ps (t ∷ y) h = (h t.atoms (inl refl), covers_from ps y (λ p i. h p (inr i)))

pub all_cover : (xs : List Inequality) (x : Inequality) → OneOf x xs → Covers (all_columns xs) x
all_cover xs x o = covers_from (all_columns xs) x (λ p i. a_column p x xs o i)

-- ---- the value of a form

combination-is : (w : Product → ℤ) (c : Product → ℤ) (ps : List Product) → combination (map c ps) (λ k. w (slice_index_or ps k [])) ≡ across w c ps
combination-is w c [] = refl
combination-is w c (p ∷ ps) = ap (λ z. c p *ℤ w p +ℤ z) (combination-is w c ps)

times_one : (a : ℤ) → a *ℤ pos 1 ≡ a
times_one a = let p = product_is a (pos 1) in omega (arith, ints, p)

pub one_times : (a b : ℤ) → b ≡ pos 1 → a *ℤ b ≡ a
one_times a b e = ap (λ z. a *ℤ z) e ∙ times_one a

-- The law: where the columns of some inequalities have the values w of their products, the form of one of them has the value of its sum.
pub form_value : (w : Product → ℤ) → w [] ≡ pos 1 → (xs : List Inequality) → AllAscend xs → (x : Inequality) → OneOf x xs → Ascending (products x) →
    (form : LinForm) → plain form ≡ form_over (columns xs) x → value_at (λ k. w (slice_index_or (columns xs) k [])) form ≡ worth w x
form_value w one xs all x o a form e =
    (λ i. (e i).constant +ℤ combination (e i).coefficients (λ k. w (slice_index_or (columns xs) k [])))
    ∙ (λ i. sym (one_times (coefficient_of [] x) (w []) one) i +ℤ combination-is w (λ p. coefficient_of p x) (columns xs) i)
    ∙ across-is w (all_columns xs) (all_ascend xs all) x a (all_cover xs x o)
