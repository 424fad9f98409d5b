-- The columns of inequalities strictly ascend, and are the products of them that have a factor.
use Rattle.std.proofs.Common.{◌≡◌, ◌⊎◌, inl, inr, ℕ, zero, suc, Bool, true, false, cond, List, [], ◌∷◌, length, map, refl, sym, ◌∙◌, ap, subst, Ordering, Less, Equal, Greater}
use Rattle.std.specs.Ordering.{ordering_reverse, match_ordering}
use Rattle.std.specs.Set.{merge_step, sorted_merge}
use Rattle.tht_tree.specs.Normal.InPairs.{pairs, chain, rounds, in_pairs}
use Rattle.tht_tree.specs.Normal.Sums.{Product, compare_products}
use Rattle.tht_tree.specs.Normal.Linear.{Inequality, has_factor, variables, columns}
use Rattle.normal_laws.proofs.OrderTells.{products_tell}
use Rattle.normal_laws.proofs.OrderTotal.{products_total}

-- ---- ascending lists of products

-- x stands before each of them
abbrev pub Below : Product → List Product → Type 0
Below x [] = Unit {0}
Below x (y ∷ ys) = (compare_products x y ≡ Less) × Below x ys

abbrev pub Ascending : List Product → Type 0
Ascending [] = Unit {0}
Ascending (x ∷ xs) = Below x xs × Ascending xs

-- x is one of them
abbrev pub In : Product → List Product → Type 0
In x [] = ⊥
In x (y ∷ ys) = (x ≡ y) ⊎ In x ys

-- the products of an inequality
abbrev pub products : Inequality → List Product
products = map (λ t. t.atoms)

pub below_more : (x y : Product) (ys : List Product) → compare_products x y ≡ Less → Below y ys → Below x ys
below_more x y [] e h = tt
below_more x y (z ∷ zs) e h = (products_total.trans x y z e h.0, below_more x y zs e h.1)

pub turned_less : (x y : Product) → compare_products x y ≡ Greater → compare_products y x ≡ Less
turned_less x y e = products_total.antisymm y x ∙ ap ordering_reverse e

-- what stands below all is below each
pub below_each : (x : Product) (ys : List Product) → Below x ys → (y : Product) → In y ys → compare_products x y ≡ Less
below_each x [] b y i = absurd i
below_each x (z ∷ zs) b y (inl e) = ap (compare_products x) e ∙ b.0
below_each x (z ∷ zs) b y (inr i) = below_each x zs b.1 y i

-- ---- merged lists

abbrev merged : List Product → List Product → List Product
merged = sorted_merge compare_products true

below_step : (x z : Product) (xs : List Product) (on : List Product → List Product) → compare_products z x ≡ Less → Below z xs → ((ys : List Product) → Below z ys → Below z (on ys)) →
    (ys : List Product) → Below z ys → Below z (merge_step compare_products true x xs on ys)
below_step x z xs on e b h [] c = (e, b)
below_step x z xs on e b h (y ∷ ys) c = by (compare_products x y) (below_step x z xs on e b h ys c.1)
  where
    by : (o : Ordering) → Below z (merge_step compare_products true x xs on ys) →
        Below z (match_ordering o (x ∷ on (y ∷ ys)) (x ∷ on ys) (y ∷ merge_step compare_products true x xs on ys))
    by Less d = (e, h (y ∷ ys) c)
    by Equal d = (e, h ys c.1)
    by Greater d = (c.0, d)

below_merged : (z : Product) (xs ys : List Product) → Below z xs → Below z ys → Below z (merged xs ys)
below_merged z [] ys b c = c
below_merged z (x ∷ xs) ys b c = below_step x z xs (merged xs) b.0 b.1 (λ us d. below_merged z xs us b.1 d) ys c

ascending_step : (x : Product) (xs : List Product) → Below x xs → Ascending xs → ((ys : List Product) → Ascending ys → Ascending (merged xs ys)) →
    (ys : List Product) → Ascending ys → Ascending (merge_step compare_products true x xs (merged xs) ys)
ascending_step x xs b a h [] c = (b, a)
ascending_step x xs b a h (y ∷ ys) c = by (compare_products x y) refl (ascending_step x xs b a h ys c.1)
  where
    by : (o : Ordering) → compare_products x y ≡ o → Ascending (merge_step compare_products true x xs (merged xs) ys) →
        Ascending (match_ordering o (x ∷ merged xs (y ∷ ys)) (x ∷ merged xs ys) (y ∷ merge_step compare_products true x xs (merged xs) ys))
    by Less e d = (below_merged x xs (y ∷ ys) b (e, below_more x y ys e c.0), h (y ∷ ys) c)
    by Equal e d = (below_merged x xs ys b (subst (λ z. Below z ys) (sym (products_tell x y e)) c.0), h ys c.1)
    by Greater e d =
        let less = turned_less x y e in
        (below_step x y xs (merged xs) less (below_more y x xs less b) (λ us g. below_merged y xs us (below_more y x xs less b) g) ys c.0, d)

ascending_merged : (xs ys : List Product) → Ascending xs → Ascending ys → Ascending (merged xs ys)
ascending_merged [] ys a c = c
ascending_merged (x ∷ xs) ys a c = ascending_step x xs a.0 a.1 (λ us d. ascending_merged xs us a.1 d) ys c

-- ---- what a merged list has

-- either list's products
step_has : (p x : Product) (xs : List Product) (on : List Product → List Product) → ((ys : List Product) → In p xs ⊎ In p ys → In p (on ys)) →
    (ys : List Product) → In p (x ∷ xs) ⊎ In p ys → In p (merge_step compare_products true x xs on ys)
step_has p x xs on h [] (inl i) = i
step_has p x xs on h [] (inr i) = absurd i
step_has p x xs on h (y ∷ ys) i = by (compare_products x y) refl (step_has p x xs on h ys) i
  where
    by : (o : Ordering) → compare_products x y ≡ o → (In p (x ∷ xs) ⊎ In p ys → In p (merge_step compare_products true x xs on ys)) →
        In p (x ∷ xs) ⊎ In p (y ∷ ys) → In p (match_ordering o (x ∷ on (y ∷ ys)) (x ∷ on ys) (y ∷ merge_step compare_products true x xs on ys))
    by Less e d (inl (inl g)) = inl g
    by Less e d (inl (inr g)) = inr (h (y ∷ ys) (inl g))
    by Less e d (inr g) = inr (h (y ∷ ys) (inr g))
    by Equal e d (inl (inl g)) = inl g
    by Equal e d (inl (inr g)) = inr (h ys (inl g))
    by Equal e d (inr (inl g)) = inl (g ∙ sym (products_tell x y e))
    by Equal e d (inr (inr g)) = inr (h ys (inr g))
    by Greater e d (inl g) = inr (d (inl g))
    by Greater e d (inr (inl g)) = inl g
    by Greater e d (inr (inr g)) = inr (d (inr g))

merged_has : (p : Product) (xs ys : List Product) → In p xs ⊎ In p ys → In p (merged xs ys)
merged_has p [] ys (inl i) = absurd i
merged_has p [] ys (inr i) = i
merged_has p (x ∷ xs) ys i = step_has p x xs (merged xs) (merged_has p xs) ys i

-- and no other
step_only : (p x : Product) (xs : List Product) (on : List Product → List Product) → ((ys : List Product) → In p (on ys) → In p xs ⊎ In p ys) →
    (ys : List Product) → In p (merge_step compare_products true x xs on ys) → In p (x ∷ xs) ⊎ In p ys
step_only p x xs on h [] i = inl i
step_only p x xs on h (y ∷ ys) i = by (compare_products x y) (step_only p x xs on h ys) i
  where
    later : In p xs ⊎ In p ys → In p (x ∷ xs) ⊎ In p (y ∷ ys)
    later (inl i) = inl (inr i)
    later (inr i) = inr (inr i)

    whole : In p xs ⊎ In p (y ∷ ys) → In p (x ∷ xs) ⊎ In p (y ∷ ys)
    whole (inl i) = inl (inr i)
    whole (inr i) = inr i

    past : In p (x ∷ xs) ⊎ In p ys → In p (x ∷ xs) ⊎ In p (y ∷ ys)
    past (inl i) = inl i
    past (inr i) = inr (inr i)

    by : (o : Ordering) → (In p (merge_step compare_products true x xs on ys) → In p (x ∷ xs) ⊎ In p ys) →
        In p (match_ordering o (x ∷ on (y ∷ ys)) (x ∷ on ys) (y ∷ merge_step compare_products true x xs on ys)) → In p (x ∷ xs) ⊎ In p (y ∷ ys)
    by Less d (inl e) = inl (inl e)
    by Less d (inr g) = whole (h (y ∷ ys) g)
    by Equal d (inl e) = inl (inl e)
    by Equal d (inr g) = later (h ys g)
    by Greater d (inl e) = inr (inl e)
    by Greater d (inr g) = past (d g)

merged_only : (p : Product) (xs ys : List Product) → In p (merged xs ys) → In p xs ⊎ In p ys
merged_only p [] ys i = inr i
merged_only p (x ∷ xs) ys i = step_only p x xs (merged xs) (merged_only p xs) ys i

-- ---- joined in pairs

-- each of them is so
abbrev pub Each : {A : Type 0} → (A → Type 0) → List A → Type 0
Each P [] = Unit {0}
Each P (x ∷ xs) = P x × Each P xs

-- what f keeps, and d has, all that is joined in pairs has
module _ {A : Type 0} (P : A → Type 0) (f : A → A → A) (d : A) (keeps : (x y : A) → P x → P y → P (f x y)) (ends : P d) where
  each_pair : (xs : List A) → Each P xs → Each P (pairs f xs)
  each_pair [] e = tt
  each_pair (x ∷ []) e = e
  each_pair (x ∷ y ∷ rest) e = (keeps x y e.0 e.1.0, each_pair rest e.1.1)

  chain_keeps : (xs : List A) → Each P xs → P (chain f d xs)
  chain_keeps [] e = ends
  chain_keeps (x ∷ xs) e = keeps x (chain f d xs) e.0 (chain_keeps xs e.1)

  rounds_keep : (n : ℕ) (xs : List A) → Each P xs → P (rounds f n d xs)
  rounds_keep zero xs e = chain_keeps xs e
  rounds_keep (suc n) [] e = ends
  rounds_keep (suc n) (x ∷ []) e = e.0
  rounds_keep (suc n) (x ∷ y ∷ rest) e = rounds_keep n (f x y ∷ pairs f rest) (keeps x y e.0 e.1.0, each_pair rest e.1.1)

  pub in_pairs_keeps : (xs : List A) → Each P xs → P (in_pairs f d xs)
  in_pairs_keeps xs e = rounds_keep (length xs) xs e

-- one of them is so
abbrev pub Some_of : {A : Type 0} → (A → Type 0) → List A → Type 0
Some_of P [] = ⊥
Some_of P (x ∷ xs) = P x ⊎ Some_of P xs

-- what holds of f's result just where it holds of one of the two
module _ {A : Type 0} (P : A → Type 0) (f : A → A → A) (d : A) (has : (x y : A) → P x ⊎ P y → P (f x y)) (only : (x y : A) → P (f x y) → P x ⊎ P y) (none : P d → ⊥) where
  abbrev One : List A → Type 0
  One = Some_of P

  pair_has : (xs : List A) → One xs → One (pairs f xs)
  pair_has [] i = i
  pair_has (x ∷ []) i = i
  pair_has (x ∷ y ∷ rest) (inl i) = inl (has x y (inl i))
  pair_has (x ∷ y ∷ rest) (inr (inl i)) = inl (has x y (inr i))
  pair_has (x ∷ y ∷ rest) (inr (inr i)) = inr (pair_has rest i)

  chain_has : (xs : List A) → One xs → P (chain f d xs)
  chain_has [] i = absurd i
  chain_has (x ∷ xs) (inl i) = has x (chain f d xs) (inl i)
  chain_has (x ∷ xs) (inr i) = has x (chain f d xs) (inr (chain_has xs i))

  rounds_have : (n : ℕ) (xs : List A) → One xs → P (rounds f n d xs)
  rounds_have zero xs i = chain_has xs i
  rounds_have (suc n) [] i = absurd i
  rounds_have (suc n) (x ∷ []) (inl i) = i
  rounds_have (suc n) (x ∷ []) (inr i) = absurd i
  rounds_have (suc n) (x ∷ y ∷ rest) i = rounds_have n (f x y ∷ pairs f rest) (pair_has (x ∷ y ∷ rest) i)

  pub in_pairs_has : (xs : List A) → One xs → P (in_pairs f d xs)
  in_pairs_has xs i = rounds_have (length xs) xs i

  pair_only : (xs : List A) → One (pairs f xs) → One xs
  pair_only [] i = i
  pair_only (x ∷ []) i = i
  pair_only (x ∷ y ∷ rest) (inl i) = front (only x y i)
    where
      front : P x ⊎ P y → One (x ∷ y ∷ rest)
      front (inl j) = inl j
      front (inr j) = inr (inl j)
  pair_only (x ∷ y ∷ rest) (inr i) = inr (inr (pair_only rest i))

  chain_only : (xs : List A) → P (chain f d xs) → One xs
  chain_only [] i = none i
  chain_only (x ∷ xs) i = front (only x (chain f d xs) i) (chain_only xs)
    where
      front : P x ⊎ P (chain f d xs) → (P (chain f d xs) → One xs) → One (x ∷ xs)
      front (inl j) h = inl j
      front (inr j) h = inr (h j)

  rounds_only : (n : ℕ) (xs : List A) → P (rounds f n d xs) → One xs
  rounds_only zero xs i = chain_only xs i
  rounds_only (suc n) [] i = none i
  rounds_only (suc n) (x ∷ []) i = inl i
  rounds_only (suc n) (x ∷ y ∷ rest) i = pair_only (x ∷ y ∷ rest) (rounds_only n (f x y ∷ pairs f rest) i)

  pub in_pairs_only : (xs : List A) → P (in_pairs f d xs) → One xs
  in_pairs_only xs i = rounds_only (length xs) xs i

-- ---- the variables of an inequality

below_variables : (x : Product) (xs : Inequality) → Below x (products xs) → Below x (variables xs)
below_variables x [] b = tt
below_variables x (t ∷ xs) b = by (has_factor t.atoms) (below_variables x xs b.1)
  where
    by : (c : Bool) → Below x (variables xs) → Below x (cond c (t.atoms ∷ variables xs) (variables xs))
    by true h = (b.0, h)
    by false h = h

ascending_variables : (xs : Inequality) → Ascending (products xs) → Ascending (variables xs)
ascending_variables [] a = tt
ascending_variables (t ∷ xs) a = by (has_factor t.atoms) (ascending_variables xs a.1)
  where
    by : (c : Bool) → Ascending (variables xs) → Ascending (cond c (t.atoms ∷ variables xs) (variables xs))
    by true h = (below_variables t.atoms xs a.0, h)
    by false h = h

-- p is a product of the inequality and has a factor
abbrev pub IsVariable : Product → Inequality → Type 0
IsVariable p xs = In p (products xs) × (has_factor p ≡ true)

variable_in : (p : Product) (xs : Inequality) → IsVariable p xs → In p (variables xs)
variable_in p [] h = absurd h.0
variable_in p (t ∷ xs) h = by (has_factor t.atoms) refl h.0 (λ i. variable_in p xs (i, h.1))
  where
    by : (c : Bool) → has_factor t.atoms ≡ c → In p (products (t ∷ xs)) → (In p (products xs) → In p (variables xs)) → In p (cond c (t.atoms ∷ variables xs) (variables xs))
    by true e (inl g) k = inl g
    by true e (inr g) k = inr (k g)
    by false e (inl g) k = let f : has_factor p ≡ false = ap has_factor g ∙ e in let g = h.1 in cc
    by false e (inr g) k = k g

in_variables : (p : Product) (xs : Inequality) → In p (variables xs) → IsVariable p xs
in_variables p [] i = absurd i
in_variables p (t ∷ xs) i = by (has_factor t.atoms) refl i (in_variables p xs)
  where
    later : IsVariable p xs → IsVariable p (t ∷ xs)
    later h = (inr h.0, h.1)

    by : (c : Bool) → has_factor t.atoms ≡ c → In p (cond c (t.atoms ∷ variables xs) (variables xs)) → (In p (variables xs) → IsVariable p xs) → IsVariable p (t ∷ xs)
    by true e (inl g) k = (inl g, ap has_factor g ∙ e)
    by true e (inr g) k = later (k g)
    by false e g k = later (k g)

-- ---- the columns

-- the products of each inequality strictly ascend
abbrev pub AllAscend : List Inequality → Type 0
AllAscend = Each (λ xs. Ascending (products xs))

each_ascends : (xs : List Inequality) → AllAscend xs → Each Ascending (map variables xs)
each_ascends [] a = tt
each_ascends (x ∷ xs) a = (ascending_variables x a.0, each_ascends xs a.1)

pub columns_ascend : (xs : List Inequality) → AllAscend xs → Ascending (columns xs)
columns_ascend xs a = in_pairs_keeps Ascending merged [] ascending_merged tt (map variables xs) (each_ascends xs a)

-- p is a variable of one of the inequalities
abbrev pub IsVariableOf : Product → List Inequality → Type 0
IsVariableOf p xs = Some_of (IsVariable p) xs

one_of : (p : Product) (xs : List Inequality) → IsVariableOf p xs → Some_of (In p) (map variables xs)
one_of p [] i = i
one_of p (x ∷ xs) (inl i) = inl (variable_in p x i)
one_of p (x ∷ xs) (inr i) = inr (one_of p xs i)

of_one : (p : Product) (xs : List Inequality) → Some_of (In p) (map variables xs) → IsVariableOf p xs
of_one p [] i = i
of_one p (x ∷ xs) (inl i) = inl (in_variables p x i)
of_one p (x ∷ xs) (inr i) = inr (of_one p xs i)

-- each variable of each inequality is a column
pub column_has : (p : Product) (xs : List Inequality) → IsVariableOf p xs → In p (columns xs)
column_has p xs i = in_pairs_has (In p) merged [] (merged_has p) (merged_only p) (λ j. j) (map variables xs) (one_of p xs i)

-- and nothing else is
pub column_only : (p : Product) (xs : List Inequality) → In p (columns xs) → IsVariableOf p xs
column_only p xs i = of_one p xs (in_pairs_only (In p) merged [] (merged_has p) (merged_only p) (λ j. j) (map variables xs) i)
