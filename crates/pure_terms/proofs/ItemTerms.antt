-- The terms of sequences, from the last item to the first, of places, and of monomials.
use Rattle.std.proofs.Common.{◌≡◌, ◌↔◌, IsTrue, ℕ, ◌+◌, Bool, true, false, List, [], ◌∷◌, ◌++◌, refl, sym, ap, add-one}
use Rattle.tht_tree.specs.declared.term.Term.{Term}
use Rattle.tht_tree.specs.declared.term.Term.TheVariants as term
use Rattle.tht_tree.specs.declared.form.Item.{Item}
use Rattle.tht_tree.specs.declared.form.Item.TheVariants as item
use Rattle.tht_tree.specs.Normal.InPairs.{in_pairs}
use Rattle.tht_tree.specs.Normal.Sums.{Product, sum_term, monomial_term}
use Rattle.tht_tree.specs.Normal.Forms.{items_term, sevens}
use Rattle.pure_terms.specs.Joining.{item_before}

-- the items before a term
abbrev pub items_before : List Item → Term → Term
items_before [] t = t
items_before (x ∷ xs) t = item_before x (items_before xs t)

pub all_before : (xs : List Item) → items_before xs term.Nil ≡ items_term xs
all_before [] = refl
all_before (item.One p ∷ xs) = ap (term.Cons (sum_term p)) (all_before xs)
all_before (item.All x ∷ xs) = ap (term.Cat (term.Var x)) (all_before xs)

pub last_before : (xs : List Item) (x : Item) (t : Term) → items_before (xs ++ x ∷ []) t ≡ items_before xs (item_before x t)
last_before [] x t = refl
last_before (y ∷ xs) x t = ap (item_before y) (last_before xs x t)

pub one_more : (n : ℕ) (u : Term) → sevens (n + 1) u ≡ term.Offset (sevens n u) 7
one_more n u = rw add-one refl

-- a coefficient alone, or times the product of the atoms, by a test whether there are none
pub no_atoms : (c : ℕ) (xs : Product) (b : Bool) → (IsTrue b ↔ (xs ≡ [])) → b ≡ true → term.Num c ≡ monomial_term c xs
no_atoms c xs b h e = ap (monomial_term c) (sym (h.0 e))

pub with_atoms : (c : ℕ) (xs : Product) (b : Bool) → (IsTrue b ↔ (xs ≡ [])) → b ≡ false → term.Mul (term.Num c) (in_pairs term.Mul (term.Num 1) xs) ≡ monomial_term c xs
with_atoms c [] b h e = let g : b ≡ true = h.1 refl in cc
with_atoms c (x ∷ xs) b h e = refl
