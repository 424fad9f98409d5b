-- What is joined in pairs has the value that is joined one after the other.
use Rattle.std.proofs.Common.{◌≡◌, ℕ, zero, suc, List, [], ◌∷◌, ◌++◌, length, refl, sym, ◌∙◌, ap}
use Rattle.tht_tree.specs.Normal.InPairs.{pairs, chain, rounds, in_pairs}

-- all the values of a list, joined by g, with e at its end
module _ {A : Type 0} (v : A → ℕ) (g : ℕ → ℕ → ℕ) (e : ℕ) where
  abbrev pub total : List A → ℕ
  total [] = e
  total (x ∷ xs) = g (v x) (total xs)

  module _ (assoc : (a b c : ℕ) → g (g a b) c ≡ g a (g b c)) (first : (a : ℕ) → g e a ≡ a) where
    pub total-append : (xs ys : List A) → total (xs ++ ys) ≡ g (total xs) (total ys)
    total-append [] ys = sym (first (total ys))
    total-append (x ∷ xs) ys = ap (g (v x)) (total-append xs ys) ∙ sym (assoc (v x) (total xs) (total ys))

-- f is g on the values, and d has the value e
module _ {A : Type 0} (v : A → ℕ) (g : ℕ → ℕ → ℕ) (e : ℕ) (f : A → A → A) (d : A) (joins : (x y : A) → v (f x y) ≡ g (v x) (v y)) (ends : v d ≡ e)
    (assoc : (a b c : ℕ) → g (g a b) c ≡ g a (g b c)) (last : (a : ℕ) → g a e ≡ a) where
  abbrev all : List A → ℕ
  all = total v g e

  pairs_value : (xs : List A) → all (pairs f xs) ≡ all xs
  pairs_value [] = refl
  pairs_value (x ∷ []) = refl
  pairs_value (x ∷ y ∷ rest) = (λ i. g (joins x y i) (pairs_value rest i)) ∙ assoc (v x) (v y) (all rest)

  chain_value : (xs : List A) → v (chain f d xs) ≡ all xs
  chain_value [] = ends
  chain_value (x ∷ xs) = joins x (chain f d xs) ∙ ap (g (v x)) (chain_value xs)

  rounds_value : (n : ℕ) (xs : List A) → v (rounds f n d xs) ≡ all xs
  rounds_value zero xs = chain_value xs
  rounds_value (suc n) [] = ends
  rounds_value (suc n) (x ∷ []) = sym (last (v x))
  rounds_value (suc n) (x ∷ y ∷ rest) = rounds_value n (f x y ∷ pairs f rest) ∙ pairs_value (x ∷ y ∷ rest)

  pub in_pairs_value : (xs : List A) → v (in_pairs f d xs) ≡ all xs
  in_pairs_value xs = rounds_value (length xs) xs
