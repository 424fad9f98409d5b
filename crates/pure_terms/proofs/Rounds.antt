-- Rounds in which items are joined in pairs.
use Rattle.std.proofs.Common.{◌≡◌, ℕ, zero, suc, ◌<◌, ◌≤◌, List, [], ◌∷◌, ◌++◌, length, refl, sym, ap, arith, length-append}
use Rattle.tht_tree.specs.Normal.InPairs.{pairs, rounds, in_pairs}

module _ {A : Type 0} (f : A → A → A) where
  pub length-pairs : (xs : List A) → length (pairs f xs) ≤ length xs
  length-pairs [] = omega arith
  length-pairs (x ∷ []) = omega arith
  length-pairs (x ∷ y ∷ rest) = let h = length-pairs rest in omega arith

  -- a round leaves fewer items, where there are two or more
  pub fewer_pairs : (xs : List A) → 1 < length xs → length (pairs f xs) < length xs
  fewer_pairs [] h = absurd (omega arith)
  fewer_pairs (x ∷ []) h = absurd (omega arith)
  fewer_pairs (x ∷ y ∷ rest) h = let g = length-pairs rest in omega arith

  module _ (d : A) where
    -- more rounds than items change nothing
    same_rounds : (m n : ℕ) (xs : List A) → length xs ≤ m → length xs ≤ n → rounds f m d xs ≡ rounds f n d xs
    same_rounds zero zero xs g h = refl
    same_rounds zero (suc n) [] g h = refl
    same_rounds zero (suc n) (x ∷ xs) g h = absurd (omega arith)
    same_rounds (suc m) zero [] g h = refl
    same_rounds (suc m) zero (x ∷ xs) g h = absurd (omega arith)
    same_rounds (suc m) (suc n) [] g h = refl
    same_rounds (suc m) (suc n) (x ∷ []) g h = refl
    same_rounds (suc m) (suc n) (x ∷ y ∷ rest) g h = let k = length-pairs rest in same_rounds m n (f x y ∷ pairs f rest) (omega arith) (omega arith)

    -- after a round what is left gives the same
    pub after_round : (xs : List A) → in_pairs f d (pairs f xs) ≡ in_pairs f d xs
    after_round [] = refl
    after_round (x ∷ []) = refl
    after_round (x ∷ y ∷ rest) =
        let k = length-pairs rest in
        same_rounds (suc (length (pairs f rest))) (suc (length rest)) (f x y ∷ pairs f rest) (omega arith) (omega arith)

    -- what the last one and none give
    pub one_left : (front : List A) (x : A) (xs : List A) → length xs ≤ 1 → xs ≡ front ++ x ∷ [] → x ≡ in_pairs f d xs
    one_left [] x xs h e = sym (ap (in_pairs f d) e)
    one_left (y ∷ front) x xs h e = let g = ap length e in let k = length-append front (x ∷ []) in absurd (omega arith)

    pub none_left : (xs : List A) → xs ≡ [] → d ≡ in_pairs f d xs
    none_left xs e = sym (ap (in_pairs f d) e)
