-- Parts of lists.
use Rattle.std.proofs.Common.{◌≡◌, ℕ, ◌+◌, ◌≤◌, List, [], ◌∷◌, ◌++◌, length, take, drop, max, ◌∙◌, ap, arith}
use Rattle.std.proofs.lemmas.List.{drop-append-le, drop-take, length-take-le}
use denote.Param.Weighed.{most, most-append, max_none}

pub leave_short : {X : Type 0} (b k : ℕ) (xs : List X) (v : X) → b + k ≤ length xs → drop b (take (b + k) xs ++ v ∷ []) ≡ take k (drop b xs) ++ v ∷ []
leave_short b k xs v h =
    drop-append-le b (take (b + k) xs) (v ∷ []) (omega (arith, h, length-take-le (b + k) xs h)) ∙ ap (λ l. l ++ v ∷ []) (drop-take b k xs)

-- how deep the deepest of some values is
pub most_last : {A : Type 0} (size : A → ℕ) (xs : List A) (x : A) → most size (xs ++ x ∷ []) ≡ max (most size xs) (size x)
most_last size xs x = most-append size xs (x ∷ []) ∙ ap (max (most size xs)) (max_none (size x))

-- the items in front are no deeper than all
pub most_front : {A : Type 0} (size : A → ℕ) (all xs : List A) (x : A) (n : ℕ) → all ≡ xs ++ x ∷ [] → most size all ≤ n → most size xs ≤ n
most_front size all xs x n e le = let m : most size all ≡ max (most size xs) (size x) = ap (most size) e ∙ most_last size xs x in omega (arith, m, le)
