-- The sizes of lists of atoms and hypotheses.
use Rattle.std.proofs.Common.{◌≡◌, ℕ, ◌+◌, List, [], ◌∷◌, map, fold, sum_by, refl}

fold-map : {X Y : Type 0} (f : Y → ℕ) (g : X → Y) (n : ℕ) (xs : List X) → fold (λ a y. a + f y) n (map g xs) ≡ fold (λ a x. a + f (g x)) n xs
fold-map f g n [] = refl
fold-map f g n (x ∷ xs) = fold-map f g (n + f (g x)) xs

pub sum_by-map : {X Y : Type 0} (f : Y → ℕ) (g : X → Y) (xs : List X) → sum_by f (map g xs) ≡ sum_by (λ x. f (g x)) xs
sum_by-map f g xs = fold-map f g 0 xs
