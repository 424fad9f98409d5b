-- Many items joined into one by an operation on two, in pairs: so a tree that is joined so is no deeper than it must be, and
-- many lists are merged in few rounds.
use Rattle.std.specs.Prelude.{ℕ, zero, suc, List, [], ◌∷◌, length}

module _ {A : Type 0} (f : A → A → A) where
  -- one round: each item with its neighbour, and a last one alone
  abbrev pub pairs : List A → List A
  pairs [] = []
  pairs (x ∷ []) = x ∷ []
  pairs (x ∷ y ∷ rest) = f x y ∷ pairs rest

  -- one item with what all that follow it give
  abbrev pub chain : A → List A → A
  chain d [] = d
  chain d (x ∷ xs) = f x (chain d xs)

  -- at most so many rounds
  abbrev pub rounds : ℕ → A → List A → A
  rounds zero d xs = chain d xs
  rounds (suc n) d [] = d
  rounds (suc n) d (x ∷ []) = x
  rounds (suc n) d (x ∷ y ∷ rest) = rounds n d (f x y ∷ pairs rest)

  -- rounds until one item is left, or d where there is none: there are fewer rounds than items
  abbrev pub in_pairs : A → List A → A
  in_pairs d xs = rounds (length xs) d xs
