-- Names of zeros, which bound variables have: how long the longest one in a term is, and in what putting in makes of it.
use Rattle.std.specs.Prelude.{ℕ, ◌==◌, Bool, true, ◌&&◌, max, List, [], ◌∷◌, length, if◌then◌else◌}
use Rattle.tht_tree.specs.declared.term.Term.{Term, fold-Term}
use Rattle.tht_tree.specs.declared.term.Term.TheOpen as t
use Rattle.tht_tree.specs.Normal.Putting.{Puts, put_name}

abbrev pub only_zeros : List ℕ → Bool
only_zeros [] = true
only_zeros (c ∷ x) = (c == 48) && only_zeros x

-- of how many zeros a name consists, and 0 for a name with another letter
abbrev pub zeros : List ℕ → ℕ
zeros x = if only_zeros x then length x else 0

abbrev pub zeros_at : t.Term-F ℕ → ℕ
zeros_at (t.Var x) = zeros x
zeros_at (t.Len a) = a
zeros_at (t.Offset a k) = a
zeros_at (t.Mul a b) = max a b
zeros_at (t.Add a b) = max a b
zeros_at (t.Sub a b) = max a b
zeros_at (t.Cons a b) = max a b
zeros_at (t.Cat a b) = max a b
zeros_at (t.Eq a b) = max a b
zeros_at (t.Lt a b) = max a b
zeros_at (t.Le a b) = max a b
zeros_at (t.Not a) = a
zeros_at (t.And a b) = max a b
zeros_at (t.Or a b) = max a b
zeros_at (t.Imp a b) = max a b
zeros_at _ = 0

-- how long the longest name of zeros in a term is
abbrev pub zeros_in : Term → ℕ
zeros_in = fold-Term ℕ zeros_at

abbrev pub put_zeros_at : Puts → t.Term-F ℕ → ℕ
put_zeros_at by (t.Var x) = zeros_in (put_name by x)
put_zeros_at by u = zeros_at u

-- the same of the term with these put in
abbrev pub put_zeros : Puts → Term → ℕ
put_zeros by = fold-Term ℕ (put_zeros_at by)
