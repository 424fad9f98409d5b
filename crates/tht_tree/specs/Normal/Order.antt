-- A total order of terms: first by the label of the outermost level, then by the parts, from left to right.
use Rattle.std.specs.Prelude.{ℕ, List, [], ◌∷◌}
use Rattle.std.specs.Ordering.{ordering_then, nat_cmp}
use Rattle.std.specs.declared.cmp.Ordering.{Ordering}
use Rattle.std.specs.Cmp.Lexicographic.{slice_cmp}
use Rattle.tht_tree.specs.declared.term.Term.{Term, fold-Term, out-Term}
use Rattle.tht_tree.specs.declared.term.Term.TheOpen as t

-- what a level says beside its parts: the number of its form, then the number or the name that it bears
abbrev pub label : {A : Type 0} → t.Term-F A → List ℕ
label (t.Num n) = 0 ∷ n ∷ []
label (t.Var x) = 1 ∷ x
label (t.Len a) = 2 ∷ []
label (t.Sub a b) = 3 ∷ []
label (t.Mul a b) = 4 ∷ []
label (t.Add a b) = 5 ∷ []
label t.True = 6 ∷ []
label t.False = 7 ∷ []
label t.Null = 8 ∷ []
label t.Nil = 9 ∷ []
label t.Unit = 10 ∷ []
label (t.Offset a k) = 11 ∷ k ∷ []
label (t.Cons a b) = 12 ∷ []
label (t.Cat a b) = 13 ∷ []
label (t.Eq a b) = 14 ∷ []
label (t.Lt a b) = 15 ∷ []
label (t.Le a b) = 16 ∷ []
label (t.Not a) = 17 ∷ []
label (t.And a b) = 18 ∷ []
label (t.Or a b) = 19 ∷ []
label (t.Imp a b) = 20 ∷ []

abbrev pub parts : {A : Type 0} → t.Term-F A → List A
parts (t.Len a) = a ∷ []
parts (t.Offset a k) = a ∷ []
parts (t.Not a) = a ∷ []
parts (t.Mul a b) = a ∷ b ∷ []
parts (t.Add a b) = a ∷ b ∷ []
parts (t.Sub a b) = a ∷ b ∷ []
parts (t.Cons a b) = a ∷ b ∷ []
parts (t.Cat a b) = a ∷ b ∷ []
parts (t.Eq a b) = a ∷ b ∷ []
parts (t.Lt a b) = a ∷ b ∷ []
parts (t.Le a b) = a ∷ b ∷ []
parts (t.And a b) = a ∷ b ∷ []
parts (t.Or a b) = a ∷ b ∷ []
parts (t.Imp a b) = a ∷ b ∷ []
parts _ = []

abbrev pub compare_at : t.Term-F (Term → Ordering) → Term → Ordering
compare_at x u = ordering_then (slice_cmp nat_cmp (label x) (label (out-Term u))) (slice_cmp (λ f v. f v) (parts x) (parts (out-Term u)))

-- how two terms stand in the order
abbrev pub compare : Term → Term → Ordering
compare = fold-Term (Term → Ordering) compare_at
