-- Lists that are gone through from their end.
use Rattle.std.proofs.Common.{◌≡◌, ◌≤◌, ℕ, List, [], ◌∷◌, ◌++◌, map, ap, refl, ◌∙◌, max, arith}
use denote.Param.Weighed.{most, most-append, max_none}
use Rattle.tht_tree.specs.Syntax.{Trm}
use Rattle.program_forms.specs.declared.row.Word.TheVariants as w
use Rattle.program_forms.specs.Marks.{Mark, a_word}
use Rattle.program_forms.specs.Rows.{trm_row, items_row}

pub items_last : {A : Type 0} (f : A → Trm) (xs : List A) (x : A) (rest : List Mark)
    → items_row (map f (xs ++ x ∷ [])) rest ≡ items_row (map f xs) (a_word w.More ∷ trm_row (f x) rest)
items_last f [] x rest = refl
items_last f (y ∷ xs) x rest = ap (λ r. a_word w.More ∷ trm_row (f y) r) (items_last f xs x rest)

-- how deep the deepest of some values is
pub most_last : {A : Type 0} (size : A → ℕ) (xs : List A) (x : A) → most size (xs ++ x ∷ []) ≡ max (most size xs) (size x)
most_last size xs x = most-append size xs (x ∷ []) ∙ ap (max (most size xs)) (max_none (size x))

-- the items in front are no deeper than all
pub most_front : {A : Type 0} (size : A → ℕ) (all xs : List A) (x : A) (n : ℕ) → all ≡ xs ++ x ∷ [] → most size all ≤ n → most size xs ≤ n
most_front size all xs x n e le = let m : most size all ≡ max (most size xs) (size x) = ap (most size) e ∙ most_last size xs x in omega (arith, m, le)
