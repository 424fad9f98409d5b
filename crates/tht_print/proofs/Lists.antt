-- Lists that are printed from their end.
use Rattle.std.proofs.Common.{◌≡◌, ℕ, ◌==◌, false, if◌then◌else◌, List, [], ◌∷◌, ◌++◌, length, map, ap, refl, suc, ◌∙◌, max, arith}
use denote.Param.Weighed.{most, most-append, max_none}
use Rattle.std.proofs.lemmas.Bool.Decides.{nat_tests}
use Rattle.tht_tree.specs.declared.token.TokenKind.TheVariants as k
use Rattle.tht_tree.specs.Layout.{Shape, word, Printed, commas, ended}

commas_more : {A : Type 0} (f : A → Printed) (y : A) (xs : List A) (x : A) (rest : List Shape)
    → commas (map f (y ∷ xs ++ x ∷ [])) rest ≡ commas (map f (y ∷ xs)) (word k.Comma ∷ f x rest)
commas_more f y [] x rest = refl
commas_more f y (z ∷ xs) x rest = ap (λ ts. f y (word k.Comma ∷ ts)) (commas_more f z xs x rest)

nonzero : (n : ℕ) → (suc n == 0) ≡ false
nonzero n = grind (arith, nat_tests)

-- the last item goes before what follows, and a comma before it where more items stand in front of it
pub commas_last : {A : Type 0} (f : A → Printed) (xs : List A) (x : A) (rest : List Shape)
    → commas (map f (xs ++ x ∷ [])) rest ≡ (if length xs == 0 then f x rest else commas (map f xs) (word k.Comma ∷ f x rest))
commas_last f [] x rest = refl
commas_last f (y ∷ xs) x rest = rw (nonzero (length xs)) (commas_more f y xs x rest)

pub ended_last : {A : Type 0} (f : A → Printed) (xs : List A) (x : A) (rest : List Shape)
    → ended (map f (xs ++ x ∷ [])) rest ≡ ended (map f xs) (f x (word k.Semicolon ∷ rest))
ended_last f [] x rest = refl
ended_last f (y ∷ xs) x rest = ap (λ ts. f y (word k.Semicolon ∷ ts)) (ended_last f xs x rest)

-- how deep the deepest of some values is
pub most_last : {A : Type 0} (size : A → ℕ) (xs : List A) (x : A) → most size (xs ++ x ∷ []) ≡ max (most size xs) (size x)
most_last size xs x = most-append size xs (x ∷ []) ∙ ap (max (most size xs)) (max_none (size x))
