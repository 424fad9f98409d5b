-- Loops over what several tests of one construct refuse.
use Rattle.std.proofs.Common.{◌≡◌, ℕ, ◌+◌, ◌<◌, refl, sym, ◌∙◌, ap, List, [], ◌∷◌, ◌++◌, map, length, take, get_or, add-one, Option}
use Rattle.std.proofs.Math.Seq.{take-suc}
use Rattle.tht_tree.specs.declared.walk.WalkCode.{WalkCode}
use Rattle.tht_tree.specs.Walk.Codes.{first, first_of}
use Rattle.walk_laws.proofs.CodeLaws.{first_of-cons, first-assoc}

-- one test more
pub one_more : {A : Type 0} (f : A → Option WalkCode) (xs : List A) (x : A) → first_of (map f (xs ++ x ∷ [])) ≡ first (first_of (map f xs)) (f x)
one_more f [] x = refl
one_more f (y ∷ xs) x =
    first_of-cons (f y) (map f (xs ++ x ∷ [])) ∙ ap (first (f y)) (one_more f xs x) ∙ sym (first-assoc (f y) (first_of (map f xs)) (f x)) ∙ ap (λ z. first z (f x)) (sym (first_of-cons (f y) (map f xs)))

pub one_more_of : {A B : Type 0} (f : B → Option WalkCode) (g : A → B) (xs : List A) (x : A) → first_of (map f (map g (xs ++ x ∷ []))) ≡ first (first_of (map f (map g xs))) (f (g x))
one_more_of f g [] x = refl
one_more_of f g (y ∷ xs) x =
    first_of-cons (f (g y)) (map f (map g (xs ++ x ∷ []))) ∙ ap (first (f (g y))) (one_more_of f g xs x) ∙ sym (first-assoc (f (g y)) (first_of (map f (map g xs))) (f (g x)))
    ∙ ap (λ z. first z (f (g x))) (sym (first_of-cons (f (g y)) (map f (map g xs))))

module _ {A : Type 0} (xs : List A) (i : ℕ) (x : A) (within : i < length xs) (here : x ≡ get_or xs i x) where
  taken : take (i + 1) xs ≡ take i xs ++ (x ∷ [])
  taken = rw add-one (take-suc xs i x within ∙ ap (λ y. take i xs ++ (y ∷ [])) (sym here))

  -- one turn of a loop over the tests of a list
  pub gathered : (f : A → Option WalkCode) (code new : Option WalkCode) → code ≡ first_of (map f (take i xs)) → new ≡ first code (f x) → new ≡ first_of (map f (take (i + 1) xs))
  gathered f code new e h = h ∙ ap (λ z. first z (f x)) e ∙ sym (one_more f (take i xs) x) ∙ ap (λ l. first_of (map f l)) (sym taken)

  pub gathered_of : {B : Type 0} (f : B → Option WalkCode) (g : A → B) (code new : Option WalkCode) → code ≡ first_of (map f (map g (take i xs))) → new ≡ first code (f (g x))
      → new ≡ first_of (map f (map g (take (i + 1) xs)))
  gathered_of f g code new e h = h ∙ ap (λ z. first z (f (g x))) e ∙ sym (one_more_of f g (take i xs) x) ∙ ap (λ l. first_of (map f (map g l))) (sym taken)
