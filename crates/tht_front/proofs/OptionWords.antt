-- The words of options, two by two.
use Rattle.std.proofs.Common.{◌≡◌, ℕ, List, [], ◌∷◌, map, length, Option, Some, None, refl, sym, ◌∙◌, ap, arith}
use Rattle.std.specs.Option.{option_and_then}
use Rattle.tht_logic.specs.CommandLine.{Options, with_option, with_options}

empty : {A : Type 0} (xs : List A) → length xs ≡ 0 → xs ≡ []
empty [] e = refl
empty (x ∷ xs) e = absurd (omega (arith, e))

-- the texts of words
module _ {A : Type 0} (text : A → List ℕ) where
  abbrev all : List A → Options → Option Options
  all words o = with_options (map text words) o

  -- behind the last option
  pub none_left : (rest : List A) (o : Options) → length rest ≡ 0 → Some o ≡ all rest o
  none_left rest o e = ap (λ z. all z o) (sym (empty rest e))

  module _ (rest after : List A) (name : A) (is : rest ≡ name ∷ after) (o : Options) where
    -- an option has a value
    pub no_value : length after ≡ 0 → None ≡ all rest o
    no_value e = ap (λ z. all (name ∷ z) o) (sym (empty after e)) ∙ ap (λ z. all z o) (sym is)

    module _ (value : A) (others : List A) (behind : after ≡ value ∷ others) where
      in_two : all rest o ≡ option_and_then (with_options (map text others)) (with_option (text name) (text value) o)
      in_two = ap (λ z. all z o) is ∙ ap (λ z. all (name ∷ z) o) behind

      -- an option that is refused
      pub not_taken : None ≡ with_option (text name) (text value) o → None ≡ all rest o
      not_taken e = sym (in_two ∙ ap (option_and_then (with_options (map text others))) (sym e))

      -- one that is taken: the others are left
      pub taken : (p : Options) → Some p ≡ with_option (text name) (text value) o → all rest o ≡ all others p
      taken p e = in_two ∙ ap (option_and_then (with_options (map text others))) (sym e)
