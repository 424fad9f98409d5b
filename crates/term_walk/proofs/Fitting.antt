-- Arguments, one after another.
use Rattle.std.proofs.Common.{◌≡◌, ◌≢◌, refl, sym, ◌∙◌, ap, subst, suc, Bool, true, false, List, [], ◌∷◌, map, length, Option, Some, None, arith, ◌⊎◌, inl, inr}
use Rattle.tht_tree.specs.declared.plain.Sort.{Sort}
use Rattle.tht_tree.specs.declared.walk.WalkCode.{WalkCode}
use Rattle.tht_tree.specs.declared.walk.WalkCode.TheVariants.{N4, S1}
use Rattle.tht_tree.specs.Walk.Codes.{first, unless}
use Rattle.tht_tree.specs.Walk.Sorts.{same_sort, clash}
use Rattle.tht_tree.specs.Walk.Terms.{fit}
use Rattle.walk_laws.proofs.CodeLaws.{first-none, first-assoc}

-- a wrong number counts before a wrong sort
number_first : (s : Sort) (o : Option Sort) → first (clash s o) (Some N4) ≡ Some N4
number_first s None = refl
number_first s (Some r) = pick (same_sort s r)
  where
    pick : (b : Bool) → first (unless b S1) (Some N4) ≡ Some N4
    pick true = refl
    pick false = refl

module _ {A : Type 0} (f : A → Option Sort) where
  pub wrong_number : (ss : List Sort) (ts : List A) → length ss ≢ length ts → fit ss (map f ts) ≡ Some N4
  wrong_number [] [] n = absurd (n refl)
  wrong_number [] (t ∷ ts) n = refl
  wrong_number (s ∷ ss) [] n = refl
  wrong_number (s ∷ ss) (t ∷ ts) n = ap (first (clash s (f t))) (wrong_number ss ts (λ e. n (ap suc e))) ∙ number_first s (f t)

  -- so many arguments as parameters are left, and what was refused before them
  pub record FitsLeft (code all : Option WalkCode) (ss : List Sort) (ts : List A) : Type 0 where
    pub lengths : length ss ≡ length ts
    pub rest : all ≡ first code (fit ss (map f ts))

  module _ (code all : Option WalkCode) where
    split : (s : Sort) (t : A) (ss : List Sort) (ts : List A) (zs : List Sort) (ws : List A) → (zs ≡ s ∷ ss) × (ws ≡ t ∷ ts) → FitsLeft code all zs ws → FitsLeft code all (s ∷ ss) (t ∷ ts)
    split s t ss ts zs ws h d = subst (λ w. FitsLeft code all (s ∷ ss) w) h.1 (subst (λ z. FitsLeft code all z ws) h.0 d)

    fits_after : (s : Sort) (t : A) (ss : List Sort) (ts : List A) (zs : List Sort) (ws : List A) → (zs ≡ s ∷ ss) × (ws ≡ t ∷ ts) → FitsLeft code all zs ws
        → FitsLeft (first code (clash s (f t))) all ss ts
    fits_after s t ss ts zs ws h d =
        let k = split s t ss ts zs ws h d in
        let l = k.lengths in
        record {
          lengths = omega arith;
          rest = k.rest ∙ sym (first-assoc code (clash s (f t)) (fit ss (map f ts)));
        }

    -- one turn of a loop over arguments
    pub fits_next : (s : Sort) (t : A) (ss : List Sort) (ts : List A) (zs : List Sort) (ws : List A) (new : Option WalkCode) → (zs ≡ s ∷ ss) × (ws ≡ t ∷ ts)
        → new ≡ first code (clash s (f t)) → FitsLeft code all zs ws → FitsLeft new all ss ts
    fits_next s t ss ts zs ws new h e d = subst (λ c. FitsLeft c all ss ts) (sym e) (fits_after s t ss ts zs ws h d)

    none_left : (ss : List Sort) (ts : List A) → FitsLeft code all ss ts → (length ss ≡ 0) ⊎ (length ts ≡ 0) → code ≡ all
    none_left [] [] d e = sym (d.rest ∙ first-none code)
    none_left [] (t ∷ ts) d e = let l = d.lengths in absurd (omega arith)
    none_left (s ∷ ss) [] d e = let l = d.lengths in absurd (omega arith)
    none_left (s ∷ ss) (t ∷ ts) d (inl e) = absurd (omega (arith, e))
    none_left (s ∷ ss) (t ∷ ts) d (inr e) = absurd (omega (arith, e))

    pub fits_ended : {I J : Type 0} {R : I → Type 0} {S : J → Type 0} (ss : List Sort) (ts : List A) → ((i : I) × ((length ss ≡ 0) × R i)) ⊎ ((j : J) × ((length ts ≡ 0) × S j))
        → FitsLeft code all ss ts → code ≡ all
    fits_ended ss ts e d = none_left ss ts d (elim e [ inl w ↦ inl w.1.0 | inr w ↦ inr w.1.0 ])
