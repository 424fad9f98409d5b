-- Lists that are compared item by item, by what f says of the items.
use Rattle.std.proofs.Common.{◌≡◌, ◌≢◌, ◌↔◌, IsTrue, true, false, List, [], ◌∷◌, map, length, refl, subst, arith, ◌⊎◌, inl, inr}

-- what is left of two lists of one length decides P
pub record LeftDecides {A B : Type 0} (f : A → B) (xs ys : List A) (P : Type 0) : Type 0 where
  pub lengths : length xs ≡ length ys
  pub decides : (map f xs ≡ map f ys) ↔ P

module _ {A B : Type 0} (f : A → B) (P : Type 0) where
  -- the same, where the lists are given by their first items
  split : (x y : A) (xs ys zs ws : List A) → (zs ≡ x ∷ xs) × (ws ≡ y ∷ ys) → LeftDecides f zs ws P → LeftDecides f (x ∷ xs) (y ∷ ys) P
  split x y xs ys zs ws h d = subst (λ w. LeftDecides f (x ∷ xs) w P) h.1 (subst (λ z. LeftDecides f z ws P) h.0 d)

  -- after two items that are alike
  pub left_after : (x y : A) (xs ys zs ws : List A) → (zs ≡ x ∷ xs) × (ws ≡ y ∷ ys) → f x ≡ f y → LeftDecides f zs ws P → LeftDecides f xs ys P
  left_after x y xs ys zs ws h e d =
      let k = split x y xs ys zs ws h d in
      let l = k.lengths in
      record {
        lengths = omega arith;
        decides = (λ s. k.decides.0 (λ i. e i ∷ s i), λ p. let g = k.decides.1 p in cc);
      }

  -- the answer after two items that are not alike
  pub left_differs : (x y : A) (xs ys zs ws : List A) → (zs ≡ x ∷ xs) × (ws ≡ y ∷ ys) → f x ≢ f y → LeftDecides f zs ws P → IsTrue false ↔ P
  left_differs x y xs ys zs ws h n d =
      let k = split x y xs ys zs ws h d in
      (λ t. cc, λ p. let g = k.decides.1 p in absurd (n (cc)))

  none_left : (xs ys : List A) → LeftDecides f xs ys P → (length xs ≡ 0) ⊎ (length ys ≡ 0) → P
  none_left [] [] d e = d.decides.0 refl
  none_left [] (y ∷ ys) d e = let l = d.lengths in absurd (omega arith)
  none_left (x ∷ xs) [] d e = let l = d.lengths in absurd (omega arith)
  none_left (x ∷ xs) (y ∷ ys) d (inl e) = absurd (omega (arith, e))
  none_left (x ∷ xs) (y ∷ ys) d (inr e) = absurd (omega (arith, e))

  -- the answer where an iterator over both has ended
  pub ended : {I J : Type 0} {R : I → Type 0} {S : J → Type 0} (xs ys : List A) → ((i : I) × ((length xs ≡ 0) × R i)) ⊎ ((j : J) × ((length ys ≡ 0) × S j))
      → LeftDecides f xs ys P → IsTrue true ↔ P
  ended xs ys e d = let p = none_left xs ys d (elim e [ inl w ↦ inl w.1.0 | inr w ↦ inr w.1.0 ]) in (λ t. p, λ q. refl)
