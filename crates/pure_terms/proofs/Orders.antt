-- Lists that are compared item by item, by what c says of the items.
use Rattle.std.proofs.Common.{◌≡◌, false, ◌+◌, List, [], ◌∷◌, length, refl, sym, ◌∙◌, ap, subst, arith, ◌⊎◌, inl, inr, Ordering, Less, Equal, Greater}
use Rattle.std.specs.Ordering.{ordering_then, nat_cmp, is_eq}
use Rattle.std.specs.Cmp.Lexicographic.{slice_cmp}
use Rattle.std.proofs.lemmas.Bool.Decides.{nat_tests}

-- what is left of two lists tells how they stand
pub record LeftOrders {A : Type 0} (c : A → A → Ordering) (xs ys ps qs : List A) : Type 0 where
  pub lengths : length xs + length qs ≡ length ys + length ps
  pub order : slice_cmp c xs ys ≡ slice_cmp c ps qs

module _ {A : Type 0} (c : A → A → Ordering) (ps qs : List A) where
  -- the same, where the lists are given by their first items
  split : (x y : A) (xs ys zs ws : List A) → (zs ≡ x ∷ xs) × (ws ≡ y ∷ ys) → LeftOrders c zs ws ps qs → LeftOrders c (x ∷ xs) (y ∷ ys) ps qs
  split x y xs ys zs ws h d = subst (λ w. LeftOrders c (x ∷ xs) w ps qs) h.1 (subst (λ z. LeftOrders c z ws ps qs) h.0 d)

  -- after two items that are alike
  pub order_after : (x y : A) (xs ys zs ws : List A) → (zs ≡ x ∷ xs) × (ws ≡ y ∷ ys) → c x y ≡ Equal → LeftOrders c zs ws ps qs → LeftOrders c xs ys ps qs
  order_after x y xs ys zs ws h e d =
      let k = split x y xs ys zs ws h d in
      let l = k.lengths in
      record {
        lengths = omega arith;
        order = sym (ap (λ o. ordering_then o (slice_cmp c xs ys)) e) ∙ k.order;
      }

  then_first : (o p : Ordering) → is_eq o ≡ false → ordering_then o p ≡ o
  then_first Less p e = refl
  then_first Equal p e = cc
  then_first Greater p e = refl

  -- the answer at two items that are not alike
  pub order_told : (x y : A) (xs ys zs ws : List A) (o : Ordering) → (zs ≡ x ∷ xs) × (ws ≡ y ∷ ys) → c x y ≡ o → is_eq o ≡ false → LeftOrders c zs ws ps qs → o ≡ slice_cmp c ps qs
  order_told x y xs ys zs ws o h e n d =
      let k = split x y xs ys zs ws h d in
      sym (then_first o (slice_cmp c xs ys) n) ∙ sym (ap (λ z. ordering_then z (slice_cmp c xs ys)) e) ∙ k.order

  by_length : (xs ys : List A) → LeftOrders c xs ys ps qs → (length xs ≡ 0) ⊎ (length ys ≡ 0) → nat_cmp (length ps) (length qs) ≡ slice_cmp c ps qs
  by_length [] [] d e = let l = d.lengths in let t : nat_cmp (length ps) (length qs) ≡ Equal = grind (arith, nat_tests) in t ∙ d.order
  by_length [] (y ∷ ys) d e = let l = d.lengths in let t : nat_cmp (length ps) (length qs) ≡ Less = grind (arith, nat_tests) in t ∙ d.order
  by_length (x ∷ xs) [] d e = let l = d.lengths in let t : nat_cmp (length ps) (length qs) ≡ Greater = grind (arith, nat_tests) in t ∙ d.order
  by_length (x ∷ xs) (y ∷ ys) d (inl e) = absurd (omega (arith, e))
  by_length (x ∷ xs) (y ∷ ys) d (inr e) = absurd (omega (arith, e))

  -- the answer where an iterator over both has ended
  pub order_ended : {I J : Type 0} {R : I → Type 0} {S : J → Type 0} (xs ys : List A) → ((i : I) × ((length xs ≡ 0) × R i)) ⊎ ((j : J) × ((length ys ≡ 0) × S j))
      → LeftOrders c xs ys ps qs → nat_cmp (length ps) (length qs) ≡ slice_cmp c ps qs
  order_ended xs ys e d = by_length xs ys d (elim e [ inl w ↦ inl w.1.0 | inr w ↦ inr w.1.0 ])
