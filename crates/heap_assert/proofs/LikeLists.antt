-- Two lists that are walked side by side, item by item.
use Rattle.std.proofs.Common.{◌≡◌, Bool, true, false, ◌&&◌, List, [], ◌∷◌, length, refl, sym, ◌∙◌, ap, subst, arith, ◌⊎◌, inl, inr}
use Rattle.tht_tree.specs.declared.term.Term.{Term}
use Rattle.heap_assert.specs.SideBySide.{Pairs, like_terms, like_lists}

-- what is left of two lists of one length decides the answer
pub record LeftDecides (ps : Pairs) (ts us : List Term) (answer : Bool) : Type 0 where
  pub lengths : length ts ≡ length us
  pub decides : like_lists ps ts us ≡ answer

module _ (ps : Pairs) (answer : Bool) where
  -- the same, where the lists are given by their first items
  split : (t u : Term) (ts us vs ws : List Term) → (vs ≡ t ∷ ts) × (ws ≡ u ∷ us) → LeftDecides ps vs ws answer → LeftDecides ps (t ∷ ts) (u ∷ us) answer
  split t u ts us vs ws h d = subst (λ w. LeftDecides ps (t ∷ ts) w answer) h.1 (subst (λ z. LeftDecides ps z ws answer) h.0 d)

  -- after two items that are alike
  pub left_after : (t u : Term) (ts us vs ws : List Term) → (vs ≡ t ∷ ts) × (ws ≡ u ∷ us) → like_terms ps t u ≡ true → LeftDecides ps vs ws answer → LeftDecides ps ts us answer
  left_after t u ts us vs ws h e d =
      let k = split t u ts us vs ws h d in
      let l = k.lengths in
      record {
        lengths = omega arith;
        decides = sym (ap (λ b. b && like_lists ps ts us) e) ∙ k.decides;
      }

  -- the answer after two items that are not alike
  pub left_differs : (t u : Term) (ts us vs ws : List Term) → (vs ≡ t ∷ ts) × (ws ≡ u ∷ us) → like_terms ps t u ≡ false → LeftDecides ps vs ws answer → false ≡ answer
  left_differs t u ts us vs ws h e d =
      let k = split t u ts us vs ws h d in
      sym (ap (λ b. b && like_lists ps ts us) e) ∙ k.decides

  none_left : (ts us : List Term) → LeftDecides ps ts us answer → (length ts ≡ 0) ⊎ (length us ≡ 0) → true ≡ answer
  none_left [] [] d e = d.decides
  none_left [] (u ∷ us) d e = let l = d.lengths in absurd (omega arith)
  none_left (t ∷ ts) [] d e = let l = d.lengths in absurd (omega arith)
  none_left (t ∷ ts) (u ∷ us) d (inl e) = absurd (omega (arith, e))
  none_left (t ∷ ts) (u ∷ us) d (inr e) = absurd (omega (arith, e))

  -- the answer where an iterator over both has ended
  pub ended : {I J : Type 0} {R : I → Type 0} {S : J → Type 0} (ts us : List Term) → ((i : I) × ((length ts ≡ 0) × R i)) ⊎ ((j : J) × ((length us ≡ 0) × S j))
      → LeftDecides ps ts us answer → true ≡ answer
  ended ts us e d = none_left ts us d (elim e [ inl w ↦ inl w.1.0 | inr w ↦ inr w.1.0 ])

-- lists of different lengths are not alike
pub other_length : (ps : Pairs) (ts us : List Term) → (length ts ≡ length us → ⊥) → false ≡ like_lists ps ts us
other_length ps [] [] d = absurd (d refl)
other_length ps [] (u ∷ us) d = refl
other_length ps (t ∷ ts) [] d = refl
other_length ps (t ∷ ts) (u ∷ us) d = longer (like_terms ps t u) (other_length ps ts us (λ e. d (omega (arith, e))))
  where
    longer : (b : Bool) → false ≡ like_lists ps ts us → false ≡ (b && like_lists ps ts us)
    longer true e = e
    longer false e = refl
