-- A node's meaning, from those of the nodes before it.
use Rattle.std.proofs.Common.{◌≡◌, ℕ, zero, suc, ◌+◌, ◌<◌, ◌≤◌, Bool, true, false, cond, List, [], ◌∷◌, ◌++◌, length, slice_get, refl, sym, ◌∙◌, ap, subst, Option, Some, None, arith, length-append, ◌⊎◌, inl, inr}
use Rattle.std.specs.Prelude.{ltb}
use Rattle.std.proofs.lemmas.Bool.{ltb-true, ltb-false}
use mathlib.Core.Path.{fun_ext}
use Rattle.tht_tree.specs.declared.plain.Value.{Value}
use Rattle.tht_logic.specs.Machine.{Prog, FrontBig}
use Rattle.code_form.specs.declared.code.Node.{Node}
use Rattle.tht_tree.specs.Syntax.{Names}
use Rattle.code_form.specs.Means.{Means, pick, means_at, built, meaning, cut}

module _ (names : Names) where
  pick_first : (xs ys : List Means) (j : ℕ) → j < length xs → (env : List Value) → pick (xs ++ ys) j env ≡ pick xs j env
  pick_first [] ys j h env = absurd (omega (arith, h))
  pick_first (x ∷ xs) ys zero h env = refl
  pick_first (x ∷ xs) ys (suc j) h env = pick_first xs ys j (omega (arith, h)) env

  pub pick_last : (xs : List Means) (m : Means) (j : ℕ) → j ≡ length xs → pick (xs ++ m ∷ []) j ≡ m
  pick_last [] m zero h = refl
  pick_last [] m (suc j) h = absurd (omega (arith, h))
  pick_last (x ∷ xs) m zero h = absurd (omega (arith, h))
  pick_last (x ∷ xs) m (suc j) h = pick_last xs m j (omega (arith, h))

  pick_beyond : (xs : List Means) (j : ℕ) → length xs ≤ j → (env : List Value) → pick xs j env ≡ FrontBig
  pick_beyond [] j h env = refl
  pick_beyond (x ∷ xs) zero h env = absurd (omega (arith, h))
  pick_beyond (x ∷ xs) (suc j) h env = pick_beyond xs j (omega (arith, h)) env

  pub built_first : (done : List Means) (ns : List Node) (j : ℕ) → j < length done → (env : List Value) → pick (built names done ns) j env ≡ pick done j env
  built_first done [] j h env = refl
  built_first done (n ∷ ns) j h env =
      built_first (done ++ means_at names (pick done) n ∷ []) ns j (omega (arith, h, length-append done (means_at names (pick done) n ∷ []))) env ∙ pick_first done (means_at names (pick done) n ∷ []) j h env

  lt_tells : (j i : ℕ) → ((ltb j i ≡ true) × (j < i)) ⊎ ((ltb j i ≡ false) × (i ≤ j))
  lt_tells j i = lt_by (ltb j i) refl
    where
      lt_by : (t : Bool) → ltb j i ≡ t → ((ltb j i ≡ true) × (j < i)) ⊎ ((ltb j i ≡ false) × (i ≤ j))
      lt_by true e = inl (e, ltb-true j i e)
      lt_by false e = inr (e, ltb-false j i e)

  cut_is : (done : List Means) (ns : List Node) → pick done ≡ cut (length done) (pick (built names done ns))
  cut_is done ns = fun_ext (λ j. fun_ext (λ env. elim (lt_tells j (length done)) [
    | inl h ↦ sym (built_first done ns j h.1 env) ∙ ap (λ t. cond t (pick (built names done ns) j env) FrontBig) (sym h.0)
    | inr h ↦ pick_beyond done j h.1 env ∙ ap (λ t. cond t (pick (built names done ns) j env) FrontBig) (sym h.0)
  ]))

  abbrev or_else : Node → Option Node → Node
  or_else x None = x
  or_else x (Some y) = y

  built_at : (done : List Means) (ns : List Node) (k i : ℕ) (n : Node) → i ≡ length done + k → slice_get ns k ≡ Some n → pick (built names done ns) i ≡ means_at names (cut i (pick (built names done ns))) n
  built_at done [] k i n e h = cc
  built_at done (x ∷ ns) zero i n e h =
      let at : i ≡ length done = omega (arith, e) in
      let m : Means = means_at names (pick done) x in
      let first : pick (built names done (x ∷ ns)) i ≡ m = fun_ext (λ env. built_first (done ++ m ∷ []) ns i (omega (arith, at, length-append done (m ∷ []))) env) ∙ pick_last done m i at in
      let node : x ≡ n = ap (or_else x) h in
      let go : pick done ≡ cut i (pick (built names done (x ∷ ns))) = subst (λ j. pick done ≡ cut j (pick (built names done (x ∷ ns)))) (sym at) (cut_is done (x ∷ ns)) in
      first ∙ ap (λ g. means_at names g x) go ∙ ap (means_at names (cut i (pick (built names done (x ∷ ns))))) node
  built_at done (x ∷ ns) (suc k) i n e h = built_at (done ++ means_at names (pick done) x ∷ []) ns k i n (omega (arith, e, length-append done (means_at names (pick done) x ∷ []))) h

  pub means_is : (nodes : List Node) (i : ℕ) (n : Node) → slice_get nodes i ≡ Some n → meaning names nodes i ≡ means_at names (cut i (meaning names nodes)) n
  means_is nodes i n h = built_at [] nodes i i n (omega arith) h

  pub length_built : (done : List Means) (ns : List Node) → length (built names done ns) ≡ length done + length ns
  length_built done [] = omega arith
  length_built done (n ∷ ns) = omega (arith, length_built (done ++ means_at names (pick done) n ∷ []) ns, length-append done (means_at names (pick done) n ∷ []))

  none_beyond : (ns : List Node) (i : ℕ) → slice_get ns i ≡ None → length ns ≤ i
  none_beyond [] i e = omega arith
  none_beyond (n ∷ ns) zero e = cc
  none_beyond (n ∷ ns) (suc i) e = let h = none_beyond ns i e in omega (arith, h)

  pub means_beyond : (nodes : List Node) (i : ℕ) (env : List Value) → slice_get nodes i ≡ None → meaning names nodes i env ≡ FrontBig
  means_beyond nodes i env e = pick_beyond (built names [] nodes) i (omega (arith, length_built [] nodes, none_beyond nodes i e)) env

  pub past_end : (nodes : List Node) (i : ℕ) (env : List Value) → length nodes ≤ i → FrontBig ≡ meaning names nodes i env
  past_end nodes i env h = sym (pick_beyond (built names [] nodes) i (omega (arith, length_built [] nodes, h)) env)
