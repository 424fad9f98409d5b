-- The size of what putting in makes is known before it is made: for assertions, if it is so for terms.
use Rattle.std.proofs.Common.{◌≡◌, ℕ, suc, ◌+◌, max, Bool, true, false, List, [], ◌∷◌, map, refl, sym, ◌∙◌, ap, subst}
use Rattle.std.specs.Prelude.{bytes_eq, sum, sum_by, if◌then◌else◌}
use Rattle.std.proofs.lemmas.List.Sums.{sum-map}
use Rattle.tht_tree.specs.declared.plain.Sort.{Sort}
use Rattle.tht_tree.specs.declared.term.Term.{Term, roll-Term}
use Rattle.tht_tree.specs.declared.term.Term.TheVariants as t
use Rattle.tht_tree.specs.declared.term.Term.TheOpen.{Term-F}
use Rattle.tht_tree.specs.declared.term.Term.TheOpen as f
use Rattle.tht_tree.specs.declared.assn.Assn.{Assn, fold-Assn}
use Rattle.tht_tree.specs.declared.assn.Assn.TheVariants as a
use Rattle.tht_tree.specs.Normal.Putting.{Puts, put_name, put_in, put_nodes_at, put_nodes, put_levels_at, put_levels}
use Rattle.tht_tree.specs.Rules.Sizes.{nodes_at, nodes, levels_at, levels, assn_nodes_at, assn_nodes, max_by, assn_levels_at, assn_levels, is_within, assn_fits}
use Rattle.tht_tree.proofs.TermFolds.{at-Var}
use Rattle.tht_tree.proofs.TermInduction.{fold_level, OfParts, by_parts}
use Rattle.tht_logic.specs.Putting.{bound_name, zeros_made, renaming, put_inside, put_in_assn, put_assn_nodes_at, put_assn_nodes, put_assn_levels_at, put_assn_levels}
use Rattle.assn_laws.proofs.AssnLevels.{Star, Exists, Either, Star-is, Exists-is, Either-is, at-Emp, at-Fact, at-Own, at-Shared, at-Star, at-Inst, at-Exists, at-Either, on-two-Emp, on-two-Fact, on-two-Own, on-two-Shared, on-two-Star, on-two-Inst, on-two-Exists, on-two-Either}
use Rattle.assn_laws.proofs.Nameless.{put-Emp, put-Fact, put-Own, put-Shared, put-Star, put-Inst, put-Exists, put-Either, put_whole}

-- ---- terms: sizes of what stands for names are enough

-- what stands for a name has one size in both
abbrev pub SameSizes : Puts → Puts → Type 0
SameSizes by to = (x : List ℕ) → (nodes (put_name by x) ≡ nodes (put_name to x)) × (levels (put_name by x) ≡ levels (put_name to x))

module _ (by to : Puts) (same : SameSizes by to) where
  abbrev Same_nodes : Term → Type 0
  Same_nodes u = put_nodes by u ≡ put_nodes to u

  nodes_step : (x : Term-F Term) → OfParts Same_nodes x → Same_nodes (roll-Term x)
  nodes_step (f.Num n) q = fold_level (put_nodes_at by) (f.Num n) ∙ sym (fold_level (put_nodes_at to) (f.Num n))
  nodes_step f.True q = fold_level (put_nodes_at by) f.True ∙ sym (fold_level (put_nodes_at to) f.True)
  nodes_step f.False q = fold_level (put_nodes_at by) f.False ∙ sym (fold_level (put_nodes_at to) f.False)
  nodes_step f.Null q = fold_level (put_nodes_at by) f.Null ∙ sym (fold_level (put_nodes_at to) f.Null)
  nodes_step f.Nil q = fold_level (put_nodes_at by) f.Nil ∙ sym (fold_level (put_nodes_at to) f.Nil)
  nodes_step f.Unit q = fold_level (put_nodes_at by) f.Unit ∙ sym (fold_level (put_nodes_at to) f.Unit)
  nodes_step (f.Var x) q = fold_level (put_nodes_at by) (f.Var x) ∙ (same x).0 ∙ sym (fold_level (put_nodes_at to) (f.Var x))
  nodes_step (f.Len a) q = fold_level (put_nodes_at by) (f.Len a) ∙ (λ i. nodes_at (f.Len (q i))) ∙ sym (fold_level (put_nodes_at to) (f.Len a))
  nodes_step (f.Offset a k) q = fold_level (put_nodes_at by) (f.Offset a k) ∙ (λ i. nodes_at (f.Offset (q i) k)) ∙ sym (fold_level (put_nodes_at to) (f.Offset a k))
  nodes_step (f.Not a) q = fold_level (put_nodes_at by) (f.Not a) ∙ (λ i. nodes_at (f.Not (q i))) ∙ sym (fold_level (put_nodes_at to) (f.Not a))
  nodes_step (f.Mul a b) q = fold_level (put_nodes_at by) (f.Mul a b) ∙ (λ i. nodes_at (f.Mul (q.0 i) (q.1 i))) ∙ sym (fold_level (put_nodes_at to) (f.Mul a b))
  nodes_step (f.Add a b) q = fold_level (put_nodes_at by) (f.Add a b) ∙ (λ i. nodes_at (f.Add (q.0 i) (q.1 i))) ∙ sym (fold_level (put_nodes_at to) (f.Add a b))
  nodes_step (f.Sub a b) q = fold_level (put_nodes_at by) (f.Sub a b) ∙ (λ i. nodes_at (f.Sub (q.0 i) (q.1 i))) ∙ sym (fold_level (put_nodes_at to) (f.Sub a b))
  nodes_step (f.Cons a b) q = fold_level (put_nodes_at by) (f.Cons a b) ∙ (λ i. nodes_at (f.Cons (q.0 i) (q.1 i))) ∙ sym (fold_level (put_nodes_at to) (f.Cons a b))
  nodes_step (f.Cat a b) q = fold_level (put_nodes_at by) (f.Cat a b) ∙ (λ i. nodes_at (f.Cat (q.0 i) (q.1 i))) ∙ sym (fold_level (put_nodes_at to) (f.Cat a b))
  nodes_step (f.Eq a b) q = fold_level (put_nodes_at by) (f.Eq a b) ∙ (λ i. nodes_at (f.Eq (q.0 i) (q.1 i))) ∙ sym (fold_level (put_nodes_at to) (f.Eq a b))
  nodes_step (f.Lt a b) q = fold_level (put_nodes_at by) (f.Lt a b) ∙ (λ i. nodes_at (f.Lt (q.0 i) (q.1 i))) ∙ sym (fold_level (put_nodes_at to) (f.Lt a b))
  nodes_step (f.Le a b) q = fold_level (put_nodes_at by) (f.Le a b) ∙ (λ i. nodes_at (f.Le (q.0 i) (q.1 i))) ∙ sym (fold_level (put_nodes_at to) (f.Le a b))
  nodes_step (f.And a b) q = fold_level (put_nodes_at by) (f.And a b) ∙ (λ i. nodes_at (f.And (q.0 i) (q.1 i))) ∙ sym (fold_level (put_nodes_at to) (f.And a b))
  nodes_step (f.Or a b) q = fold_level (put_nodes_at by) (f.Or a b) ∙ (λ i. nodes_at (f.Or (q.0 i) (q.1 i))) ∙ sym (fold_level (put_nodes_at to) (f.Or a b))
  nodes_step (f.Imp a b) q = fold_level (put_nodes_at by) (f.Imp a b) ∙ (λ i. nodes_at (f.Imp (q.0 i) (q.1 i))) ∙ sym (fold_level (put_nodes_at to) (f.Imp a b))

  pub put_nodes_same : (u : Term) → put_nodes by u ≡ put_nodes to u
  put_nodes_same = by_parts Same_nodes nodes_step

  abbrev Same_levels : Term → Type 0
  Same_levels u = put_levels by u ≡ put_levels to u

  levels_step : (x : Term-F Term) → OfParts Same_levels x → Same_levels (roll-Term x)
  levels_step (f.Num n) q = fold_level (put_levels_at by) (f.Num n) ∙ sym (fold_level (put_levels_at to) (f.Num n))
  levels_step f.True q = fold_level (put_levels_at by) f.True ∙ sym (fold_level (put_levels_at to) f.True)
  levels_step f.False q = fold_level (put_levels_at by) f.False ∙ sym (fold_level (put_levels_at to) f.False)
  levels_step f.Null q = fold_level (put_levels_at by) f.Null ∙ sym (fold_level (put_levels_at to) f.Null)
  levels_step f.Nil q = fold_level (put_levels_at by) f.Nil ∙ sym (fold_level (put_levels_at to) f.Nil)
  levels_step f.Unit q = fold_level (put_levels_at by) f.Unit ∙ sym (fold_level (put_levels_at to) f.Unit)
  levels_step (f.Var x) q = fold_level (put_levels_at by) (f.Var x) ∙ (same x).1 ∙ sym (fold_level (put_levels_at to) (f.Var x))
  levels_step (f.Len a) q = fold_level (put_levels_at by) (f.Len a) ∙ (λ i. levels_at (f.Len (q i))) ∙ sym (fold_level (put_levels_at to) (f.Len a))
  levels_step (f.Offset a k) q = fold_level (put_levels_at by) (f.Offset a k) ∙ (λ i. levels_at (f.Offset (q i) k)) ∙ sym (fold_level (put_levels_at to) (f.Offset a k))
  levels_step (f.Not a) q = fold_level (put_levels_at by) (f.Not a) ∙ (λ i. levels_at (f.Not (q i))) ∙ sym (fold_level (put_levels_at to) (f.Not a))
  levels_step (f.Mul a b) q = fold_level (put_levels_at by) (f.Mul a b) ∙ (λ i. levels_at (f.Mul (q.0 i) (q.1 i))) ∙ sym (fold_level (put_levels_at to) (f.Mul a b))
  levels_step (f.Add a b) q = fold_level (put_levels_at by) (f.Add a b) ∙ (λ i. levels_at (f.Add (q.0 i) (q.1 i))) ∙ sym (fold_level (put_levels_at to) (f.Add a b))
  levels_step (f.Sub a b) q = fold_level (put_levels_at by) (f.Sub a b) ∙ (λ i. levels_at (f.Sub (q.0 i) (q.1 i))) ∙ sym (fold_level (put_levels_at to) (f.Sub a b))
  levels_step (f.Cons a b) q = fold_level (put_levels_at by) (f.Cons a b) ∙ (λ i. levels_at (f.Cons (q.0 i) (q.1 i))) ∙ sym (fold_level (put_levels_at to) (f.Cons a b))
  levels_step (f.Cat a b) q = fold_level (put_levels_at by) (f.Cat a b) ∙ (λ i. levels_at (f.Cat (q.0 i) (q.1 i))) ∙ sym (fold_level (put_levels_at to) (f.Cat a b))
  levels_step (f.Eq a b) q = fold_level (put_levels_at by) (f.Eq a b) ∙ (λ i. levels_at (f.Eq (q.0 i) (q.1 i))) ∙ sym (fold_level (put_levels_at to) (f.Eq a b))
  levels_step (f.Lt a b) q = fold_level (put_levels_at by) (f.Lt a b) ∙ (λ i. levels_at (f.Lt (q.0 i) (q.1 i))) ∙ sym (fold_level (put_levels_at to) (f.Lt a b))
  levels_step (f.Le a b) q = fold_level (put_levels_at by) (f.Le a b) ∙ (λ i. levels_at (f.Le (q.0 i) (q.1 i))) ∙ sym (fold_level (put_levels_at to) (f.Le a b))
  levels_step (f.And a b) q = fold_level (put_levels_at by) (f.And a b) ∙ (λ i. levels_at (f.And (q.0 i) (q.1 i))) ∙ sym (fold_level (put_levels_at to) (f.And a b))
  levels_step (f.Or a b) q = fold_level (put_levels_at by) (f.Or a b) ∙ (λ i. levels_at (f.Or (q.0 i) (q.1 i))) ∙ sym (fold_level (put_levels_at to) (f.Or a b))
  levels_step (f.Imp a b) q = fold_level (put_levels_at by) (f.Imp a b) ∙ (λ i. levels_at (f.Imp (q.0 i) (q.1 i))) ∙ sym (fold_level (put_levels_at to) (f.Imp a b))

  pub put_levels_same : (u : Term) → put_levels by u ≡ put_levels to u
  put_levels_same = by_parts Same_levels levels_step

  -- behind a binder too, however its variable is named
  pub renamed_same : (x : List ℕ) (d e : ℕ) → SameSizes (renaming x d by) (renaming x e to)
  renamed_same x d e y = (pick_nodes (bytes_eq x y), pick_levels (bytes_eq x y))
    where
      pick_nodes : (c : Bool) → nodes (if c then t.Var (bound_name d) else put_name by y) ≡ nodes (if c then t.Var (bound_name e) else put_name to y)
      pick_nodes true = at-Var ℕ nodes_at (bound_name d) ∙ sym (at-Var ℕ nodes_at (bound_name e))
      pick_nodes false = (same y).0

      pick_levels : (c : Bool) → levels (if c then t.Var (bound_name d) else put_name by y) ≡ levels (if c then t.Var (bound_name e) else put_name to y)
      pick_levels true = at-Var ℕ levels_at (bound_name d) ∙ sym (at-Var ℕ levels_at (bound_name e))
      pick_levels false = (same y).1

-- ---- assertions

module _ (term_nodes : (by : Puts) (u : Term) → nodes (put_in by u) ≡ put_nodes by u) (term_levels : (by : Puts) (u : Term) → levels (put_in by u) ≡ put_levels by u) where
  one_nodes : (by to : Puts) → SameSizes by to → (u : Term) → nodes (put_in by u) ≡ put_nodes to u
  one_nodes by to w u = term_nodes by u ∙ put_nodes_same by to w u

  one_levels : (by to : Puts) → SameSizes by to → (u : Term) → levels (put_in by u) ≡ put_levels to u
  one_levels by to w u = term_levels by u ∙ put_levels_same by to w u

  mapped : (by to : Puts) → SameSizes by to → (us : List Term) → map nodes (map (put_in by) us) ≡ map (put_nodes to) us
  mapped by to w [] = refl
  mapped by to w (u ∷ us) = λ i. one_nodes by to w u i ∷ mapped by to w us i

  terms_nodes : (by to : Puts) → SameSizes by to → (us : List Term) → sum_by nodes (map (put_in by) us) ≡ sum_by (put_nodes to) us
  terms_nodes by to w us = sym (sum-map nodes (map (put_in by) us)) ∙ ap sum (mapped by to w us) ∙ sum-map (put_nodes to) us

  terms_levels : (by to : Puts) → SameSizes by to → (us : List Term) → max_by levels (map (put_in by) us) ≡ max_by (put_levels to) us
  terms_levels by to w [] = refl
  terms_levels by to w (u ∷ us) = λ i. max (one_levels by to w u i) (terms_levels by to w us i)

  -- ---- nodes

  abbrev put_nodes_inside : ℕ → Puts → Assn → ℕ
  put_nodes_inside d by p = fold-Assn (ℕ → Puts → ℕ) put_assn_nodes_at p d by

  abbrev Nodes : Assn → Type 0
  Nodes p = (d e : ℕ) (by to : Puts) → SameSizes by to → assn_nodes (put_inside d by p) ≡ put_nodes_inside e to p

  nodes_emp : Nodes a.Emp
  nodes_emp d e by to same = ap assn_nodes (put-Emp d by) ∙ at-Emp ℕ assn_nodes_at ∙ sym (on-two-Emp ℕ Puts ℕ put_assn_nodes_at e to)

  nodes_fact : (u : Term) → Nodes (a.Fact u)
  nodes_fact u d e by to same = ap assn_nodes (put-Fact d by u) ∙ at-Fact ℕ assn_nodes_at (put_in by u) ∙ ap (λ n. n + 1) (one_nodes by to same u) ∙ sym (on-two-Fact ℕ Puts ℕ put_assn_nodes_at u e to)

  nodes_own : (u w : Term) → Nodes (a.Own u w)
  nodes_own u w d e by to same = ap assn_nodes (put-Own d by u w) ∙ at-Own ℕ assn_nodes_at (put_in by u) (put_in by w) ∙ (λ i. (one_nodes by to same u i) + (one_nodes by to same w i) + 1) ∙ sym (on-two-Own ℕ Puts ℕ put_assn_nodes_at u w e to)

  nodes_shared : (u w : Term) → Nodes (a.Shared u w)
  nodes_shared u w d e by to same = ap assn_nodes (put-Shared d by u w) ∙ at-Shared ℕ assn_nodes_at (put_in by u) (put_in by w) ∙ (λ i. (one_nodes by to same u i) + (one_nodes by to same w i) + 1) ∙ sym (on-two-Shared ℕ Puts ℕ put_assn_nodes_at u w e to)

  nodes_inst : (n : List ℕ) (us : List Term) → Nodes (a.Inst n us)
  nodes_inst n us d e by to same = ap assn_nodes (put-Inst d by n us) ∙ at-Inst ℕ assn_nodes_at n (map (put_in by) us) ∙ ap (λ n. n + 1) (terms_nodes by to same us) ∙ sym (on-two-Inst ℕ Puts ℕ put_assn_nodes_at n us e to)

  nodes_star : (p q : Assn) → Nodes p → Nodes q → Nodes (a.Star p q)
  nodes_star p q f g d e by to same =
      ap assn_nodes (put-Star d by p q) ∙ at-Star ℕ assn_nodes_at (put_inside d by p) (put_inside d by q) ∙ (λ i. (f d e by to same i) + (g d e by to same i) + 1) ∙ sym (on-two-Star ℕ Puts ℕ put_assn_nodes_at p q e to)

  nodes_either : (p q : Assn) → Nodes p → Nodes q → Nodes (a.Either p q)
  nodes_either p q f g d e by to same =
      ap assn_nodes (put-Either d by p q) ∙ at-Either ℕ assn_nodes_at (put_inside d by p) (put_inside d by q) ∙ (λ i. (f d e by to same i) + (g d e by to same i) + 1) ∙ sym (on-two-Either ℕ Puts ℕ put_assn_nodes_at p q e to)

  nodes_exists : (x : List ℕ) (r : Sort) (p : Assn) → Nodes p → Nodes (a.Exists x r p)
  nodes_exists x r p f d e by to same =
      ap assn_nodes (put-Exists d by x r p) ∙ at-Exists ℕ assn_nodes_at (bound_name d) r (put_inside (suc d) (renaming x d by) p) ∙ ap (λ n. n + 1) (f (suc d) (suc e) (renaming x d by) (renaming x e to) (renamed_same by to same x d e)) ∙ sym (on-two-Exists ℕ Puts ℕ put_assn_nodes_at x r p e to)

  pub put_nodes_is : (p : Assn) → Nodes p
  put_nodes_is a.Emp = nodes_emp
  put_nodes_is (a.Fact u) = nodes_fact u
  put_nodes_is (a.Own u w) = nodes_own u w
  put_nodes_is (a.Shared u w) = nodes_shared u w
  put_nodes_is (Star p q) = subst Nodes (Star-is p q) (nodes_star p q (put_nodes_is p) (put_nodes_is q))
  put_nodes_is (a.Inst n us) = nodes_inst n us
  put_nodes_is (Exists x r p) = subst Nodes (Exists-is x r p) (nodes_exists x r p (put_nodes_is p))
  put_nodes_is (Either p q) = subst Nodes (Either-is p q) (nodes_either p q (put_nodes_is p) (put_nodes_is q))

  -- ---- levels

  abbrev put_levels_inside : ℕ → Puts → Assn → ℕ
  put_levels_inside d by p = fold-Assn (ℕ → Puts → ℕ) put_assn_levels_at p d by

  abbrev Levels : Assn → Type 0
  Levels p = (d e : ℕ) (by to : Puts) → SameSizes by to → assn_levels (put_inside d by p) ≡ put_levels_inside e to p

  levels_emp : Levels a.Emp
  levels_emp d e by to same = ap assn_levels (put-Emp d by) ∙ at-Emp ℕ assn_levels_at ∙ sym (on-two-Emp ℕ Puts ℕ put_assn_levels_at e to)

  levels_fact : (u : Term) → Levels (a.Fact u)
  levels_fact u d e by to same = ap assn_levels (put-Fact d by u) ∙ at-Fact ℕ assn_levels_at (put_in by u) ∙ ap (λ n. n + 1) (one_levels by to same u) ∙ sym (on-two-Fact ℕ Puts ℕ put_assn_levels_at u e to)

  levels_own : (u w : Term) → Levels (a.Own u w)
  levels_own u w d e by to same = ap assn_levels (put-Own d by u w) ∙ at-Own ℕ assn_levels_at (put_in by u) (put_in by w) ∙ (λ i. max (one_levels by to same u i) (one_levels by to same w i) + 1) ∙ sym (on-two-Own ℕ Puts ℕ put_assn_levels_at u w e to)

  levels_shared : (u w : Term) → Levels (a.Shared u w)
  levels_shared u w d e by to same = ap assn_levels (put-Shared d by u w) ∙ at-Shared ℕ assn_levels_at (put_in by u) (put_in by w) ∙ (λ i. max (one_levels by to same u i) (one_levels by to same w i) + 1) ∙ sym (on-two-Shared ℕ Puts ℕ put_assn_levels_at u w e to)

  levels_inst : (n : List ℕ) (us : List Term) → Levels (a.Inst n us)
  levels_inst n us d e by to same = ap assn_levels (put-Inst d by n us) ∙ at-Inst ℕ assn_levels_at n (map (put_in by) us) ∙ ap (λ n. n + 1) (terms_levels by to same us) ∙ sym (on-two-Inst ℕ Puts ℕ put_assn_levels_at n us e to)

  levels_star : (p q : Assn) → Levels p → Levels q → Levels (a.Star p q)
  levels_star p q f g d e by to same =
      ap assn_levels (put-Star d by p q) ∙ at-Star ℕ assn_levels_at (put_inside d by p) (put_inside d by q) ∙ (λ i. max (f d e by to same i) (g d e by to same i) + 1) ∙ sym (on-two-Star ℕ Puts ℕ put_assn_levels_at p q e to)

  levels_either : (p q : Assn) → Levels p → Levels q → Levels (a.Either p q)
  levels_either p q f g d e by to same =
      ap assn_levels (put-Either d by p q) ∙ at-Either ℕ assn_levels_at (put_inside d by p) (put_inside d by q) ∙ (λ i. max (f d e by to same i) (g d e by to same i) + 1) ∙ sym (on-two-Either ℕ Puts ℕ put_assn_levels_at p q e to)

  levels_exists : (x : List ℕ) (r : Sort) (p : Assn) → Levels p → Levels (a.Exists x r p)
  levels_exists x r p f d e by to same =
      ap assn_levels (put-Exists d by x r p) ∙ at-Exists ℕ assn_levels_at (bound_name d) r (put_inside (suc d) (renaming x d by) p) ∙ ap (λ n. n + 1) (f (suc d) (suc e) (renaming x d by) (renaming x e to) (renamed_same by to same x d e)) ∙ sym (on-two-Exists ℕ Puts ℕ put_assn_levels_at x r p e to)

  pub put_levels_is : (p : Assn) → Levels p
  put_levels_is a.Emp = levels_emp
  put_levels_is (a.Fact u) = levels_fact u
  put_levels_is (a.Own u w) = levels_own u w
  put_levels_is (a.Shared u w) = levels_shared u w
  put_levels_is (Star p q) = subst Levels (Star-is p q) (levels_star p q (put_levels_is p) (put_levels_is q))
  put_levels_is (a.Inst n us) = levels_inst n us
  put_levels_is (Exists x r p) = subst Levels (Exists-is x r p) (levels_exists x r p (put_levels_is p))
  put_levels_is (Either p q) = subst Levels (Either-is p q) (levels_either p q (put_levels_is p) (put_levels_is q))

  -- so whether it fits is known before it is made, and before names for its bound variables are chosen
  pub put_fits : (by : Puts) (p : Assn) → assn_fits (put_in_assn by p) ≡ is_within (put_assn_nodes by p) (put_assn_levels by p)
  put_fits by p =
      let same : SameSizes by by = λ x. (refl, refl) in
      ap assn_fits (put_whole by p) ∙ (λ i. is_within (put_nodes_is p (zeros_made by p) 0 by by same i) (put_levels_is p (zeros_made by p) 0 by by same i))
