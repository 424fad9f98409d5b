-- Putting terms in, as the walk over an assertion does it: it hands down the name of the next variable that is bound. For the size
-- of what is made it does not matter how variables are named.
use Rattle.std.specs.Prelude.{ℕ, ◌+◌, max, sum_by, List, [], ◌∷◌, ◌++◌, map}
use Rattle.tht_tree.specs.declared.term.Term.TheVariants.{Var}
use Rattle.tht_tree.specs.declared.assn.Assn.{Assn, fold-Assn}
use Rattle.tht_tree.specs.declared.assn.Assn.TheVariants as assn
use Rattle.tht_tree.specs.declared.assn.Assn.TheOpen as a
use Rattle.tht_tree.specs.Normal.Putting.{Puts, put_in, put_nodes, put_levels}
use Rattle.tht_tree.specs.Rules.Sizes.{max_by}
use Rattle.pure_terms.specs.Zeros.{put_zeros}

abbrev pub put_named_at : a.Assn-F (List ℕ → Puts → Assn) → List ℕ → Puts → Assn
put_named_at a.Emp level by = assn.Emp
put_named_at (a.Fact t) level by = assn.Fact (put_in by t)
put_named_at (a.Own t u) level by = assn.Own (put_in by t) (put_in by u)
put_named_at (a.Shared t u) level by = assn.Shared (put_in by t) (put_in by u)
put_named_at (a.Star p q) level by = assn.Star (p level by) (q level by)
put_named_at (a.Inst n ts) level by = assn.Inst n (map (put_in by) ts)
put_named_at (a.Exists x s p) level by = assn.Exists level s (p (level ++ 48 ∷ []) ((x, Var level) ∷ by))
put_named_at (a.Either p q) level by = assn.Either (p level by) (q level by)

-- the assertion with these put in, where this is the name of the next variable that is bound
abbrev pub put_named : List ℕ → Puts → Assn → Assn
put_named level by p = fold-Assn (List ℕ → Puts → Assn) put_named_at p level by

-- ---- its size

abbrev pub nodes_inside_at : a.Assn-F (Puts → ℕ) → Puts → ℕ
nodes_inside_at a.Emp by = 1
nodes_inside_at (a.Fact t) by = put_nodes by t + 1
nodes_inside_at (a.Own t u) by = put_nodes by t + put_nodes by u + 1
nodes_inside_at (a.Shared t u) by = put_nodes by t + put_nodes by u + 1
nodes_inside_at (a.Star p q) by = p by + q by + 1
nodes_inside_at (a.Inst n ts) by = sum_by (put_nodes by) ts + 1
nodes_inside_at (a.Exists x s p) by = p ((x, Var x) ∷ by) + 1
nodes_inside_at (a.Either p q) by = p by + q by + 1

abbrev pub nodes_inside : Puts → Assn → ℕ
nodes_inside by p = fold-Assn (Puts → ℕ) nodes_inside_at p by

abbrev pub levels_inside_at : a.Assn-F (Puts → ℕ) → Puts → ℕ
levels_inside_at a.Emp by = 1
levels_inside_at (a.Fact t) by = put_levels by t + 1
levels_inside_at (a.Own t u) by = max (put_levels by t) (put_levels by u) + 1
levels_inside_at (a.Shared t u) by = max (put_levels by t) (put_levels by u) + 1
levels_inside_at (a.Star p q) by = max (p by) (q by) + 1
levels_inside_at (a.Inst n ts) by = max_by (put_levels by) ts + 1
levels_inside_at (a.Exists x s p) by = p ((x, Var x) ∷ by) + 1
levels_inside_at (a.Either p q) by = max (p by) (q by) + 1

abbrev pub levels_inside : Puts → Assn → ℕ
levels_inside by p = fold-Assn (Puts → ℕ) levels_inside_at p by

-- ---- the names of zeros that are free in it

-- Behind the binder of x the name x stands for this one, which has no zeros: what is bound does not count.
abbrev pub zeros_inside_at : List ℕ → a.Assn-F (Puts → ℕ) → Puts → ℕ
zeros_inside_at none a.Emp by = 0
zeros_inside_at none (a.Fact t) by = put_zeros by t
zeros_inside_at none (a.Own t u) by = max (put_zeros by t) (put_zeros by u)
zeros_inside_at none (a.Shared t u) by = max (put_zeros by t) (put_zeros by u)
zeros_inside_at none (a.Star p q) by = max (p by) (q by)
zeros_inside_at none (a.Inst n ts) by = max_by (put_zeros by) ts
zeros_inside_at none (a.Exists x s p) by = p ((x, Var none) ∷ by)
zeros_inside_at none (a.Either p q) by = max (p by) (q by)

abbrev pub zeros_inside : List ℕ → Puts → Assn → ℕ
zeros_inside none by p = fold-Assn (Puts → ℕ) (zeros_inside_at none) p by
