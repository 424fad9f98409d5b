-- How large terms and assertions are, and the limits of one formula.
use Rattle.std.specs.Prelude.{ℕ, ◌+◌, max, nat_le, sum_by, Bool, ◌&&◌, List, [], ◌∷◌}
use Rattle.tht_tree.specs.declared.term.Term.{Term, fold-Term}
use Rattle.tht_tree.specs.declared.term.Term.TheOpen as t
use Rattle.tht_tree.specs.declared.assn.Assn.{Assn, fold-Assn}
use Rattle.tht_tree.specs.declared.assn.Assn.TheOpen as a

abbrev pub nodes_at : t.Term-F ℕ → ℕ
nodes_at (t.Len a) = a + 1
nodes_at (t.Offset a k) = a + 1
nodes_at (t.Mul a b) = a + b + 1
nodes_at (t.Add a b) = a + b + 1
nodes_at (t.Sub a b) = a + b + 1
nodes_at (t.Cons a b) = a + b + 1
nodes_at (t.Cat a b) = a + b + 1
nodes_at (t.Eq a b) = a + b + 1
nodes_at (t.Lt a b) = a + b + 1
nodes_at (t.Le a b) = a + b + 1
nodes_at (t.Not a) = a + 1
nodes_at (t.And a b) = a + b + 1
nodes_at (t.Or a b) = a + b + 1
nodes_at (t.Imp a b) = a + b + 1
nodes_at _ = 1

-- the number of nodes of a term, parts included
abbrev pub nodes : Term → ℕ
nodes = fold-Term ℕ nodes_at

abbrev pub levels_at : t.Term-F ℕ → ℕ
levels_at (t.Len a) = a + 1
levels_at (t.Offset a k) = a + 1
levels_at (t.Mul a b) = max a b + 1
levels_at (t.Add a b) = max a b + 1
levels_at (t.Sub a b) = max a b + 1
levels_at (t.Cons a b) = max a b + 1
levels_at (t.Cat a b) = max a b + 1
levels_at (t.Eq a b) = max a b + 1
levels_at (t.Lt a b) = max a b + 1
levels_at (t.Le a b) = max a b + 1
levels_at (t.Not a) = a + 1
levels_at (t.And a b) = max a b + 1
levels_at (t.Or a b) = max a b + 1
levels_at (t.Imp a b) = max a b + 1
levels_at _ = 1

-- the number of levels of a term, where one with no parts has one level
abbrev pub levels : Term → ℕ
levels = fold-Term ℕ levels_at

abbrev pub assn_nodes_at : a.Assn-F ℕ → ℕ
assn_nodes_at a.Emp = 1
assn_nodes_at (a.Fact t) = nodes t + 1
assn_nodes_at (a.Own t u) = nodes t + nodes u + 1
assn_nodes_at (a.Shared t u) = nodes t + nodes u + 1
assn_nodes_at (a.Star p q) = p + q + 1
assn_nodes_at (a.Inst p ts) = sum_by nodes ts + 1
assn_nodes_at (a.Exists x s p) = p + 1
assn_nodes_at (a.Either p q) = p + q + 1

-- the number of nodes of an assertion, its terms' included
abbrev pub assn_nodes : Assn → ℕ
assn_nodes = fold-Assn ℕ assn_nodes_at

-- the greatest that f says of an item, or 0 where there is none
abbrev pub max_by : {A : Type 0} → (A → ℕ) → List A → ℕ
max_by f [] = 0
max_by f (x ∷ xs) = max (f x) (max_by f xs)

abbrev pub assn_levels_at : a.Assn-F ℕ → ℕ
assn_levels_at a.Emp = 1
assn_levels_at (a.Fact t) = levels t + 1
assn_levels_at (a.Own t u) = max (levels t) (levels u) + 1
assn_levels_at (a.Shared t u) = max (levels t) (levels u) + 1
assn_levels_at (a.Star p q) = max p q + 1
assn_levels_at (a.Inst p ts) = max_by levels ts + 1
assn_levels_at (a.Exists x s p) = p + 1
assn_levels_at (a.Either p q) = max p q + 1

-- the number of levels of an assertion, its terms' included
abbrev pub assn_levels : Assn → ℕ
assn_levels = fold-Assn ℕ assn_levels_at

-- one formula, hypothesis, goal or atom: at most 65,536 nodes and 1,000 levels
abbrev pub is_within : ℕ → ℕ → Bool
is_within nodes levels = nat_le nodes 65536 && nat_le levels 1000

abbrev pub formula_fits : Term → Bool
formula_fits t = is_within (nodes t) (levels t)

abbrev pub assn_fits : Assn → Bool
assn_fits a = is_within (assn_nodes a) (assn_levels a)
