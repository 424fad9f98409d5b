-- The size of what putting in makes does not depend on how bound variables are named.
use Rattle.std.proofs.Common.{◌≡◌, ℕ, suc, ◌+◌, max, Bool, true, false, List, ◌∷◌, refl, sym, ◌∙◌, ap}
use Rattle.std.specs.Prelude.{sum_by, bytes_eq, if◌then◌else◌}
use Rattle.tht_tree.specs.declared.term.Term.{fold-Term}
use Rattle.tht_tree.specs.declared.term.Term.TheVariants.{Var}
use Rattle.tht_tree.specs.declared.term.Term.TheOpen.{Term-F}
use Rattle.tht_tree.specs.declared.term.Term.TheOpen as t
use Rattle.tht_tree.specs.declared.assn.Assn.{Assn, map-Assn, roll-Assn, fold-Assn, fold-roll-Assn}
use Rattle.tht_tree.specs.declared.assn.Assn.TheOpen.{Assn-F}
use Rattle.tht_tree.specs.declared.assn.Assn.TheOpen as f
use Rattle.tht_tree.specs.Rules.Sizes.{nodes_at, nodes, levels_at, levels, max_by}
use Rattle.tht_tree.specs.Normal.Putting.{Puts, put_name, put_nodes_at, put_nodes, put_levels_at, put_levels}
use Rattle.tht_tree.proofs.TermFolds.{at-Var}
use Rattle.tht_logic.specs.Putting.{bound_name, renaming, put_assn_nodes_at, put_assn_nodes, put_assn_levels_at, put_assn_levels}
use Rattle.assn_laws.proofs.AssnInduction.{OfParts, by_parts}
use Rattle.heap_assert.specs.ByNames.{nodes_inside_at, nodes_inside, levels_inside_at, levels_inside}

-- ---- what is put in for each name is of one size

pub record SameSizes (ps qs : Puts) : Type 0 where
  pub in_nodes : (x : List ℕ) → nodes (put_name ps x) ≡ nodes (put_name qs x)
  pub in_levels : (x : List ℕ) → levels (put_name ps x) ≡ levels (put_name qs x)

name_nodes : (x y : List ℕ) → nodes (Var x) ≡ nodes (Var y)
name_nodes x y = at-Var ℕ nodes_at x ∙ sym (at-Var ℕ nodes_at y)

name_levels : (x y : List ℕ) → levels (Var x) ≡ levels (Var y)
name_levels x y = at-Var ℕ levels_at x ∙ sym (at-Var ℕ levels_at y)

-- so it is behind one more binder, however its variable is named
behind : (x y z : List ℕ) (ps qs : Puts) → SameSizes ps qs → SameSizes ((x, Var y) ∷ ps) ((x, Var z) ∷ qs)
behind x y z ps qs h = record { in_nodes = λ w. pick_nodes w (bytes_eq x w); in_levels = λ w. pick_levels w (bytes_eq x w) }
  where
    pick_nodes : (w : List ℕ) (b : Bool) → nodes (if b then Var y else put_name ps w) ≡ nodes (if b then Var z else put_name qs w)
    pick_nodes w true = name_nodes y z
    pick_nodes w false = h.in_nodes w

    pick_levels : (w : List ℕ) (b : Bool) → levels (if b then Var y else put_name ps w) ≡ levels (if b then Var z else put_name qs w)
    pick_levels w true = name_levels y z
    pick_levels w false = h.in_levels w

itself : (ps : Puts) → SameSizes ps ps
itself ps = record { in_nodes = λ x. refl; in_levels = λ x. refl }

-- ---- terms

module _ (ps qs : Puts) (h : SameSizes ps qs) where
  nodes_step : (u : Term-F ℕ) → put_nodes_at ps u ≡ put_nodes_at qs u
  nodes_step (t.Var x) = h.in_nodes x
  nodes_step _ = refl

  levels_step : (u : Term-F ℕ) → put_levels_at ps u ≡ put_levels_at qs u
  levels_step (t.Var x) = h.in_levels x
  levels_step _ = refl

  same_nodes : put_nodes ps ≡ put_nodes qs
  same_nodes = λ i. fold-Term ℕ (λ u. nodes_step u i)

  same_levels : put_levels ps ≡ put_levels qs
  same_levels = λ i. fold-Term ℕ (λ u. levels_step u i)

-- ---- assertions: nodes

abbrev Nodes : Assn → Type 0
Nodes p = (d : ℕ) (ps qs : Puts) → SameSizes ps qs → nodes_inside ps p ≡ fold-Assn (ℕ → Puts → ℕ) put_assn_nodes_at p d qs

abbrev nodes_by_names : Assn → Puts → ℕ
nodes_by_names p by = nodes_inside by p

abbrev nodes_by_levels : Assn → ℕ → Puts → ℕ
nodes_by_levels p d by = fold-Assn (ℕ → Puts → ℕ) put_assn_nodes_at p d by

nodes_level : (x : Assn-F Assn) → OfParts Nodes x → (d : ℕ) (ps qs : Puts) → SameSizes ps qs →
    nodes_inside_at (map-Assn Assn (Puts → ℕ) nodes_by_names x) ps ≡ put_assn_nodes_at (map-Assn Assn (ℕ → Puts → ℕ) nodes_by_levels x) d qs
nodes_level f.Emp h d ps qs s = refl
nodes_level (f.Fact u) h d ps qs s = λ i. same_nodes ps qs s i u + 1
nodes_level (f.Own u w) h d ps qs s = λ i. same_nodes ps qs s i u + same_nodes ps qs s i w + 1
nodes_level (f.Shared u w) h d ps qs s = λ i. same_nodes ps qs s i u + same_nodes ps qs s i w + 1
nodes_level (f.Star p q) h d ps qs s = λ i. h.0 d ps qs s i + h.1 d ps qs s i + 1
nodes_level (f.Inst n us) h d ps qs s = λ i. sum_by (same_nodes ps qs s i) us + 1
nodes_level (f.Exists x r p) h d ps qs s = λ i. h (suc d) ((x, Var x) ∷ ps) (renaming x d qs) (behind x x (bound_name d) ps qs s) i + 1
nodes_level (f.Either p q) h d ps qs s = λ i. h.0 d ps qs s i + h.1 d ps qs s i + 1

at_nodes : (x : Assn-F Assn) → OfParts Nodes x → Nodes (roll-Assn x)
at_nodes x h d ps qs s =
    ap (λ g. g ps) (fold-roll-Assn (Puts → ℕ) nodes_inside_at x) ∙ nodes_level x h d ps qs s
    ∙ sym (ap (λ g. g d qs) (fold-roll-Assn (ℕ → Puts → ℕ) put_assn_nodes_at x))

pub nodes_are : (by : Puts) (p : Assn) → nodes_inside by p ≡ put_assn_nodes by p
nodes_are by p = by_parts Nodes at_nodes p 0 by by (itself by)

-- ---- assertions: levels

abbrev Levels : Assn → Type 0
Levels p = (d : ℕ) (ps qs : Puts) → SameSizes ps qs → levels_inside ps p ≡ fold-Assn (ℕ → Puts → ℕ) put_assn_levels_at p d qs

abbrev levels_by_names : Assn → Puts → ℕ
levels_by_names p by = levels_inside by p

abbrev levels_by_levels : Assn → ℕ → Puts → ℕ
levels_by_levels p d by = fold-Assn (ℕ → Puts → ℕ) put_assn_levels_at p d by

levels_level : (x : Assn-F Assn) → OfParts Levels x → (d : ℕ) (ps qs : Puts) → SameSizes ps qs →
    levels_inside_at (map-Assn Assn (Puts → ℕ) levels_by_names x) ps ≡ put_assn_levels_at (map-Assn Assn (ℕ → Puts → ℕ) levels_by_levels x) d qs
levels_level f.Emp h d ps qs s = refl
levels_level (f.Fact u) h d ps qs s = λ i. same_levels ps qs s i u + 1
levels_level (f.Own u w) h d ps qs s = λ i. max (same_levels ps qs s i u) (same_levels ps qs s i w) + 1
levels_level (f.Shared u w) h d ps qs s = λ i. max (same_levels ps qs s i u) (same_levels ps qs s i w) + 1
levels_level (f.Star p q) h d ps qs s = λ i. max (h.0 d ps qs s i) (h.1 d ps qs s i) + 1
levels_level (f.Inst n us) h d ps qs s = λ i. max_by (same_levels ps qs s i) us + 1
levels_level (f.Exists x r p) h d ps qs s = λ i. h (suc d) ((x, Var x) ∷ ps) (renaming x d qs) (behind x x (bound_name d) ps qs s) i + 1
levels_level (f.Either p q) h d ps qs s = λ i. max (h.0 d ps qs s i) (h.1 d ps qs s i) + 1

at_levels : (x : Assn-F Assn) → OfParts Levels x → Levels (roll-Assn x)
at_levels x h d ps qs s =
    ap (λ g. g ps) (fold-roll-Assn (Puts → ℕ) levels_inside_at x) ∙ levels_level x h d ps qs s
    ∙ sym (ap (λ g. g d qs) (fold-roll-Assn (ℕ → Puts → ℕ) put_assn_levels_at x))

pub levels_are : (by : Puts) (p : Assn) → levels_inside by p ≡ put_assn_levels by p
levels_are by p = by_parts Levels at_levels p 0 by by (itself by)
