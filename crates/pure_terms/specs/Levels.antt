-- The outermost level of a term, as the order of terms sees it: the number of its form, the number and the name that it bears,
-- and its parts.
use Rattle.std.specs.Prelude.{◌≡◌, ℕ, ◌<◌, max, List, [], ◌∷◌}
use Rattle.std.specs.Ordering.{ordering_then, nat_cmp}
use Rattle.std.specs.declared.cmp.Ordering.{Ordering}
use Rattle.std.specs.declared.cmp.Ordering.TheVariants.{Equal}
use Rattle.std.specs.Cmp.Lexicographic.{slice_cmp}
use Rattle.tht_tree.specs.declared.term.Term.{Term, out-Term, size-Term}
use Rattle.tht_tree.specs.declared.term.Term.TheOpen as t
use Rattle.tht_tree.specs.Normal.Order.{label, parts, compare}
use Rattle.pure_terms.specs.declared.order.Parts.{Parts}
use Rattle.pure_terms.specs.declared.order.Parts.TheVariants as part

abbrev pub first_of_label : List ℕ → ℕ
first_of_label [] = 0
first_of_label (n ∷ ns) = n

-- the number of the form
abbrev pub rank : Term → ℕ
rank u = first_of_label (label (out-Term u))

abbrev pub number_at : {A : Type 0} → t.Term-F A → ℕ
number_at (t.Num n) = n
number_at (t.Offset a k) = k
number_at _ = 0

-- the number that a level bears, and 0 where it bears none
abbrev pub number : Term → ℕ
number u = number_at (out-Term u)

abbrev pub name_at : {A : Type 0} → t.Term-F A → List ℕ
name_at (t.Var x) = x
name_at _ = []

-- the name that a level bears, and the empty text where it bears none
abbrev pub name : Term → List ℕ
name u = name_at (out-Term u)

-- how the outermost levels of two terms stand, whatever their parts are
abbrev pub by_label : Term → Term → Ordering
by_label u v = slice_cmp nat_cmp (label (out-Term u)) (label (out-Term v))

abbrev pub listed : Parts → List Term
listed part.Nothing = []
listed (part.One a) = a.now ∷ []
listed (part.Two a b) = a.now ∷ b.now ∷ []

-- the most levels that one of them has
abbrev pub deepest : Parts → ℕ
deepest part.Nothing = 0
deepest (part.One a) = size-Term a.now
deepest (part.Two a b) = max (size-Term a.now) (size-Term b.now)

-- the parts of the term, each of them with fewer levels
pub record ArePartsOf (u : Term) (ps : Parts) : Type 0 where
  pub all : listed ps ≡ parts (out-Term u)
  pub fewer : deepest ps < size-Term u

-- how the parts of two terms stand that are as many
abbrev pub by_parts : Parts → Parts → Ordering
by_parts (part.One a) (part.One b) = compare a.now b.now
by_parts (part.Two a b) (part.Two c d) = ordering_then (compare a.now c.now) (compare b.now d.now)
by_parts _ _ = Equal
