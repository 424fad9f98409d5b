-- The names and sorts of a give.
use Rattle.std.specs.Prelude.{None}
use Rattle.tht_tree.specs.declared.plain.Spot.{Spot}
use Rattle.tht_tree.specs.declared.give.Give.{Give, fold-Give}
use Rattle.tht_tree.specs.declared.give.GiveKind.{GiveKind, fold-GiveKind}
use Rattle.tht_tree.specs.declared.give.GiveKind.TheOpen as g
use Rattle.tht_tree.specs.Walk.Codes.{construct, ◌▸◌}
use Rattle.tht_tree.specs.Walk.Names.{Walk}
use Rattle.tht_tree.specs.Walk.Terms.{any_term}
use Rattle.tht_tree.specs.Walk.Proofs.{proof}

-- a witness of an `exists` may have any sort
abbrev pub give_at : g.GiveKind-F (Spot → Walk) Walk → Spot → Walk
give_at g.Emp spot scope = None
give_at (g.Atom n) spot scope = None
give_at (g.Fact q) spot scope = proof q scope
give_at (g.Star x y) spot scope = x scope ▸ y scope
give_at (g.Ex t x) spot scope = construct spot (any_term scope t) (x scope)
give_at (g.Left x) spot scope = x scope
give_at (g.Right x) spot scope = x scope
give_at (g.Fold x) spot scope = x scope

abbrev pub spotted_give : g.Give-F (Spot → Walk) Walk → Walk
spotted_give x = x.kind x.spot

-- what is refused in a give
unfoldable pub give : Give → Walk
give = fold-Give (Spot → Walk) Walk give_at spotted_give

-- the same of a give that stands at a spot
unfoldable pub give_kind : GiveKind → Spot → Walk
give_kind = fold-GiveKind (Spot → Walk) Walk give_at spotted_give
