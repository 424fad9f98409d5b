-- A give in which the walk over names and sorts refuses nothing is in order.
use Rattle.std.proofs.Common.{◌≡◌, Bool, true, is_some, refl, sym, ◌∙◌, subst}
use Rattle.tht_tree.specs.declared.plain.Spot.{Spot}
use Rattle.tht_tree.specs.declared.proof.Proof.{Proof}
use Rattle.tht_tree.specs.declared.give.Give.{Give, roll-Give, ind-Give}
use Rattle.tht_tree.specs.declared.give.GiveKind.{GiveKind, roll-GiveKind, map-GiveKind}
use Rattle.tht_tree.specs.declared.give.GiveKind.TheOpen as g
use Rattle.tht_tree.specs.Syntax.{Names}
use Rattle.tht_tree.specs.Rules.Context.{Scope}
use Rattle.tht_tree.specs.Rules.Scoping.{sort_of}
use Rattle.tht_tree.specs.Walk.Names as walk
use Rattle.tht_tree.specs.Walk.Names.{Walk}
use Rattle.tht_tree.specs.Walk.Terms.{any_term}
use Rattle.tht_tree.specs.Walk.Gives as w
use Rattle.walk_laws.proofs.Levels.{give_is, give_kind_is}
use Rattle.tht_logic.specs.Rules.Scoped.{Signatures}
use Rattle.tht_logic.specs.Rules.Scoped as scoped
use Rattle.assn_laws.specs.Walked.{WalkedIsInOrder, WalkedGivesAreInOrder}
use Rattle.assn_laws.proofs.ScopedLevels.{scoped_is, scoped_kind_is}
use Rattle.assn_laws.proofs.Refusing.{nothing, construct_none, behind_none, both}
use Rattle.assn_laws.proofs.WalkedNames.{sort_walked}

module _ (roots : Names) (instance lemma : Signatures) (proof : Proof → Scope → Bool) (names : walk.Scope) (scope : Scope) (here : WalkedIsInOrder roots instance lemma proof names scope) where
  abbrev KindGood : GiveKind → Type 0
  KindGood k = (spot : Spot) → w.give_kind k spot names ≡ nothing → scoped.give_kind roots instance proof k scope ≡ true

  abbrev GiveGood : Give → Type 0
  GiveGood x = w.give x names ≡ nothing → scoped.give roots instance proof x scope ≡ true

  abbrev Kinds : Type 0
  Kinds = (k : GiveKind) × KindGood k

  abbrev Gives : Type 0
  Gives = (x : Give) × GiveGood x

  abbrev walk_level : g.GiveKind-F GiveKind Give → g.GiveKind-F (Spot → Walk) Walk
  walk_level = map-GiveKind GiveKind Give (Spot → Walk) Walk w.give_kind w.give

  abbrev order_level : g.GiveKind-F GiveKind Give → g.GiveKind-F (Scope → Bool) (Scope → Bool)
  order_level = map-GiveKind GiveKind Give (Scope → Bool) (Scope → Bool) (scoped.give_kind roots instance proof) (scoped.give roots instance proof)

  abbrev IsLevel : g.GiveKind-F GiveKind Give → Type 0
  IsLevel x = (spot : Spot) → w.give_at (walk_level x) spot names ≡ nothing → scoped.give_at roots instance proof (order_level x) scope ≡ true

  abbrev in_order : Give → Bool
  in_order x = scoped.give roots instance proof x scope

  level : (y : g.GiveKind-F Kinds Gives) → IsLevel (map-GiveKind Kinds Gives GiveKind Give (λ x. x.0) (λ x. x.0) y)
  level g.Emp spot e = refl
  level (g.Atom k) spot e = refl
  level (g.Fact q) spot e = here.proofs q e
  level (g.Star x z) spot e =
      let parts = behind_none (w.give x.0 names) (w.give z.0 names) e in
      both (in_order x.0) (in_order z.0) (x.1 parts.0) (z.1 parts.1)
  level (g.Ex t x) spot e =
      let parts = construct_none spot (any_term names t) (w.give x.0 names) e in
      both (is_some (sort_of roots scope t)) (in_order x.0) (sort_walked roots names scope here.matches t parts.0) (x.1 parts.1)
  level (g.Left x) spot e = x.1 e
  level (g.Right x) spot e = x.1 e
  level (g.Fold x) spot e = x.1 e

  kind_step : (x : g.GiveKind-F GiveKind Give) → IsLevel x → KindGood (roll-GiveKind x)
  kind_step x good spot e = scoped_kind_is roots instance proof x scope ∙ good spot (sym (give_kind_is x spot names) ∙ e)

  give_step : (x : Give) → KindGood x.kind → GiveGood x
  give_step x good e = scoped_is roots instance proof x scope ∙ good x.spot (sym (give_is x.spot x.kind names) ∙ e)

  pub all_good : (x : Give) → GiveGood x
  all_good = ind-Give KindGood GiveGood (λ x y is. kind_step x (subst IsLevel is (level y))) (λ x y is. give_step (roll-Give x) (subst (λ (z : g.Give-F GiveKind Give). KindGood z.kind) is y.kind.1))

-- The law of gives.
pub walked_gives_are_in_order : WalkedGivesAreInOrder
walked_gives_are_in_order roots instance lemma proof names scope o x e = all_good roots instance lemma proof names scope o x e
