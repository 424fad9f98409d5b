-- Induction over assertions, by one level at a time.
use Rattle.std.proofs.Common.{◌∙◌, subst}
use Rattle.tht_tree.specs.declared.assn.Assn.{Assn, roll-Assn}
use Rattle.tht_tree.specs.declared.assn.Assn.TheVariants as a
use Rattle.tht_tree.specs.declared.assn.Assn.TheOpen.{Assn-F}
use Rattle.tht_tree.specs.declared.assn.Assn.TheOpen as f
use Rattle.assn_laws.proofs.AssnLevels.{Star, Exists, Either, Star-is, Exists-is, Either-is}

module _ (P : Assn → Type 0) where
  -- P holds of the parts at a level
  abbrev pub OfParts : Assn-F Assn → Type 0
  OfParts (f.Star p q) = P p × P q
  OfParts (f.Exists x s p) = P p
  OfParts (f.Either p q) = P p × P q
  OfParts _ = Unit {0}

  module _ (step : (x : Assn-F Assn) → OfParts x → P (roll-Assn x)) where
    pub by_parts : (p : Assn) → P p
    by_parts a.Emp = subst P a.rolls-Emp (step f.Emp tt)
    by_parts (a.Fact t) = subst P (a.rolls-Fact t) (step (f.Fact t) tt)
    by_parts (a.Own t u) = subst P (a.rolls-Own t u) (step (f.Own t u) tt)
    by_parts (a.Shared t u) = subst P (a.rolls-Shared t u) (step (f.Shared t u) tt)
    by_parts (Star p q) = subst P (a.rolls-Star p q ∙ Star-is p q) (step (f.Star p q) (by_parts p, by_parts q))
    by_parts (a.Inst n ts) = subst P (a.rolls-Inst n ts) (step (f.Inst n ts) tt)
    by_parts (Exists x s p) = subst P (a.rolls-Exists x s p ∙ Exists-is x s p) (step (f.Exists x s p) (by_parts p))
    by_parts (Either p q) = subst P (a.rolls-Either p q ∙ Either-is p q) (step (f.Either p q) (by_parts p, by_parts q))
