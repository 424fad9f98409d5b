-- What is in order, by the form of an assertion and of a give.
use Rattle.std.proofs.Common.{◌≡◌, ℕ, Bool, true, ◌&&◌, List, ap}
use Rattle.tht_tree.specs.declared.plain.Sort.{Sort}
use Rattle.tht_tree.specs.declared.state.Local.TheVariants.{Variable}
use Rattle.tht_tree.specs.declared.term.Term.{Term}
use Rattle.tht_tree.specs.declared.assn.Assn.{Assn}
use Rattle.tht_tree.specs.declared.assn.Assn.TheVariants as a
use Rattle.tht_tree.specs.declared.proof.Proof.{Proof}
use Rattle.tht_tree.specs.declared.give.Give.{Give, fold_out-Give}
use Rattle.tht_tree.specs.declared.give.GiveKind.{GiveKind, roll-GiveKind, map-GiveKind, fold-roll-GiveKind}
use Rattle.tht_tree.specs.declared.give.GiveKind.TheOpen as g
use Rattle.tht_tree.specs.Syntax.{Names}
use Rattle.tht_tree.specs.Rules.Context.{Scope, with_local}
use Rattle.tht_logic.specs.Rules.Scoped.{Signatures, is_formula, is_cell, assn_at, assn, give_at, give, give_kind}
use Rattle.assn_laws.proofs.AssnLevels.{on-Emp, on-Fact, on-Own, on-Shared, on-Star, on-Inst, on-Exists, on-Either}

module _ (roots : Names) (instance : Signatures) where
  pub scoped-Emp : (scope : Scope) → assn roots instance a.Emp scope ≡ true
  unfolding assn
  scoped-Emp scope = on-Emp Scope Bool (assn_at roots instance) scope

  pub scoped-Fact : (t : Term) (scope : Scope) → assn roots instance (a.Fact t) scope ≡ is_formula roots scope t
  unfolding assn
  scoped-Fact t scope = on-Fact Scope Bool (assn_at roots instance) t scope

  pub scoped-Own : (t u : Term) (scope : Scope) → assn roots instance (a.Own t u) scope ≡ is_cell roots scope t u
  unfolding assn
  scoped-Own t u scope = on-Own Scope Bool (assn_at roots instance) t u scope

  pub scoped-Shared : (t u : Term) (scope : Scope) → assn roots instance (a.Shared t u) scope ≡ is_cell roots scope t u
  unfolding assn
  scoped-Shared t u scope = on-Shared Scope Bool (assn_at roots instance) t u scope

  pub scoped-Star : (p q : Assn) (scope : Scope) → assn roots instance (a.Star p q) scope ≡ (assn roots instance p scope && assn roots instance q scope)
  unfolding assn
  scoped-Star p q scope = on-Star Scope Bool (assn_at roots instance) p q scope

  pub scoped-Inst : (n : List ℕ) (ts : List Term) (scope : Scope) → assn roots instance (a.Inst n ts) scope ≡ instance scope n ts
  unfolding assn
  scoped-Inst n ts scope = on-Inst Scope Bool (assn_at roots instance) n ts scope

  pub scoped-Exists : (x : List ℕ) (s : Sort) (p : Assn) (scope : Scope) → assn roots instance (a.Exists x s p) scope ≡ assn roots instance p (with_local scope x (Variable s))
  unfolding assn
  scoped-Exists x s p scope = on-Exists Scope Bool (assn_at roots instance) x s p scope

  pub scoped-Either : (p q : Assn) (scope : Scope) → assn roots instance (a.Either p q) scope ≡ (assn roots instance p scope && assn roots instance q scope)
  unfolding assn
  scoped-Either p q scope = on-Either Scope Bool (assn_at roots instance) p q scope

  module _ (proof : Proof → Scope → Bool) where
    pub scoped_is : (x : Give) (scope : Scope) → give roots instance proof x scope ≡ give_kind roots instance proof x.kind scope
    unfolding give give_kind
    scoped_is x scope = ap (λ f. f scope) (fold_out-Give (Scope → Bool) (Scope → Bool) (give_at roots instance proof) (λ y. y.kind) x)

    pub scoped_kind_is : (x : g.GiveKind-F GiveKind Give) (scope : Scope)
        → give_kind roots instance proof (roll-GiveKind x) scope ≡ give_at roots instance proof (map-GiveKind GiveKind Give (Scope → Bool) (Scope → Bool) (give_kind roots instance proof) (give roots instance proof) x) scope
    unfolding give give_kind
    scoped_kind_is x scope = ap (λ f. f scope) (fold-roll-GiveKind (Scope → Bool) (Scope → Bool) (give_at roots instance proof) (λ y. y.kind) x)
