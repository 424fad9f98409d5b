-- Steps and gives whose names and sorts are in order: each name that one binds is new there, and each term, formula and instance in it
-- has its sort, where the names of its place are known.
use Rattle.std.specs.Prelude.{◌≡◌, ℕ, Bool, true, ◌&&◌, is_some, is_none, List, [], ◌∷◌, Some, None, false, option_map, Option}
use Rattle.tht_tree.specs.declared.plain.Sort.{Sort}
use Rattle.tht_tree.specs.declared.plain.Sort.TheVariants as sort
use Rattle.tht_tree.specs.declared.term.Term.{Term}
use Rattle.tht_tree.specs.declared.assn.Assn.{Assn, fold-Assn}
use Rattle.tht_tree.specs.declared.assn.Assn.TheOpen as a
use Rattle.tht_tree.specs.declared.proof.Proof.{Proof}
use Rattle.tht_tree.specs.declared.give.Give.{Give, fold-Give}
use Rattle.tht_tree.specs.declared.give.GiveKind.{GiveKind, fold-GiveKind}
use Rattle.tht_tree.specs.declared.give.GiveKind.TheOpen as g
use Rattle.tht_tree.specs.declared.step.StepKind.{StepKind}
use Rattle.tht_tree.specs.declared.step.StepKind.TheVariants as s
use Rattle.tht_tree.specs.declared.state.Local.TheVariants.{Variable}
use Rattle.tht_tree.specs.Syntax.{Names, position}
use Rattle.tht_tree.specs.Rules.Context.{Scope, with_local}
use Rattle.tht_tree.specs.Rules.Scoping.{variable_sort, is_of, is_storable_sort, sort_of}
use Rattle.tht_tree.specs.declared.decl.Param.{Param}
use Rattle.tht_logic.specs.Rules.Definitions.{Predicate, one_case, two_cases, Declarations}

-- whether these arguments have the sorts of the parameters of what has this name
abbrev pub Signatures : Type 0
Signatures = Scope → List ℕ → List Term → Bool

-- as many terms as there are parameters, each of its parameter's sort
abbrev pub fit : Names → Scope → List Param → List Term → Bool
fit roots scope [] [] = true
fit roots scope (p ∷ ps) (t ∷ ts) = is_of p.sort (sort_of roots scope t) && fit roots scope ps ts
fit roots scope _ _ = false

-- the parameters of what is declared, if anything
abbrev pub fit_some : Names → Scope → Option (List Param) → List Term → Bool
fit_some roots scope None ts = false
fit_some roots scope (Some ps) ts = fit roots scope ps ts

abbrev pub params_of : Predicate → List Param
params_of (one_case ps p) = ps
params_of (two_cases k) = k.params

-- a table of predicates by their names
abbrev pub Table : Type 0
Table = List ℕ → Option Predicate

-- the arguments fit the predicate with this name in a table
abbrev pub fits_in : Names → Table → Signatures
fits_in roots known scope q ts = fit_some roots scope (option_map params_of (known q)) ts

-- the arguments fit the predicate, or the lemma, with this name
abbrev pub instance_fits : Declarations → Signatures
instance_fits decl = fits_in decl.proofs.roots decl.predicates

abbrev pub lemma_fits : Declarations → Signatures
lemma_fits decl scope l ts = fit_some decl.proofs.roots scope (option_map (λ x. x.params) (decl.lemmas l)) ts

-- no variable in scope has the name of a root
abbrev pub HideNoRoot : Names → Scope → Type 0
HideNoRoot roots scope = (x : List ℕ) (r : ℕ) → position 0 roots x ≡ Some r → variable_sort (scope x) ≡ None

-- each of these terms has, in the new scope, the sort that the one at its place among those has in the old scope
abbrev pub HaveTheSorts : Names → Scope → Scope → List Term → List Term → Type 0
HaveTheSorts roots old new [] [] = Unit {0}
HaveTheSorts roots old new (t ∷ ts) (u ∷ us) = ((s : Sort) → sort_of roots old t ≡ Some s → sort_of roots new u ≡ Some s) × HaveTheSorts roots old new ts us
HaveTheSorts roots old new _ _ = ⊥

module _ (roots : Names) where
  -- a name that neither a local nor a root has
  abbrev pub is_new : Scope → List ℕ → Bool
  is_new scope x = is_none (scope x) && is_none (position 0 roots x)

  abbrev pub is_formula : Scope → Term → Bool
  is_formula scope t = is_of sort.Bool (sort_of roots scope t)

  abbrev pub is_cell : Scope → Term → Term → Bool
  is_cell scope t u = is_of sort.Loc (sort_of roots scope t) && is_storable_sort (sort_of roots scope u)

  module _ (instance : Signatures) where
    abbrev pub assn_at : a.Assn-F (Scope → Bool) → Scope → Bool
    assn_at a.Emp scope = true
    assn_at (a.Fact t) scope = is_formula scope t
    assn_at (a.Own t u) scope = is_cell scope t u
    assn_at (a.Shared t u) scope = is_cell scope t u
    assn_at (a.Star p q) scope = p scope && q scope
    assn_at (a.Inst q ts) scope = instance scope q ts
    assn_at (a.Exists x r p) scope = p (with_local scope x (Variable r))
    assn_at (a.Either p q) scope = p scope && q scope

    -- an assertion; the name of a bound variable may be that of a local or of a root, which it hides
    unfoldable pub assn : Assn → Scope → Bool
    assn = fold-Assn (Scope → Bool) assn_at

    -- what is in order among proofs is said elsewhere
    module _ (proof : Proof → Scope → Bool) where
      abbrev pub give_at : g.GiveKind-F (Scope → Bool) (Scope → Bool) → Scope → Bool
      give_at g.Emp scope = true
      give_at (g.Atom i) scope = true
      give_at (g.Fact q) scope = proof q scope
      give_at (g.Star x y) scope = x scope && y scope
      give_at (g.Ex t x) scope = is_some (sort_of roots scope t) && x scope
      give_at (g.Left x) scope = x scope
      give_at (g.Right x) scope = x scope
      give_at (g.Fold x) scope = x scope

      unfoldable pub give : Give → Scope → Bool
      give = fold-Give (Scope → Bool) (Scope → Bool) give_at (λ x. x.kind)

      unfoldable pub give_kind : GiveKind → Scope → Bool
      give_kind = fold-GiveKind (Scope → Bool) (Scope → Bool) give_at (λ x. x.kind)

      abbrev pub step : Signatures → StepKind → Scope → Bool
      step lemma (s.Have h t q) scope = is_new scope h && is_formula scope t && proof q scope
      step lemma (s.OpenVar i x r) scope = is_new scope x
      step lemma (s.OpenFact i h) scope = is_new scope h
      step lemma (s.Unfold i) scope = true
      step lemma (s.Fold q ts x) scope = instance scope q ts && give x scope
      step lemma (s.Rewrite i k u q) scope = is_some (sort_of roots scope u) && proof q scope
      step lemma (s.Use l ts x) scope = lemma scope l ts && give x scope
