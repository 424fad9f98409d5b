-- Proofs whose names and sorts are in order: each name that a proof binds is new there, and each formula and term in it has its
-- sort, where the names of its place are known.
use Rattle.std.specs.Prelude.{ℕ, Bool, true, ◌&&◌, is_none, List}
use Rattle.std.specs.List.{list_all}
use Rattle.tht_tree.specs.declared.plain.Sort.{Sort}
use Rattle.tht_tree.specs.declared.plain.Sort.TheVariants as sort
use Rattle.tht_tree.specs.declared.term.Term.{Term}
use Rattle.tht_tree.specs.declared.proof.Proof.{Proof, fold-Proof}
use Rattle.tht_tree.specs.declared.proof.ProofKind.{ProofKind, fold-ProofKind}
use Rattle.tht_tree.specs.declared.proof.ProofKind.TheOpen as p
use Rattle.tht_tree.specs.declared.proof.LinEntry.{LinEntry, fold-LinEntry}
use Rattle.tht_tree.specs.declared.state.Local.TheVariants.{Variable, Hypothesis}
use Rattle.tht_tree.specs.Syntax.{Names, position}
use Rattle.tht_tree.specs.Rules.Context.{Scope, with_local}
use Rattle.tht_tree.specs.Rules.Scoping.{is_of, sort_of}

-- whether a proof is in order, by what is in scope
abbrev pub InScope : Type 0
InScope = Scope → Bool

-- what a lemma takes: whether these arguments have the sorts of its parameters
abbrev pub Signatures : Type 0
Signatures = Scope → List ℕ → List Term → Bool

module _ (roots : Names) (fits : Signatures) where
  -- a name that neither a local nor a root has
  abbrev pub is_new : Scope → List ℕ → Bool
  is_new scope x = is_none (scope x) && is_none (position 0 roots x)

  abbrev pub term_in : Scope → Sort → Term → Bool
  term_in scope s u = is_of s (sort_of roots scope u)

  abbrev pub formula_in : Scope → Term → Bool
  formula_in scope = term_in scope sort.Bool

  -- a proof behind the name of a hypothesis, which is new
  abbrev pub behind : Scope → List ℕ → InScope → Bool
  behind scope h q = is_new scope h && q (with_local scope h Hypothesis)

  abbrev pub scoped_at : p.ProofKind-F InScope InScope InScope → InScope
  scoped_at (p.Recast t q) scope = formula_in scope t && q scope
  scoped_at (p.Sym q) scope = q scope
  scoped_at (p.Both q r) scope = q scope && r scope
  scoped_at (p.Subst x s t a b q r) scope =
      is_new scope x && formula_in (with_local scope x (Variable s)) t && term_in scope s a && term_in scope s b && q scope && r scope
  scoped_at (p.Pair q r) scope = q scope && r scope
  scoped_at (p.Fst t q) scope = formula_in scope t && q scope
  scoped_at (p.Snd t q) scope = formula_in scope t && q scope
  scoped_at (p.Inl q) scope = q scope
  scoped_at (p.Inr q) scope = q scope
  scoped_at (p.Cases t q h r g u) scope = formula_in scope t && q scope && behind scope h r && behind scope g u
  scoped_at (p.Fun h q) scope = behind scope h q
  scoped_at (p.App t q r) scope = formula_in scope t && q scope && r scope
  scoped_at (p.Neg t q r) scope = formula_in scope t && q scope && r scope
  scoped_at (p.Absurd q) scope = q scope
  scoped_at (p.Em t h q g r) scope = formula_in scope t && behind scope h q && behind scope g r
  scoped_at (p.Lin k entries) scope = list_all (λ e. e scope) entries
  scoped_at (p.Monus q) scope = q scope
  scoped_at (p.Head s u q) scope = term_in scope sort.Seq s && term_in scope sort.Seq u && q scope
  scoped_at (p.Tail x y q) scope = term_in scope sort.Nat x && term_in scope sort.Nat y && q scope
  scoped_at (p.Lemma l ts q) scope = fits scope l ts && q scope
  scoped_at _ scope = true

  abbrev pub entry_scoped_at : p.LinEntry-F InScope InScope InScope → InScope
  entry_scoped_at e scope = formula_in scope e.fact && e.proof scope

  abbrev pub spotted_scoped : p.Proof-F InScope InScope InScope → InScope
  spotted_scoped x = x.kind

  unfoldable pub is_scoped : Proof → InScope
  is_scoped = fold-Proof InScope InScope InScope scoped_at entry_scoped_at spotted_scoped

  unfoldable pub kind_scoped : ProofKind → InScope
  kind_scoped = fold-ProofKind InScope InScope InScope scoped_at entry_scoped_at spotted_scoped

  unfoldable pub entry_scoped : LinEntry → InScope
  entry_scoped = fold-LinEntry InScope InScope InScope scoped_at entry_scoped_at spotted_scoped
