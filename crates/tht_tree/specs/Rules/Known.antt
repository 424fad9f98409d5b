-- What a proof may use: what is declared, and what is known where it stands.
use Rattle.std.specs.Prelude.{ℕ, Bool, bytes_eq, ◌&&◌, List, [], ◌∷◌, ◌++◌, Option, Some, None, if◌then◌else◌}
use Rattle.tht_tree.specs.declared.term.Term.{Term}
use Rattle.tht_tree.specs.declared.assn.Assn.{Assn}
use Rattle.tht_tree.specs.declared.assn.Assn.TheVariants as a
use Rattle.tht_tree.specs.declared.state.Hyp.{Hyp}
use Rattle.tht_tree.specs.declared.state.Local.TheVariants.{Hypothesis}
use Rattle.tht_tree.specs.Syntax.{Names}
use Rattle.tht_tree.specs.Rules.Sizes.{formula_fits}
use Rattle.tht_tree.specs.Rules.Context.{with_local, Context, context_fits}
use Rattle.tht_tree.specs.Rules.Shapes.{Pair}

-- The names of the roots; and what a lemma says of these arguments, where its boxes are one formula each: the formula that it
-- wants and the one that it gives.
pub record Declared : Type 0 where
  pub roots : Names
  pub lemmas : List ℕ → List Term → Option Pair

-- the formula of the hypothesis with this name
abbrev pub hyp_named : List ℕ → List Hyp → Option Term
hyp_named h [] = None
hyp_named h (x ∷ xs) = if bytes_eq h x.name then Some x.formula else hyp_named h xs

-- what is known with one more hypothesis
abbrev pub with_hyp : Context → List ℕ → Term → Context
with_hyp c h u = record c { scope = with_local c.scope h Hypothesis; hyps = c.hyps ++ (record { name = h; formula = u }) ∷ [] }

-- neither the hypothesis nor the whole is too large
abbrev pub hyp_fits : Context → List ℕ → Term → Bool
hyp_fits c h u = formula_fits u && context_fits (with_hyp c h u)

-- the place of an atom that is a cell, private or shared
abbrev pub cell_place : Assn → Option Term
cell_place (a.Own t u) = Some t
cell_place (a.Shared t u) = Some t
cell_place _ = None
