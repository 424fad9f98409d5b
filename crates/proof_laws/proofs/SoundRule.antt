-- What it means for a rule to be sound, and the parts that many rules share.
use Rattle.std.proofs.Common.{◌≡◌, ℕ, Bool, true, false, cond, is_none, List, [], ◌∷◌, ◌++◌, Option, Some, None, refl, sym, ◌∙◌, ap}
use Rattle.std.specs.Prelude.{bytes_eq}
use Rattle.tht_tree.specs.declared.plain.Spot.{Spot}
use Rattle.tht_tree.specs.declared.plain.Sort.{Sort}
use Rattle.tht_tree.specs.declared.plain.Sort.TheVariants as sort
use Rattle.tht_tree.specs.declared.state.Hyp.{Hyp}
use Rattle.tht_tree.specs.declared.state.Local.TheVariants.{Variable, Hypothesis}
use Rattle.tht_tree.specs.declared.term.Term.{Term}
use Rattle.tht_tree.specs.Values.{Env}
use Rattle.tht_tree.specs.Heaps.{Heap}
use Rattle.tht_tree.specs.Syntax.{Names, position}
use Rattle.tht_tree.specs.SameTree.{same_of}
use Rattle.tht_tree.specs.Rules.Sizes.{formula_fits}
use Rattle.tht_tree.specs.Rules.Context.{Context, with_local}
use Rattle.tht_tree.proofs.SameTerm.{same_of-true}
use Rattle.tht_tree.specs.Rules.Scoping.{variable_sort, sort_of}
use Rattle.tht_tree.specs.Terms.{value}
use Rattle.tht_tree.specs.declared.rule.RuleCode.TheVariants.{R5, R10}
use Rattle.tht_tree.specs.Rules.Refusals.{needs}
use Rattle.tht_tree.specs.Rules.Known.{Declared, hyp_named, with_hyp, hyp_fits}
use Rattle.proof_laws.specs.Scoped.{InScope, Signatures, is_new, behind}
use Rattle.tht_tree.specs.Rules.Proofs.{Prover, proves, proves_with, makes}
use Rattle.tht_tree.specs.Satisfaction.{HypsHold}
use Rattle.proof_laws.specs.Satisfied.{Satisfies}
use Rattle.proof_laws.proofs.Refusing.{nothing, seq_none, needs_none, both_true}
use Rattle.proof_laws.proofs.TermSorts.{some, VariablesFit, variable_at, same_sorts, hyp_same}
use Rattle.proof_laws.proofs.Truth.{Holds}

pub none_there : {A : Type 0} (o : Option A) → is_none o ≡ true → o ≡ None
none_there None e = refl
none_there (Some x) e = cc

module _ (roots : Names) (env : Env) where
  pub hyps_with : (hs : List Hyp) (n : List ℕ) (u : Term) → HypsHold roots env hs → Holds roots env u → HypsHold roots env (hs ++ (record { name = n; formula = u }) ∷ [])
  hyps_with [] n u all true_u = (true_u, tt)
  hyps_with (h ∷ hs) n u all true_u = (all.0, hyps_with hs n u all.1 true_u)

  pub named_holds : (n : List ℕ) (hs : List Hyp) (u : Term) → HypsHold roots env hs → hyp_named n hs ≡ Some u → Holds roots env u
  named_holds n [] u all e = cc
  named_holds n (h ∷ hs) u all e = by (bytes_eq n h.name) (named_holds n hs u all.1) e
    where
      formula_is : Some h.formula ≡ Some u → h.formula ≡ u
      formula_is g = cc

      by : (c : Bool) → (hyp_named n hs ≡ Some u → Holds roots env u) → cond c (Some h.formula) (hyp_named n hs) ≡ Some u → Holds roots env u
      by true rest g = ap (value roots env) (sym (formula_is g)) ∙ all.0
      by false rest g = rest g

module _ (known : Declared) (fits : Signatures) (env : Env) (heap : Heap) where
  abbrev pub Sat : Context → Type 0
  Sat c = Satisfies known.roots env c heap

  -- the variables fit where what is known is satisfied
  pub variables_fit : (c : Context) → Sat c → VariablesFit known.roots env c.scope
  variables_fit c sat x s e = let l = variable_at (c.scope x) s e in (sat.sorts x s l, sat.names x s l)

  -- the term is a formula where this is known; the formula is true
  abbrev pub Formula : Context → Term → Type 0
  Formula c u = sort_of known.roots c.scope u ≡ some sort.Bool

  abbrev pub Valid : Term → Type 0
  Valid = Holds known.roots env

  -- what this proof proves is true, where its names and sorts are in order
  abbrev pub IsSound : Prover → InScope → Type 0
  IsSound q s = (c : Context) → Sat c → s c.scope ≡ true → (goal : Term) → Formula c goal → q c goal ≡ nothing → Valid goal

  pub proves_sound : (q : Prover) (s : InScope) → IsSound q s → (spot : Spot) → IsSound (proves spot q) s
  proves_sound q s sound spot c sat order goal sorted e = sound c sat order goal sorted (seq_none (needs spot R10 (formula_fits goal)) (q c goal) e).1

  pub with_sound : (q : Prover) (s : InScope) → IsSound q s → (spot : Spot) (n : List ℕ) (u : Term) → Valid u →
      (c : Context) → Sat c → behind known.roots fits c.scope n s ≡ true → (goal : Term) → Formula c goal → proves_with spot n u q c goal ≡ nothing → Valid goal
  with_sound q s sound spot n u holds c sat order goal sorted e =
      let parts = both_true (is_new known.roots fits c.scope n) (s (with_local c.scope n Hypothesis)) order in
      let new = none_there (c.scope n) (both_true (is_none (c.scope n)) (is_none (position 0 known.roots n)) parts.0).0 in
      let same = hyp_same c.scope n new in
      let still : (x : List ℕ) (r : Sort) → with_local c.scope n Hypothesis x ≡ Some (Variable r) → c.scope x ≡ Some (Variable r) = λ x r g. variable_at (c.scope x) r (sym (same x) ∙ ap variable_sort g) in
      sound (with_hyp c n u)
      (record { sorts = λ x r g. sat.sorts x r (still x r g); names = λ x r g. sat.names x r (still x r g); hyps = hyps_with known.roots env c.hyps n u sat.hyps holds; cells = sat.cells })
      parts.1 goal (same_sorts known.roots (with_local c.scope n Hypothesis) c.scope same goal ∙ sorted)
      (seq_none (needs spot R10 (hyp_fits c n u)) (q (with_hyp c n u) goal) e).1

  pub makes_says : (spot : Spot) (u goal : Term) → makes spot u goal ≡ nothing → u ≡ goal
  makes_says spot u goal e = same_of-true u goal (needs_none spot R5 (same_of u goal) (seq_none (needs spot R10 (formula_fits u)) (needs spot R5 (same_of u goal)) e).1)
