-- What is in scope after steps and gives, and before main.
use Rattle.std.proofs.Common.{◌≡◌, ℕ, Bool, true, false, cond, List, [], ◌∷◌, Option, Some, None, Ok, refl, sym, ◌∙◌, ap}
use Rattle.std.specs.Prelude.{bytes_eq, option_and_then}
use Rattle.tht_tree.specs.declared.plain.Spot.{Spot}
use Rattle.tht_tree.specs.declared.term.Term.{Term}
use Rattle.tht_tree.specs.declared.term.Term.TheVariants as t
use Rattle.tht_tree.specs.declared.assn.Assn.{Assn, out-Assn}
use Rattle.tht_tree.specs.declared.assn.Assn.TheVariants as a
use Rattle.tht_tree.specs.declared.assn.Assn.TheOpen.{Assn-F}
use Rattle.tht_tree.specs.declared.give.Give.{Give}
use Rattle.tht_tree.specs.declared.step.StepKind.{StepKind}
use Rattle.tht_tree.specs.declared.step.StepKind.TheVariants as s
use Rattle.tht_tree.specs.declared.rule.RuleCode.TheVariants.{R1, R2, R10, R12}
use Rattle.tht_tree.specs.declared.state.Local.TheVariants.{Variable, Hypothesis}
use Rattle.tht_tree.specs.declared.walk.Class.{Class}
use Rattle.tht_tree.specs.declared.walk.Class.TheVariants as class
use Rattle.tht_tree.specs.Syntax.{Names}
use Rattle.tht_tree.specs.Rules.Sizes.{formula_fits, assn_fits}
use Rattle.tht_tree.specs.Rules.Context.{Context, Scope, with_local, atom_at, with_atom, context_fits}
use Rattle.tht_tree.specs.Rules.Known.{with_hyp}
use Rattle.tht_tree.specs.Rules.Proofs.{prove, proves}
use Rattle.tht_tree.specs.Walk.Names as walk
use Rattle.tht_tree.specs.Walk.Codes.{first}
use Rattle.tht_tree.specs.Walk.Names.{with_name, new_name}
use Rattle.tht_tree.specs.Walk.Terms.{formula}
use Rattle.tht_tree.specs.Walk.Proofs as in_proofs
use Rattle.tht_tree.specs.Walk.Steps as steps
use Rattle.tht_tree.proofs.SameTerm.{bytes_eq-true}
use Rattle.proof_laws.specs.Walked.{Matches}
use Rattle.proof_laws.proofs.WalkedTerms.{first_none}
use Rattle.tht_logic.specs.Putting.{put_assn_within}
use Rattle.tht_logic.specs.Flatten.{flatten, with_assn}
use Rattle.tht_logic.specs.Rules.Checking.{Checked, on_some, on_ok, on_true, put_or_refused}
use Rattle.tht_logic.specs.Rules.Definitions.{Lemma, Declarations, arguments, defined}
use Rattle.tht_logic.specs.Rules.Gives.{fact_at, existential_at, instance_at, frame_of, after_give}
use Rattle.tht_logic.specs.Rules.Parts.{Part, part_at}
use Rattle.tht_logic.specs.Rules.Steps.{of_sort, on_atom, without, if_equal_by, after_lemma, after_step_kind}
use Rattle.tht_logic.specs.Rules.Checking.{if_fits}
use Rattle.tht_logic.specs.Rules.Scoped.{Table}
use Rattle.assn_laws.specs.Walked.{KnowsAt, Knows, scope_after}
use Rattle.assn_laws.specs.FileLaws.{StepsMakeScopes, GivesKeepScopes, StepsKeepPredicates, StillThere, NewNamesOnlyAdd, StepsOnlyAdd}
use Rattle.assn_laws.proofs.Answers.{IsOk, ok_same, from_some, from_ok, from_unless, from_true}
use Rattle.assn_laws.proofs.AddedAtoms.{added_scope}
use Rattle.assn_laws.proofs.Refusing.{nothing, construct_none}
use Rattle.assn_laws.proofs.WalkedNames.{unknown}

-- ---- the rules

pub from_fits : (spot : Spot) (k next : Context) → IsOk (if_fits spot k) next → k ≡ next
from_fits spot k next e = ok_same k next (from_true spot R10 (context_fits k) (Ok k) next e).1

-- A give leaves its scope.
pub gives_keep_scopes : GivesKeepScopes
gives_keep_scopes decl c next x goal e =
    let w = from_ok (frame_of decl c x c.atoms goal) (λ left. Ok (record c { atoms = left })) next e in
    sym (ap (λ k. k.scope) (ok_same (record c { atoms = w.0 }) next w.2))

module _ (decl : Declarations) (spot : Spot) (c next : Context) where
  -- what fits has the scope that it had
  fits : (k : Context) → IsOk (if_fits spot k) next → next.scope ≡ k.scope
  fits k e = sym (ap (λ z. z.scope) (from_fits spot k next e))

  -- atoms of an assertion change no scope
  fits_with : (d : Assn) (k : Context) → IsOk (if_fits spot (with_assn d k)) next → next.scope ≡ k.scope
  fits_with d k e = fits (with_assn d k) e ∙ added_scope decl.proofs.roots (λ scope q ts. true) (flatten d) k

  at_atom : {A : Type 0} (i : ℕ) (shape : Assn-F Assn → Option A) (go : A → Checked Context) → IsOk (on_atom decl spot c i shape go) next → (z : A) × IsOk (go z) next
  at_atom i shape go e =
      let r = from_some spot R1 (atom_at i c.atoms) (λ p. on_some spot R2 (shape (out-Assn p)) go) next e in
      let w = from_some spot R2 (shape (out-Assn r.0)) go next r.2 in
      (w.0, w.2)

  lemma_scope : (us : List Term) (x : Give) (y : Lemma) → IsOk (after_lemma decl spot c us x y) next → next.scope ≡ c.scope
  lemma_scope us x y e =
      let post = put_or_refused spot (put_assn_within (arguments y.params us) y.post) in
      let w = from_ok (put_or_refused spot (put_assn_within (arguments y.params us) y.pre)) (λ p. on_ok (after_give decl c x p) (λ k. on_ok post (λ z. if_fits spot (with_assn z k)))) next e in
      let v = from_ok (after_give decl c x w.0) (λ k. on_ok post (λ z. if_fits spot (with_assn z k))) next w.2 in
      let u = from_ok post (λ z. if_fits spot (with_assn z v.0)) next v.2 in
      fits_with u.0 v.0 u.2 ∙ gives_keep_scopes decl c v.0 x w.0 v.1

  kind_scope : (x : StepKind) → IsOk (after_step_kind decl spot c x) next → next.scope ≡ scope_after x c.scope
  kind_scope (s.Have h u q) e = fits (with_hyp c h u) (from_unless (proves spot (prove decl.proofs q) c u) (if_fits spot (with_hyp c h u)) next e).1
  kind_scope (s.OpenVar i x r) e =
      let k : Context = record (without decl spot c i) { scope = with_local c.scope x (Variable r) } in
      let last : Assn → Checked Context = λ q. if_fits spot (with_assn q k) in
      let z = at_atom i (λ p. option_and_then (of_sort r) (existential_at p)) (λ p. on_ok (put_or_refused spot (put_assn_within ((p.name, t.Var x) ∷ []) p.body)) last) e in
      let w = from_ok (put_or_refused spot (put_assn_within ((z.0.name, t.Var x) ∷ []) z.0.body)) last next z.1 in
      fits_with w.0 k w.2
  kind_scope (s.OpenFact i h) e =
      let last : Term → Checked Context = λ u. if_fits spot (with_hyp (without decl spot c i) h u) in
      let z = at_atom i fact_at (λ u. on_true spot R10 (formula_fits u) (last u)) e in
      fits (with_hyp (without decl spot c i) h z.0) (from_true spot R10 (formula_fits z.0) (last z.0) next z.1).1
  kind_scope (s.Unfold i) e =
      let z = at_atom i instance_at (λ p. on_ok (defined decl spot p.0 p.1) (λ d. if_fits spot (with_assn d (without decl spot c i)))) e in
      let w = from_ok (defined decl spot z.0.0 z.0.1) (λ d. if_fits spot (with_assn d (without decl spot c i))) next z.1 in
      fits_with w.0 (without decl spot c i) w.2
  kind_scope (s.Fold n us x) e =
      let last : Context → Checked Context = λ k. on_true spot R10 (assn_fits (a.Inst n us)) (if_fits spot (with_assn (a.Inst n us) k)) in
      let w = from_ok (defined decl spot n us) (λ d. on_ok (after_give decl c x d) last) next e in
      let v = from_ok (after_give decl c x w.0) last next w.2 in
      let u = from_true spot R10 (assn_fits (a.Inst n us)) (if_fits spot (with_assn (a.Inst n us) v.0)) next v.2 in
      fits_with (a.Inst n us) v.0 u.1 ∙ gives_keep_scopes decl c v.0 x w.0 v.1
  kind_scope (s.Rewrite i k u q) e =
      let changed : Part → Checked Context = λ part. if_fits spot (record c { atoms = with_atom i (part.with u) c.atoms }) in
      let z = at_atom i (part_at k) (λ part. if_equal_by decl spot c u q part (changed part)) e in
      fits (record c { atoms = with_atom i (z.0.with u) c.atoms }) (from_unless _ (changed z.0) next z.1).1
  kind_scope (s.Use l us x) e = let w = from_some spot R12 (decl.lemmas l) (after_lemma decl spot c us x) next e in lemma_scope us x w.0 w.2

-- What is in scope after a step.
pub steps_make_scopes : StepsMakeScopes
steps_make_scopes decl c next x e = kind_scope decl x.spot c next x.kind e

-- ---- the walk

-- a variable or a hypothesis hides no predicate
pub knows_with : (known : Table) (names : walk.Scope) (x : List ℕ) (k : Class) → ((o : _) → KnowsAt (Some k) o) → Knows known names → Knows known (with_name names x k)
knows_with known names x k f knows y = pick (bytes_eq x y)
  where
    pick : (b : Bool) → KnowsAt (cond b (Some k) (names y)) (known y)
    pick true = f (known y)
    pick false = knows y

-- No step hides a predicate.
pub steps_keep_predicates : StepsKeepPredicates
steps_keep_predicates known names (s.Have h u q) knows = knows_with known names h class.Hypothesis (λ o. tt) knows
steps_keep_predicates known names (s.OpenVar i x r) knows = knows_with known names x (class.Logic r) (λ o. tt) knows
steps_keep_predicates known names (s.OpenFact i h) knows = knows_with known names h class.Hypothesis (λ o. tt) knows
steps_keep_predicates known names (s.Unfold i) knows = knows
steps_keep_predicates known names (s.Fold n us x) knows = knows
steps_keep_predicates known names (s.Rewrite i k u q) knows = knows
steps_keep_predicates known names (s.Use l us x) knows = knows

-- New names only add.
pub new_names_only_add : NewNamesOnlyAdd
new_names_only_add roots names scope m x k e y s f = pick (bytes_eq x y) refl
  where
    pick : (b : Bool) → bytes_eq x y ≡ b → cond b (Some k) (scope y) ≡ Some (Variable s)
    pick true g = let both : None ≡ Some (Variable s) = sym (unknown roots names scope m x e).0 ∙ ap scope (bytes_eq-true x y g) ∙ f in cc
    pick false g = f

module _ (roots : Names) (names : walk.Scope) (scope : Scope) (m : Matches roots names scope) where
  only_adds : (x : StepKind) (spot : Spot) → steps.step_kind x spot names ≡ nothing → StillThere scope (scope_after x scope)
  only_adds (s.Have h u q) spot e =
      let parts = construct_none spot (first (new_name names h) (formula names u)) (in_proofs.proof q names) e in
      new_names_only_add roots names scope m h Hypothesis (first_none (new_name names h) (formula names u) parts.0).0
  only_adds (s.OpenVar i x r) spot e = new_names_only_add roots names scope m x (Variable r) (construct_none spot (new_name names x) nothing e).0
  only_adds (s.OpenFact i h) spot e = new_names_only_add roots names scope m h Hypothesis (construct_none spot (new_name names h) nothing e).0
  only_adds (s.Unfold i) spot e = λ y r f. f
  only_adds (s.Fold n us x) spot e = λ y r f. f
  only_adds (s.Rewrite i k u q) spot e = λ y r f. f
  only_adds (s.Use l us x) spot e = λ y r f. f

-- Steps only add.
pub steps_only_add : StepsOnlyAdd
steps_only_add roots names scope m x e = only_adds roots names scope m x.kind x.spot e
