-- The laws of steps, `alloc`, gives and returns in a file without roots and `on`, where no lemma can be used.
use Rattle.std.proofs.Common.{◌≡◌, ℕ, Bool, true, false, cond, List, [], Option, Some, None, refl, sym, ◌∙◌, ap, subst}
use Rattle.std.proofs.Math.Path.{transport}
use Rattle.std.specs.Prelude.{bytes_eq, if◌then◌else◌}
use Rattle.tht_tree.specs.declared.plain.Sort.{Sort}
use Rattle.tht_tree.specs.declared.plain.Sort.TheVariants as sort
use Rattle.tht_tree.specs.declared.file.Source1.{Source1}
use Rattle.tht_tree.specs.declared.state.Local.{Local}
use Rattle.tht_tree.specs.declared.state.Local.TheVariants.{Variable, Hypothesis}
use Rattle.tht_tree.specs.declared.walk.Class.TheVariants as class
use Rattle.tht_tree.specs.Values.{Val, Env, bind}
use Rattle.tht_tree.specs.Syntax.{Names, position, root_or_free}
use Rattle.tht_logic.specs.Programs.{root_names}
use Rattle.tht_tree.specs.Terms.{value_of, value}
use Rattle.tht_tree.specs.Heaps.{Heap}
use Rattle.tht_tree.specs.Rules.Context.{Scope, Context, with_local}
use Rattle.tht_tree.specs.Rules.Scoping.{variable_sort, name_sort}
use Rattle.tht_tree.specs.Walk.Names as walk
use Rattle.tht_tree.specs.Walk.Names.{new_name, with_result}
use Rattle.tht_tree.specs.Walk.Files.{has_invariant, at_start, after_decls, decls, main}
use Rattle.tht_tree.proofs.SameTerm.{bytes_eq-true}
use Rattle.tht_tree.proofs.TermValues.{Extends}
use Rattle.proof_laws.specs.Walked.{MatchesAt, Matches}
use Rattle.proof_laws.proofs.WalkedProofs.{walked_proofs_are_scoped}
use Rattle.proof_laws.proofs.WalkedTerms.{no_walk_code}
use Rattle.tht_logic.specs.Rules.Definitions.{Declarations}
use Rattle.tht_logic.specs.Rules.Scoped.{HideNoRoot, instance_fits}
use Rattle.tht_logic.specs.Rules.Scoped as scoped
use Rattle.assn_laws.specs.AssertionLaws.{Holds}
use Rattle.assn_laws.specs.Laws.{AgreeButOnNew, IsModel, Premises}
use Rattle.assn_laws.specs.Walked.{Knows, scope_after, WalkedIsInOrder, any_fits}
use Rattle.tht_logic.specs.Meanings.{meaning_in}
use Rattle.assn_laws.specs.FileLaws.{MainBegins, StillThere, SameValues, IsReady, proof_in, FileStepsAreSound, FileAllocsAreSound, FileGivesAreSound, FileReturnsAreSound}
use Rattle.assn_laws.proofs.GivesLaw.{gives_are_sound}
use Rattle.assn_laws.proofs.StepSound.{steps_are_sound}
use Rattle.assn_laws.proofs.ReturnLaw.{returns_are_sound}
use Rattle.assn_laws.proofs.AllocLaw.{alloc_scope, allocs_are_sound}
use Rattle.assn_laws.proofs.Extending.{kept_in_order}
use Rattle.assn_laws.proofs.Fitting.{instance_sorted, instance_by_sorts}
use Rattle.assn_laws.proofs.ByNames.{Same, same_heaps}
use Rattle.assn_laws.proofs.KnownNames.{IsKnown, free_told}
use Rattle.assn_laws.proofs.Refusing.{behind_none}
use Rattle.assn_laws.proofs.WalkedNames.{unknown, is_new, term_walked, walked_instances_fit}
use Rattle.assn_laws.proofs.WalkedPrograms.{walked_programs_are_storable}
use Rattle.assn_laws.proofs.WalkedAssns.{walked_assertions_are_in_order}
use Rattle.assn_laws.proofs.WalkedGives.{walked_gives_are_in_order}
use Rattle.assn_laws.proofs.WalkedSteps.{walked_steps_are_in_order, walked_steps_match}
use Rattle.assn_laws.proofs.DefinedByEarlier.{all_reached}
use Rattle.assn_laws.proofs.KnownDecls.{procs_declared}
use Rattle.assn_laws.proofs.SimpleFiles.{simple_files_have_premises}
use Rattle.assn_laws.proofs.Scopes.{steps_make_scopes, gives_keep_scopes, steps_keep_predicates, knows_with}

-- What stands before main.
pub main_begins : MainBegins
main_begins file sorted simple =
    let reached = all_reached (root_names file) (has_invariant file.decls) file.decls at_start (λ q. None) simple (record { matches = λ x. (refl, refl); knows = λ q. tt; no_other = λ q e. refl })
    (behind_none (decls (has_invariant file.decls) file.decls at_start) (main file.main (after_decls file.decls at_start)) sorted).0 in
    (reached.matches, reached.knows, procs_declared file.decls at_start (λ f. None) (λ f. tt))

-- proofs, gives and steps are in order where the walk refuses nothing
pub in_order : (decl : Declarations) (names : walk.Scope) (scope : Scope) → Matches decl.proofs.roots names scope → Knows decl.predicates names
    → WalkedIsInOrder decl.proofs.roots (instance_fits decl) any_fits (proof_in decl) names scope
in_order decl names scope m k = record {
  matches = m;
  proofs = λ q e. walked_proofs_are_scoped decl.proofs.roots any_fits (λ ns sc n l ts f. refl) q names scope m e;
  instances = λ q ts e. walked_instances_fit decl.proofs.roots decl.predicates names scope m k q ts e;
  lemmas = λ l ts e. refl;
}

-- what the rules stand on
pub premises : (file : Source1) (decl : Declarations) → IsReady file decl → (c : Context) (env : Env) (h : Heap) → IsModel decl (proof_in decl) (instance_fits decl) any_fits (meaning_in file) c env h
    → Premises decl (proof_in decl) (instance_fits decl) any_fits (meaning_in file) c env
premises file decl r = simple_files_have_premises file decl r.sorted r.simple r.declares r.lemmas

-- what agrees but on new names gives a variable that was there the value that it had
agreeing : (old next : Scope) (env new : Env) → AgreeButOnNew old next env new → SameValues old env new
agreeing old next env new agree y s f = agree y (λ e. let never : None ≡ Some (Variable s) = sym e ∙ f in cc)

-- The law of steps.
pub file_steps_are_sound : FileStepsAreSound
file_steps_are_sound file decl r names c next env h is x e ok =
    let scope : next.scope ≡ scope_after x.kind c.scope = steps_make_scopes decl c next x ok in
    let order = walked_steps_are_in_order decl.proofs.roots (instance_fits decl) any_fits (proof_in decl) names c.scope (in_order decl names c.scope is.matches is.knows) x e in
    let s = steps_are_sound decl (proof_in decl) (instance_fits decl) any_fits (meaning_in file) c next env h (premises file decl r c env h is.state) is.state x order ok in (
      s.0,
      agreeing c.scope next.scope env s.0 s.1,
      record {
        matches = subst (Matches decl.proofs.roots _) (sym scope) (walked_steps_match decl.proofs.roots names c.scope is.matches x e);
        knows = steps_keep_predicates decl.predicates names x.kind is.knows;
        state = s.2;
      },
    )

-- The law of gives.
pub file_gives_are_sound : FileGivesAreSound
file_gives_are_sound file decl r names c next env h is x goal e f ok =
    let roots : Names = decl.proofs.roots in
    let order = walked_gives_are_in_order roots (instance_fits decl) any_fits (proof_in decl) names c.scope (in_order decl names c.scope is.matches is.knows) x e in
    let goes = walked_assertions_are_in_order roots decl.predicates names c.scope is.matches is.knows goal f in
    let s = gives_are_sound decl (proof_in decl) (instance_fits decl) any_fits (meaning_in file) c next env h (premises file decl r c env h is.state) is.state x goal order goes ok in (
      s.0,
      s.1,
      s.2,
      s.3,
      record { matches = subst (Matches roots names) (sym (gives_keep_scopes decl c next x goal ok)) is.matches; knows = is.knows; state = s.4 },
    )

-- ---- returns

module _ (roots : Names) (x : List ℕ) (s : Sort) where
  pub result_matches : (names : walk.Scope) (scope : Scope) → Matches roots names scope → new_name names x ≡ no_walk_code → Matches roots (with_result names x s) (with_local scope x (Variable s))
  result_matches names scope m e y = pick (bytes_eq x y) refl
    where
      pick : (b : Bool) → bytes_eq x y ≡ b → MatchesAt (cond b (Some (class.Program s)) (names y)) (cond b (Some (Variable s)) (scope y)) (position 0 roots y)
      pick true g = (refl, ap (position 0 roots) (sym (bytes_eq-true x y g)) ∙ (unknown roots names scope m x e).1)
      pick false g = m y

  still_behind : (old new : Scope) → StillThere old new → Extends (with_local old x (Variable s)) (with_local new x (Variable s))
  still_behind old new f y r e = pick (bytes_eq x y) e
    where
      pick : (b : Bool) → (if b then Some (Variable s) else old y) ≡ Some (Variable r) → (if b then Some (Variable s) else new y) ≡ Some (Variable r)
      pick true k = k
      pick false k = f y r k

  apart_behind : (scope : Scope) → position 0 roots x ≡ None → HideNoRoot roots scope → HideNoRoot roots (with_local scope x (Variable s))
  apart_behind scope other apart y r e = pick (bytes_eq x y) refl
    where
      pick : (b : Bool) → bytes_eq x y ≡ b → variable_sort (if b then Some (Variable s) else scope y) ≡ None
      pick true g = let both : None ≡ Some r = sym other ∙ ap (position 0 roots) (bytes_eq-true x y g) ∙ e in cc
      pick false g = apart y r e

-- The law of `alloc`.
pub file_allocs_are_sound : FileAllocsAreSound
file_allocs_are_sound file decl r names c next env h is spot x ts new walked ok b i free =
    let roots : Names = decl.proofs.roots in
    let scope : next.scope ≡ with_local c.scope x (Variable sort.Loc) = alloc_scope spot c next x ts ok in
    record {
      matches = subst (Matches roots (with_result names x sort.Loc)) (sym scope) (result_matches roots x sort.Loc names c.scope is.matches new);
      knows = knows_with decl.predicates names x (class.Program sort.Loc) (λ o. tt) is.knows;
      state = allocs_are_sound decl (proof_in decl) (instance_fits decl) any_fits (meaning_in file) (premises file decl r c env h is.state).typed c next env h is.state spot x ts
          (is_new roots names c.scope is.matches x new) (walked_programs_are_storable roots names c.scope is.matches ts walked) ok b i free;
    }

inside_some : (a b : Sort) → Some a ≡ Some b → a ≡ b
inside_some a b f = cc

-- what stands behind the result looks at the first variables alone
module _ (roots : Names) (r : List ℕ) (s : Sort) (start : Scope) (old env : Env) (same : SameValues start old env) (v : Val) where
  a_variable : (o : Option Local) (z : Sort) → variable_sort o ≡ Some z → o ≡ Some (Variable z)
  a_variable (Some (Variable q)) z e = ap (λ k. Some (Variable k)) (inside_some q z e)
  a_variable (Some Hypothesis) z e = cc
  a_variable None z e = cc

  same_names : Same roots roots (IsKnown roots (with_local start r (Variable s))) (bind env r v) (bind old r v) [] [] [] []
  same_names y k = of_root (position 0 roots y) refl
    where
      of_first : (o : Option Sort) → variable_sort (start y) ≡ o → (z : Sort) → name_sort o None ≡ Some z → env y ≡ old y
      of_first (Some q) e z f = same y q (a_variable (start y) q e)
      of_first None e z f = cc

      of_free : (b : Bool) → (z : Sort) × (name_sort (variable_sort (if b then Some (Variable s) else start y)) None ≡ Some z) → (if b then v else env y) ≡ (if b then v else old y)
      of_free true q = refl
      of_free false q = of_first (variable_sort (start y)) refl q.0 q.1

      of_root : (o : Option ℕ) → position 0 roots y ≡ o → value_of (bind env r v) [] (root_or_free y o) ≡ value_of (bind old r v) [] (root_or_free y o)
      of_root (Some j) e = refl
      of_root None e = of_free (bytes_eq r y) (k.0, sym (ap (name_sort (variable_sort (with_local start r (Variable s) y))) e) ∙ k.1)

-- The law of returns.
pub file_returns_are_sound : FileReturnsAreSound
file_returns_are_sound file decl r names c env h is first start old_env m k there same spot t x post e sorted new walked ok =
    let roots : Names = decl.proofs.roots in
    let order = walked_gives_are_in_order roots (instance_fits decl) any_fits (proof_in decl) names c.scope (in_order decl names c.scope is.matches is.knows) x e in
    let other : position 0 roots post.result ≡ None = (unknown roots first start m post.result new).1 in
    let old : Scope = with_local start post.result (Variable post.sort) in
    let now : Scope = with_local c.scope post.result (Variable post.sort) in
    let ins : scoped.assn roots (instance_fits decl) post.assn old ≡ true
    = walked_assertions_are_in_order roots decl.predicates (with_result first post.result post.sort) old (result_matches roots post.result post.sort first start m new)
    (knows_with decl.predicates first post.result (class.Program post.sort) (λ o. tt) k) post.assn walked in
    let here : scoped.assn roots (instance_fits decl) post.assn now ≡ true
    = kept_in_order roots (instance_fits decl) (instance_by_sorts decl) post.assn old now (apart_behind roots post.result post.sort c.scope other is.state.formed.no_root_hidden)
    (still_behind roots post.result post.sort start c.scope there) ins in
    let holds : Holds (meaning_in file) roots (bind env post.result (value roots env t)) post.assn h
    = returns_are_sound decl (proof_in decl) (instance_fits decl) any_fits (meaning_in file) c env h (premises file decl r c env h is.state) is.state spot t x post order
    (term_walked roots names c.scope is.matches post.sort t sorted) here other ok in
    let known = free_told roots (instance_fits decl) (IsKnown roots old) (instance_sorted decl) post.assn old [] (λ y f q. q) ins in
    transport
    (λ i. same_heaps roots roots (IsKnown roots old) (bind env post.result (value roots env t)) (bind old_env post.result (value roots env t)) (meaning_in file) post.assn [] [] [] []
    (same_names roots post.result post.sort start old_env env same (value roots env t)) known i h) holds
