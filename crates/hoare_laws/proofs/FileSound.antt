-- An accepted file is sound: each proc meets its head for every number of steps, and main's body keeps to its postcondition.
use Rattle.std.proofs.Common.{◌≡◌, ℕ, zero, suc, ◌<◌, ◌≤◌, Bool, true, false, ◌&&◌, List, [], ◌∷◌, ◌++◌, map, Option, Some, None, Ok, refl, sym, ◌∙◌, ap, subst, arith}
use Rattle.std.specs.Prelude.{option_map, reverse}
use Rattle.std.specs.List.{list_all}
use Rattle.std.specs.List.Sorted.{IsStrictlySortedBy}
use Rattle.std.proofs.lemmas.List.Elements.{All-cons, All-nil}
use Rattle.tht_tree.specs.declared.body.Body.{Body}
use Rattle.tht_tree.specs.declared.decl.Decl.{Decl}
use Rattle.tht_tree.specs.declared.decl.DeclKind.{DeclKind}
use Rattle.tht_tree.specs.declared.decl.DeclKind.TheVariants as d
use Rattle.tht_tree.specs.declared.decl.Head.{Head}
use Rattle.tht_tree.specs.declared.file.Source1.{Source1}
use Rattle.tht_tree.specs.declared.plain.Spot.{Spot}
use Rattle.tht_tree.specs.declared.plain.Sort.{Sort}
use Rattle.tht_tree.specs.declared.rule.RuleCode.TheVariants.{R10}
use Rattle.tht_tree.specs.declared.rule.RuleRefusal.{RuleRefusal}
use Rattle.tht_tree.specs.declared.state.Local.TheVariants.{Variable}
use Rattle.tht_tree.specs.declared.walk.Class.TheVariants as class
use Rattle.tht_tree.specs.declared.walk.Where.TheVariants.{Outside}
use Rattle.tht_tree.specs.Values.{Env, is}
use Rattle.tht_tree.specs.Syntax.{Names, position}
use Rattle.tht_tree.specs.Heaps.{Heap, nothing}
use Rattle.tht_tree.specs.Satisfaction.{HasSorts}
use Rattle.tht_tree.specs.Rules.Context.{Context, Scope, no_locals, no_context}
use Rattle.tht_tree.specs.Rules.Refusals.{in_order, ◌▸◌}
use Rattle.tht_tree.specs.Rules.Sizes.{assn_fits}
use Rattle.tht_tree.specs.Walk.Codes.{first}
use Rattle.tht_tree.specs.Walk.Names as walk
use Rattle.tht_tree.specs.Walk.Names.{new_name, with_result}
use Rattle.tht_tree.specs.Walk.Kinds.{private_only}
use Rattle.tht_tree.specs.Walk.Terms.{storable}
use Rattle.tht_tree.specs.Walk.Bodies.{frame, new_result, private_box, result_box, body}
use Rattle.tht_tree.specs.Walk.Files.{has_invariant, at_start, after_decls, decls, main}
use Rattle.proof_laws.specs.Walked.{MatchesAt, Matches}
use Rattle.proof_laws.proofs.WalkedTerms.{first_none}
use Rattle.tht_logic.specs.Assertions.{asn}
use Rattle.tht_logic.specs.Built as built
use Rattle.tht_logic.specs.Triples.{arguments_in, Meets, ProcsMeet}
use Rattle.tht_logic.specs.Procedures.{Procedure, procedures_of, bound_names, body_with, bodies_in, main_post, head_post}
use Rattle.tht_logic.specs.Flatten.{with_assn}
use Rattle.tht_logic.specs.Machine.{no_env, Leaf}
use Rattle.tht_logic.specs.Meanings.{meaning_in}
use Rattle.tht_logic.specs.Programs.{root_names}
use Rattle.tht_logic.specs.Satisfaction.{Satisfies, SatisfiesState}
use Rattle.tht_logic.specs.Soundness.{Keeps, IsSound, no_invariant, post_of}
use Rattle.tht_logic.specs.Rules.Checking.{Checked, on_true, if_fits, and_then}
use Rattle.tht_logic.specs.Rules.Bodies.{body_refused}
use Rattle.tht_logic.specs.Rules.Definitions.{head_scope}
use Rattle.tht_logic.specs.Rules.Files as files
use Rattle.tht_logic.specs.Rules.Files.{declared_in, decl_refused, first_rule_refusal, IsAccepted}
use Rattle.tht_logic.specs.Rules.Formed.{IsFormed}
use Rattle.tht_logic.specs.Rules.Scoped.{HideNoRoot, instance_fits}
use Rattle.tht_logic.proofs.HeapLaws.{beside_nothing}
use Rattle.tht_logic.proofs.Runs.{keeps_is_sound}
use Rattle.assn_laws.specs.ControlLaws.{HeadIsInOrder}
use Rattle.assn_laws.specs.Laws.{IsModel}
use Rattle.assn_laws.specs.Walked.{is_simple, AreSimple, any_fits}
use Rattle.assn_laws.specs.FileLaws.{IsReady, IsIn, proof_in, Stands, ProcBegins, names_in_proc}
use Rattle.assn_laws.proofs.Answers.{from_true}
use Rattle.assn_laws.proofs.FileLaw.{main_begins, premises}
use Rattle.assn_laws.proofs.KnownDecls.{procedures_stand, declarations_begin}
use Rattle.assn_laws.proofs.Refusing as walked
use Rattle.assn_laws.proofs.Scopes.{from_fits}
use Rattle.assn_laws.proofs.StateAfter.{added_at}
use Rattle.assn_laws.proofs.WalkedAssns.{walked_assertions_are_in_order}
use Rattle.assn_laws.proofs.WalkedHeads.{procs_begin, procs_are_in_order, no_root_is_hidden}
use Rattle.hoare_laws.specs.Laws.{ProcsInOrder, IsInOrder, AcceptedIsSound}
use Rattle.hoare_laws.proofs.BodyLaw.{control, bodies_are_sound}
use Rattle.hoare_laws.proofs.BodySound.{bodies_sound}
use Rattle.hoare_laws.proofs.DoSound.{meet_fewer}
use Rattle.hoare_laws.proofs.EndSound.{then_none, and_then_none}
use Rattle.hoare_laws.proofs.FileControl.{fitting_scope}
use Rattle.hoare_laws.proofs.Growing.{same_scope}
use Rattle.hoare_laws.proofs.ParamValues.{params_begin}
use Rattle.hoare_laws.proofs.Places.{Setting, Aim, IsAt}

both_true : (a b : Bool) → (a && b) ≡ true → (a ≡ true) × (b ≡ true)
both_true true b e = (refl, e)
both_true false b e = cc

-- a declaration that is built is neither a root nor by cases
simple_kind : (k : DeclKind) → built.decl k ≡ true → is_simple k ≡ true
simple_kind (d.Root x r v) e = cc
simple_kind (d.PredOn who q ps x nil n t cons) e = cc
simple_kind _ e = refl

pub simple_decls : (xs : List Decl) → list_all (λ x. built.decl x.kind) xs ≡ true → AreSimple xs
simple_decls [] e = All-nil (λ x. is_simple x.kind ≡ true)
simple_decls (x ∷ xs) e =
    let parts = both_true (built.decl x.kind) (list_all (λ y. built.decl y.kind) xs) e in
    All-cons (λ y. is_simple y.kind ≡ true) x xs (simple_kind x.kind parts.0) (simple_decls xs parts.1)

-- what is refused nowhere in a list is refused at none of its members
refused_nowhere : (g : Decl → Option RuleRefusal) (before : List Decl) (z : Decl) (after : List Decl) → in_order (map g (before ++ z ∷ after)) ≡ None → g z ≡ None
refused_nowhere g [] z after e = (then_none (g z) (in_order (map g after)) e).0
refused_nowhere g (x ∷ xs) z after e = refused_nowhere g xs z after (then_none (g x) (in_order (map g (xs ++ z ∷ after))) e).1

-- a head in a table is that of a callee
record Called (o : Option Procedure) (x : Head) : Type 0 where
  callee : Procedure
  is : o ≡ Some callee
  head : callee.head ≡ x

called : (o : Option Procedure) (x : Head) → option_map (λ y. y.head) o ≡ Some x → Called o x
called None x e = cc
called (Some y) x e = record { callee = y; is = refl; head = inside y.head x e }
  where
    inside : (a b : Head) → Some a ≡ Some b → a ≡ b
    inside a b g = cc

module _ (file : Source1) (accepted : IsAccepted file) where
  abbrev names : walk.Scope
  names = (after_decls file.decls at_start).scope

  abbrev roots : Names
  roots = root_names file

  simple : AreSimple file.decls
  simple =
      let own = both_true (list_all (λ x. built.decl x.kind) file.decls && built.assn file.main.post) (built.body file.main.body) accepted.built in
      simple_decls file.decls (both_true (list_all (λ x. built.decl x.kind) file.decls) (built.assn file.main.post) own.0).0

  ready : IsReady file (declared_in file)
  ready = record {
    sorted = accepted.sorted;
    simple = simple;
    declares = record { roots = refl; predicates = λ q. refl };
    lemmas = record { proofs = λ l ts. refl; steps = λ l. refl };
  }

  procs : ProcsInOrder (declared_in file)
  procs = procs_are_in_order file accepted.sorted simple

  -- with these in scope, before anything else is known
  formed : (scope : Scope) → IsFormed roots (instance_fits (declared_in file)) (record no_context { scope = scope })
  unfolding IsStrictlySortedBy
  formed scope = record {
    ascending = tt;
    numbered = λ k d l. absurd (omega (arith, l));
    atoms = λ k d l. absurd (omega (arith, l));
    hyps = λ k d l. absurd (omega (arith, l));
    no_root_hidden = λ x r e. cc;
  }

  rules : (in_order (map (λ x. decl_refused (declared_in file) x.spot x.kind) file.decls) ≡ None) × (body_refused (declared_in file) file.main.body (main_post file) no_context ≡ None)
  rules = then_none (in_order (map (λ x. decl_refused (declared_in file) x.spot x.kind) file.decls)) (body_refused (declared_in file) file.main.body (main_post file) no_context) accepted.rules

  -- ---- procs

  abbrev Model : Context → Env → Heap → Type 0
  Model = IsModel (declared_in file) (proof_in (declared_in file)) (instance_fits (declared_in file)) any_fits (meaning_in file)

  -- what satisfies the precondition satisfies what is known before the body
  started : (spot : Spot) (x : Head) (c : Context) (env : Env) (h : Heap) → files.at_start spot x ≡ Ok c → HeadIsInOrder roots (instance_fits (declared_in file)) x → HasSorts env (head_scope x)
      → Satisfies (meaning_in file) env [] (asn roots [] x.pre) h → (c.scope ≡ head_scope x) × Model c env h
  started spot x c env h ok order sorts pre =
      let empty : Context = record no_context { scope = head_scope x } in
      let fits = from_true spot R10 (assn_fits x.pre) (if_fits spot (with_assn x.pre empty)) c ok in
      let is : with_assn x.pre empty ≡ c = from_fits spot (with_assn x.pre empty) c fits.1 in
      let first_model : Model empty env nothing = record { formed = formed (head_scope x); satisfied = record { sorts = sorts; hyps = tt; atoms = λ p. refl } } in
      let typed = (premises file (declared_in file) ready empty env nothing first_model).typed in (
        fitting_scope spot x.pre empty c fits.1,
        subst (λ k. Model k env h) is
            (added_at (declared_in file) (proof_in (declared_in file)) (instance_fits (declared_in file)) any_fits (meaning_in file) typed empty env x.pre h nothing h first_model pre order.pre (beside_nothing h)),
      )

  module _ (j : ℕ) (meet : ProcsMeet (meaning_in file) roots (bodies_in file) (declared_in file).procs j) (f : List ℕ) (y : Procedure) (found : procedures_of file.decls f ≡ Some y) where
    stands : Stands file.decls y.head y.body
    stands = procedures_stand file.decls f y found

    abbrev base : walk.Scope
    base = (after_decls stands.before at_start).scope

    begins : ProcBegins file (names_in_proc stands.before y.head) y.head y.body
    begins = procs_begin file accepted.sorted simple stands.before stands.after stands.at stands.all y.head y.body stands.is

    -- no variable is in scope before a declaration
    no_variable : (z : List ℕ) (s : Sort) → base z ≡ Some (class.Program s) → ⊥
    no_variable z s e =
        let matches = (declarations_begin file accepted.sorted simple stands.before (stands.at ∷ stands.after) stands.all).0 z in
        let at_variable : MatchesAt (Some (class.Program s)) None (position 0 roots z) = subst (λ k. MatchesAt k None (position 0 roots z)) e matches in
        let never : None ≡ Some (Variable s) = at_variable.0 in
        cc

    body_rules : (c : Context) × (files.at_start stands.at.spot y.head ≡ Ok c) × (body_refused (declared_in file) y.body (head_post y.head) c ≡ None)
    body_rules =
        let g : Decl → Option RuleRefusal = λ x. decl_refused (declared_in file) x.spot x.kind in
        let here : g stands.at ≡ None = refused_nowhere g stands.before stands.at stands.after (subst (λ xs. in_order (map g xs) ≡ None) stands.all rules.0) in
        and_then_none (files.at_start stands.at.spot y.head) (body_refused (declared_in file) y.body (head_post y.head))
        (subst (λ k. decl_refused (declared_in file) stands.at.spot k ≡ None) stands.is here)

    callee_meets : Meets (meaning_in file) roots (bodies_in file) j f y.head
    callee_meets b above env h sorts pre =
        let at : Setting = record { file = file; decl = declared_in file; ready = ready; procs = procs; F = bodies_in file; above = above; b = b } in
        let c : Context = body_rules.0 in
        let model = started stands.at.spot y.head c env h body_rules.1 begins.order sorts pre in
        let inner = names_in_proc stands.before y.head in
        let aim : Aim at = record {
          first = inner;
          start = head_scope y.head;
          old = env;
          post = head_post y.head;
          matches = begins.matches;
          knows = begins.knows;
          new_result = begins.new_result;
          post_walked = begins.post_walked;
        } in
        let vs = reverse (map is (arguments_in env y.head.params)) in
        let here : IsAt at aim inner c env h (bound_names y.head.params) vs = record {
          inside = record { matches = subst (Matches roots inner) (sym model.0) begins.matches; knows = begins.knows; state = model.1 };
          procs = begins.procs;
          values = params_begin roots (instance_fits (declared_in file)) env base y.head begins.order sorts no_variable;
          grown = same_scope inner;
          same = λ z r e. refl;
        } in
        subst (λ o. Keeps (bodies_in file) no_invariant j above (Leaf b (body_with roots o (arguments_in env y.head.params))) h (post_of (meaning_in file) roots env (head_post y.head))) (sym found)
        (bodies_sound at (control (declared_in file) (meaning_in file)) y.body aim j meet inner c env h (bound_names y.head.params) vs here begins.body_walked body_rules.2)

  proc_meets : (j : ℕ) → ProcsMeet (meaning_in file) roots (bodies_in file) (declared_in file).procs j → (f : List ℕ) (x : Head) → (declared_in file).procs f ≡ Some x
      → Meets (meaning_in file) roots (bodies_in file) j f x
  proc_meets j meet f x e =
      let found = called (procedures_of file.decls f) x e in
      subst (Meets (meaning_in file) roots (bodies_in file) j f) found.head (callee_meets j meet f found.callee found.is)

  -- a call costs a step, so each proc is used for fewer steps than it is shown for
  all_meet : (k : ℕ) → ProcsMeet (meaning_in file) roots (bodies_in file) (declared_in file).procs k
  all_meet zero f x e j l = absurd (omega (arith, l))
  all_meet (suc k) f x e j l = proc_meets j (λ g y i n m. all_meet k g y i n (omega (arith, l, m))) f x e

  -- ---- main

  satisfied : SatisfiesState (meaning_in file) roots no_env no_context nothing
  satisfied = record { sorts = λ x s e. cc; hyps = tt; atoms = λ p. refl }

  in_order_main : IsInOrder (declared_in file) names no_context file.main.body (main_post file)
  in_order_main =
      let x = file.main in
      let begun = main_begins file accepted.sorted simple in
      let whole = (walked.behind_none (decls (has_invariant file.decls) file.decls at_start) (main x (after_decls file.decls at_start)) accepted.sorted).1 in
      let own = first (new_result names x.result x.sort) (private_box names x.result x.sort x.post) in
      let parts = walked.construct_none x.spot own (body x.body (frame Outside x.sort) names) whole in
      let boxes = first_none (new_result names x.result x.sort) (private_box names x.result x.sort x.post) parts.0 in
      record {
        matches = begun.0;
        knows = begun.1;
        knows_procs = begun.2;
        procs = procs;
        formed = formed no_locals;
        new_result = (first_none (new_name names x.result) (storable x.sort) boxes.0).0;
        post_walked = (first_none (result_box names x.result x.sort x.post) (private_only names x.post) boxes.1).0;
        body_walked = parts.1;
      }

  pub sound : IsSound file
  sound =
      keeps_is_sound file (λ k. bodies_are_sound file (declared_in file) ready names no_context file.main.body (main_post file) in_order_main rules.1 (bodies_in file) k (all_meet k) 0 [] no_env [] nothing
      (λ x s e. cc) (λ x e. refl) satisfied)

-- The law of files.
pub accepted_is_sound : AcceptedIsSound
accepted_is_sound = sound
