-- The law of calls.
use Rattle.std.proofs.Common.{◌≡◌, ◌↔◌, ℕ, Bool, true, false, List, [], ◌∷◌, ◌++◌, Option, Some, None, refl, sym, ◌∙◌, ap, subst}
use Rattle.std.proofs.Math.Path.{transport, transport⁻¹}
use Rattle.std.specs.Prelude.{bytes_eq, if◌then◌else◌}
use Rattle.tht_tree.specs.declared.plain.Sort.{Sort}
use Rattle.tht_tree.specs.declared.assn.Assn.{Assn}
use Rattle.tht_tree.specs.declared.decl.Head.{Head}
use Rattle.tht_tree.specs.declared.proof.Proof.{Proof}
use Rattle.tht_tree.specs.declared.state.Local.TheVariants.{Variable}
use Rattle.tht_tree.specs.declared.term.Term.{Term}
use Rattle.tht_tree.specs.declared.term.Term.TheVariants as t
use Rattle.tht_tree.specs.Values.{Val, is, Env, bind, has_sort_val}
use Rattle.tht_tree.specs.Syntax.{Names, position, root_or_free}
use Rattle.tht_tree.specs.Terms.{value_of, value}
use Rattle.tht_tree.specs.Satisfaction.{HasSorts}
use Rattle.tht_tree.specs.Heaps.{Heap}
use Rattle.tht_tree.specs.Normal.Putting.{Puts, put_name, over}
use Rattle.tht_tree.specs.Rules.Context.{Scope, with_local}
use Rattle.tht_tree.specs.Rules.Scoping.{variable_sort, name_sort, sort_of}
use Rattle.tht_tree.proofs.TermValues.{value-Var, value_of_sort, sort_of-Extends}
use Rattle.tht_logic.specs.Assertions.{asn}
use Rattle.tht_logic.specs.Triples.{arguments_in}
use Rattle.tht_logic.specs.Meanings.{names_of}
use Rattle.tht_logic.specs.Satisfaction.{Meaning, Satisfies}
use Rattle.tht_logic.specs.Putting.{put_in_assn, put_assn_within}
use Rattle.tht_logic.specs.Rules.Calls.{call_arguments, with_result}
use Rattle.tht_logic.specs.Rules.Checking.{on_ok, put_or_refused}
use Rattle.tht_logic.specs.Rules.Definitions.{Declarations, arguments, head_scope}
use Rattle.tht_logic.specs.Rules.Gives.{after_give}
use Rattle.tht_logic.specs.Rules.Scoped.{Signatures, HideNoRoot, fit}
use Rattle.tht_logic.specs.Rules.Scoped as scoped
use Rattle.assn_laws.specs.AssertionLaws.{Holds}
use Rattle.assn_laws.specs.Laws.{AreTyped}
use Rattle.assn_laws.specs.Allocs.{values_in}
use Rattle.assn_laws.specs.ControlLaws.{post_scope, HeadIsInOrder, ResultsAreSound, CallsAreSound}
use Rattle.assn_laws.proofs.Answers.{from_ok, from_put}
use Rattle.assn_laws.proofs.ByNames.{same_heaps}
use Rattle.assn_laws.proofs.DefinedScoped.{keep}
use Rattle.assn_laws.proofs.GivesLaw.{gives_are_sound}
use Rattle.assn_laws.proofs.HeadScopes.{all_params, distinct_front, head_scope_is, fit_joined, stands_for_itself, arguments_are, call_arguments_are}
use Rattle.assn_laws.proofs.KnownNames.{IsKnown, free_told}
use Rattle.assn_laws.proofs.NewVariable.{still_valued, its_value, its_sort}
use Rattle.assn_laws.proofs.Predicates.{param_scope}
use Rattle.assn_laws.proofs.PuttingHeaps.{putting_has_the_heaps}
use Rattle.assn_laws.proofs.PutScoped.{Keep, put_in_order}
use Rattle.assn_laws.proofs.ResultLaw.{results_are_sound}
use Rattle.assn_laws.proofs.Scopes.{gives_keep_scopes}
use Rattle.assn_laws.proofs.StateAfter.{extends_new, apart_new}

module _ (decl : Declarations) (proof : Proof → Scope → Bool) (instance lemma : Signatures) (M : Meaning) (typed : AreTyped decl proof instance lemma) where
  abbrev roots : Names
  roots = decl.proofs.roots

  abbrev In : Scope → Assn → Type 0
  In scope p = scoped.assn roots instance p scope ≡ true

  -- Terms put in for names: what they make holds of the heaps of the assertion, where each name that is known has the value of what stands for it.
  put_means : (scope : Scope) (e g : Env) (by : Puts) (p : Assn) (h : Heap)
      → ((y : List ℕ) → IsKnown roots scope y → value roots e (put_name by y) ≡ value_of g [] (root_or_free y (position 0 roots y)))
      → In scope p → Holds M roots e (put_in_assn by p) h ↔ Holds M roots g p h
  put_means scope e g by p h same ins =
      let known = free_told roots instance (IsKnown roots scope) typed.sorted p scope [] (λ y f q. q) ins in
      let whole : Satisfies M (over roots e by) [] (asn [] [] p) ≡ Satisfies M g [] (asn roots [] p)
      = same_heaps [] roots (IsKnown roots scope) (over roots e by) g M p [] [] [] [] same known in
      let both = putting_has_the_heaps M roots e by p h in
      (λ w. transport (λ i. whole i h) (both.0 w), λ w. both.1 (transport⁻¹ (λ i. whole i h) w))

  module _ (scope : Scope) (env : Env) (apart : HideNoRoot roots scope) (sorts : HasSorts env scope) (head : Head) (order : HeadIsInOrder roots instance head) (ts us : List Term)
      (fits : fit roots scope head.params ts ≡ true) (brackets : fit roots scope head.logic us ≡ true) where
    abbrev by : Puts
    by = call_arguments head ts us

    -- the environment of what is called
    abbrev callee : Env
    callee = over roots env by

    by_is : by ≡ arguments (all_params head) (ts ++ us)
    by_is = call_arguments_are roots scope head ts us fits

    scope_is : head_scope head ≡ param_scope (all_params head)
    scope_is = head_scope_is head order.distinct

    -- each name of the head stands for an argument of its sort
    head_keeps : Keep roots by (head_scope head) scope
    head_keeps y s e =
        ap (λ z. sort_of roots scope (put_name z y)) by_is
        ∙ keep roots scope apart (all_params head) (ts ++ us) (fit_joined roots scope head.params head.logic ts us fits brackets) y s (sym (ap (λ z. name_sort (variable_sort (z y)) (position 0 roots y)) scope_is) ∙ e)

    head_hides_no_root : HideNoRoot roots (head_scope head)
    head_hides_no_root y r e = pick (bytes_eq head.result y) (order.no_root_hidden y r e)
      where
        pick : (c : Bool) → variable_sort (if c then Some (Variable head.sort) else head_scope head y) ≡ None → variable_sort (head_scope head y) ≡ None
        pick true g = cc
        pick false g = g

    no_argument : (y : List ℕ) → variable_sort (head_scope head y) ≡ None → put_name by y ≡ t.Var y
    no_argument y e = ap (λ z. put_name z y) by_is ∙ stands_for_itself (all_params head) (ts ++ us) y (sym (ap (λ z. variable_sort (z y)) scope_is) ∙ e)

    callee_sorts : HasSorts callee (head_scope head)
    callee_sorts y s e = value_of_sort roots scope env apart sorts (put_name by y) s (head_keeps y s (ap (λ l. name_sort (variable_sort l) (position 0 roots y)) e))

    callee_arguments : arguments_in callee head.params ≡ values_in roots env ts
    callee_arguments =
        arguments_are roots env scope head.params ts (arguments head.logic us) fits
        (distinct_front (names_of head.params) (names_of head.logic) (distinct_front (names_of head.params ++ names_of head.logic) (head.result ∷ []) order.distinct))

    -- a root has its place, whatever the environment
    root_value : (e g : Env) (y : List ℕ) (r : ℕ) → position 0 roots y ≡ Some r → value roots e (put_name by y) ≡ value_of g [] (root_or_free y (Some r))
    root_value e g y r at =
        ap (value roots e) (no_argument y (head_hides_no_root y r at)) ∙ value-Var roots e y ∙ ap (λ o. value_of e [] (root_or_free y o)) at

    -- ---- the precondition

    pre_value : (y : List ℕ) → value roots env (put_name by y) ≡ value_of callee [] (root_or_free y (position 0 roots y))
    pre_value y = pick (position 0 roots y) refl
      where
        pick : (o : Option ℕ) → position 0 roots y ≡ o → value roots env (put_name by y) ≡ value_of callee [] (root_or_free y o)
        pick (Some r) e = root_value env callee y r e
        pick None e = refl

    pub pre_in_order : In scope (put_in_assn by head.pre)
    pre_in_order = put_in_order roots instance instance typed.by_sorts head.pre by (head_scope head) scope head_keeps order.pre

    pub pre_holds : (h : Heap) → Holds M roots env (put_in_assn by head.pre) h → Holds M roots callee head.pre h
    pre_holds h = (put_means (head_scope head) env callee by head.pre h (λ y k. pre_value y) order.pre).0

    -- ---- the postcondition

    module _ (x : List ℕ) (new : scoped.is_new roots scope x ≡ true) (v : Val) (has : has_sort_val head.sort v ≡ true) where
      abbrev after : Puts
      after = (head.result, t.Var x) ∷ by

      abbrev wider : Scope
      wider = with_local scope x (Variable head.sort)

      abbrev now : Env
      now = bind env x v

      -- the result stands for the new variable
      post_keeps : Keep roots after (post_scope head) wider
      post_keeps y s e = pick (bytes_eq head.result y) e
        where
          its : (o : Option ℕ) → name_sort (Some head.sort) o ≡ Some s → Some head.sort ≡ Some s
          its o k = k

          pick : (c : Bool) → name_sort (variable_sort (if c then Some (Variable head.sort) else head_scope head y)) (position 0 roots y) ≡ Some s
              → sort_of roots wider (if c then t.Var x else put_name by y) ≡ Some s
          pick true k = its_sort decl proof instance lemma M typed scope env x head.sort v new has ∙ its (position 0 roots y) k
          pick false k =
              sort_of-Extends roots scope wider (apart_new decl proof instance lemma M typed scope x (Variable head.sort) new apart)
              (extends_new decl proof instance lemma M typed scope x (Variable head.sort) new) (put_name by y) s (head_keeps y s k)

      post_value : (y : List ℕ) → IsKnown roots (post_scope head) y → value roots now (put_name after y) ≡ value_of (bind callee head.result v) [] (root_or_free y (position 0 roots y))
      post_value y known = of_root (position 0 roots y) refl
        where
          hidden : (r : ℕ) (c : Bool) → variable_sort (if c then Some (Variable head.sort) else head_scope head y) ≡ None → position 0 roots y ≡ Some r
              → value roots now (if c then t.Var x else put_name by y) ≡ value_of (bind callee head.result v) [] (root_or_free y (Some r))
          hidden r true g e = cc
          hidden r false g e = root_value now (bind callee head.result v) y r e

          free : (c : Bool) → (s : Sort) → name_sort (variable_sort (if c then Some (Variable head.sort) else head_scope head y)) (position 0 roots y) ≡ Some s
              → value roots now (if c then t.Var x else put_name by y) ≡ (if c then v else callee y)
          free true s k = its_value decl proof instance lemma M typed scope env x head.sort v new has
          free false s k = still_valued decl proof instance lemma M typed scope env x head.sort v new has (put_name by y) (s, head_keeps y s k)

          of_root : (o : Option ℕ) → position 0 roots y ≡ o → value roots now (put_name after y) ≡ value_of (bind callee head.result v) [] (root_or_free y o)
          of_root (Some r) e = hidden r (bytes_eq head.result y) (order.no_root_hidden y r e) e
          of_root None e = free (bytes_eq head.result y) known.0 known.1

      pub post_in_order : In wider (put_in_assn after head.post)
      post_in_order = put_in_order roots instance instance typed.by_sorts head.post after (post_scope head) wider post_keeps order.post

      pub post_holds : (h : Heap) → Holds M roots (bind callee head.result v) head.post h → Holds M roots now (put_in_assn after head.post) h
      post_holds h = (put_means (post_scope head) now (bind callee head.result v) after head.post h post_value order.post).1

-- the law of calls, by that of results
calls_by_results : (decl : Declarations) (proof : Proof → Scope → Bool) (instance lemma : Signatures) (M : Meaning) → ResultsAreSound decl proof instance lemma M
    → CallsAreSound decl proof instance lemma M
calls_by_results decl proof instance lemma M results c next env h premises at spot x ts us g head order fits brackets new gives e =
    let roots : Names = decl.proofs.roots in
    let by : Puts = call_arguments head ts us in
    let typed = premises.typed in
    let pre = put_or_refused spot (put_assn_within by head.pre) in
    let post = put_or_refused spot (put_assn_within ((head.result, t.Var x) ∷ by) head.post) in
    let w = from_ok pre (λ p. on_ok (after_give decl c g p) (λ k. on_ok post (λ q. with_result spot k x head.sort q))) next e in
    let k = from_ok (after_give decl c g w.0) (λ k. on_ok post (λ q. with_result spot k x head.sort q)) next w.2 in
    let q = from_ok post (λ q. with_result spot k.0 x head.sort q) next k.2 in
    let asked : put_in_assn by head.pre ≡ w.0 = from_put spot by head.pre w.0 w.1 in
    let given : put_in_assn ((head.result, t.Var x) ∷ by) head.post ≡ q.0 = from_put spot ((head.result, t.Var x) ∷ by) head.post q.0 q.1 in
    let apart = at.formed.no_root_hidden in
    let sorts = at.satisfied.sorts in
    let goal : scoped.assn roots instance w.0 c.scope ≡ true
    = subst (λ p. scoped.assn roots instance p c.scope ≡ true) asked (pre_in_order decl proof instance lemma M typed c.scope env apart sorts head order ts us fits brackets) in
    let s = gives_are_sound decl proof instance lemma M c k.0 env h premises at g w.0 gives goal k.1 in
    let kept : c.scope ≡ k.0.scope = sym (gives_keep_scopes decl c k.0 g w.0 k.1) in (
      s.0,
      s.1,
      s.2,
      over roots env by,
      callee_sorts decl proof instance lemma M typed c.scope env apart sorts head order ts us fits brackets,
      callee_arguments decl proof instance lemma M typed c.scope env apart sorts head order ts us fits brackets,
      pre_holds decl proof instance lemma M typed c.scope env apart sorts head order ts us fits brackets s.0 (subst (λ p. Holds M roots env p s.0) (sym asked) s.3),
      λ v y i has holds joins.
          results typed k.0 next env s.1 s.4 spot x head.sort q.0 (subst (λ z. scoped.is_new roots z x ≡ true) kept new)
          (subst (λ z. scoped.assn roots instance q.0 (with_local z x (Variable head.sort)) ≡ true) kept
          (subst (λ p. scoped.assn roots instance p (with_local c.scope x (Variable head.sort)) ≡ true) given
          (post_in_order decl proof instance lemma M typed c.scope env apart sorts head order ts us fits brackets x new (is v) has)))
          q.2 v has y i
          (subst (λ p. Holds M roots (bind env x (is v)) p y) given
          (post_holds decl proof instance lemma M typed c.scope env apart sorts head order ts us fits brackets x new (is v) has y holds))
          joins,
    )

-- The law of calls.
pub calls_are_sound : (decl : Declarations) (proof : Proof → Scope → Bool) (instance lemma : Signatures) (M : Meaning) → CallsAreSound decl proof instance lemma M
calls_are_sound decl proof instance lemma M = calls_by_results decl proof instance lemma M (results_are_sound decl proof instance lemma M)
