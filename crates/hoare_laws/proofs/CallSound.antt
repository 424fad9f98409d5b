-- A call that nothing refuses keeps to the aim, where what follows does and the proc meets its head for fewer steps: its body keeps to its postcondition
-- beside the frame.
use Rattle.std.proofs.Common.{◌≡◌, ℕ, zero, suc, ◌<◌, ◌≤◌, arith, Bool, true, false, cond, List, [], ◌∷◌, map, Option, None, Some, Ok, refl, sym, ◌∙◌, ap, subst}
use Rattle.tht_tree.specs.declared.body.EndKind.TheOpen as b
use Rattle.tht_tree.specs.declared.decl.Head.{Head}
use Rattle.tht_tree.specs.declared.give.Give.{Give}
use Rattle.tht_tree.specs.declared.plain.Sort.{Sort}
use Rattle.tht_tree.specs.declared.plain.Spot.{Spot}
use Rattle.tht_tree.specs.declared.plain.Value.{Value}
use Rattle.tht_tree.specs.declared.rule.RuleCode.TheVariants.{R12}
use Rattle.tht_tree.specs.declared.term.Term.{Term}
use Rattle.tht_tree.specs.declared.term.Term.TheVariants as term
use Rattle.tht_tree.specs.Satisfaction.{HasSorts}
use Rattle.tht_tree.specs.declared.walk.Class.TheVariants as class
use Rattle.tht_tree.specs.Values.{Val, is, Env, bind, has_sort}
use Rattle.tht_tree.specs.Syntax.{Names, trm}
use Rattle.tht_tree.specs.Heaps.{Heap, Joins}
use Rattle.tht_tree.specs.Rules.Context.{Context, with_local}
use Rattle.tht_tree.specs.declared.state.Local.TheVariants.{Variable}
use Rattle.tht_tree.specs.Walk.Names as walk
use Rattle.tht_tree.specs.Walk.Bodies as w
use Rattle.tht_logic.specs.Programs.{Whole, stmt_at}
use Rattle.tht_logic.specs.Procedures.{head_post}
use Rattle.tht_logic.specs.Machine.{Prog, Plain, Cmd, TermBig, Call, Leaf, and_then, closed, value, all_fit}
use Rattle.tht_logic.specs.Meanings.{meaning_in}
use Rattle.tht_logic.specs.Satisfaction.{Meaning}
use Rattle.tht_logic.specs.Soundness.{Postcondition, Keeps, no_invariant, post_of}
use Rattle.tht_logic.specs.Triples.{arguments_in}
use Rattle.tht_logic.specs.Putting.{put_assn_within}
use Rattle.tht_logic.specs.Rules.Checking.{Checked, on_ok, put_or_refused}
use Rattle.tht_logic.specs.Rules.Definitions.{head_scope}
use Rattle.tht_logic.specs.Rules.Gives.{after_give}
use Rattle.tht_logic.specs.Rules.Scoped.{instance_fits}
use Rattle.tht_logic.specs.Rules.Calls.{call_arguments, with_result, after_call, after_call_of}
use Rattle.tht_logic.proofs.Acts.{big_acts, call_acts}
use Rattle.tht_logic.proofs.Parts.{AllOwn}
use Rattle.tht_logic.proofs.Outside.{keeps_plain, when_stands, stands_own}
use Rattle.tht_logic.proofs.Sequence.{in_sequence}
use Rattle.proof_laws.specs.Walked.{Matches}
use Rattle.assn_laws.specs.AssertionLaws.{Holds}
use Rattle.assn_laws.specs.Laws.{IsModel}
use Rattle.assn_laws.specs.Allocs.{values_in}
use Rattle.assn_laws.specs.Walked.{any_fits, CallIsInOrder}
use Rattle.assn_laws.specs.FileLaws.{IsIn, proof_in}
use Rattle.assn_laws.proofs.Answers.{from_some, from_ok}
use Rattle.assn_laws.proofs.FileLaw.{in_order, premises, result_matches}
use Rattle.assn_laws.proofs.Scopes.{gives_keep_scopes, knows_with}
use Rattle.assn_laws.proofs.ProcNames.{procs_with_name}
use Rattle.assn_laws.proofs.WalkedCalls.{walked_calls_are_in_order}
use Rattle.assn_laws.proofs.WalkedGives.{walked_gives_are_in_order}
use Rattle.assn_laws.proofs.WalkedNames.{is_new}
use Rattle.hoare_laws.proofs.Growing.{grows_with, same_values_bind, with_result_values}
use Rattle.hoare_laws.proofs.Places.{Setting, Aim, IsAt, Keeping, GoesOn, Meet, StmtSound, moved}
use Rattle.hoare_laws.proofs.FileControl.{Control, fitting_scope}
use Rattle.hoare_laws.proofs.ProgramValues.{program_values}
use Rattle.hoare_laws.proofs.WalkedStmts.{CallWalked, call_walked}
use Rattle.hoare_laws.proofs.StmtSound.{at_work, if_it_fits}

module _ (at : Setting) (laws : Control at.decl (meaning_in at.file)) where
  abbrev roots : Names
  roots = at.decl.proofs.roots

  -- what is in scope after a call
  call_scope : (spot : Spot) (c next : Context) (x : List ℕ) (ts us : List Term) (g : Give) (head : Head) → after_call_of at.decl spot c x ts us g head ≡ Ok next
      → next.scope ≡ with_local c.scope x (Variable head.sort)
  call_scope spot c next x ts us g head ok =
      let pre = put_or_refused spot (put_assn_within (call_arguments head ts us) head.pre) in
      let post = put_or_refused spot (put_assn_within ((head.result, term.Var x) ∷ call_arguments head ts us) head.post) in
      let last : Context → Checked Context = λ k. on_ok post (λ q. with_result spot k x head.sort q) in
      let one = from_ok pre (λ p. on_ok (after_give at.decl c g p) last) next ok in
      let two = from_ok (after_give at.decl c g one.0) last next one.2 in
      let three = from_ok post (λ q. with_result spot two.0 x head.sort q) next two.2 in
      fitting_scope spot three.0 (record two.0 { scope = with_local two.0.scope x (Variable head.sort) }) next three.2
      ∙ ap (λ z. with_local z x (Variable head.sort)) (gives_keep_scopes at.decl c two.0 g one.0 two.1)

  module _ (spot : Spot) (x f : List ℕ) (ts us : List Term) (g : Give) (aim : Aim at) (k : ℕ) (meet : Meet at (suc k)) (names : walk.Scope) (c next : Context) (env : Env) (h : Heap) (xs : Names) (vs : List Val)
      (here : IsAt at aim names c env h xs vs) (walked : CallWalked names x f ts us g) (code : Whole)
      (order : CallIsInOrder roots at.decl.procs names c.scope f ts us) (ok : after_call_of at.decl spot c x ts us g order.head ≡ Ok next)
      (goes_on : (j : ℕ) → j ≤ suc k → GoesOn at aim j (walk.with_result names x order.head.sort) next code) where
    abbrev head : Head
    head = order.head

    abbrev rest : Value → Prog
    rest v = closed (is v ∷ vs) (code (x ∷ xs))

    abbrev Q : Postcondition
    Q = post_of (meaning_in at.file) roots aim.old aim.post

    abbrev M : Meaning
    M = meaning_in at.file

    -- how the heap splits, and what the callee's variables are
    record Split : Type 0 where
      asked : Heap
      frame : Heap
      joins : Joins asked frame h
      callee : Env
      sorts : HasSorts callee (head_scope head)
      arguments : arguments_in callee head.params ≡ values_in roots env ts
      pre : Holds M roots callee head.pre asked
      result : (v : Value) (q i : Heap) → has_sort head.sort v ≡ true → Holds M roots (bind callee head.result (is v)) head.post q → Joins q frame i
          → IsModel at.decl (proof_in at.decl) (instance_fits at.decl) any_fits M next (bind env x (is v)) i

    split : Split
    split =
        let given = walked_gives_are_in_order roots (instance_fits at.decl) any_fits (proof_in at.decl) names c.scope (in_order at.decl names c.scope here.inside.matches here.inside.knows) g walked.give in
        let law = laws.calls c next env h (premises at.file at.decl at.ready c env h here.inside.state) here.inside.state spot x ts us g head (at.procs f head order.declared) order.params order.logic
        (is_new roots names c.scope here.inside.matches x walked.new) given ok in
        record { asked = law.0; frame = law.1; joins = law.2; callee = law.3; sorts = law.4; arguments = law.5; pre = law.6; result = law.7 }

    -- once the callee has a result
    follows : (j : ℕ) → j ≤ k → (v : Value) (q i : Heap) → post_of M roots split.callee (head_post head) v q → Joins q split.frame i → Keeping at aim j i (rest v)
    follows j l v q i holds joins =
        let scope = call_scope spot c next x ts us g head ok in
        let matches = result_matches roots x head.sort names c.scope here.inside.matches walked.new in
        let inside : IsIn at.file at.decl (walk.with_result names x head.sort) next (bind env x (is v)) i = record {
          matches = subst (Matches roots (walk.with_result names x head.sort)) (sym scope) matches;
          knows = knows_with at.decl.predicates names x (class.Program head.sort) (λ o. tt) here.inside.knows;
          state = split.result v q i holds.0 holds.1 joins;
        } in
        goes_on j (omega (arith, l)) (bind env x (is v)) i (x ∷ xs) (is v ∷ vs)
        (moved at aim names c env h xs vs here (walk.with_result names x head.sort) next (bind env x (is v)) i (x ∷ xs) (is v ∷ vs) inside
        (procs_with_name at.decl.procs names x (class.Program head.sort) (λ o. tt) here.procs)
        (with_result_values roots names env xs vs here.values x head.sort (is v))
        (grows_with names x (class.Program head.sort) walked.new)
        (same_values_bind roots names c.scope here.inside.matches env x (is v) walked.new))

    entered : Keeps at.F no_invariant k at.above (Leaf at.b (and_then (at.F f (arguments_in split.callee head.params)) rest)) h Q
    entered =
        in_sequence at.F no_invariant at.above at.b rest split.frame (post_of M roots split.callee (head_post head)) Q k (at.F f (arguments_in split.callee head.params)) split.asked h split.joins
        (meet f head order.declared k (omega arith) at.b at.above split.callee split.asked split.sorts split.pre) follows

    called : at_work at aim k (Call f (map (value vs) (map (trm roots xs) ts))) rest h
    called =
        let same : map (value vs) (map (trm roots xs) ts) ≡ arguments_in split.callee head.params
        = program_values roots at.ready.declares.roots names c.scope here.inside.matches env xs vs here.values ts order.programs ∙ sym split.arguments in
        subst (λ z. at_work at aim k (Call f z) rest h) (sym same)
        (when_stands at.F no_invariant k at.above (Leaf at.b (Plain (Call f (arguments_in split.callee head.params)) rest)) h Q (λ m n stands.
        keeps_plain at.F no_invariant k at.above at.b (Call f (arguments_in split.callee head.params)) rest h Q _ (call_acts at.F at.above at.b false rest h f (arguments_in split.callee head.params))
        (λ u z e. subst (λ y. AllOwn y × Keeps at.F no_invariant k at.above (Leaf at.b u) y Q) (sym e.1)
        (stands_own stands, subst (λ y. Keeps at.F no_invariant k at.above (Leaf at.b y) h Q) (sym e.0) entered))))

  some_head : (x y : Head) → Some x ≡ Some y → x ≡ y
  some_head x y e = cc

  pub call_sound : (spot : Spot) (x f : List ℕ) (ts us : List Term) (g : Give)
      → StmtSound at (stmt_at roots (b.Call x f ts us g)) (w.statement_at (b.Call x f ts us g) spot) (λ c. after_call at.decl spot c x f ts us g)
  call_sound spot x f ts us g aim zero meet names c next env h xs vs here e ok code goes_on = tt
  call_sound spot x f ts us g aim (suc k) meet names c next env h xs vs here e ok code goes_on =
      let walked = call_walked spot names aim.post.sort x f ts us g e in
      let order = walked_calls_are_in_order roots at.decl.procs names c.scope here.inside.matches here.procs f ts us walked.command in
      let found = from_some spot R12 (at.decl.procs f) (after_call_of at.decl spot c x ts us g) next ok in
      let same : found.0 ≡ order.head = some_head found.0 order.head (sym found.1 ∙ order.declared) in
      if_it_fits at aim k (all_fit vs (map (trm roots xs) ts)) _ _ h
      (called spot x f ts us g aim k meet names c next env h xs vs here walked code order (subst (λ z. after_call_of at.decl spot c x ts us g z ≡ Ok next) same found.2)
      (subst (λ z. (j : ℕ) → j ≤ suc k → GoesOn at aim j (walk.with_result names x z) next code) order.result goes_on))
