-- Ends that nothing refuses keep to the aim: `ret`, `if`, the cases and `dead`.
use Rattle.std.proofs.Common.{◌≡◌, ◌⊎◌, ℕ, ◌≤◌, Bool, true, false, cond, List, [], ◌∷◌, Option, None, Some, Ok, Err, refl, sym, ◌∙◌, ap, subst, inl, inr}
use Rattle.tht_tree.specs.declared.assn.Assn.{Assn}
use Rattle.tht_tree.specs.declared.body.EndKind.TheOpen as f
use Rattle.tht_tree.specs.declared.give.Give.{Give}
use Rattle.tht_tree.specs.declared.plain.Sort.{Sort}
use Rattle.tht_tree.specs.declared.plain.Sort.TheVariants as sort
use Rattle.tht_tree.specs.declared.plain.Spot.{Spot}
use Rattle.tht_tree.specs.declared.proof.Proof.{Proof}
use Rattle.tht_tree.specs.declared.rule.RuleCode.{RuleCode}
use Rattle.tht_tree.specs.declared.rule.RuleCode.TheVariants.{R10, R11}
use Rattle.tht_tree.specs.declared.rule.RuleRefusal.{RuleRefusal}
use Rattle.tht_tree.specs.declared.state.Local.TheVariants.{Variable}
use Rattle.tht_tree.specs.declared.term.Term.{Term}
use Rattle.tht_tree.specs.declared.term.Term.TheVariants as term
use Rattle.tht_tree.specs.declared.walk.Class.TheVariants as class
use Rattle.tht_tree.specs.Values.{Val, is, Env, bind, seq, a_nat, a_bool, bool_of, value_in, has_sort}
use Rattle.tht_tree.specs.Syntax.{Names, trm}
use Rattle.tht_tree.specs.Terms.{value_of, fits}
use Rattle.tht_tree.specs.Terms as logic
use Rattle.tht_tree.specs.Heaps.{Heap}
use Rattle.tht_tree.specs.Rules.Context.{Context, with_local}
use Rattle.tht_tree.specs.Rules.Proofs.{prove, proves}
use Rattle.tht_tree.specs.Rules.Sizes.{formula_fits}
use Rattle.tht_tree.specs.Rules.Refusals.{needs, refuse, ◌▸◌}
use Rattle.tht_tree.specs.declared.walk.Frame.{Frame}
use Rattle.tht_tree.specs.declared.walk.Where.TheVariants.{Outside}
use Rattle.tht_tree.specs.Walk.Terms.{formula}
use Rattle.tht_tree.specs.Walk.Names as walk
use Rattle.tht_tree.specs.Walk.Names.{with_variable, with_hypothesis, with_parts, new_name, new_parts}
use Rattle.tht_tree.specs.Walk.Bodies as w
use Rattle.tht_tree.proofs.TermValues as terms
use Rattle.tht_logic.specs.Assertions.{asn}
use Rattle.tht_logic.specs.Programs.{Whole, end_at}
use Rattle.tht_logic.specs.Machine.{Prog, Ended, FrontBig, closed, value, no_env}
use Rattle.tht_logic.specs.Satisfaction.{Satisfies}
use Rattle.tht_logic.specs.Meanings.{meaning_in}
use Rattle.tht_logic.specs.Soundness.{no_invariant, post_of}
use Rattle.tht_logic.specs.Rules.Checking.{Checked, and_then}
use Rattle.tht_logic.specs.Rules.Calls.{InBody}
use Rattle.tht_logic.specs.Rules.Bodies.{assuming, sides, on_side, by_truth, by_sides, by_sequence, return_refused}
use Rattle.tht_logic.proofs.Outside.{keeps_value, keeps_big}
use Rattle.assn_laws.proofs.FileLaw.{file_returns_are_sound}
use Rattle.assn_laws.proofs.ProcNames.{procs_with_name}
use Rattle.assn_laws.proofs.WalkedPrograms.{program_term}
use Rattle.assn_laws.specs.FileLaws.{SameValues, IsIn}
use Rattle.assn_laws.proofs.WalkedNames.{term_walked, hypothesis_matches, variable_matches}
use Rattle.tht_logic.specs.Rules.Scoped as scoped
use Rattle.assn_laws.proofs.Refusing.{nothing}
use Rattle.proof_laws.proofs.WalkedTerms.{no_walk_code}
use Rattle.hoare_laws.proofs.ProgramValues.{in_logic, value_of_sort}
use Rattle.hoare_laws.proofs.Growing.{grows_on, grows_with, same_values_bind, other_values, with_other_values}
use Rattle.hoare_laws.proofs.Swapping.{both, new_head, new_last}
use Rattle.hoare_laws.proofs.Places.{Setting, Aim, IsAt, Keeping, GoesOn, Meet, BodySound, there, moved, stayed}
use Rattle.hoare_laws.proofs.FileControl.{Control, assumed_in, truth_in, side_in, none_in, not_formula, nil_formula, sequence_in}
use Rattle.hoare_laws.proofs.WalkedStmts.{RetWalked, ret_walked, if_walked, truth_walked, sides_walked, sequence_walked, dead_walked}

-- what is checked first, and what goes on with it
pub and_then_none : {A : Type 0} (o : Checked A) (go : A → Option RuleRefusal) → and_then o go ≡ None → (c : A) × (o ≡ Ok c) × (go c ≡ None)
and_then_none (Err r) go e = cc
and_then_none (Ok c) go e = (c, refl, e)

pub then_none : (a b : Option RuleRefusal) → (a ▸ b) ≡ None → (a ≡ None) × (b ≡ None)
then_none None b e = (refl, e)
then_none (Some a) b e = cc

pub needed : (spot : Spot) (code : RuleCode) (b : Bool) → needs spot code b ≡ None → b ≡ true
needed spot code true e = refl
needed spot code false e = cc

module _ (at : Setting) (laws : Control at.decl (meaning_in at.file)) where
  abbrev roots : Names
  roots = at.decl.proofs.roots

  -- the machine's value of what is returned
  returned : (aim : Aim at) (names : walk.Scope) (c : Context) (env : Env) (h : Heap) (xs : Names) (vs : List Val) → IsAt at aim names c env h xs vs → (t : Term) (g : Give) → RetWalked names aim.post.sort t g
      → (is (value vs (trm roots xs t)) ≡ logic.value roots env t) × (has_sort aim.post.sort (value vs (trm roots xs t)) ≡ true)
  returned aim names c env h xs vs here t g walked =
      let m = here.inside.matches in
      let typed = program_term roots names c.scope m aim.post.sort t walked.value in
      let sorts = here.inside.state.satisfied.sorts in
      let stored = terms.stored aim.post.sort (logic.value roots env t) typed.storable
      (terms.value_of_sort roots c.scope env here.inside.state.formed.no_root_hidden sorts t aim.post.sort typed.of_sort) in
      let is_same : value_of no_env vs (trm roots xs t) ≡ is stored.0 = value_of_sort roots at.ready.declares.roots names c.scope m env xs vs here.values aim.post.sort t walked.value ∙ stored.1 in
      (ap (λ z. is (value_in z)) is_same ∙ sym stored.1, subst (λ z. has_sort aim.post.sort (value_in z) ≡ true) (sym is_same) stored.2)

  pub ret_sound : (spot : Spot) (t : Term) (g : Give) → BodySound at (end_at roots (f.Ret t g)) (w.end_at (f.Ret t g) spot) (λ post c. return_refused at.decl spot c t g post)
  ret_sound spot t g aim k meet names c env h xs vs here e ok = pick (fits no_env vs (trm roots xs t))
    where
      walked : RetWalked names aim.post.sort t g
      walked = ret_walked spot names aim.post.sort t g e

      holds : Satisfies (meaning_in at.file) (bind aim.old aim.post.result (logic.value roots env t)) [] (asn roots [] aim.post.assn) h
      holds =
          file_returns_are_sound at.file at.decl at.ready names c env h here.inside aim.first aim.start aim.old aim.matches aim.knows (there at aim names c env h xs vs here) here.same
          spot t g aim.post walked.give (in_logic names aim.post.sort t walked.value) aim.new_result aim.post_walked ok

      met : post_of (meaning_in at.file) roots aim.old aim.post (value vs (trm roots xs t)) h
      met =
          let r = returned aim names c env h xs vs here t g walked in
          (r.1, subst (λ z. Satisfies (meaning_in at.file) (bind aim.old aim.post.result z) [] (asn roots [] aim.post.assn) h) (sym r.0) holds)

      pick : (fit : Bool) → Keeping at aim k h (cond fit (Ended (value vs (trm roots xs t))) FrontBig)
      pick true = keeps_value at.F no_invariant k at.above at.b (value vs (trm roots xs t)) h _ met
      pick false = keeps_big at.F no_invariant k at.above at.b h _

  -- at a place where a formula is true, under a new name
  with_formula : (aim : Aim at) (names : walk.Scope) (c : Context) (env : Env) (h : Heap) (xs : Names) (vs : List Val) → IsAt at aim names c env h xs vs
      → (next : Context) (spot : Spot) (n : List ℕ) (t : Term) → walk.new_name names n ≡ no_walk_code → IsIn at.file at.decl (with_hypothesis names n) next env h → IsAt at aim (with_hypothesis names n) next env h xs vs
  with_formula aim names c env h xs vs here next spot n t new inside =
      moved at aim names c env h xs vs here (with_hypothesis names n) next env h xs vs inside (procs_with_name at.decl.procs names n class.Hypothesis (λ o. tt) here.procs)
      (with_other_values roots names env xs vs here.values n class.Hypothesis (λ s e. cc)) (grows_with names n class.Hypothesis new) (λ y s e. refl)

  is_formula : (names : walk.Scope) (c : Context) (env : Env) (h : Heap) → IsIn at.file at.decl names c env h → (t : Term) → formula names t ≡ no_walk_code → scoped.is_formula roots c.scope t ≡ true
  is_formula names c env h inside t walked = term_walked roots names c.scope inside.matches sort.Bool t walked

  fitting : (aim : Aim at) (k : ℕ) (h : Heap) (b : Bool) (p : Prog) → Keeping at aim k h p → Keeping at aim k h (cond b p FrontBig)
  fitting aim k h true p keeps = keeps
  fitting aim k h false p keeps = keeps_big at.F no_invariant k at.above at.b h _

  module _ (spot : Spot) (whole other : Whole) (in_walk other_walk : w.InBody) (refused other_refused : InBody) (sound : BodySound at whole in_walk refused) (other_sound : BodySound at other other_walk other_refused)
      (aim : Aim at) (k : ℕ) (meet : Meet at k) (names : walk.Scope) (c : Context) (env : Env) (h : Heap) (xs : Names) (vs : List Val) (here : IsAt at aim names c env h xs vs) where
    abbrev frame_here : Frame
    frame_here = w.frame Outside aim.post.sort

    -- the body for what holds here
    by_truth_keeps : (t : Term) (n : List ℕ) → formula names t ≡ no_walk_code → walk.new_name names n ≡ no_walk_code → in_walk frame_here (with_hypothesis names n) ≡ nothing
        → other_walk frame_here (with_hypothesis names n) ≡ nothing → by_truth spot c n t refused other_refused aim.post ≡ None
        → ((logic.value roots env t ≡ a_bool true) × Keeping at aim k h (closed vs (whole xs))) ⊎ ((logic.value roots env t ≡ a_bool false) × Keeping at aim k h (closed vs (other xs)))
    by_truth_keeps t n walked new first_walked second_walked ok =
        let parts = then_none (and_then (assuming spot c n t) (refused aim.post)) (and_then (assuming spot c n (term.Not t)) (other_refused aim.post)) ok in
        let left = and_then_none (assuming spot c n t) (refused aim.post) parts.0 in
        let right = and_then_none (assuming spot c n (term.Not t)) (other_refused aim.post) parts.1 in
        elim (truth_in at laws names c env h here.inside t walked) [
          | inl holds ↦ inl (
            holds,
            sound aim k meet (with_hypothesis names n) left.0 env h xs vs
                (with_formula aim names c env h xs vs here left.0 spot n t new (assumed_in at laws names c env h here.inside left.0 spot n t new (is_formula names c env h here.inside t walked) holds left.1)) first_walked left.2,
          )
          | inr holds ↦ inr (
            holds.0,
            other_sound aim k meet (with_hypothesis names n) right.0 env h xs vs
                (with_formula aim names c env h xs vs here right.0 spot n (term.Not t) new
                (assumed_in at laws names c env h here.inside right.0 spot n (term.Not t) new (not_formula at laws names c env h here.inside t walked) holds.1 right.1)) second_walked right.2,
          )
        ]

    -- the machine takes the body whose formula is true
    pub if_keeps : (t : Term) (n : List ℕ) → w.end_at (f.If t n in_walk other_walk) spot frame_here names ≡ nothing → by_truth spot c n t refused other_refused aim.post ≡ None
        → Keeping at aim k h (closed vs (end_at roots (f.If t n whole other) xs))
    if_keeps t n e ok =
        let walked = if_walked spot names aim.post.sort t n in_walk other_walk e in
        let is_value : value_of no_env vs (trm roots xs t) ≡ logic.value roots env t
        = value_of_sort roots at.ready.declares.roots names c.scope here.inside.matches env xs vs here.values sort.Bool t walked.0 in
        elim (by_truth_keeps t n (in_logic names sort.Bool t walked.0) walked.1 walked.2 walked.3 ok) [
          | inl holds ↦ subst (λ z. Keeping at aim k h (cond (fits no_env vs (trm roots xs t)) (cond z (closed vs (whole xs)) (closed vs (other xs))) FrontBig)) (sym (ap bool_of (is_value ∙ holds.0)))
              (fitting aim k h (fits no_env vs (trm roots xs t)) (closed vs (whole xs)) holds.1)
          | inr holds ↦ subst (λ z. Keeping at aim k h (cond (fits no_env vs (trm roots xs t)) (cond z (closed vs (whole xs)) (closed vs (other xs))) FrontBig)) (sym (ap bool_of (is_value ∙ holds.0)))
              (fitting aim k h (fits no_env vs (trm roots xs t)) (closed vs (other xs)) holds.1)
        ]

    -- at a place where a sequence has a head and a tail
    with_sequence : (next : Context) (n x s : List ℕ) → new_name names n ≡ no_walk_code → new_parts (with_hypothesis names n) x s ≡ no_walk_code → (v u : Val)
        → IsIn at.file at.decl (with_parts (with_hypothesis names n) x s) next (bind (bind env x v) s u) h → IsAt at aim (with_parts (with_hypothesis names n) x s) next (bind (bind env x v) s u) h xs vs
    with_sequence next n x s new parts v u inside =
        let m = here.inside.matches in
        let inner = with_hypothesis names n in
        let wider = with_variable inner x sort.Nat in
        let later : Env = bind (bind env x v) s u in
        let same : SameValues c.scope env later
        = λ y r e. same_values_bind roots names c.scope m (bind env x v) s u (new_last names n x s new parts) y r e ∙ same_values_bind roots names c.scope m env x v (new_head names n x s new parts) y r e in
        let one = with_other_values roots names later xs vs (other_values roots names c.scope m env later xs vs same here.values) n class.Hypothesis (λ r e. cc) in
        let two = with_other_values roots inner later xs vs one x (class.Logic sort.Nat) (λ r e. cc) in
        let bound = both names n x s new parts in
        moved at aim names c env h xs vs here (with_parts inner x s) next later h xs vs inside
        (procs_with_name at.decl.procs wider s (class.Logic sort.Seq) (λ o. tt) (procs_with_name at.decl.procs inner x (class.Logic sort.Nat) (λ o. tt) (procs_with_name at.decl.procs names n class.Hypothesis (λ o. tt) here.procs)))
        (with_other_values roots wider later xs vs two s (class.Logic sort.Seq) (λ r e. cc))
        (grows_on names inner (with_parts inner x s) (grows_with names n class.Hypothesis new)
        (grows_on inner wider (with_parts inner x s) (grows_with inner x (class.Logic sort.Nat) bound.0) (grows_with wider s (class.Logic sort.Seq) bound.1)))
        same

    -- the bodies of a case are one program, so that the first is run whatever holds
    module _ (same : Bool) (one : same ≡ true → whole ≡ other) where
      as_first : same ≡ true → Keeping at aim k h (closed vs (other xs)) → Keeping at aim k h (closed vs (whole xs))
      as_first e keeps = subst (λ z. Keeping at aim k h (closed vs (z xs))) (sym (one e)) keeps

      pub truth_keeps : (t : Term) (n : List ℕ) → w.end_at (f.CaseBool t n in_walk other_walk) spot frame_here names ≡ nothing
          → (needs spot R11 same ▸ by_truth spot c n t refused other_refused aim.post) ≡ None → Keeping at aim k h (closed vs (whole xs))
      truth_keeps t n e ok =
          let walked = truth_walked spot names aim.post.sort t n in_walk other_walk e in
          let parts = then_none (needs spot R11 same) (by_truth spot c n t refused other_refused aim.post) ok in
          elim (by_truth_keeps t n walked.0 walked.1 walked.2 walked.3 parts.1) [ inl holds ↦ holds.1 | inr holds ↦ as_first (needed spot R11 same parts.0) holds.1 ]

      pub sides_keep : (i : ℕ) → w.end_at (f.CaseAtom i in_walk other_walk) spot frame_here names ≡ nothing
          → and_then (sides spot c i) (λ p. needs spot R11 same ▸ by_sides spot c i refused other_refused p aim.post) ≡ None → Keeping at aim k h (closed vs (whole xs))
      sides_keep i e ok =
          let walked = sides_walked spot names aim.post.sort i in_walk other_walk e in
          let first = and_then_none (sides spot c i) (λ p. needs spot R11 same ▸ by_sides spot c i refused other_refused p aim.post) ok in
          let p : Assn × Assn = first.0 in
          let second = then_none (needs spot R11 same) (by_sides spot c i refused other_refused p aim.post) first.2 in
          let parts = then_none (and_then (on_side spot c i p.0) (refused aim.post)) (and_then (on_side spot c i p.1) (other_refused aim.post)) second.1 in
          let left = and_then_none (on_side spot c i p.0) (refused aim.post) parts.0 in
          let right = and_then_none (on_side spot c i p.1) (other_refused aim.post) parts.1 in
          elim (side_in at laws names c env h here.inside left.0 right.0 spot i p first.1 left.1 right.1) [
            | inl inside ↦ sound aim k meet names left.0 env h xs vs (stayed at aim names c env h xs vs here left.0 h inside) walked.0 left.2
            | inr inside ↦ as_first (needed spot R11 same second.0) (other_sound aim k meet names right.0 env h xs vs (stayed at aim names c env h xs vs here right.0 h inside) walked.1 right.2)
          ]

      pub sequence_keeps : (t : Term) (n x s : List ℕ) → w.end_at (f.CaseSeq t n in_walk x s other_walk) spot frame_here names ≡ nothing
          → (needs spot R11 same ▸ by_sequence spot c n t refused x s other_refused aim.post) ≡ None → Keeping at aim k h (closed vs (whole xs))
      sequence_keeps t n x s e ok =
          let walked = sequence_walked spot names aim.post.sort t n in_walk x s other_walk e in
          let inner = with_hypothesis names n in
          let parts = then_none (needs spot R11 same) (by_sequence spot c n t refused x s other_refused aim.post) ok in
          let nil_next = assuming spot c n (term.Eq t term.Nil) in
          let more : Context = record c { scope = with_local (with_local c.scope x (Variable sort.Nat)) s (Variable sort.Seq) } in
          let more_next = assuming spot more n (term.Eq t (term.Cons (term.Var x) (term.Var s))) in
          let bodies = then_none (and_then nil_next (refused aim.post)) (and_then more_next (other_refused aim.post)) parts.1 in
          let left = and_then_none nil_next (refused aim.post) bodies.0 in
          let right = and_then_none more_next (other_refused aim.post) bodies.1 in
          elim (sequence_in at laws names c env h here.inside t walked.0 n x s walked.1 walked.2 spot right.0 right.1) [
            | inl holds ↦ sound aim k meet inner left.0 env h xs vs
                (with_formula aim names c env h xs vs here left.0 spot n (term.Eq t term.Nil) walked.1
                (assumed_in at laws names c env h here.inside left.0 spot n (term.Eq t term.Nil) walked.1 (nil_formula at laws names c env h here.inside t walked.0) holds left.1)) walked.3 left.2
            | inr q ↦ as_first (needed spot R11 same parts.0) (other_sound aim k meet (with_parts inner x s) right.0 (bind (bind env x (a_nat q.0)) s (seq q.1)) h xs vs
                (with_sequence right.0 n x s walked.1 walked.2 (a_nat q.0) (seq q.1) q.2) walked.4 right.2)
          ]

  -- where `false` is proved there is nothing that a body could do wrong
  pub dead_keeps : (spot : Spot) (whole : Whole) (in_walk : w.InBody) (aim : Aim at) (k : ℕ) (names : walk.Scope) (c : Context) (env : Env) (h : Heap) (xs : Names) (vs : List Val) → IsAt at aim names c env h xs vs
      → (q : Proof) → w.end_at (f.Dead q in_walk) spot (w.frame Outside aim.post.sort) names ≡ nothing → proves spot (prove at.decl.proofs q) c term.False ≡ None → Keeping at aim k h (closed vs (whole xs))
  dead_keeps spot whole in_walk aim k names c env h xs vs here q e ok =
      let walked = dead_walked spot names aim.post.sort q in_walk e in
      absurd (none_in at laws names c env h here.inside q walked.0 (then_none (needs spot R10 (formula_fits term.False)) (prove at.decl.proofs q c term.False) ok).1)
