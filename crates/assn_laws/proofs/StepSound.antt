-- The law of steps, form by form: what satisfied the old state satisfies the new one, with some value for a new variable.
use Rattle.std.proofs.Common.{◌≡◌, ℕ, ◌≤◌, Bool, true, false, ◌&&◌, is_some, List, [], ◌∷◌, Option, Some, None, Ok, Err, refl, sym, ◌∙◌, ap, subst}
use Rattle.std.specs.Prelude.{bytes_eq, option_and_then, Result, if◌then◌else◌}
use Rattle.tht_tree.specs.declared.plain.Sort.{Sort}
use Rattle.tht_tree.specs.declared.plain.Sort.TheVariants as sort
use Rattle.tht_tree.specs.declared.plain.Spot.{Spot}
use Rattle.tht_tree.specs.declared.term.Term.{Term}
use Rattle.tht_tree.specs.declared.term.Term.TheVariants as t
use Rattle.tht_tree.specs.declared.assn.Assn.{Assn, out-Assn}
use Rattle.tht_tree.specs.declared.assn.Assn.TheVariants as a
use Rattle.tht_tree.specs.declared.assn.Assn.TheOpen.{Assn-F}
use Rattle.tht_tree.specs.declared.form.PutEnd.{PutEnd}
use Rattle.tht_tree.specs.declared.proof.Proof.{Proof}
use Rattle.tht_tree.specs.declared.give.Give.{Give}
use Rattle.tht_tree.specs.declared.step.StepKind.{StepKind}
use Rattle.tht_tree.specs.declared.step.StepKind.TheVariants as s
use Rattle.tht_tree.specs.declared.rule.RuleCode.TheVariants.{R1, R2, R10, R12}
use Rattle.tht_tree.specs.declared.rule.RuleRefusal.{RuleRefusal}
use Rattle.tht_tree.specs.declared.state.Local.TheVariants.{Variable}
use Rattle.tht_tree.specs.Values.{Val, Env, bind}
use Rattle.tht_tree.specs.Syntax.{Names}
use Rattle.tht_tree.specs.Heaps.{Heap}
use Rattle.tht_tree.specs.Rules.Sizes.{formula_fits, assn_fits}
use Rattle.tht_tree.specs.Rules.Context.{Context, Scope, with_local, atom_at, without_atom, with_atom, context_fits}
use Rattle.tht_tree.specs.Rules.Scoping.{same_sort, is_of, sort_of}
use Rattle.tht_tree.specs.Rules.Refusals.{needs, ◌▸◌}
use Rattle.tht_tree.specs.Rules.Known.{with_hyp}
use Rattle.tht_tree.specs.Rules.Proofs.{prove, proves}
use Rattle.tht_tree.proofs.SameTerm.{bytes_eq-true}
use Rattle.tht_tree.proofs.TermValues.{same_sort-true}
use Rattle.tht_logic.specs.Assertions.{exist, asn}
use Rattle.tht_logic.specs.Satisfaction.{Meaning, Satisfies}
use Rattle.tht_logic.specs.Putting.{put_in_assn, put_assn_within}
use Rattle.tht_logic.specs.Flatten.{flatten, with_assn}
use Rattle.tht_logic.specs.Rules.Checking.{Checked, on_some, on_ok, on_true, put_or_refused}
use Rattle.tht_logic.specs.Rules.Definitions.{Lemma, Declarations, arguments, definition_of, defined}
use Rattle.tht_logic.specs.Rules.Gives.{Existential, fact_at, existential_at, instance_at, frame_of, after_give}
use Rattle.tht_logic.specs.Rules.Parts.{Part, part_at}
use Rattle.tht_logic.specs.Rules.Steps.{of_sort, on_atom, without, if_equal_by, after_have, after_open_as_variable, after_open_as_fact, after_unfold, after_fold, after_rewrite, after_lemma, after_use, after_step_kind}
use Rattle.tht_logic.specs.Rules.Checking.{if_fits}
use Rattle.tht_logic.specs.Rules.Scoped.{Signatures}
use Rattle.tht_logic.specs.Rules.Scoped as scoped
use Rattle.assn_laws.specs.Laws.{AgreeButOnNew, IsScope, IsModel, Premises, StepsAreSound}
use Rattle.assn_laws.proofs.Nameless.{asn-Fact, asn-Inst, asn-Exists}
use Rattle.assn_laws.proofs.Answers.{IsOk, ok_same, from_some, from_ok, from_unless, from_true, from_put as from_putting, from_defined}
use Rattle.assn_laws.proofs.GoalShapes.{is_fact, is_existential, is_instance}
use Rattle.assn_laws.proofs.FlattenHeaps.{behind_empty}
use Rattle.assn_laws.proofs.KnownNames.{both_true}
use Rattle.assn_laws.proofs.ScopedLevels.{scoped-Fact, scoped-Inst}
use Rattle.assn_laws.proofs.AtomLists.{ascends_from, ascends_to, Ascends-with, All-with}
use Rattle.assn_laws.proofs.AtomHeaps.{put_in}
use Rattle.assn_laws.proofs.AddedAtoms.{added_scope}
use Rattle.assn_laws.proofs.Rewriting.{number_at, equal_values, equal_sorts, rewritten}
use Rattle.assn_laws.proofs.GiveSound.{values_twice}
use Rattle.assn_laws.proofs.GivesLaw.{gives_are_sound}
use Rattle.assn_laws.proofs.StateAfter.{Model, Of, In, take, added_at, hyp_at, new_name}
use Rattle.assn_laws.proofs.NewVariable.{variable_at, opened_in_order, opened_holds}

-- ---- what it tells that a step is Ok

then_none : (o q : Option RuleRefusal) → (o ▸ q) ≡ None → (o ≡ None) × (q ≡ None)
then_none None q e = (refl, e)
then_none (Some r) q e = cc

from_fits : (spot : Spot) (k next : Context) → IsOk (if_fits spot k) next → k ≡ next
from_fits spot k next e = ok_same k next (from_true spot R10 (context_fits k) (Ok k) next e).1

from_put : (spot : Spot) (r : Result Assn PutEnd) (p : Assn) → IsOk (put_or_refused spot r) p → r ≡ Ok p
from_put spot (Ok q) p e = ap Ok (ok_same q p e)
from_put spot (Err w) p e = cc

existential_of : (r : Sort) (o : Option Existential) (z : Existential) → option_and_then (of_sort r) o ≡ Some z → (o ≡ Some z) × (r ≡ z.sort)
existential_of r None z e = cc
existential_of r (Some w) z e = pick (same_sort r w.sort) refl e
  where
    inside : (v u : Existential) → Some v ≡ Some u → v ≡ u
    inside v u g = cc

    pick : (c : Bool) → same_sort r w.sort ≡ c → (if c then Some w else None) ≡ Some z → (Some w ≡ Some z) × (r ≡ z.sort)
    pick true g k = (k, same_sort-true r w.sort g ∙ ap (λ q. q.sort) (inside w z k))
    pick false g k = cc

module _ (decl : Declarations) (proof : Proof → Scope → Bool) (instance lemma : Signatures) (M : Meaning) (c : Context) (env : Env) (h : Heap) (premises : Premises decl proof instance lemma M c env) (spot : Spot)
    (at : IsModel decl proof instance lemma M c env h) where
  abbrev roots : Names
  roots = decl.proofs.roots

  abbrev Is : Context → Env → Heap → Type 0
  Is = Model decl proof instance lemma M premises.typed

  abbrev Hold : Env → Assn → Heap → Type 0
  Hold = Of decl proof instance lemma M premises.typed

  abbrev Scoped : Scope → Assn → Type 0
  Scoped = In decl proof instance lemma M premises.typed

  here : IsScope roots c.scope env
  here = record { no_root_hidden = at.formed.no_root_hidden; sorts = at.satisfied.sorts }

  -- the new state is satisfied, with some values for the variables that are new
  abbrev pub Sound : Context → Type 0
  Sound next = (new : Env) × AgreeButOnNew c.scope next.scope env new × Is next new h

  same_values : (k next : Context) → k ≡ next → Is k env h → Sound next
  same_values k next e is = (env, λ z g. refl, subst (λ q. Is q env h) e is)

  -- the atom and its shape
  from_atom : {A : Type 0} (i : ℕ) (shape : Assn-F Assn → Option A) (go : A → Checked Context) (next : Context) → IsOk (on_atom decl spot c i shape go) next
      → (p : Assn) × (z : A) × (atom_at i c.atoms ≡ Some p) × (shape (out-Assn p) ≡ Some z) × IsOk (go z) next
  from_atom i shape go next e =
      let r = from_some spot R1 (atom_at i c.atoms) (λ p. on_some spot R2 (shape (out-Assn p)) go) next e in
      let w = from_some spot R2 (shape (out-Assn r.0)) go next r.2 in
      (r.0, w.0, r.1, w.1, w.2)

  have_sound : (n : List ℕ) (u : Term) (q : Proof) (next : Context) → (scoped.is_new roots c.scope n && scoped.is_formula roots c.scope u && proof q c.scope) ≡ true → IsOk (after_have decl spot c n u q) next → Sound next
  have_sound n u q next o e =
      let w = from_unless (proves spot (prove decl.proofs q) c u) (if_fits spot (with_hyp c n u)) next e in
      let proved = then_none (needs spot R10 (formula_fits u)) (prove decl.proofs q c u) w.0 in
      let is : with_hyp c n u ≡ next = from_fits spot (with_hyp c n u) next w.1 in
      let b = both_true (scoped.is_new roots c.scope n && scoped.is_formula roots c.scope u) (proof q c.scope) o in
      let d = both_true (scoped.is_new roots c.scope n) (scoped.is_formula roots c.scope u) b.0 in
      same_values (with_hyp c n u) next is
      (hyp_at decl proof instance lemma M premises.typed c env h at n u d.0 d.1 (premises.proofs q u b.1 d.1 proved.1))

  fact_sound : (i : ℕ) (n : List ℕ) (next : Context) → scoped.is_new roots c.scope n ≡ true → IsOk (after_open_as_fact decl spot c i n) next → Sound next
  fact_sound i n next o e =
      let last : Term → Checked Context = λ q. if_fits spot (with_hyp (without decl spot c i) n q) in
      let r = from_atom i fact_at (λ q. on_true spot R10 (formula_fits q) (last q)) next e in
      let p : Assn = r.0 in
      let u : Term = r.1 in
      let k : Context = without decl spot c i in
      let is : with_hyp k n u ≡ next = from_fits spot (with_hyp k n u) next (from_true spot R10 (formula_fits u) (last u) next r.4).1 in
      let shape : p ≡ a.Fact u = is_fact p u r.3 in
      let taken = take decl proof instance lemma M premises.typed c env h at i p r.2 in
      let fact = subst (λ z. Satisfies M env [] z taken.one) (asn-Fact roots [] u) (subst (λ z. Hold env z taken.one) shape taken.holds) in
      let formula : scoped.is_formula roots c.scope u ≡ true = sym (scoped-Fact roots instance u c.scope) ∙ subst (Scoped c.scope) shape taken.in_order in
      same_values (with_hyp k n u) next is
      (hyp_at decl proof instance lemma M premises.typed k env h (subst (Is k env) (behind_empty taken.joins fact.0) taken.state) n u o formula fact.1)

  variable_sound : (i : ℕ) (x : List ℕ) (r : Sort) (next : Context) → scoped.is_new roots c.scope x ≡ true → IsOk (after_open_as_variable decl spot c i x r) next → Sound next
  variable_sound i x r next o e =
      let last : Assn → Checked Context = λ q. if_fits spot (with_assn q (record (without decl spot c i) { scope = with_local c.scope x (Variable r) })) in
      let w = from_atom i (λ p. option_and_then (of_sort r) (existential_at p)) (λ z. on_ok (put_or_refused spot (put_assn_within ((z.name, t.Var x) ∷ []) z.body)) last) next e in
      let p : Assn = w.0 in
      let z : Existential = w.1 in
      let k : Context = record { scope = with_local c.scope x (Variable r); hyps = c.hyps; atoms = without_atom i c.atoms; made = c.made } in
      let d : Assn = put_in_assn ((z.name, t.Var x) ∷ []) z.body in
      let made = from_ok (put_or_refused spot (put_assn_within ((z.name, t.Var x) ∷ []) z.body)) last next w.4 in
      let is : with_assn d k ≡ next = ap (λ q. with_assn q k) (from_putting spot ((z.name, t.Var x) ∷ []) z.body made.0 made.1) ∙ from_fits spot (with_assn made.0 k) next made.2 in
      let both = existential_of r (existential_at (out-Assn p)) z w.3 in
      let shape : p ≡ a.Exists z.name r z.body = is_existential p z both.0 ∙ ap (λ q. a.Exists z.name q z.body) (sym both.1) in
      let taken = take decl proof instance lemma M premises.typed c env h at i p w.2 in
      let some : Satisfies M env [] (exist r (asn roots (z.name ∷ []) z.body)) taken.one = subst (λ q. Satisfies M env [] q taken.one) (asn-Exists roots [] z.name r z.body) (subst (λ q. Hold env q taken.one) shape taken.holds) in
      let ins : Scoped c.scope (a.Exists z.name r z.body) = subst (Scoped c.scope) shape taken.in_order in
      let state = variable_at decl proof instance lemma M premises.typed c.scope env x r some.0 o some.1 c.hyps (without_atom i c.atoms) c.made taken.rest taken.state in
      let holds = opened_holds decl proof instance lemma M premises.typed c.scope env x r some.0 o some.1 z.name z.body ins at.formed.no_root_hidden taken.one some.2 in
      let order = opened_in_order decl proof instance lemma M premises.typed c.scope env x r some.0 o some.1 z.name z.body ins at.formed.no_root_hidden in (
        bind env x some.0,
        λ y g. kept some.0 y (bytes_eq x y) refl (ap (λ q. q.scope) (sym is) ∙ added_scope roots instance (flatten d) k) g,
        subst (λ q. Is q (bind env x some.0) h) is (added_at decl proof instance lemma M premises.typed k (bind env x some.0) d taken.one taken.rest h state holds order taken.joins),
      )
    where
      kept : (v : Val) (y : List ℕ) (b : Bool) → bytes_eq x y ≡ b → next.scope ≡ with_local c.scope x (Variable r) → (c.scope y ≡ None → next.scope y ≡ None) → (if b then v else env y) ≡ env y
      kept v y true f n g =
          let old : c.scope y ≡ None = sym (ap c.scope (bytes_eq-true x y f)) ∙ (new_name decl proof instance lemma M premises.typed c.scope x (Variable r) o).0 in
          let nothing : None ≡ Some (Variable r) = sym (g old) ∙ ap (λ q. q y) n ∙ ap (λ b. if b then Some (Variable r) else c.scope y) f in
          cc
      kept v y false f n g = refl

  -- an instance and its definition hold of the same heaps
  defined_holds : (n : List ℕ) (us : List Term) (d : Assn) (x : Heap) → instance c.scope n us ≡ true → definition_of (decl.predicates n) us ≡ Ok d → Hold env (a.Inst n us) x → Hold env d x
  defined_holds n us d x fits is w =
      (premises.instances c.scope env here n us d x fits is).0
      (subst (λ vs. M n vs x) (values_twice roots env us) (subst (λ z. Satisfies M env [] z x) (asn-Inst roots [] n us) w))

  instance_holds : (n : List ℕ) (us : List Term) (d : Assn) (x : Heap) → instance c.scope n us ≡ true → definition_of (decl.predicates n) us ≡ Ok d → Hold env d x → Hold env (a.Inst n us) x
  instance_holds n us d x fits is w =
      subst (λ z. Satisfies M env [] z x) (sym (asn-Inst roots [] n us)) (subst (λ vs. M n vs x) (sym (values_twice roots env us))
      ((premises.instances c.scope env here n us d x fits is).1 w))

  unfold_sound : (i : ℕ) (next : Context) → IsOk (after_unfold decl spot c i) next → Sound next
  unfold_sound i next e =
      let r = from_atom i instance_at (λ z. on_ok (defined decl spot z.0 z.1) (λ d. if_fits spot (with_assn d (without decl spot c i)))) next e in
      let p : Assn = r.0 in
      let n : List ℕ = r.1.0 in
      let us : List Term = r.1.1 in
      let k : Context = without decl spot c i in
      let w = from_ok (defined decl spot n us) (λ d. if_fits spot (with_assn d k)) next r.4 in
      let defines : definition_of (decl.predicates n) us ≡ Ok w.0 = from_defined spot (definition_of (decl.predicates n) us) w.0 w.1 in
      let is : with_assn w.0 k ≡ next = from_fits spot (with_assn w.0 k) next w.2 in
      let shape : p ≡ a.Inst n us = is_instance p r.1 r.3 in
      let taken = take decl proof instance lemma M premises.typed c env h at i p r.2 in
      let fits : instance c.scope n us ≡ true = sym (scoped-Inst roots instance n us c.scope) ∙ subst (Scoped c.scope) shape taken.in_order in
      same_values (with_assn w.0 k) next is
      (added_at decl proof instance lemma M premises.typed k env w.0 taken.one taken.rest h taken.state (defined_holds n us w.0 taken.one fits defines (subst (λ z. Hold env z taken.one) shape taken.holds))
      (premises.typed.defined c.scope at.formed.no_root_hidden n us w.0 fits defines) taken.joins)

  -- a give leaves the scope as it is
  give_scope : (x : Give) (d : Assn) (k : Context) → IsOk (after_give decl c x d) k → c.scope ≡ k.scope
  give_scope x d k e =
      let w = from_ok (frame_of decl c x c.atoms d) (λ left. Ok (record c { atoms = left })) k e in
      ap (λ q. q.scope) (ok_same (record c { atoms = w.0 }) k w.2)

  fold_sound : (n : List ℕ) (us : List Term) (x : Give) (next : Context) → (instance c.scope n us && scoped.give roots instance proof x c.scope) ≡ true → IsOk (after_fold decl spot c n us x) next → Sound next
  fold_sound n us x next o e =
      let b = both_true (instance c.scope n us) (scoped.give roots instance proof x c.scope) o in
      let w = from_ok (defined decl spot n us) (λ d. on_ok (after_give decl c x d) (λ k. on_true spot R10 (assn_fits (a.Inst n us)) (if_fits spot (with_assn (a.Inst n us) k)))) next e in
      let v = from_ok (after_give decl c x w.0) (λ k. on_true spot R10 (assn_fits (a.Inst n us)) (if_fits spot (with_assn (a.Inst n us) k))) next w.2 in
      let u = from_true spot R10 (assn_fits (a.Inst n us)) (if_fits spot (with_assn (a.Inst n us) v.0)) next v.2 in
      let is : with_assn (a.Inst n us) v.0 ≡ next = from_fits spot (with_assn (a.Inst n us) v.0) next u.1 in
      let defines : definition_of (decl.predicates n) us ≡ Ok w.0 = from_defined spot (definition_of (decl.predicates n) us) w.0 w.1 in
      let s = gives_are_sound decl proof instance lemma M c v.0 env h premises at x w.0 b.1 (premises.typed.defined c.scope at.formed.no_root_hidden n us w.0 b.0 defines) v.1 in
      let ins : Scoped v.0.scope (a.Inst n us) = subst (λ z. Scoped z (a.Inst n us)) (give_scope x w.0 v.0 v.1) (scoped-Inst roots instance n us c.scope ∙ b.0) in
      same_values (with_assn (a.Inst n us) v.0) next is
      (added_at decl proof instance lemma M premises.typed v.0 env (a.Inst n us) s.0 s.1 h s.4 (instance_holds n us w.0 s.0 b.0 defines s.3) ins s.2)

  use_sound : (l : List ℕ) (us : List Term) (x : Give) (next : Context) → (lemma c.scope l us && scoped.give roots instance proof x c.scope) ≡ true → IsOk (after_use decl spot c l us x) next → Sound next
  use_sound l us x next o e =
      let b = both_true (lemma c.scope l us) (scoped.give roots instance proof x c.scope) o in
      let q = from_some spot R12 (decl.lemmas l) (after_lemma decl spot c us x) next e in
      let y : Lemma = q.0 in
      let pre = put_assn_within (arguments y.params us) y.pre in
      let post = put_assn_within (arguments y.params us) y.post in
      let w = from_ok (put_or_refused spot pre) (λ p. on_ok (after_give decl c x p) (λ k. on_ok (put_or_refused spot post) (λ z. if_fits spot (with_assn z k)))) next q.2 in
      let v = from_ok (after_give decl c x w.0) (λ k. on_ok (put_or_refused spot post) (λ z. if_fits spot (with_assn z k))) next w.2 in
      let u = from_ok (put_or_refused spot post) (λ z. if_fits spot (with_assn z v.0)) next v.2 in
      let is : with_assn u.0 v.0 ≡ next = from_fits spot (with_assn u.0 v.0) next u.2 in
      let asks : pre ≡ Ok w.0 = from_put spot pre w.0 w.1 in
      let gives : post ≡ Ok u.0 = from_put spot post u.0 u.1 in
      let s = gives_are_sound decl proof instance lemma M c v.0 env h premises at x w.0 b.1 (premises.typed.asks c.scope at.formed.no_root_hidden l us y w.0 b.0 q.1 asks) v.1 in
      let ins : Scoped v.0.scope u.0 = subst (λ z. Scoped z u.0) (give_scope x w.0 v.0 v.1) (premises.typed.gives c.scope at.formed.no_root_hidden l us y u.0 b.0 q.1 gives) in
      same_values (with_assn u.0 v.0) next is
      (added_at decl proof instance lemma M premises.typed v.0 env u.0 s.0 s.1 h s.4 (premises.lemmas l y us w.0 u.0 s.0 b.0 q.1 asks gives s.3) ins s.2)

  rewrite_sound : (i k : ℕ) (u : Term) (q : Proof) (next : Context) → (is_some (sort_of roots c.scope u) && proof q c.scope) ≡ true → IsOk (after_rewrite decl spot c i k u q) next → Sound next
  rewrite_sound i k u q next o e =
      let r = from_atom i (part_at k) (λ part. if_equal_by decl spot c u q part (if_fits spot (record c { atoms = with_atom i (part.with u) c.atoms }))) next e in
      let p : Assn = r.0 in
      let part : Part = r.1 in
      let old : Term = part.term in
      let changed : Context = record c { atoms = with_atom i (part.with u) c.atoms } in
      let w = from_unless (needs spot R2 (is_of sort.Bool (sort_of roots c.scope (t.Eq old u))) ▸ proves spot (prove decl.proofs q) c (t.Eq old u) ▸ needs spot R10 (assn_fits (part.with u))) (if_fits spot changed) next r.4 in
      let n = then_none (needs spot R2 (is_of sort.Bool (sort_of roots c.scope (t.Eq old u)))) (proves spot (prove decl.proofs q) c (t.Eq old u) ▸ needs spot R10 (assn_fits (part.with u))) w.0 in
      let f = then_none (proves spot (prove decl.proofs q) c (t.Eq old u)) (needs spot R10 (assn_fits (part.with u))) n.1 in
      let g = then_none (needs spot R10 (formula_fits (t.Eq old u))) (prove decl.proofs q c (t.Eq old u)) f.0 in
      let formula : is_of sort.Bool (sort_of roots c.scope (t.Eq old u)) ≡ true = needed spot (is_of sort.Bool (sort_of roots c.scope (t.Eq old u))) n.0 in
      let is : changed ≡ next = from_fits spot changed next w.1 in
      let b = both_true (is_some (sort_of roots c.scope u)) (proof q c.scope) o in
      let values = equal_values roots env old u (premises.proofs q (t.Eq old u) b.1 formula g.1) in
      let sorts = equal_sorts roots c.scope old u formula in
      let taken = take decl proof instance lemma M premises.typed c env h at i p r.2 in
      let new = rewritten roots instance M env c.scope premises.typed.by_sorts p k part r.3 u sorts.0 values sorts.1 sorts.2 taken.in_order in
      let ascends = ascends_from c.atoms at.formed.ascending in
      same_values changed next is (record {
        formed = record {
          ascending = ascends_to (with_atom i (part.with u) c.atoms) (Ascends-with i (part.with u) c.atoms ascends);
          numbered = All-with (λ z. z.0 ≤ c.made) i (part.with u) c.atoms at.formed.numbered (number_at c.made i p c.atoms at.formed.numbered r.2);
          atoms = All-with (λ z. Scoped c.scope z.1) i (part.with u) c.atoms at.formed.atoms new.0;
          hyps = at.formed.hyps;
          no_root_hidden = at.formed.no_root_hidden;
        };
        satisfied = record {
          sorts = at.satisfied.sorts;
          hyps = at.satisfied.hyps;
          atoms = put_in M roots env c.atoms i (part.with u) taken.one taken.rest h ascends taken.atoms taken.joins (new.1 taken.one taken.holds);
        };
      })
    where
      needed : (place : Spot) (z : Bool) → needs place R2 z ≡ None → z ≡ true
      needed place true g = refl
      needed place false g = cc

  pub step_sound : (x : StepKind) (next : Context) → scoped.step roots instance proof lemma x c.scope ≡ true → IsOk (after_step_kind decl spot c x) next → Sound next
  step_sound (s.Have n u q) next o e = have_sound n u q next o e
  step_sound (s.OpenVar i x r) next o e = variable_sound i x r next o e
  step_sound (s.OpenFact i n) next o e = fact_sound i n next o e
  step_sound (s.Unfold i) next o e = unfold_sound i next e
  step_sound (s.Fold n us x) next o e = fold_sound n us x next o e
  step_sound (s.Rewrite i k u q) next o e = rewrite_sound i k u q next o e
  step_sound (s.Use l us x) next o e = use_sound l us x next o e

-- The law.
pub steps_are_sound : (decl : Declarations) (proof : Proof → Scope → Bool) (instance lemma : Signatures) (M : Meaning) → StepsAreSound decl proof instance lemma M
steps_are_sound decl proof instance lemma M c next env h premises at x o e = step_sound decl proof instance lemma M c env h premises x.spot at x.kind next o e
