-- The law of gives, form by form, and for all gives by induction: the heap splits into one for the goal and one for the atoms that are left.
use Rattle.std.proofs.Common.{◌≡◌, ℕ, Bool, true, ◌&&◌, is_some, List, [], ◌∷◌, map, Option, Some, None, Ok, refl, sym, ◌∙◌, ap, subst, inl, inr}
use Rattle.std.proofs.Math.Path.{transport}
use Rattle.tht_tree.specs.declared.plain.Sort.{Sort}
use Rattle.tht_tree.specs.declared.plain.Spot.{Spot}
use Rattle.tht_tree.specs.declared.term.Term.{Term}
use Rattle.tht_tree.specs.declared.assn.Assn.{Assn, out-Assn}
use Rattle.tht_tree.specs.declared.assn.Assn.TheVariants as a
use Rattle.tht_tree.specs.declared.proof.Proof.{Proof}
use Rattle.tht_tree.specs.declared.give.Give.{Give, roll-Give, ind-Give}
use Rattle.tht_tree.specs.declared.give.GiveKind.{GiveKind, roll-GiveKind, map-GiveKind}
use Rattle.tht_tree.specs.declared.give.GiveKind.TheOpen as g
use Rattle.tht_tree.specs.declared.rule.RuleCode.TheVariants.{R1, R4}
use Rattle.tht_tree.specs.declared.state.Local.TheVariants.{Variable}
use Rattle.tht_tree.specs.Values.{Env, a_bool}
use Rattle.tht_tree.specs.Syntax.{Names, trm}
use Rattle.tht_tree.specs.Terms.{value_of, value}
use Rattle.tht_tree.specs.Heaps.{Heap, nothing, Joins}
use Rattle.tht_tree.specs.Rules.Context.{Context, Scope, with_local, atom_at, without_atom}
use Rattle.tht_tree.specs.Rules.Scoping.{is_of, sort_of}
use Rattle.tht_tree.specs.Rules.Proofs.{prove}
use Rattle.tht_tree.specs.Normal.Putting.{over}
use Rattle.tht_logic.proofs.HeapLaws.{Joins-front, Joins-swap, beside_nothing}
use Rattle.tht_tree.proofs.TermValues.{same_sort-true, value_of_sort}
use Rattle.tht_logic.specs.Assertions.{asn}
use Rattle.tht_logic.specs.Satisfaction.{Meaning, Satisfies, AtomsHold}
use Rattle.tht_logic.specs.Putting.{put_in_assn, put_assn_within}
use Rattle.tht_logic.specs.Alike.{alike}
use Rattle.tht_logic.specs.Rules.Checking.{unless_refused, on_some, on_ok, on_true, put_or_refused}
use Rattle.tht_logic.specs.Rules.Definitions.{Declarations, definition_of, defined}
use Rattle.tht_logic.specs.Rules.Gives.{Atoms, ToFrame, Existential, emp_at, fact_at, star_at, existential_at, disjunction_at, instance_at, give_at, frame_of, frame_of_kind}
use Rattle.tht_logic.specs.Rules.Scoped.{Signatures}
use Rattle.tht_logic.specs.Rules.Scoped as scoped
use Rattle.assn_laws.specs.AssertionLaws.{Holds}
use Rattle.assn_laws.specs.Laws.{IsScope, IsModel, Premises}
use Rattle.assn_laws.proofs.Nameless.{asn-Emp, asn-Fact, asn-Star, asn-Inst, asn-Exists, asn-Either}
use Rattle.assn_laws.proofs.Answers.{IsOk, ok_same, from_some, from_ok, from_unless, from_true, from_put, from_defined}
use Rattle.assn_laws.proofs.GoalShapes.{is_emp, is_fact, is_star, is_existential, is_disjunction, is_instance}
use Rattle.assn_laws.proofs.AtomHeaps.{taken_out}
use Rattle.assn_laws.proofs.AlikeHeaps.{alike_have_the_same_heaps}
use Rattle.assn_laws.proofs.PuttingHeaps.{putting_has_the_heaps}
use Rattle.assn_laws.proofs.KnownNames.{both_true}
use Rattle.assn_laws.proofs.ScopedLevels.{scoped-Fact, scoped-Star, scoped-Inst, scoped-Exists, scoped-Either, scoped_is, scoped_kind_is}
use Rattle.assn_laws.proofs.PutScoped.{put_in_order}
use Rattle.assn_laws.proofs.Opening.{with_one, opened, one_keeps}
use Rattle.assn_laws.proofs.GiveLevels.{frame_of_is, frame_of_kind_is}

pub sort_is : (r : Sort) (o : Option Sort) → is_of r o ≡ true → o ≡ Some r
sort_is r None e = cc
sort_is r (Some s) e = ap (λ q. Some q) (sym (same_sort-true r s e))

pub values_twice : (roots : Names) (env : Env) (us : List Term) → map (value_of env []) (map (trm roots []) us) ≡ map (value roots env) us
values_twice roots env [] = refl
values_twice roots env (u ∷ us) = λ i. value roots env u ∷ values_twice roots env us i

module _ (decl : Declarations) (proof : Proof → Scope → Bool) (instance lemma : Signatures) (M : Meaning) (c : Context) (env : Env) (h : Heap) (premises : Premises decl proof instance lemma M c env)
    (at : IsModel decl proof instance lemma M c env h) (P : Atoms → Type 0) (removes : (i : ℕ) (atoms : Atoms) → P atoms → P (without_atom i atoms)) where
  abbrev roots : Names
  roots = decl.proofs.roots

  abbrev Of : Assn → Heap → Type 0
  Of = Holds M roots env

  abbrev In : Assn → Type 0
  In p = scoped.assn roots instance p c.scope ≡ true

  -- one heap for the goal, and one for the atoms that are left
  pub record Split (left : Atoms) (goal : Assn) (y : Heap) : Type 0 where
    pub given : Heap
    pub kept : Heap
    pub joins : Joins given kept y
    pub holds : Of goal given
    pub atoms : AtomsHold M roots env left kept
    pub good : P left

  abbrev pub IsSound : ToFrame → (Scope → Bool) → Type 0
  IsSound give order =
      (atoms left : Atoms) (goal : Assn) (y : Heap) → order c.scope ≡ true → In goal → P atoms → AtomsHold M roots env atoms y → IsOk (give atoms goal) left → Split left goal y

  -- a goal of the empty heap
  of_nothing : (atoms left : Atoms) (goal : Assn) (y : Heap) → Of goal nothing → atoms ≡ left → P atoms → AtomsHold M roots env atoms y → Split left goal y
  of_nothing atoms left goal y holds same p w = record {
    given = nothing;
    kept = y;
    joins = Joins-swap (beside_nothing y);
    holds = holds;
    atoms = subst (λ z. AtomsHold M roots env z y) same w;
    good = subst P same p;
  }

  -- the same split for another goal
  for_goal : (left : Atoms) (p goal : Assn) (y : Heap) → ((x : Heap) → Of p x → Of goal x) → Split left p y → Split left goal y
  for_goal left p goal y f s = record { given = s.given; kept = s.kept; joins = s.joins; holds = f s.given s.holds; atoms = s.atoms; good = s.good }

  in_same : (p q : Assn) → p ≡ q → In p → In q
  in_same p q e i = subst In e i

  emp_sound : (spot : Spot) → IsSound (give_at decl c g.Emp spot) (λ s. true)
  emp_sound spot atoms left goal y o i p w e =
      let r = from_some spot R4 (emp_at (out-Assn goal)) (λ z. Ok atoms) left e in
      of_nothing atoms left goal y (subst (λ q. Of q nothing) (sym (is_emp goal r.0 r.1)) (subst (λ z. Satisfies M env [] z nothing) (sym (asn-Emp roots [])) (λ q. refl))) (ok_same atoms left r.2) p w

  atom_sound : (k : ℕ) (spot : Spot) → IsSound (give_at decl c (g.Atom k) spot) (λ s. true)
  atom_sound k spot atoms left goal y o i p w e =
      let r = from_some spot R1 (atom_at k atoms) (λ q. on_true spot R4 (alike q goal) (Ok (without_atom k atoms))) left e in
      let s = from_true spot R4 (alike r.0 goal) (Ok (without_atom k atoms)) left r.2 in
      let same : without_atom k atoms ≡ left = ok_same (without_atom k atoms) left s.1 in
      let z = taken_out M roots env atoms k r.0 y r.1 w in
      record {
        given = z.0;
        kept = z.1;
        joins = z.2;
        holds = alike_have_the_same_heaps M roots env r.0 goal z.0 s.0 z.3;
        atoms = subst (λ b. AtomsHold M roots env b z.1) same z.4;
        good = subst P same (removes k atoms p);
      }

  fact_sound : (q : Proof) (spot : Spot) → IsSound (give_at decl c (g.Fact q) spot) (proof q)
  fact_sound q spot atoms left goal y o i p w e =
      let r = from_some spot R4 (fact_at (out-Assn goal)) (λ t. unless_refused (prove decl.proofs q c t) (Ok atoms)) left e in
      let s = from_unless (prove decl.proofs q c r.0) (Ok atoms) left r.2 in
      let is : goal ≡ a.Fact r.0 = is_fact goal r.0 r.1 in
      let formula : scoped.is_formula roots c.scope r.0 ≡ true = sym (scoped-Fact roots instance r.0 c.scope) ∙ in_same goal (a.Fact r.0) is i in
      let holds : value roots env r.0 ≡ a_bool true = premises.proofs q r.0 o formula s.0 in
      of_nothing atoms left goal y (subst (λ z. Of z nothing) (sym is) (subst (λ z. Satisfies M env [] z nothing) (sym (asn-Fact roots [] r.0)) ((λ z. refl), holds))) (ok_same atoms left s.1) p w

  star_sound : (f k : ToFrame) (order next : Scope → Bool) → IsSound f order → IsSound k next → (spot : Spot)
      → IsSound (λ atoms goal. on_some spot R4 (star_at (out-Assn goal)) (λ z. on_ok (f atoms z.0) (λ mid. k mid z.1))) (λ s. order s && next s)
  star_sound f k order next sound later spot atoms left goal y o i p w e =
      let r = from_some spot R4 (star_at (out-Assn goal)) (λ z. on_ok (f atoms z.0) (λ mid. k mid z.1)) left e in
      let q : Assn = r.0.0 in
      let b : Assn = r.0.1 in
      let m = from_ok (f atoms q) (λ mid. k mid b) left r.2 in
      let is : goal ≡ a.Star q b = is_star goal r.0 r.1 in
      let ins : (scoped.assn roots instance q c.scope ≡ true) × (scoped.assn roots instance b c.scope ≡ true)
      = both_true (scoped.assn roots instance q c.scope) (scoped.assn roots instance b c.scope) (sym (scoped-Star roots instance q b c.scope) ∙ in_same goal (a.Star q b) is i) in
      let orders = both_true (order c.scope) (next c.scope) o in
      let u : Split m.0 q y = sound atoms m.0 q y orders.0 ins.0 p w m.1 in
      let v : Split left b u.kept = later m.0 left b u.kept orders.1 ins.1 u.good u.atoms m.2 in
      let j = Joins-front {a = u.given} {b = v.given} {c = v.kept} {bc = u.kept} {abc = y} v.joins u.joins in
      record {
        given = j.0;
        kept = v.kept;
        joins = j.2;
        holds = subst (λ z. Of z j.0) (sym is) (subst (λ z. Satisfies M env [] z j.0) (sym (asn-Star roots [] q b)) (u.given, v.given, j.1, u.holds, v.holds));
        atoms = v.atoms;
        good = v.good;
      }

  -- a heap of what stands behind `exists`, with a term for its variable, is one of the whole
  some_holds : (n : List ℕ) (s : Sort) (b : Assn) (t : Term) → sort_of roots c.scope t ≡ Some s → (x : Heap) → Of (put_in_assn ((n, t) ∷ []) b) x → Of (a.Exists n s b) x
  some_holds n s b t sorted x holds =
      let outer : Satisfies M (over roots env (with_one roots n t)) [] (asn [] [] b) x = (putting_has_the_heaps M roots env (with_one roots n t) b x).0 holds in
      let inner : Satisfies M env (value roots env t ∷ []) (asn roots (n ∷ []) b) x = transport (λ i. opened roots n t M env b i x) outer in
      subst (λ z. Satisfies M env [] z x) (sym (asn-Exists roots [] n s b))
      (value roots env t, value_of_sort roots c.scope env at.formed.no_root_hidden at.satisfied.sorts t s sorted, inner)

  ex_sound : (t : Term) (f : ToFrame) (order : Scope → Bool) → IsSound f order → (spot : Spot)
      → IsSound
      (λ atoms goal. on_some spot R4 (existential_at (out-Assn goal)) (λ z.
      on_true spot R4 (is_of z.sort (sort_of roots c.scope t)) (on_ok (put_or_refused spot (put_assn_within ((z.name, t) ∷ []) z.body)) (f atoms))))
      (λ s. is_some (sort_of roots s t) && order s)
  ex_sound t f order sound spot atoms left goal y o i p w e =
      let r = from_some spot R4 (existential_at (out-Assn goal)) (λ z. on_true spot R4 (is_of z.sort (sort_of roots c.scope t)) (on_ok (put_or_refused spot (put_assn_within ((z.name, t) ∷ []) z.body)) (f atoms))) left e in
      let z : Existential = r.0 in
      let s = from_true spot R4 (is_of z.sort (sort_of roots c.scope t)) (on_ok (put_or_refused spot (put_assn_within ((z.name, t) ∷ []) z.body)) (f atoms)) left r.2 in
      let k = from_ok (put_or_refused spot (put_assn_within ((z.name, t) ∷ []) z.body)) (f atoms) left s.1 in
      let made : put_in_assn ((z.name, t) ∷ []) z.body ≡ k.0 = from_put spot ((z.name, t) ∷ []) z.body k.0 k.1 in
      let is : goal ≡ a.Exists z.name z.sort z.body = is_existential goal z r.1 in
      let sorted : sort_of roots c.scope t ≡ Some z.sort = sort_is z.sort (sort_of roots c.scope t) s.0 in
      let ins : scoped.assn roots instance z.body (with_local c.scope z.name (Variable z.sort)) ≡ true
      = sym (scoped-Exists roots instance z.name z.sort z.body c.scope) ∙ in_same goal (a.Exists z.name z.sort z.body) is i in
      let inner : In (put_in_assn ((z.name, t) ∷ []) z.body)
      = put_in_order roots instance instance premises.typed.by_sorts z.body ((z.name, t) ∷ []) (with_local c.scope z.name (Variable z.sort)) c.scope
      (one_keeps roots z.name t c.scope z.sort sorted) ins in
      let u : Split left k.0 y = sound atoms left k.0 y (both_true (is_some (sort_of roots c.scope t)) (order c.scope) o).1 (in_same (put_in_assn ((z.name, t) ∷ []) z.body) k.0 made inner) p w k.2 in
      for_goal left k.0 goal y (λ x q. subst (λ b. Of b x) (sym is) (some_holds z.name z.sort z.body t sorted x (subst (λ b. Of b x) (sym made) q))) u

  left_sound : (f : ToFrame) (order : Scope → Bool) → IsSound f order → (spot : Spot) → IsSound (λ atoms goal. on_some spot R4 (disjunction_at (out-Assn goal)) (λ z. f atoms z.0)) order
  left_sound f order sound spot atoms left goal y o i p w e =
      let r = from_some spot R4 (disjunction_at (out-Assn goal)) (λ z. f atoms z.0) left e in
      let q : Assn = r.0.0 in
      let b : Assn = r.0.1 in
      let is : goal ≡ a.Either q b = is_disjunction goal r.0 r.1 in
      let ins : (scoped.assn roots instance q c.scope ≡ true) × (scoped.assn roots instance b c.scope ≡ true)
      = both_true (scoped.assn roots instance q c.scope) (scoped.assn roots instance b c.scope) (sym (scoped-Either roots instance q b c.scope) ∙ in_same goal (a.Either q b) is i) in
      for_goal left q goal y (λ x z. subst (λ k. Of k x) (sym is) (subst (λ k. Satisfies M env [] k x) (sym (asn-Either roots [] q b)) (inl z))) (sound atoms left q y o ins.0 p w r.2)

  right_sound : (f : ToFrame) (order : Scope → Bool) → IsSound f order → (spot : Spot) → IsSound (λ atoms goal. on_some spot R4 (disjunction_at (out-Assn goal)) (λ z. f atoms z.1)) order
  right_sound f order sound spot atoms left goal y o i p w e =
      let r = from_some spot R4 (disjunction_at (out-Assn goal)) (λ z. f atoms z.1) left e in
      let q : Assn = r.0.0 in
      let b : Assn = r.0.1 in
      let is : goal ≡ a.Either q b = is_disjunction goal r.0 r.1 in
      let ins : (scoped.assn roots instance q c.scope ≡ true) × (scoped.assn roots instance b c.scope ≡ true)
      = both_true (scoped.assn roots instance q c.scope) (scoped.assn roots instance b c.scope) (sym (scoped-Either roots instance q b c.scope) ∙ in_same goal (a.Either q b) is i) in
      for_goal left b goal y (λ x z. subst (λ k. Of k x) (sym is) (subst (λ k. Satisfies M env [] k x) (sym (asn-Either roots [] q b)) (inr z))) (sound atoms left b y o ins.1 p w r.2)

  fold_sound : (f : ToFrame) (order : Scope → Bool) → IsSound f order → (spot : Spot)
      → IsSound (λ atoms goal. on_some spot R4 (instance_at (out-Assn goal)) (λ z. on_ok (defined decl spot z.0 z.1) (f atoms))) order
  fold_sound f order sound spot atoms left goal y o i p w e =
      let r = from_some spot R4 (instance_at (out-Assn goal)) (λ z. on_ok (defined decl spot z.0 z.1) (f atoms)) left e in
      let n : List ℕ = r.0.0 in
      let us : List Term = r.0.1 in
      let k = from_ok (defined decl spot n us) (f atoms) left r.2 in
      let is : goal ≡ a.Inst n us = is_instance goal r.0 r.1 in
      let fits : instance c.scope n us ≡ true = sym (scoped-Inst roots instance n us c.scope) ∙ in_same goal (a.Inst n us) is i in
      let defines : definition_of (decl.predicates n) us ≡ Ok k.0 = from_defined spot (definition_of (decl.predicates n) us) k.0 k.1 in
      let here : IsScope roots c.scope env = record { no_root_hidden = at.formed.no_root_hidden; sorts = at.satisfied.sorts } in
      for_goal left k.0 goal y
      (λ x z. subst (λ b. Of b x) (sym is)
      (subst (λ b. Satisfies M env [] b x) (sym (asn-Inst roots [] n us)) (subst (λ vs. M n vs x) (sym (values_twice roots env us)) ((premises.instances c.scope env here n us k.0 x fits defines).1 z))))
      (sound atoms left k.0 y o (premises.typed.defined c.scope at.formed.no_root_hidden n us k.0 fits defines) p w k.2)

  -- ---- all gives

  abbrev KindSound : GiveKind → Type 0
  KindSound k = (spot : Spot) → IsSound (frame_of_kind decl c k spot) (scoped.give_kind roots instance proof k)

  abbrev GiveSound : Give → Type 0
  GiveSound x = IsSound (frame_of decl c x) (scoped.give roots instance proof x)

  abbrev Kinds : Type 0
  Kinds = (k : GiveKind) × KindSound k

  abbrev Gives : Type 0
  Gives = (x : Give) × GiveSound x

  abbrev left_level : g.GiveKind-F GiveKind Give → g.GiveKind-F (Spot → ToFrame) ToFrame
  left_level = map-GiveKind GiveKind Give (Spot → ToFrame) ToFrame (frame_of_kind decl c) (frame_of decl c)

  abbrev order_level : g.GiveKind-F GiveKind Give → g.GiveKind-F (Scope → Bool) (Scope → Bool)
  order_level = map-GiveKind GiveKind Give (Scope → Bool) (Scope → Bool) (scoped.give_kind roots instance proof) (scoped.give roots instance proof)

  abbrev IsLevel : g.GiveKind-F GiveKind Give → Type 0
  IsLevel x = (spot : Spot) → IsSound (give_at decl c (left_level x) spot) (scoped.give_at roots instance proof (order_level x))

  level : (y : g.GiveKind-F Kinds Gives) → IsLevel (map-GiveKind Kinds Gives GiveKind Give (λ x. x.0) (λ x. x.0) y)
  level g.Emp = emp_sound
  level (g.Atom k) = atom_sound k
  level (g.Fact q) = fact_sound q
  level (g.Star x z) = star_sound (frame_of decl c x.0) (frame_of decl c z.0) (scoped.give roots instance proof x.0) (scoped.give roots instance proof z.0) x.1 z.1
  level (g.Ex t x) = ex_sound t (frame_of decl c x.0) (scoped.give roots instance proof x.0) x.1
  level (g.Left x) = left_sound (frame_of decl c x.0) (scoped.give roots instance proof x.0) x.1
  level (g.Right x) = right_sound (frame_of decl c x.0) (scoped.give roots instance proof x.0) x.1
  level (g.Fold x) = fold_sound (frame_of decl c x.0) (scoped.give roots instance proof x.0) x.1

  kind_step : (x : g.GiveKind-F GiveKind Give) → IsLevel x → KindSound (roll-GiveKind x)
  kind_step x sound spot atoms left goal y o i p w e =
      sound spot atoms left goal y (sym (scoped_kind_is roots instance proof x c.scope) ∙ o) i p w (sym (frame_of_kind_is decl c x spot atoms goal) ∙ e)

  give_step : (x : Give) → KindSound x.kind → GiveSound x
  give_step x sound atoms left goal y o i p w e =
      sound x.spot atoms left goal y (sym (scoped_is roots instance proof x c.scope) ∙ o) i p w (sym (frame_of_is decl c x.spot x.kind atoms goal) ∙ e)

  pub gives_split : (x : Give) → IsSound (frame_of decl c x) (scoped.give roots instance proof x)
  gives_split = ind-Give KindSound GiveSound (λ x y is. kind_step x (subst IsLevel is (level y))) (λ x y is. give_step (roll-Give x) (subst (λ (z : g.Give-F GiveKind Give). KindSound z.kind) is y.kind.1))
