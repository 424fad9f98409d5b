-- The rules of steps are those of their stages.
use Rattle.std.proofs.Common.{◌≡◌, ℕ, Bool, true, false, List, [], ◌∷◌, Option, Some, None, Ok, Err, refl, sym, ◌∙◌, ap}
use Rattle.std.specs.Prelude.{option_map, option_and_then}
use Rattle.tht_tree.specs.declared.plain.Spot.{Spot}
use Rattle.tht_tree.specs.declared.plain.Sort.{Sort}
use Rattle.tht_tree.specs.declared.plain.Sort.TheVariants as sort
use Rattle.tht_tree.specs.declared.proof.Proof.{Proof}
use Rattle.tht_tree.specs.declared.give.Give.{Give}
use Rattle.tht_tree.specs.declared.term.Term.{Term}
use Rattle.tht_tree.specs.declared.term.Term.TheVariants as term
use Rattle.tht_tree.specs.declared.assn.Assn.{Assn, out-Assn}
use Rattle.tht_tree.specs.declared.assn.Assn.TheVariants as assn
use Rattle.tht_tree.specs.declared.rule.RuleCode.TheVariants.{R1, R2, R10, R12}
use Rattle.tht_tree.specs.declared.rule.RuleRefusal.{RuleRefusal}
use Rattle.tht_tree.specs.declared.state.Local.{Local}
use Rattle.tht_tree.specs.declared.state.Local.TheVariants.{Variable}
use Rattle.tht_tree.specs.Rules.Sizes.{formula_fits, assn_fits}
use Rattle.tht_tree.specs.Rules.Context.{Context, Scope, with_local, context_fits, atom_at}
use Rattle.tht_tree.specs.Rules.Scoping.{sort_of, is_of}
use Rattle.tht_tree.specs.Rules.Refusals.{needs, ◌▸◌}
use Rattle.tht_tree.specs.Rules.Known.{with_hyp}
use Rattle.tht_tree.specs.Rules.Proofs.{prove, proves}
use Rattle.tht_logic.specs.Putting.{put_assn_within}
use Rattle.tht_logic.specs.Flatten.{flatten, with_atoms, with_assn}
use Rattle.tht_logic.specs.Rules.Checking.{Checked, reject, unless_refused, on_some, on_ok, on_true, put_or_refused, and_then, if_fits}
use Rattle.tht_logic.specs.Rules.Definitions.{Declarations, defined}
use Rattle.tht_logic.specs.Rules.Gives.{Atoms, Existential, fact_at, existential_at, instance_at, frame_of, after_give}
use Rattle.tht_logic.specs.Rules.Parts.{Part, part_at}
use Rattle.tht_logic.specs.Rules.Steps.{of_sort, after_have, after_open_as_variable, after_open_as_fact, after_unfold, after_rewrite, after_fold, after_use, after_lemma}
use Rattle.heap_rules.specs.Changes.{less, changed, more, named}
use Rattle.heap_rules.specs.Stages.{undeclared, opened, replaced_by, had, opened_as_variable, opened_as_fact, instance_unfolded, no_equation, equation, not_equal, atom_with, part_changed, put_for, instance_folded}

-- ---- stages

two_some : {A B C : Type 0} (spot : Spot) (o : Option A) (shape : A → Option B) (go : B → Checked C) →
    on_some spot R1 o (λ p. on_some spot R2 (shape p) go) ≡ on_ok (on_ok (on_some spot R1 o Ok) (λ p. on_some spot R2 (shape p) Ok)) go
two_some spot None shape go = refl
two_some {A} {B} {C} spot (Some p) shape go = pick (shape p)
  where
    pick : (o : Option B) → on_some spot R2 o go ≡ on_ok (on_some spot R2 o Ok) go
    pick None = refl
    pick (Some z) = refl

two_then : {A B C D : Type 0} (spot : Spot) (o : Option A) (shape : A → Option B) (mid : B → Checked C) (go : C → Checked D) →
    on_some spot R1 o (λ p. on_some spot R2 (shape p) (λ z. on_ok (mid z) go)) ≡ on_ok (on_ok (on_some spot R1 o Ok) (λ p. on_some spot R2 (shape p) mid)) go
two_then spot None shape mid go = refl
two_then {A} {B} {C} {D} spot (Some p) shape mid go = pick (shape p)
  where
    pick : (o : Option B) → on_some spot R2 o (λ z. on_ok (mid z) go) ≡ on_ok (on_some spot R2 o mid) go
    pick None = refl
    pick (Some z) = refl

-- ---- a name in scope changes no atom

with_scope : (ps : List Assn) (c : Context) (s : Scope) → with_atoms ps (record c { scope = s }) ≡ record (with_atoms ps c) { scope = s }
with_scope [] c s = refl
with_scope (p ∷ ps) c s = with_scope ps (more p c) s

same_scope : (ps : List Assn) (c : Context) → (with_atoms ps c).scope ≡ c.scope
same_scope [] c = refl
same_scope (p ∷ ps) c = same_scope ps (more p c)

named_after : (spot : Spot) (p : Assn) (c : Context) (x : List ℕ) (l : Local) → if_fits spot (with_assn p (named x l c)) ≡ on_ok (if_fits spot (with_assn p c)) (λ k. Ok (named x l k))
named_after spot p c x l =
    ap (if_fits spot) (with_scope (flatten p) c (with_local c.scope x l) ∙ ap (λ z. record (with_assn p c) { scope = with_local z x l }) (sym (same_scope (flatten p) c)))
    ∙ pick (context_fits (with_assn p c))
  where
    pick : (b : Bool) → on_true spot R10 b (Ok (named x l (with_assn p c))) ≡ on_ok (on_true spot R10 b (Ok (with_assn p c))) (λ k. Ok (named x l k))
    pick true = refl
    pick false = refl

-- ---- the forms

module _ (decl : Declarations) (spot : Spot) (c : Context) where
  pub have_is : decl.proofs ≡ undeclared → (h : List ℕ) (t : Term) (q : Proof) → after_have decl spot c h t q ≡ had spot c h t q
  have_is e h t q = ap (λ d. unless_refused (proves spot (prove d q) c t) (if_fits spot (with_hyp c h t))) e

  pub variable_is : (i : ℕ) (x : List ℕ) (r : Sort) → after_open_as_variable decl spot c i x r ≡ opened_as_variable spot c i x r
  variable_is i x r = pick (atom_at i c.atoms)
    where
      last : (m : Checked Assn) → on_ok m (λ q. if_fits spot (with_assn q (named x (Variable r) (less i c)))) ≡ on_ok m (λ p. on_ok (replaced_by spot c i p) (λ k. Ok (named x (Variable r) k)))
      last (Ok p) = named_after spot p (less i c) x (Variable r)
      last (Err e) = refl

      inner : (o : Option Existential) → on_some spot R2 o (λ z. on_ok (put_or_refused spot (put_assn_within ((z.name, term.Var x) ∷ []) z.body)) (λ q. if_fits spot (with_assn q (named x (Variable r) (less i c)))))
          ≡ on_ok (on_some spot R2 o (λ z. put_or_refused spot (put_assn_within ((z.name, term.Var x) ∷ []) z.body))) (λ p. on_ok (replaced_by spot c i p) (λ k. Ok (named x (Variable r) k)))
      inner None = refl
      inner (Some z) = last (put_or_refused spot (put_assn_within ((z.name, term.Var x) ∷ []) z.body))

      pick : (o : Option Assn) → on_some spot R1 o (λ p. on_some spot R2 (option_and_then (of_sort r) (existential_at (out-Assn p))) (λ z.
          on_ok (put_or_refused spot (put_assn_within ((z.name, term.Var x) ∷ []) z.body)) (λ q. if_fits spot (with_assn q (named x (Variable r) (less i c))))))
          ≡ on_ok (on_ok (on_some spot R1 o Ok) (opened spot x r)) (λ p. on_ok (replaced_by spot c i p) (λ k. Ok (named x (Variable r) k)))
      pick None = refl
      pick (Some p) = inner (option_and_then (of_sort r) (existential_at (out-Assn p)))

  pub fact_is : (i : ℕ) (h : List ℕ) → after_open_as_fact decl spot c i h ≡ opened_as_fact spot c i h
  fact_is i h = two_some spot (atom_at i c.atoms) (λ p. fact_at (out-Assn p)) (λ t. on_true spot R10 (formula_fits t) (if_fits spot (with_hyp (less i c) h t)))

  pub unfold_is : (i : ℕ) → after_unfold decl spot c i ≡ instance_unfolded decl spot c i
  unfold_is i = two_then spot (atom_at i c.atoms) (λ p. instance_at (out-Assn p)) (λ z. defined decl spot z.0 z.1) (replaced_by spot c i)

  pub use_is : (l : List ℕ) (ts : List Term) (x : Give) → decl.lemmas l ≡ None → after_use decl spot c l ts x ≡ reject spot R12
  use_is l ts x e = ap (λ o. on_some spot R12 o (after_lemma decl spot c ts x)) e

  -- ---- a part

  the_part : (b n : Bool) (g : Term) (says : Term → Option RuleRefusal) (f : Bool) (d : Assn) (go : Assn → Checked Context) →
      unless_refused (needs spot R2 b ▸ (needs spot R10 n ▸ says g) ▸ needs spot R10 f) (go d)
      ≡ unless_refused (and_then (unless_refused (needs spot R2 b ▸ needs spot R10 n) (Ok g)) says) (on_ok (on_true spot R10 f (Ok d)) go)
  the_part false n g says f d go = refl
  the_part true false g says f d go = refl
  the_part true true g says f d go = pick (says g) f
    where
      pick : (o : Option RuleRefusal) (f : Bool) → unless_refused (o ▸ needs spot R10 f) (go d) ≡ unless_refused o (on_ok (on_true spot R10 f (Ok d)) go)
      pick (Some r) f = refl
      pick None true = refl
      pick None false = refl

  pub rewrite_is : decl.proofs ≡ undeclared → (i k : ℕ) (u : Term) (q : Proof) → after_rewrite decl spot c i k u q ≡ unless_refused (not_equal spot c i k u q) (part_changed spot c i k u)
  rewrite_is e i k u q = ap (λ d. after_rewrite (record decl { proofs = d }) spot c i k u q) e ∙ pick (atom_at i c.atoms)
    where
      inner : (o : Option Part) → on_some spot R2 o (λ part. unless_refused
          (needs spot R2 (is_of sort.Bool (sort_of [] c.scope (term.Eq part.term u))) ▸ proves spot (prove undeclared q) c (term.Eq part.term u) ▸ needs spot R10 (assn_fits (part.with u))) (if_fits spot (changed i (part.with u) c)))
          ≡ unless_refused (and_then (on_some spot R2 (option_map (λ part. part.term) o) (λ t. unless_refused (no_equation spot c.scope t u) (Ok (term.Eq t u)))) (prove undeclared q c))
          (on_ok (on_some spot R2 o (λ part. on_true spot R10 (assn_fits (part.with u)) (Ok (part.with u)))) (λ p. if_fits spot (changed i p c)))
      inner None = refl
      inner (Some part) = the_part (is_of sort.Bool (sort_of [] c.scope (term.Eq part.term u))) (formula_fits (term.Eq part.term u)) (term.Eq part.term u) (prove undeclared q c) (assn_fits (part.with u)) (part.with u) (λ p. if_fits spot (changed i p c))

      pick : (o : Option Assn) → on_some spot R1 o (λ p. on_some spot R2 (part_at k (out-Assn p)) (λ part. unless_refused
          (needs spot R2 (is_of sort.Bool (sort_of [] c.scope (term.Eq part.term u))) ▸ proves spot (prove undeclared q) c (term.Eq part.term u) ▸ needs spot R10 (assn_fits (part.with u))) (if_fits spot (changed i (part.with u) c))))
          ≡ unless_refused (and_then (on_ok (on_some spot R1 o Ok) (equation spot c.scope k u)) (prove undeclared q c)) (on_ok (on_ok (on_some spot R1 o Ok) (atom_with spot k u)) (λ p. if_fits spot (changed i p c)))
      pick None = refl
      pick (Some p) = inner (part_at k (out-Assn p))

  -- ---- an instance for its definition

  pub fold_is : (q : List ℕ) (ts : List Term) (x : Give) → after_fold decl spot c q ts x ≡ instance_folded decl spot c q ts x
  fold_is q ts x = pick (defined decl spot q ts)
    where
      inner : (m : Checked Atoms) → on_ok (on_ok m (λ frame. Ok (record c { atoms = frame }))) (λ k. on_true spot R10 (assn_fits (assn.Inst q ts)) (if_fits spot (with_assn (assn.Inst q ts) k))) ≡ on_ok m (λ atoms. put_for spot atoms c (assn.Inst q ts))
      inner (Ok atoms) = refl
      inner (Err e) = refl

      pick : (m : Checked Assn) → on_ok m (λ d. on_ok (after_give decl c x d) (λ k. on_true spot R10 (assn_fits (assn.Inst q ts)) (if_fits spot (with_assn (assn.Inst q ts) k))))
          ≡ on_ok (on_ok m (λ d. frame_of decl c x c.atoms d)) (λ atoms. put_for spot atoms c (assn.Inst q ts))
      pick (Ok d) = inner (frame_of decl c x c.atoms d)
      pick (Err e) = refl
