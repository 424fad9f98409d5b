-- The rules of proof steps: what is known after a step, or what is refused first. New atoms take the next numbers; `rewrite` keeps its
-- atom's. All that is known then is not too large.
use Rattle.std.specs.Prelude.{ℕ, List, [], ◌∷◌, Option, Some, None, option_and_then, Ok, if◌then◌else◌}
use Rattle.tht_tree.specs.declared.plain.Spot.{Spot}
use Rattle.tht_tree.specs.declared.plain.Sort.{Sort}
use Rattle.tht_tree.specs.declared.plain.Sort.TheVariants as sort
use Rattle.tht_tree.specs.declared.term.Term.{Term}
use Rattle.tht_tree.specs.declared.term.Term.TheVariants as term
use Rattle.tht_tree.specs.declared.assn.Assn.{Assn, out-Assn}
use Rattle.tht_tree.specs.declared.assn.Assn.TheVariants as assn
use Rattle.tht_tree.specs.declared.assn.Assn.TheOpen as a
use Rattle.tht_tree.specs.declared.proof.Proof.{Proof}
use Rattle.tht_tree.specs.declared.give.Give.{Give}
use Rattle.tht_tree.specs.declared.step.Step.{Step}
use Rattle.tht_tree.specs.declared.step.StepKind.{StepKind}
use Rattle.tht_tree.specs.declared.step.StepKind.TheVariants as s
use Rattle.tht_tree.specs.declared.rule.RuleCode.TheVariants.{R1, R2, R10, R12}
use Rattle.tht_tree.specs.declared.state.Local.TheVariants.{Variable}
use Rattle.tht_tree.specs.Rules.Sizes.{formula_fits, assn_fits}
use Rattle.tht_tree.specs.Rules.Context.{Context, with_local, atom_at, without_atom, with_atom}
use Rattle.tht_tree.specs.Rules.Scoping.{same_sort, sort_of, is_of}
use Rattle.tht_tree.specs.Rules.Refusals.{needs, ◌▸◌}
use Rattle.tht_tree.specs.Rules.Known.{with_hyp}
use Rattle.tht_tree.specs.Rules.Proofs.{prove, proves}
use Rattle.tht_logic.specs.Putting.{put_assn_within}
use Rattle.tht_logic.specs.Flatten.{with_assn}
use Rattle.tht_logic.specs.Rules.Checking.{Checked, unless_refused, on_some, on_ok, on_true, put_or_refused, if_fits}
use Rattle.tht_logic.specs.Rules.Definitions.{Lemma, Declarations, arguments, defined}
use Rattle.tht_logic.specs.Rules.Parts.{Part, part_at}
use Rattle.tht_logic.specs.Rules.Gives.{Existential, fact_at, existential_at, instance_at, after_give}

-- an existential, if its variable has this sort
abbrev pub of_sort : Sort → Existential → Option Existential
of_sort r x = if same_sort r x.sort then Some x else None

-- ---- steps

module _ (decl : Declarations) (spot : Spot) (c : Context) where
  -- goes on with atom i, if it has the shape that is wanted
  abbrev pub on_atom : {A : Type 0} → ℕ → (a.Assn-F Assn → Option A) → (A → Checked Context) → Checked Context
  on_atom i shape go = on_some spot R1 (atom_at i c.atoms) (λ p. on_some spot R2 (shape (out-Assn p)) go)

  -- what is known without atom i
  abbrev pub without : ℕ → Context
  without i = record c { atoms = without_atom i c.atoms }

  -- the formula is known under the name h
  abbrev pub after_have : List ℕ → Term → Proof → Checked Context
  after_have h t q = unless_refused (proves spot (prove decl.proofs q) c t) (if_fits spot (with_hyp c h t))

  -- some value, which is called x from now on, and the atoms of what holds with it
  abbrev pub after_open_as_variable : ℕ → List ℕ → Sort → Checked Context
  after_open_as_variable i x r = on_atom i (λ p. option_and_then (of_sort r) (existential_at p)) (λ p.
      on_ok (put_or_refused spot (put_assn_within ((p.name, term.Var x) ∷ []) p.body)) (λ q.
      if_fits spot (with_assn q (record (without i) { scope = with_local c.scope x (Variable r) }))))

  -- the formula of an atom is known under the name h
  abbrev pub after_open_as_fact : ℕ → List ℕ → Checked Context
  after_open_as_fact i h = on_atom i fact_at (λ t. on_true spot R10 (formula_fits t) (if_fits spot (with_hyp (without i) h t)))

  -- the atoms of an instance's definition for the instance
  abbrev pub after_unfold : ℕ → Checked Context
  after_unfold i = on_atom i instance_at (λ p. on_ok (defined decl spot p.0 p.1) (λ d. if_fits spot (with_assn d (without i))))

  -- an instance for the atoms that its definition consumes
  abbrev pub after_fold : List ℕ → List Term → Give → Checked Context
  after_fold q ts x =
      on_ok (defined decl spot q ts) (λ d.
      on_ok (after_give decl c x d) (λ k.
      on_true spot R10 (assn_fits (assn.Inst q ts)) (if_fits spot (with_assn (assn.Inst q ts) k))))

  -- goes on with u for a part, if the two have one sort (or `part = u` would be no formula), and are equal by this proof
  abbrev pub if_equal_by : Term → Proof → Part → Checked Context → Checked Context
  if_equal_by u q part answer =
      unless_refused
      (needs spot R2 (is_of sort.Bool (sort_of decl.proofs.roots c.scope (term.Eq part.term u)))
      ▸ proves spot (prove decl.proofs q) c (term.Eq part.term u)
      ▸ needs spot R10 (assn_fits (part.with u)))
      answer

  -- u for part k of atom i
  abbrev pub after_rewrite : ℕ → ℕ → Term → Proof → Checked Context
  after_rewrite i k u q =
      on_atom i (part_at k) (λ part. if_equal_by u q part (if_fits spot (record c { atoms = with_atom i (part.with u) c.atoms })))

  -- a lemma with these arguments: the atoms that prove its precondition are consumed, and those of its postcondition added
  abbrev pub after_lemma : List Term → Give → Lemma → Checked Context
  after_lemma ts x l =
      on_ok (put_or_refused spot (put_assn_within (arguments l.params ts) l.pre)) (λ pre.
      on_ok (after_give decl c x pre) (λ k.
      on_ok (put_or_refused spot (put_assn_within (arguments l.params ts) l.post)) (λ post. if_fits spot (with_assn post k))))

  -- that a name is no lemma's cannot come where names are in order
  abbrev pub after_use : List ℕ → List Term → Give → Checked Context
  after_use l ts x = on_some spot R12 (decl.lemmas l) (after_lemma ts x)

  abbrev pub after_step_kind : StepKind → Checked Context
  after_step_kind (s.Have h t q) = after_have h t q
  after_step_kind (s.OpenVar i x r) = after_open_as_variable i x r
  after_step_kind (s.OpenFact i h) = after_open_as_fact i h
  after_step_kind (s.Unfold i) = after_unfold i
  after_step_kind (s.Fold q ts x) = after_fold q ts x
  after_step_kind (s.Rewrite i k u q) = after_rewrite i k u q
  after_step_kind (s.Use l ts x) = after_use l ts x

-- what is known after a step
abbrev pub after_step : Declarations → Context → Step → Checked Context
after_step decl c x = after_step_kind decl x.spot c x.kind
