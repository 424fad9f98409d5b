-- The rules of proof steps in stages: what is found, and what is known after what is found was put in its place.
use Rattle.std.specs.Prelude.{ℕ, zero, suc, List, [], ◌∷◌, slice_get, Option, None, option_map, option_and_then, Ok}
use Rattle.tht_tree.specs.declared.plain.Spot.{Spot}
use Rattle.tht_tree.specs.declared.plain.Sort.{Sort}
use Rattle.tht_tree.specs.declared.plain.Sort.TheVariants as sort
use Rattle.tht_tree.specs.declared.proof.Proof.{Proof}
use Rattle.tht_tree.specs.declared.give.Give.{Give}
use Rattle.tht_tree.specs.declared.term.Term.{Term}
use Rattle.tht_tree.specs.declared.term.Term.TheVariants as term
use Rattle.tht_tree.specs.declared.assn.Assn.{Assn, out-Assn}
use Rattle.tht_tree.specs.declared.assn.Assn.TheVariants as assn
use Rattle.tht_tree.specs.declared.rule.RuleCode.TheVariants.{R1, R2, R10}
use Rattle.tht_tree.specs.Rules.Sizes.{formula_fits, assn_fits}
use Rattle.tht_tree.specs.declared.rule.RuleRefusal.{RuleRefusal}
use Rattle.tht_tree.specs.declared.state.Local.TheVariants.{Variable}
use Rattle.tht_tree.specs.Rules.Context.{Context, Scope, atom_at}
use Rattle.tht_tree.specs.Rules.Scoping.{sort_of, is_of}
use Rattle.tht_tree.specs.Rules.Refusals.{needs, ◌▸◌}
use Rattle.tht_tree.specs.Rules.Known.{Declared, with_hyp}
use Rattle.tht_tree.specs.Rules.Proofs.{prove, proves}
use Rattle.tht_logic.specs.Putting.{put_assn_within}
use Rattle.tht_logic.specs.Flatten.{with_assn}
use Rattle.tht_logic.specs.Rules.Checking.{Checked, unless_refused, on_some, on_ok, on_true, put_or_refused, and_then, if_fits}
use Rattle.tht_logic.specs.Rules.Definitions.{Declarations, defined}
use Rattle.tht_logic.specs.Rules.Gives.{Atoms, fact_at, existential_at, instance_at, frame_of}
use Rattle.tht_logic.specs.Rules.Steps.{of_sort}
use Rattle.tht_logic.specs.Rules.Parts.{part_at, replaced}
use Rattle.pure_proofs.specs.Verdicts.{without_lemmas}
use Rattle.heap_rules.specs.Changes.{less, changed, named}

-- what proofs may use where there are no roots and no lemma can be used
abbrev pub undeclared : Declared
undeclared = without_lemmas []

-- atom i, which must be there
abbrev pub atom_found : Spot → Context → ℕ → Checked Assn
atom_found spot c i = on_some spot R1 (atom_at i c.atoms) Ok

-- the formula of an atom
abbrev pub formula_of : Spot → Assn → Checked Term
formula_of spot p = on_some spot R2 (fact_at (out-Assn p)) Ok

-- what an existential says of this variable, where it is one of this sort
abbrev pub opened : Spot → List ℕ → Sort → Assn → Checked Assn
opened spot x r p = on_some spot R2 (option_and_then (of_sort r) (existential_at (out-Assn p))) (λ z. put_or_refused spot (put_assn_within ((z.name, term.Var x) ∷ []) z.body))

-- what an instance is defined as
abbrev pub unfolded : Declarations → Spot → Assn → Checked Assn
unfolded decl spot p = on_some spot R2 (instance_at (out-Assn p)) (λ z. defined decl spot z.0 z.1)

-- the atoms of an assertion for atom i
abbrev pub replaced_by : Spot → Context → ℕ → Assn → Checked Context
replaced_by spot c i p = if_fits spot (with_assn p (less i c))

-- the atoms of an assertion for atom i, and a variable called x
abbrev pub put_named_by : Spot → Context → ℕ → Assn → List ℕ → Sort → Checked Context
put_named_by spot c i p x r = on_ok (replaced_by spot c i p) (λ k. Ok (named x (Variable r) k))

-- ---- steps

-- a formula is known that was proved
abbrev pub had : Spot → Context → List ℕ → Term → Proof → Checked Context
had spot c h t q = unless_refused (proves spot (prove undeclared q) c t) (if_fits spot (with_hyp c h t))

-- what an existential says of some value, which is called x from now on
abbrev pub opened_as_variable : Spot → Context → ℕ → List ℕ → Sort → Checked Context
opened_as_variable spot c i x r =
    on_ok (on_ok (atom_found spot c i) (opened spot x r)) (λ p. put_named_by spot c i p x r)

-- the formula of an atom is known under the name h
abbrev pub opened_as_fact : Spot → Context → ℕ → List ℕ → Checked Context
opened_as_fact spot c i h = on_ok (on_ok (atom_found spot c i) (formula_of spot)) (λ t. on_true spot R10 (formula_fits t) (if_fits spot (with_hyp (less i c) h t)))

-- the atoms of an instance's definition for the instance
abbrev pub instance_unfolded : Declarations → Spot → Context → ℕ → Checked Context
instance_unfolded decl spot c i = on_ok (on_ok (atom_found spot c i) (unfolded decl spot)) (replaced_by spot c i)

-- ---- a part of an atom

-- argument k of these, from 1
abbrev pub argument_at : ℕ → List Term → Option Term
argument_at zero ts = None
argument_at (suc k) ts = slice_get ts k

-- the arguments with another for argument k, from 1
abbrev pub argument_put : ℕ → Term → List Term → List Term
argument_put zero u ts = ts
argument_put (suc k) u ts = replaced k u ts

-- what is refused of an equation of the two terms: that they have not one sort, or that it is too large
abbrev pub no_equation : Spot → Scope → Term → Term → Option RuleRefusal
no_equation spot scope t u = needs spot R2 (is_of sort.Bool (sort_of [] scope (term.Eq t u))) ▸ needs spot R10 (formula_fits (term.Eq t u))

-- the equation of part k with u, where the two have one sort and it is not too large
abbrev pub equation : Spot → Scope → ℕ → Term → Assn → Checked Term
equation spot scope k u p =
    on_some spot R2 (option_map (λ part. part.term) (part_at k (out-Assn p))) (λ t. unless_refused (no_equation spot scope t u) (Ok (term.Eq t u)))

-- what is refused of that, if anything, or else of its proof
abbrev pub not_equal : Spot → Context → ℕ → ℕ → Term → Proof → Option RuleRefusal
not_equal spot c i k u q = and_then (on_ok (atom_found spot c i) (equation spot c.scope k u)) (prove undeclared q c)

-- the atom with u for part k, where it is not too large
abbrev pub atom_with : Spot → ℕ → Term → Assn → Checked Assn
atom_with spot k u p = on_some spot R2 (part_at k (out-Assn p)) (λ part. on_true spot R10 (assn_fits (part.with u)) (Ok (part.with u)))

-- u for part k of atom i, once the two are equal
abbrev pub part_changed : Spot → Context → ℕ → ℕ → Term → Checked Context
part_changed spot c i k u = on_ok (on_ok (atom_found spot c i) (atom_with spot k u)) (λ p. if_fits spot (changed i p c))

-- ---- an instance for its definition

-- the frame of a give of the definition
abbrev pub folded_from : Declarations → Spot → Context → List ℕ → List Term → Give → Checked Atoms
folded_from decl spot c q ts x = on_ok (defined decl spot q ts) (λ d. frame_of decl c x c.atoms d)

-- an atom with these for the atoms that are known
abbrev pub put_for : Spot → Atoms → Context → Assn → Checked Context
put_for spot atoms c p = on_true spot R10 (assn_fits p) (if_fits spot (with_assn p (record c { atoms = atoms })))

-- an instance for the atoms that its definition consumes
abbrev pub instance_folded : Declarations → Spot → Context → List ℕ → List Term → Give → Checked Context
instance_folded decl spot c q ts x = on_ok (folded_from decl spot c q ts x) (λ atoms. put_for spot atoms c (assn.Inst q ts))
