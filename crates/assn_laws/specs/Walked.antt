-- What the walk over names and sorts gives to the laws, as statements: where it refuses nothing, names and sorts are in order.
use Rattle.std.specs.Prelude.{◌≡◌, ℕ, Bool, true, false, All, List, Option, Some, None, option_map}
use Rattle.tht_tree.specs.declared.term.Term.{Term}
use Rattle.tht_tree.specs.declared.assn.Assn.{Assn}
use Rattle.tht_tree.specs.declared.proof.Proof.{Proof}
use Rattle.tht_tree.specs.declared.give.Give.{Give}
use Rattle.tht_tree.specs.declared.step.Step.{Step}
use Rattle.tht_tree.specs.declared.step.StepKind.{StepKind}
use Rattle.tht_tree.specs.declared.step.StepKind.TheVariants as s
use Rattle.tht_tree.specs.declared.decl.Head.{Head}
use Rattle.tht_tree.specs.declared.decl.Decl.{Decl}
use Rattle.tht_tree.specs.declared.decl.DeclKind.{DeclKind}
use Rattle.tht_tree.specs.declared.decl.DeclKind.TheVariants as d
use Rattle.tht_tree.specs.declared.file.Source1.{Source1}
use Rattle.tht_tree.specs.declared.state.Local.TheVariants.{Variable, Hypothesis}
use Rattle.tht_tree.specs.declared.walk.Class.{Class}
use Rattle.tht_tree.specs.declared.walk.Class.TheVariants as c
use Rattle.tht_tree.specs.declared.walk.Naming.TheVariants.{Nowhere}
use Rattle.tht_tree.specs.declared.walk.Where.TheVariants.{Outside}
use Rattle.tht_tree.specs.Values.{Env}
use Rattle.tht_tree.specs.Syntax.{Names}
use Rattle.tht_logic.specs.Programs.{root_names}
use Rattle.tht_tree.specs.Heaps.{Heap}
use Rattle.tht_tree.specs.Rules.Context.{Scope, Context, with_local}
use Rattle.tht_tree.specs.Rules.Scoping.{is_storable_sort, sort_of}
use Rattle.tht_tree.specs.Walk.Names as walk
use Rattle.tht_tree.specs.Walk.Names.{param_sorts}
use Rattle.tht_tree.specs.Walk.Terms as walk_terms
use Rattle.tht_tree.specs.Walk.Assns as walk_assns
use Rattle.tht_tree.specs.Walk.Proofs as walk_proofs
use Rattle.tht_tree.specs.Walk.Gives as walk_gives
use Rattle.tht_tree.specs.Walk.Steps as walk_steps
use Rattle.tht_tree.specs.Walk.Bodies.{call_sort, command}
use Rattle.tht_tree.specs.Walk.Decls.{signature}
use Rattle.tht_tree.specs.Walk.Files.{WellSorted}
use Rattle.proof_laws.specs.Satisfied as satisfied
use Rattle.proof_laws.specs.Scoped.{is_scoped}
use Rattle.proof_laws.specs.Walked.{Matches}
use Rattle.tht_logic.specs.Satisfaction.{Meaning}
use Rattle.tht_logic.specs.Rules.Definitions.{Predicate, Declarations, predicates_of}
use Rattle.tht_logic.specs.Meanings.{meaning}
use Rattle.tht_logic.specs.Rules.Scoped.{Signatures, Table, fit, fits_in, params_of, instance_fits}
use Rattle.tht_logic.specs.Rules.Scoped as scoped
use Rattle.assn_laws.specs.Laws.{InstancesMeanDefinitions, IsModel, ProofsHold, Premises}

-- ---- proofs

-- What is proved is true, in a state with an environment and a heap that satisfy it, where the lemmas that proofs use are true in this environment.
abbrev pub ProvedIsTrue : Meaning → Type 0
ProvedIsTrue M =
    (decl : Declarations) (instance lemma used : Signatures) (c : Context) (env : Env) (h : Heap) → satisfied.LemmasHold decl.proofs used env
    → IsModel decl (is_scoped decl.proofs.roots used) instance lemma M c env h → ProofsHold decl (is_scoped decl.proofs.roots used) instance lemma c env

-- ---- assertions

-- What the walk and a table of predicates have under one name: where one may name a predicate, its parameters have the same sorts
-- in the table. (Of a name that the walk does not know nothing is said: the table may have predicates that are declared later.)
abbrev pub KnowsAt : Option Class → Option Predicate → Type 0
KnowsAt None x = Unit {0}
KnowsAt (Some (c.Predicate who sorts Nowhere)) x = Unit {0}
KnowsAt (Some (c.Predicate who sorts naming)) x = option_map (λ p. param_sorts (params_of p)) x ≡ Some sorts
KnowsAt (Some class) x = Unit {0}

abbrev pub Knows : Table → walk.Scope → Type 0
Knows known names = (q : List ℕ) → KnowsAt (names q) (known q)

-- What the walk and a table of heads have under one name: where the walk has a proc, its head has the sorts that the walk knows.
abbrev pub KnowsProcAt : Option Class → Option Head → Type 0
KnowsProcAt (Some (c.Proc f)) x = option_map signature x ≡ Some f
KnowsProcAt _ x = Unit {0}

abbrev pub KnowsProcs : (List ℕ → Option Head) → walk.Scope → Type 0
KnowsProcs procs names = (f : List ℕ) → KnowsProcAt (names f) (procs f)

-- the arguments of an instance in which the walk refuses nothing fit
abbrev pub WalkedInstancesFit : Type 0
WalkedInstancesFit =
    (roots : Names) (known : Table) (names : walk.Scope) (scope : Scope) → Matches roots names scope → Knows known names
    → (q : List ℕ) (ts : List Term) → walk_terms.predicate names q ts ≡ None → fits_in roots known scope q ts ≡ true

-- an assertion in which the walk refuses nothing is in order
abbrev pub WalkedAssertionsAreInOrder : Type 0
WalkedAssertionsAreInOrder =
    (roots : Names) (known : Table) (names : walk.Scope) (scope : Scope) → Matches roots names scope → Knows known names
    → (p : Assn) → walk_assns.assn p names ≡ None → scoped.assn roots (fits_in roots known) p scope ≡ true

-- terms of the program in which the walk refuses nothing have sorts whose values a cell can hold
abbrev pub WalkedProgramsAreStorable : Type 0
WalkedProgramsAreStorable =
    (roots : Names) (names : walk.Scope) (scope : Scope) → Matches roots names scope
    → (ts : List Term) → walk_terms.any_programs names ts ≡ None → All (λ t. is_storable_sort (sort_of roots scope t) ≡ true) ts

-- ---- calls

-- A call outside txns: the name is a proc's, the arguments fit its parameters and its logical variables, those in parentheses are program terms, and
-- the walk knows the sort of the result.
pub record CallIsInOrder (roots : Names) (procs : List ℕ → Option Head) (names : walk.Scope) (scope : Scope) (f : List ℕ) (ts us : List Term) : Type 0 where
  pub head : Head
  pub declared : procs f ≡ Some head
  pub params : fit roots scope head.params ts ≡ true
  pub logic : fit roots scope head.logic us ≡ true
  pub programs : walk_terms.any_programs names ts ≡ None
  pub result : call_sort (names f) ≡ head.sort

-- a call in which the walk refuses nothing is in order
abbrev pub WalkedCallsAreInOrder : Type 0
WalkedCallsAreInOrder =
    (roots : Names) (procs : List ℕ → Option Head) (names : walk.Scope) (scope : Scope) → Matches roots names scope → KnowsProcs procs names
    → (f : List ℕ) (ts us : List Term) → command Outside names f ts us ≡ None → CallIsInOrder roots procs names scope f ts us

-- ---- gives and steps

-- The names in scope; proofs, instances and uses of lemmas, here, in which the walk refuses nothing are in order.
module _ (roots : Names) (instance lemma : Signatures) (proof : Proof → Scope → Bool) (names : walk.Scope) (scope : Scope) where
  pub record WalkedIsInOrder : Type 0 where
    pub matches : Matches roots names scope
    pub proofs : (q : Proof) → walk_proofs.proof q names ≡ None → proof q scope ≡ true
    pub instances : (q : List ℕ) (ts : List Term) → walk_terms.predicate names q ts ≡ None → instance scope q ts ≡ true
    pub lemmas : (l : List ℕ) (ts : List Term) → walk_terms.lemma names l ts ≡ None → lemma scope l ts ≡ true

-- what is in scope after a step
abbrev pub scope_after : StepKind → Scope → Scope
scope_after (s.Have h t q) scope = with_local scope h Hypothesis
scope_after (s.OpenVar i x r) scope = with_local scope x (Variable r)
scope_after (s.OpenFact i h) scope = with_local scope h Hypothesis
scope_after _ scope = scope

-- a give in which the walk refuses nothing is in order
abbrev pub WalkedGivesAreInOrder : Type 0
WalkedGivesAreInOrder =
    (roots : Names) (instance lemma : Signatures) (proof : Proof → Scope → Bool) (names : walk.Scope) (scope : Scope) → WalkedIsInOrder roots instance lemma proof names scope
    → (x : Give) → walk_gives.give x names ≡ None → scoped.give roots instance proof x scope ≡ true

-- a step in which the walk refuses nothing is in order
abbrev pub WalkedStepsAreInOrder : Type 0
WalkedStepsAreInOrder =
    (roots : Names) (instance lemma : Signatures) (proof : Proof → Scope → Bool) (names : walk.Scope) (scope : Scope) → WalkedIsInOrder roots instance lemma proof names scope
    → (x : Step) → walk_steps.step x names ≡ None → scoped.step roots instance proof lemma x.kind scope ≡ true

-- after a step the walk and the rules have the same in scope
abbrev pub WalkedStepsMatch : Type 0
WalkedStepsMatch =
    (roots : Names) (names : walk.Scope) (scope : Scope) → Matches roots names scope → (x : Step) → walk_steps.step x names ≡ None
    → Matches roots (walk_steps.after_step x.kind names) (scope_after x.kind scope)

-- ---- files

-- neither a root nor a predicate with `on`
abbrev pub is_simple : DeclKind → Bool
is_simple (d.Root x r v) = false
is_simple (d.PredOn who q ps x nil n t cons) = false
is_simple _ = true

abbrev pub AreSimple : List Decl → Type 0
AreSimple decls = All (λ x. is_simple x.kind ≡ true) decls

-- these are the predicates of the file, and its roots
pub record Declares (decl : Declarations) (file : Source1) : Type 0 where
  pub roots : decl.proofs.roots ≡ root_names file
  pub predicates : (q : List ℕ) → decl.predicates q ≡ predicates_of file.decls q

-- the predicates of a file without roots and `on` whose names and sorts are in order mean their definitions
abbrev pub SimpleFilesMeanDefinitions : Type 0
SimpleFilesMeanDefinitions =
    (file : Source1) (decl : Declarations) → WellSorted file → AreSimple file.decls → Declares decl file
    → InstancesMeanDefinitions decl (instance_fits decl) (meaning (root_names file) file.decls)

-- where no lemma can be used, arguments need not fit it
abbrev pub any_fits : Signatures
any_fits scope l ts = true

-- no lemma can be used, neither in a proof nor in a step
pub record HasNoLemmas (decl : Declarations) : Type 0 where
  pub proofs : (l : List ℕ) (ts : List Term) → decl.proofs.lemmas l ts ≡ None
  pub steps : (l : List ℕ) → decl.lemmas l ≡ None

-- what the rules stand on holds of such a file, at each state with an environment and a heap that satisfy it, where no lemma can be used
abbrev pub SimpleFilesHavePremises : Type 0
SimpleFilesHavePremises =
    (file : Source1) (decl : Declarations) → WellSorted file → AreSimple file.decls → Declares decl file → HasNoLemmas decl → (c : Context) (env : Env) (h : Heap)
    → IsModel decl (is_scoped decl.proofs.roots any_fits) (instance_fits decl) any_fits (meaning (root_names file) file.decls) c env h
    → Premises decl (is_scoped decl.proofs.roots any_fits) (instance_fits decl) any_fits (meaning (root_names file) file.decls) c env
