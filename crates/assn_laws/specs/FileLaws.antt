-- The laws of steps, of statements on private cells, of gives and returns in a file without roots and `on` whose names and sorts are in order, where no lemma can be used: the walk
-- over names and sorts and the rules are all that they ask. As statements.
use Rattle.std.specs.Prelude.{◌≡◌, ℕ, Bool, true, List, ◌∷◌, ◌++◌, Option, Some, None, Ok}
use Rattle.tht_tree.specs.declared.plain.Place.TheVariants.{Cell}
use Rattle.tht_tree.specs.declared.plain.Sort.{Sort}
use Rattle.tht_tree.specs.declared.plain.Sort.TheVariants as sort
use Rattle.tht_tree.specs.declared.plain.Spot.{Spot}
use Rattle.tht_tree.specs.declared.term.Term.{Term}
use Rattle.tht_tree.specs.declared.assn.Assn.{Assn}
use Rattle.tht_tree.specs.declared.body.Body.{Body}
use Rattle.tht_tree.specs.declared.decl.Decl.{Decl}
use Rattle.tht_tree.specs.declared.decl.DeclKind.TheVariants as d
use Rattle.tht_tree.specs.declared.decl.Head.{Head}
use Rattle.tht_tree.specs.declared.proof.Proof.{Proof}
use Rattle.tht_tree.specs.declared.give.Give.{Give}
use Rattle.tht_tree.specs.declared.step.Step.{Step}
use Rattle.tht_tree.specs.declared.step.StepKind.{StepKind}
use Rattle.tht_tree.specs.declared.file.Source1.{Source1}
use Rattle.tht_tree.specs.declared.state.Local.{Local}
use Rattle.tht_tree.specs.declared.state.Local.TheVariants.{Variable}
use Rattle.tht_tree.specs.declared.state.Post.{Post}
use Rattle.tht_tree.specs.declared.walk.Where.TheVariants.{Outside}
use Rattle.tht_tree.specs.Values.{is, Env, bind, a_place, value_in, has_sort}
use Rattle.tht_tree.specs.Syntax.{Names}
use Rattle.tht_logic.specs.Programs.{root_names}
use Rattle.tht_tree.specs.Terms.{value}
use Rattle.tht_tree.specs.Heaps.{Heap, own, with_at, Joins}
use Rattle.tht_tree.specs.Rules.Context.{Scope, Context, no_locals, with_local}
use Rattle.tht_logic.specs.Rules.Commands.{after_read, after_write, after_free}
use Rattle.tht_tree.specs.Walk.Names as walk
use Rattle.tht_tree.specs.Walk.Names.{new_name, with_result, with_hypothesis}
use Rattle.tht_tree.specs.Walk.Terms.{term_of, program_of, any_program, any_programs}
use Rattle.tht_tree.specs.Walk.Assns as assns
use Rattle.tht_tree.specs.Walk.Proofs as proofs
use Rattle.tht_tree.specs.Walk.Gives as gives
use Rattle.tht_tree.specs.Walk.Steps as steps
use Rattle.tht_tree.specs.Walk.Bodies.{frame, body}
use Rattle.tht_tree.specs.Walk.Decls.{with_proc, in_command}
use Rattle.tht_tree.specs.Walk.Files.{WellSorted, at_start, after_decls}
use Rattle.proof_laws.specs.Scoped.{is_scoped}
use Rattle.proof_laws.specs.Walked.{Matches}
use Rattle.tht_logic.specs.Procedures.{Procedure, procedures_of}
use Rattle.tht_logic.specs.Rules.Definitions.{Declarations, predicates_of, head_scope}
use Rattle.tht_logic.specs.Rules.Files.{declared_in}
use Rattle.tht_logic.specs.Rules.Gives.{after_give}
use Rattle.tht_logic.specs.Rules.Steps.{after_step}
use Rattle.tht_logic.specs.Rules.Commands.{after_alloc}
use Rattle.tht_logic.specs.Rules.Bodies.{return_refused}
use Rattle.tht_logic.specs.Meanings.{meaning_in}
use Rattle.tht_logic.specs.Rules.Scoped.{Table, instance_fits}
use Rattle.assn_laws.specs.AssertionLaws.{Holds}
use Rattle.assn_laws.specs.Laws.{IsModel}
use Rattle.assn_laws.specs.Walked.{Knows, KnowsProcs, scope_after, AreSimple, Declares, any_fits, HasNoLemmas}
use Rattle.assn_laws.specs.Allocs.{with_cells, IsFree, values_in}
use Rattle.assn_laws.specs.CellLaws.{HasOwn}
use Rattle.assn_laws.specs.ControlLaws.{HeadIsInOrder}

-- ---- what is in scope

-- what is known after a step and a give stands in the scope that the step makes, and the give leaves
abbrev pub StepsMakeScopes : Type 0
StepsMakeScopes = (decl : Declarations) (c next : Context) (x : Step) → after_step decl c x ≡ Ok next → next.scope ≡ scope_after x.kind c.scope

abbrev pub GivesKeepScopes : Type 0
GivesKeepScopes = (decl : Declarations) (c next : Context) (x : Give) (goal : Assn) → after_give decl c x goal ≡ Ok next → next.scope ≡ c.scope

-- no step hides a predicate
abbrev pub StepsKeepPredicates : Type 0
StepsKeepPredicates = (known : Table) (names : walk.Scope) (x : StepKind) → Knows known names → Knows known (steps.after_step x names)

-- nor a proc
abbrev pub StepsKeepProcs : Type 0
StepsKeepProcs = (procs : List ℕ → Option Head) (names : walk.Scope) (x : StepKind) → KnowsProcs procs names → KnowsProcs procs (steps.after_step x names)

-- before main the walk knows the predicates and the procs of the file, and no variable
abbrev pub MainBegins : Type 0
MainBegins =
    (file : Source1) → WellSorted file → AreSimple file.decls
    → Matches (root_names file) (after_decls file.decls at_start).scope no_locals × Knows (predicates_of file.decls) (after_decls file.decls at_start).scope
    × KnowsProcs (declared_in file).procs (after_decls file.decls at_start).scope

-- Where these declarations stand in front, and others behind: the walk knows predicates and procs of the file, and no variable.
abbrev pub DeclarationsBegin : Type 0
DeclarationsBegin =
    (file : Source1) → WellSorted file → AreSimple file.decls → (before after : List Decl) → file.decls ≡ before ++ after
    → Matches (root_names file) (after_decls before at_start).scope no_locals × Knows (predicates_of file.decls) (after_decls before at_start).scope
    × KnowsProcs (declared_in file).procs (after_decls before at_start).scope

-- the names that are known in a proc, where these declarations stand in front of it
abbrev pub names_in_proc : List Decl → Head → walk.Scope
names_in_proc before x = in_command x (with_proc (after_decls before at_start).scope x)

-- Before the body of a proc, where these names are known: the walk knows predicates and procs of the file, this one too, and the parameters and logical
-- variables; it refuses nothing in the body, nor in the boxes, and the head is in order.
pub record ProcBegins (file : Source1) (names : walk.Scope) (x : Head) (y : Body) : Type 0 where
  pub matches : Matches (root_names file) names (head_scope x)
  pub knows : Knows (predicates_of file.decls) names
  pub procs : KnowsProcs (declared_in file).procs names
  pub body_walked : body y (frame Outside x.sort) names ≡ None
  pub pre_walked : assns.assn x.pre names ≡ None
  pub new_result : new_name names x.result ≡ None
  pub post_walked : assns.assn x.post (with_result names x.result x.sort) ≡ None
  pub order : HeadIsInOrder (root_names file) (instance_fits (declared_in file)) x

abbrev pub ProcsBegin : Type 0
ProcsBegin =
    (file : Source1) → WellSorted file → AreSimple file.decls → (before after : List Decl) (z : Decl) → file.decls ≡ before ++ z ∷ after
    → (x : Head) (y : Body) → z.kind ≡ d.Proc x y → ProcBegins file (names_in_proc before x) x y

-- A callee stands among the declarations, with others in front of it and behind it.
pub record Stands (decls : List Decl) (x : Head) (y : Body) : Type 0 where
  pub before : List Decl
  pub at : Decl
  pub after : List Decl
  pub all : decls ≡ before ++ at ∷ after
  pub is : at.kind ≡ d.Proc x y

abbrev pub ProceduresStand : Type 0
ProceduresStand = (decls : List Decl) (f : List ℕ) (x : Procedure) → procedures_of decls f ≡ Some x → Stands decls x.head x.body

-- so the head of each proc is in order
abbrev pub ProcsAreInOrder : Type 0
ProcsAreInOrder =
    (file : Source1) → WellSorted file → AreSimple file.decls → (f : List ℕ) (x : Head) → (declared_in file).procs f ≡ Some x
    → HeadIsInOrder (root_names file) (instance_fits (declared_in file)) x

-- the variables of the old scope are in the new one
abbrev pub StillThere : Scope → Scope → Type 0
StillThere old new = (y : List ℕ) (s : Sort) → old y ≡ Some (Variable s) → new y ≡ Some (Variable s)

-- a name that is new to the walk, and a step, only add to what is in scope
abbrev pub NewNamesOnlyAdd : Type 0
NewNamesOnlyAdd =
    (roots : Names) (names : walk.Scope) (scope : Scope) → Matches roots names scope → (x : List ℕ) (k : Local) → new_name names x ≡ None → StillThere scope (with_local scope x k)

abbrev pub StepsOnlyAdd : Type 0
StepsOnlyAdd = (roots : Names) (names : walk.Scope) (scope : Scope) → Matches roots names scope → (x : Step) → steps.step x names ≡ None → StillThere scope (scope_after x.kind scope)

-- the variables in scope have the same values
abbrev pub SameValues : Scope → Env → Env → Type 0
SameValues scope env new = (y : List ℕ) (s : Sort) → scope y ≡ Some (Variable s) → new y ≡ env y

-- ---- the laws

-- such a file, with what is declared in it
pub record IsReady (file : Source1) (decl : Declarations) : Type 0 where
  pub sorted : WellSorted file
  pub simple : AreSimple file.decls
  pub declares : Declares decl file
  pub lemmas : HasNoLemmas decl

abbrev pub proof_in : Declarations → Proof → Scope → Bool
proof_in decl = is_scoped decl.proofs.roots any_fits

-- a state as it is while the file is checked, at a place where these names are in scope, with an environment and a heap that satisfy it
pub record IsIn (file : Source1) (decl : Declarations) (names : walk.Scope) (c : Context) (env : Env) (h : Heap) : Type 0 where
  pub matches : Matches decl.proofs.roots names c.scope
  pub knows : Knows decl.predicates names
  pub state : IsModel decl (proof_in decl) (instance_fits decl) any_fits (meaning_in file) c env h

-- what satisfied the state before a step satisfies the one after it, with some values for the new variables
abbrev pub FileStepsAreSound : Type 0
FileStepsAreSound =
    (file : Source1) (decl : Declarations) → IsReady file decl → (names : walk.Scope) (c next : Context) (env : Env) (h : Heap) → IsIn file decl names c env h
    → (x : Step) → steps.step x names ≡ None → after_step decl c x ≡ Ok next → (new : Env) × SameValues c.scope env new × IsIn file decl (steps.after_step x.kind names) next new h

-- A read: the cell is there and holds a value of the sort. What satisfied the state before satisfies the one after it, where x has that value,
-- whichever branch then owns the cell.
abbrev pub FileReadsAreSound : Type 0
FileReadsAreSound =
    (file : Source1) (decl : Declarations) → IsReady file decl → (names : walk.Scope) (c next : Context) (env : Env) (h : Heap) → IsIn file decl names c env h
    → (spot : Spot) (x : List ℕ) (r : Sort) (t : Term) (i : ℕ) (n : List ℕ) (q : Proof) → new_name names x ≡ None → new_name (with_result names x r) n ≡ None
    → program_of names sort.Loc t ≡ None → proofs.proof q names ≡ None → after_read decl.proofs spot c x r t i n q ≡ Ok next
    → (cell : HasOwn decl.proofs.roots env t h) × (has_sort r cell.held ≡ true)
    × ((b : ℕ) → IsIn file decl (with_hypothesis (with_result names x r) n) next (bind env x (is cell.held)) (with_at h cell.place (Some (own b cell.held))))

-- a write: the cell is there, and then holds the value of u
abbrev pub FileWritesAreSound : Type 0
FileWritesAreSound =
    (file : Source1) (decl : Declarations) → IsReady file decl → (names : walk.Scope) (c next : Context) (env : Env) (h : Heap) → IsIn file decl names c env h
    → (spot : Spot) (t u : Term) (i : ℕ) (q : Proof) → program_of names sort.Loc t ≡ None → any_program names u ≡ None → proofs.proof q names ≡ None
    → after_write decl.proofs spot c t u i q ≡ Ok next
    → (cell : HasOwn decl.proofs.roots env t h) × ((b : ℕ) → IsIn file decl names next env (with_at h cell.place (Some (own b (value_in (value decl.proofs.roots env u))))))

-- a free: the cell is there, and then is not
abbrev pub FileFreesAreSound : Type 0
FileFreesAreSound =
    (file : Source1) (decl : Declarations) → IsReady file decl → (names : walk.Scope) (c next : Context) (env : Env) (h : Heap) → IsIn file decl names c env h
    → (spot : Spot) (t : Term) (i : ℕ) (q : Proof) → program_of names sort.Loc t ≡ None → proofs.proof q names ≡ None → after_free decl.proofs spot c t i q ≡ Ok next
    → (cell : HasOwn decl.proofs.roots env t h) × IsIn file decl names next env (with_at h cell.place None)

-- What satisfied the state before an `alloc` satisfies, with the new cells, the one after it, where x has the place of the first.
abbrev pub FileAllocsAreSound : Type 0
FileAllocsAreSound =
    (file : Source1) (decl : Declarations) → IsReady file decl → (names : walk.Scope) (c next : Context) (env : Env) (h : Heap) → IsIn file decl names c env h
    → (spot : Spot) (x : List ℕ) (ts : List Term) → new_name names x ≡ None → any_programs names ts ≡ None → after_alloc spot c x ts ≡ Ok next
    → (b i : ℕ) → IsFree b i h
    → IsIn file decl (with_result names x sort.Loc) next (bind env x (a_place (Cell b i))) (with_cells b i (values_in decl.proofs.roots env ts) h)

-- the heap splits into one for the goal and one for the state after a give
abbrev pub FileGivesAreSound : Type 0
FileGivesAreSound =
    (file : Source1) (decl : Declarations) → IsReady file decl → (names : walk.Scope) (c next : Context) (env : Env) (h : Heap) → IsIn file decl names c env h
    → (x : Give) (goal : Assn) → gives.give x names ≡ None → assns.assn goal names ≡ None → after_give decl c x goal ≡ Ok next
    → (a b : Heap) × Joins a b h × Holds (meaning_in file) decl.proofs.roots env goal a × IsIn file decl names next env b

-- The heap of a return satisfies the postcondition, where the result has the value of the term, and other variables the values that they had
-- at first. The postcondition stands where these first names are in scope, with the result, whose name the body may use for another: the
-- variables that were in scope there still are, with the same values.
abbrev pub FileReturnsAreSound : Type 0
FileReturnsAreSound =
    (file : Source1) (decl : Declarations) → IsReady file decl → (names : walk.Scope) (c : Context) (env : Env) (h : Heap) → IsIn file decl names c env h
    → (first : walk.Scope) (start : Scope) (old : Env) → Matches decl.proofs.roots first start → Knows decl.predicates first → StillThere start c.scope → SameValues start old env
    → (spot : Spot) (t : Term) (x : Give) (post : Post) → gives.give x names ≡ None → term_of names post.sort t ≡ None
    → new_name first post.result ≡ None → assns.assn post.assn (with_result first post.result post.sort) ≡ None → return_refused decl spot c t x post ≡ None
    → Holds (meaning_in file) decl.proofs.roots (bind old post.result (value decl.proofs.roots env t)) post.assn h
