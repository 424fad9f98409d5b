-- The laws of the measure, of the rules of bodies and files, and of the programs of files, as statements.
use Rattle.std.specs.Prelude.{◌≡◌, ◌≤◌, ℕ, suc, true, List, [], Some, None}
use Rattle.tht_tree.specs.declared.plain.Value.{Value}
use Rattle.tht_tree.specs.declared.assn.Assn.{Assn}
use Rattle.tht_tree.specs.declared.body.Body.{Body}
use Rattle.tht_tree.specs.declared.decl.Decl.{Decl}
use Rattle.tht_tree.specs.declared.decl.Head.{Head}
use Rattle.tht_tree.specs.declared.file.Source1.{Source1}
use Rattle.tht_tree.specs.declared.state.Post.{Post}
use Rattle.tht_tree.specs.declared.walk.Where.TheVariants.{Outside}
use Rattle.tht_tree.specs.Values.{Env}
use Rattle.tht_tree.specs.Syntax.{Names}
use Rattle.tht_tree.specs.Heaps.{Heap, Joins}
use Rattle.tht_tree.specs.Rules.Context.{Context}
use Rattle.tht_tree.specs.Walk.Names as walk
use Rattle.tht_tree.specs.Walk.Names.{new_name, with_result}
use Rattle.tht_tree.specs.Walk.Assns as assns
use Rattle.tht_tree.specs.Walk.Bodies as bodies
use Rattle.tht_tree.specs.Walk.Bodies.{frame}
use Rattle.tht_tree.specs.Walk.Files.{WellSorted}
use Rattle.proof_laws.specs.Walked.{Matches}
use Rattle.tht_logic.specs.Assertions.{asn}
use Rattle.tht_logic.specs.Built.{is_built}
use Rattle.tht_logic.specs.PlainPrograms.{is_plain_file}
use Rattle.tht_logic.specs.Machine.{Bodies, Prog, Tree, Leaf, and_then}
use Rattle.tht_logic.specs.Satisfaction.{Meaning, Satisfies}
use Rattle.tht_logic.specs.Meanings.{meaning, meaning_in}
use Rattle.tht_logic.specs.Soundness.{Assertion, Keeps, IsSound, post_of}
use Rattle.tht_logic.specs.Triples.{BodyKeeps}
use Rattle.tht_logic.specs.Rules.Bodies.{body_refused}
use Rattle.tht_logic.specs.Rules.Definitions.{Declarations}
use Rattle.tht_logic.specs.Rules.Files.{IsAccepted}
use Rattle.tht_logic.specs.Rules.Formed.{IsFormed}
use Rattle.tht_logic.specs.Rules.Scoped.{instance_fits}
use Rattle.assn_laws.specs.ControlLaws.{HeadIsInOrder}
use Rattle.assn_laws.specs.Walked.{Knows, KnowsProcs}
use Rattle.assn_laws.specs.FileLaws.{IsReady}

-- ---- the measure

-- the shared cells satisfy this assertion, where predicates mean this and these are the roots
abbrev pub invariant_of : Meaning → Names → Env → Assn → Assertion
invariant_of M roots env a h = Satisfies M env [] (asn roots [] a) h

-- what keeps to a postcondition for one step more keeps to it, whatever predicates are declared and whatever the procs are
abbrev pub KeepsFewer : Type 0
KeepsFewer =
    (decls : List Decl) (roots : Names) (F : Bodies) (env out : Env) (invariant : Assn) (post : Post) (k : ℕ) (above : List ℕ) (t : Tree) (p : Heap)
    → Keeps F (invariant_of (meaning roots decls) roots env invariant) (suc k) above t p (post_of (meaning roots decls) roots out post)
    → Keeps F (invariant_of (meaning roots decls) roots env invariant) k above t p (post_of (meaning roots decls) roots out post)

-- Sequence and frame: where a body keeps to a postcondition, and from each result and heap that satisfy it, beside a frame, what follows keeps to another for all
-- steps that can be left, the body with what follows keeps to that one, from the body's heap and the frame.
abbrev pub SequenceAndFrame : Type 0
SequenceAndFrame =
    (decls : List Decl) (roots : Names) (F : Bodies) (env inner outer : Env) (invariant : Assn) (first second : Post) (k : ℕ) (above : List ℕ) (b : ℕ) (p : Prog) (rest : Value → Prog)
    (q f h : Heap) → Joins q f h
    → Keeps F (invariant_of (meaning roots decls) roots env invariant) k above (Leaf b p) q (post_of (meaning roots decls) roots inner first)
    → ((j : ℕ) → j ≤ k → (v : Value) (x y : Heap) → post_of (meaning roots decls) roots inner first v x → Joins x f y
    → Keeps F (invariant_of (meaning roots decls) roots env invariant) j above (Leaf b (rest v)) y (post_of (meaning roots decls) roots outer second))
    → Keeps F (invariant_of (meaning roots decls) roots env invariant) k above (Leaf b (and_then p rest)) h (post_of (meaning roots decls) roots outer second)

-- ---- bodies

-- the procs that the rules know are in order
abbrev pub ProcsInOrder : Declarations → Type 0
ProcsInOrder decl = (f : List ℕ) (x : Head) → decl.procs f ≡ Some x → HeadIsInOrder decl.proofs.roots (instance_fits decl) x

-- Where these names are in scope, and the rules know this: the walk refuses nothing in the body, nor in its postcondition, where the result of
-- the body, whose name is new, is in scope too.
pub record IsInOrder (decl : Declarations) (names : walk.Scope) (c : Context) (body : Body) (post : Post) : Type 0 where
  pub matches : Matches decl.proofs.roots names c.scope
  pub knows : Knows decl.predicates names
  pub knows_procs : KnowsProcs decl.procs names
  pub procs : ProcsInOrder decl
  pub formed : IsFormed decl.proofs.roots (instance_fits decl) c
  pub body_walked : bodies.body body (frame Outside post.sort) names ≡ None
  pub new_result : new_name names post.result ≡ None
  pub post_walked : assns.assn post.assn (with_result names post.result post.sort) ≡ None

-- such a body, of which the rules refuse nothing, keeps its postcondition, where the procs meet their heads for fewer steps
abbrev pub BodiesAreSound : Type 0
BodiesAreSound =
    (file : Source1) (decl : Declarations) → IsReady file decl → (names : walk.Scope) (c : Context) (body : Body) (post : Post) → IsInOrder decl names c body post
    → body_refused decl body post c ≡ None → BodyKeeps (meaning_in file) decl.proofs.roots decl.procs c body post

-- ---- files

-- each accepted file is sound
abbrev pub AcceptedIsSound : Type 0
AcceptedIsSound = (file : Source1) → IsAccepted file → IsSound file

-- each file whose forms are built and whose names and sorts are in order is plain
abbrev pub PlainFiles : Type 0
PlainFiles = (file : Source1) → is_built file ≡ true → WellSorted file → is_plain_file file ≡ true
