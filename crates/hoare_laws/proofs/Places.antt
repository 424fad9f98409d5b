-- Places in a body, and what it is that a statement and a body are sound there.
use Rattle.std.proofs.Common.{◌≡◌, ℕ, ◌≤◌, List, ◌∷◌, None, Ok, refl}
use Rattle.tht_tree.specs.declared.file.Source1.{Source1}
use Rattle.tht_tree.specs.declared.state.Post.{Post}
use Rattle.tht_tree.specs.declared.walk.Where.TheVariants.{Outside}
use Rattle.tht_tree.specs.Values.{Val, Env}
use Rattle.tht_tree.specs.Syntax.{Names}
use Rattle.tht_tree.specs.Heaps.{Heap}
use Rattle.tht_tree.specs.Rules.Context.{Context, Scope}
use Rattle.tht_tree.specs.Walk.Names as walk
use Rattle.tht_tree.specs.Walk.Names.{new_name, with_result}
use Rattle.tht_tree.specs.Walk.Assns as assns
use Rattle.tht_tree.specs.Walk.Bodies as walked
use Rattle.tht_tree.specs.Walk.Bodies.{frame}
use Rattle.tht_logic.specs.Programs.{Whole, Before}
use Rattle.tht_logic.specs.Machine.{Prog, Bodies, Leaf, closed}
use Rattle.tht_logic.specs.Satisfaction.{Meaning}
use Rattle.tht_logic.specs.Meanings.{meaning_in}
use Rattle.tht_logic.specs.Soundness.{Keeps, no_invariant, post_of}
use Rattle.tht_logic.specs.Triples.{ProcsMeet}
use Rattle.tht_logic.specs.Rules.Calls.{InBody}
use Rattle.tht_logic.specs.Rules.Bodies.{Statement}
use Rattle.tht_logic.specs.Rules.Definitions.{Declarations}
use Rattle.proof_laws.specs.Walked.{Matches}
use Rattle.proof_laws.proofs.WalkedTerms.{no_walk_code}
use Rattle.assn_laws.specs.FileLaws.{StillThere, SameValues, IsReady, IsIn}
use Rattle.assn_laws.specs.Walked.{Knows, KnowsProcs}
use Rattle.assn_laws.proofs.Refusing.{nothing}
use Rattle.hoare_laws.specs.Laws.{ProcsInOrder}
use Rattle.hoare_laws.proofs.ProgramValues.{HaveValues}
use Rattle.hoare_laws.proofs.Growing.{Grows, same_scope, grows_on, still_there, same_values_on}

-- A file with what is declared in it, the bodies of procs, and the branch that is at work, with its ancestors.
pub record Setting : Type 0 where
  pub file : Source1
  pub decl : Declarations
  pub ready : IsReady file decl
  pub procs : ProcsInOrder decl
  pub F : Bodies
  pub above : List ℕ
  pub b : ℕ

module _ (at : Setting) where
  abbrev pub roots : Names
  roots = at.decl.proofs.roots

  abbrev pub M : Meaning
  M = meaning_in at.file

  -- What a body aims at: a postcondition, which speaks of what was in scope, and of the values that variables had, where the body, or one
  -- round it, began.
  pub record Aim : Type 0 where
    pub first : walk.Scope
    pub start : Scope
    pub old : Env
    pub post : Post
    pub matches : Matches roots first start
    pub knows : Knows at.decl.predicates first
    pub new_result : new_name first post.result ≡ no_walk_code
    pub post_walked : assns.assn post.assn (with_result first post.result post.sort) ≡ no_walk_code

  -- A place in the body: what is known and in scope there, an environment and a heap that satisfy it, and the values that the machine has for
  -- the names that it has bound; all that was in scope at first still is, and has the value that it had.
  pub record IsAt (aim : Aim) (names : walk.Scope) (c : Context) (env : Env) (h : Heap) (xs : Names) (vs : List Val) : Type 0 where
    pub inside : IsIn at.file at.decl names c env h
    pub procs : KnowsProcs at.decl.procs names
    pub values : HaveValues roots names env xs vs
    pub grown : Grows aim.first names
    pub same : SameValues aim.start aim.old env

  -- the branch at work on this keeps to the aim for so many steps
  abbrev pub Keeping : Aim → ℕ → Heap → Prog → Type 0
  Keeping aim k h p = Keeps at.F no_invariant k at.above (Leaf at.b p) h (post_of M roots aim.old aim.post)

  -- what follows does, from each such place
  abbrev pub GoesOn : Aim → ℕ → walk.Scope → Context → Whole → Type 0
  GoesOn aim k names c next = (env : Env) (h : Heap) (xs : Names) (vs : List Val) → IsAt aim names c env h xs vs → Keeping aim k h (closed vs (next xs))

  -- the procs meet their heads for fewer steps
  abbrev pub Meet : ℕ → Type 0
  Meet k = ProcsMeet M roots at.F at.decl.procs k

  -- A body in which the walk and the rules refuse nothing keeps to the aim.
  abbrev pub BodySound : Whole → walked.InBody → InBody → Type 0
  BodySound whole in_walk refused =
      (aim : Aim) (k : ℕ) → Meet k → (names : walk.Scope) (c : Context) (env : Env) (h : Heap) (xs : Names) (vs : List Val) → IsAt aim names c env h xs vs
      → in_walk (frame Outside aim.post.sort) names ≡ nothing → refused aim.post c ≡ None → Keeping aim k h (closed vs (whole xs))

  -- A statement in which the walk and the rules refuse nothing keeps to the aim, where what follows does from what is known after it.
  abbrev pub StmtSound : Before → walked.Statement → Statement → Type 0
  StmtSound before in_walk after =
      (aim : Aim) (k : ℕ) → Meet k → (names : walk.Scope) (c next : Context) (env : Env) (h : Heap) (xs : Names) (vs : List Val) → IsAt aim names c env h xs vs
      → in_walk.walk (frame Outside aim.post.sort) names ≡ nothing → after c ≡ Ok next → (code : Whole) → ((j : ℕ) → j ≤ k → GoesOn aim j (in_walk.after names) next code)
      → Keeping aim k h (closed vs (before code xs))

  module _ (aim : Aim) (names : walk.Scope) (c : Context) (env : Env) (h : Heap) (xs : Names) (vs : List Val) (here : IsAt aim names c env h xs vs) where
    pub there : StillThere aim.start c.scope
    there = still_there roots aim.first names aim.start c.scope aim.matches here.inside.matches here.grown

    -- from here to a place where more is in scope
    pub moved : (new : walk.Scope) (next : Context) (later : Env) (q : Heap) (ys : Names) (ws : List Val) → IsIn at.file at.decl new next later q → KnowsProcs at.decl.procs new
        → HaveValues roots new later ys ws → Grows names new → SameValues c.scope env later → IsAt aim new next later q ys ws
    moved new next later q ys ws inside procs values grows same = record {
      inside = inside;
      procs = procs;
      values = values;
      grown = grows_on aim.first names new here.grown grows;
      same = same_values_on aim.start c.scope aim.old env later there here.same same;
    }

    -- in the same scope and environment
    pub stayed : (next : Context) (q : Heap) → IsIn at.file at.decl names next env q → IsAt aim names next env q xs vs
    stayed next q inside = moved names next env q xs vs inside here.procs here.values (same_scope names) (λ y r e. refl)
