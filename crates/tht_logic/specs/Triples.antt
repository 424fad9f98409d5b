-- What it is that a proc meets its specification, its head, and that a body keeps its postcondition, for a number of steps: triples indexed by steps.
use Rattle.std.specs.Prelude.{◌≡◌, ℕ, ◌<◌, List, [], map, Option, Some, None, Contains}
use Rattle.tht_tree.specs.declared.plain.Sort.{Sort}
use Rattle.tht_tree.specs.declared.plain.Value.{Value}
use Rattle.tht_tree.specs.declared.body.Body.{Body}
use Rattle.tht_tree.specs.declared.decl.Param.{Param}
use Rattle.tht_tree.specs.declared.decl.Head.{Head}
use Rattle.tht_tree.specs.declared.state.Post.{Post}
use Rattle.tht_tree.specs.declared.state.Local.TheVariants.{Variable}
use Rattle.tht_tree.specs.Values.{Env, value_in}
use Rattle.tht_tree.specs.Syntax.{Names, position}
use Rattle.tht_tree.specs.Satisfaction.{HasSorts}
use Rattle.tht_logic.specs.Programs.{code}
use Rattle.tht_logic.specs.Assertions.{asn}
use Rattle.tht_tree.specs.Heaps.{Heap}
use Rattle.tht_logic.specs.Satisfaction.{Meaning, Satisfies, SatisfiesState}
use Rattle.tht_logic.specs.Machine.{Bodies, Leaf, closed}
use Rattle.tht_logic.specs.Procedures.{head_post}
use Rattle.tht_logic.specs.Soundness.{Keeps, no_invariant, post_of}
use Rattle.tht_tree.specs.Rules.Context.{Scope, Context}
use Rattle.tht_logic.specs.Rules.Definitions.{head_scope}

-- each variable in scope is among these names
abbrev pub Covers : Names → Scope → Type 0
Covers xs scope = (x : List ℕ) (s : Sort) → scope x ≡ Some (Variable s) → Contains xs x

-- none of these names is a root's
abbrev pub HideNone : Names → Names → Type 0
HideNone roots xs = (x : List ℕ) → Contains xs x → position 0 roots x ≡ None

-- the values of parameters in an environment
abbrev pub arguments_in : Env → List Param → List Value
arguments_in env ps = map (λ p. value_in (env p.name)) ps

module _ (M : Meaning) (roots : Names) (F : Bodies) where
  -- The proc with this name meets its head for k steps: from every environment, which has values for the logical variables too, and private heap that
  -- satisfy the precondition its body, with the environment's values for its parameters, keeps to the postcondition. (The program names no logical
  -- variable.)
  abbrev pub Meets : ℕ → List ℕ → Head → Type 0
  Meets k f x =
      (b : ℕ) (above : List ℕ) (env : Env) (h : Heap) → HasSorts env (head_scope x) → Satisfies M env [] (asn roots [] x.pre) h
      → Keeps F no_invariant k above (Leaf b (F f (arguments_in env x.params))) h (post_of M roots env (head_post x))

  -- these procs meet their heads for all fewer steps
  abbrev pub ProcsMeet : (List ℕ → Option Head) → ℕ → Type 0
  ProcsMeet procs k = (f : List ℕ) (x : Head) → procs f ≡ Some x → (j : ℕ) → j < k → Meets j f x

  -- The body keeps its postcondition for k steps: from every environment and private heap that satisfy the context, a branch at work on it, with the
  -- environment's values for its variables, keeps to the postcondition.
  abbrev pub KeepsFor : ℕ → Context → Body → Post → Type 0
  KeepsFor k c body post =
      (b : ℕ) (above : List ℕ) (env : Env) (xs : Names) (h : Heap) → Covers xs c.scope → HideNone roots xs → SatisfiesState M roots env c h
      → Keeps F no_invariant k above (Leaf b (closed (map env xs) (code roots body xs))) h (post_of M roots env post)

-- Where predicates mean this, these are the roots, and these are the heads of procs: for every number of steps the body keeps its postcondition, where
-- these procs meet their heads for all fewer steps.
abbrev pub BodyKeeps : Meaning → Names → (List ℕ → Option Head) → Context → Body → Post → Type 0
BodyKeeps M roots procs c body post = (F : Bodies) (k : ℕ) → ProcsMeet M roots F procs k → KeepsFor M roots F k c body post
