-- What it is for a file to be sound over every order and budget, and the measure of it by a number of steps.
use Rattle.std.specs.Prelude.{◌≡◌, ℕ, zero, suc, ◌<◌, true, false, List, [], ◌++◌, Some}
use Rattle.tht_tree.specs.declared.plain.Place.{Place}
use Rattle.tht_tree.specs.declared.plain.Place.TheVariants.{Cell}
use Rattle.tht_tree.specs.declared.plain.Value.{Value}
use Rattle.tht_tree.specs.declared.state.Post.{Post}
use Rattle.tht_tree.specs.declared.file.Source1.{Source1}
use Rattle.tht_tree.specs.Values.{is, Env, bind, has_sort}
use Rattle.tht_tree.specs.Syntax.{Names}
use Rattle.tht_logic.specs.Programs.{root_names}
use Rattle.tht_logic.specs.Assertions.{asn}
use Rattle.tht_logic.specs.Meanings.{meaning_in}
use Rattle.tht_tree.specs.Heaps.{Heap, Held, own, Joins, IsEmpty, shared_part, private_part}
use Rattle.tht_logic.specs.Satisfaction.{Meaning, Satisfies}
use Rattle.tht_logic.specs.Procedures.{bodies_in, main_post}
use Rattle.tht_logic.specs.Machine.{Bodies, Mem, Tree, Leaf, Ended, Said, Next, Touch, Wrong, Moved, step_of, branches, below, is_in, no_env}
use Rattle.tht_logic.specs.Runs.{State, run_of}

-- what the shared cells satisfy, and what the private ones with a result
abbrev pub Assertion : Type 1
Assertion = Heap → Type 0

abbrev pub Postcondition : Type 1
Postcondition = Value → Heap → Type 0

-- What a postcondition says of a result and a heap, where predicates mean this, these are the roots, and other variables have these values: the result is of
-- the sort, and the assertion holds of the heap, where the name has the result's value.
abbrev pub post_of : Meaning → Names → Env → Post → Postcondition
post_of M roots env post v h = (has_sort post.sort v ≡ true) × Satisfies M (bind env post.result (is v)) [] (asn roots [] post.assn) h

-- the shared cells' invariant of a file that declares none: there are no such cells
abbrev pub no_invariant : Assertion
no_invariant = IsEmpty

-- no fault is said
abbrev pub IsSafe : {A : Type 0} → Said A → Type 0
IsSafe (Touch p) = ⊥
IsSafe Wrong = ⊥
IsSafe _ = Unit {0}

-- ---- soundness

-- A file is sound: after every order that is a run within some budget no step of a branch, whatever is left, is a fault;
-- the shared cells satisfy the invariant; and where main has a value, it is of main's sort, and the private cells satisfy main's postcondition.
pub record IsSound (file : Source1) : Type 0 where
  pub safe : (budget : ℕ) (order : List ℕ) (s : State) → run_of file budget order ≡ Some s → (b n : ℕ) → IsSafe (step_of (bodies_in file) [] b n s.mem s.tree)
  pub invariant : (budget : ℕ) (order : List ℕ) (s : State) → run_of file budget order ≡ Some s → no_invariant (shared_part s.mem.heap)
  pub ends : (budget : ℕ) (order : List ℕ) (s : State) → run_of file budget order ≡ Some s → (v : Value) → s.tree ≡ Leaf 0 (Ended v)
      → post_of (meaning_in file) (root_names file) no_env (main_post file) v (private_part s.mem.heap)

-- ---- the measure

-- where something comes next, the fact holds of it
abbrev pub Leads : {A : Type 0} → Said A → (A → Type 0) → Type 0
Leads (Next a) P = P a
Leads _ P = Unit {0}

-- each private cell is one of these branches' own
abbrev pub HasTags : Heap → List ℕ → Type 0
HasTags h bs = (p : Place) (a : ℕ) (v : Value) → h p ≡ Some (own a v) → is_in a bs ≡ true

-- no private cell is one of these branches' own
abbrev pub HasNoTags : Heap → List ℕ → Type 0
HasNoTags h bs = (p : Place) (a : ℕ) (v : Value) → h p ≡ Some (own a v) → is_in a bs ≡ false

abbrev pub AreBelow : ℕ → List ℕ → Type 0
AreBelow n xs = (a : ℕ) → is_in a xs ≡ true → a < n

-- the branches' numbers differ, and differ from those of the ancestors
abbrev pub AreDistinct : List ℕ → Tree → Type 0
AreDistinct above (Leaf b p) = is_in b above ≡ false

-- no cell is there that its arena has not made
abbrev pub IsMade : Mem → Type 0
IsMade m = (a i : ℕ) (c : Held) → m.heap (Cell a i) ≡ Some c → i < m.made a

-- the tree may stand in this memory, below these ancestors, with the private cells p beside the private cells f
pub record Stands (I : Assertion) (above : List ℕ) (t : Tree) (p f : Heap) (m : Mem) : Type 0 where
  pub parts : Joins p f (private_part m.heap)
  pub invariant : I (shared_part m.heap)
  pub distinct : AreDistinct above t
  pub numbered : AreBelow m.next_branch (branches t ++ above)
  pub tags : HasTags p (branches t ++ above)
  pub apart : HasNoTags f (below t)
  pub is_made : IsMade m

-- what a step leaves: the cells beside as they were, the invariant, and private cells of which the rest is said
abbrev pub Leaves : (Tree → Heap → Type 0) → Assertion → Heap → Moved → Type 0
Leaves next I f r = (q : Heap) × Joins q f (private_part r.mem.heap) × I (shared_part r.mem.heap) × next r.tree q

-- From each memory in which the tree may stand: a value satisfies the post, and no step of a branch of the tree is a
-- fault, changes the cells beside or breaks the invariant.
pub record Takes (next : Tree → Heap → Type 0) (F : Bodies) (I : Assertion) (above : List ℕ) (t : Tree) (p : Heap) (Q : Postcondition) : Type 0 where
  pub ends : (f : Heap) (m : Mem) → Stands I above t p f m → (b : ℕ) (v : Value) → t ≡ Leaf b (Ended v) → Q v p
  pub safe : (f : Heap) (m : Mem) → Stands I above t p f m → (b n : ℕ) → IsSafe (step_of F above b n m t)
  pub goes : (f : Heap) (m : Mem) → Stands I above t p f m → (b n : ℕ) → Leads (step_of F above b n m t) (Leaves next I f)

-- where procs have these bodies, the tree with the private cells p keeps to the post Q for k steps
abbrev pub Keeps : Bodies → Assertion → ℕ → List ℕ → Tree → Heap → Postcondition → Type 0
Keeps F I zero above t p Q = Unit {0}
Keeps F I (suc k) above t p Q = Takes (λ u q. Keeps F I k above u q Q) F I above t p Q
