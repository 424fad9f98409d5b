-- What a Lab says of a step, and of its branches.
use Rattle.std.specs.Prelude.{◌≡◌, ◌≢◌, ℕ, ◌<◌, [], Option, Some, None}
use Rattle.tht_tree.specs.declared.plain.Value.{Value}
use Rattle.tht_logic.specs.Machine.{Bodies, Ended, Leaf, Mem, Moved, Said, Next, Cannot, Big, Longer, Touch, Wrong, Tree, step_of}
use Rattle.code_form.specs.Codes.{bodies_of}
use Rattle.tagged_interp.specs.declared.lab.LabSaid.{LabSaid}
use Rattle.tagged_interp.specs.declared.lab.LabSaid.TheVariants as lab
use Rattle.tagged_interp.specs.Labs.{LabValue, StandsFor}

-- ---- steps

-- the machine's step went at this cost, and the Lab stands for what it left
pub record Goes (new : LabValue) (cost : ℕ) (s : Said Moved) : Type 0 where
  pub moved : Moved
  pub next : s ≡ Next moved
  pub costs : moved.cost ≡ cost
  pub stands : StandsFor new moved.mem moved.tree

-- what the Lab says is what the machine's step is
abbrev pub Says : LabSaid → LabValue → Said Moved → Type 0
Says (lab.Went cost) new s = Goes new cost s
Says (lab.Touch p) new s = s ≡ Touch p
Says lab.Wrong new s = s ≡ Wrong
Says lab.Big new s = s ≡ Big
Says lab.Longer new s = s ≡ Longer
Says lab.Cannot new s = s ≡ Cannot

-- The Lab says of a branch's step, with so much left, what it is in each state that the Lab stands for.
abbrev pub SaysTheStep : LabValue → ℕ → ℕ → LabSaid → LabValue → Type 0
SaysTheStep old branch left said new = (m : Mem) (t : Tree) → StandsFor old m t → Says said new (step_of (bodies_of old.code) [] branch left m t)

-- nothing has changed but by a step that went, and no step changes the code
abbrev pub IsUnchangedUnlessWent : LabValue → LabSaid → LabValue → Type 0
IsUnchangedUnlessWent old (lab.Went cost) new = new.code ≡ old.code
IsUnchangedUnlessWent old _ new = new ≡ old

-- ---- branches

-- main's value, where a tree is a branch 0 whose body has become one
abbrev pub main_value : Tree → Option Value
main_value (Leaf b (Ended v)) = Some v
main_value _ = None

-- this is the lowest branch that can step, whatever is left, or none can
abbrev pub IsLowestBranch : Bodies → Mem → Tree → Option ℕ → Type 0
IsLowestBranch F m t None = (b left : ℕ) → step_of F [] b left m t ≡ Cannot
IsLowestBranch F m t (Some b) = (left : ℕ) → (step_of F [] b left m t ≢ Cannot) × ((c : ℕ) → c < b → step_of F [] c left m t ≡ Cannot)
