-- Runs of a file: orders of branches from the start, and how they end.
use Rattle.std.specs.Prelude.{◌≡◌, ◌≢◌, ℕ, suc, ◌-◌, ◌<◌, List, [], ◌∷◌, Option, Some, None}
use Rattle.tht_tree.specs.declared.file.Source1.{Source1}
use Rattle.tht_tree.specs.declared.run.End.{End}
use Rattle.tht_tree.specs.declared.run.End.TheVariants.{Done, Spent}
use Rattle.tht_tree.specs.declared.run.End.TheVariants.{Big as EndBig}
use Rattle.tht_logic.specs.Programs.{code, root_names}
use Rattle.tht_tree.specs.Heaps.{nothing}
use Rattle.tht_logic.specs.Procedures.{bodies_in}
use Rattle.tht_logic.specs.Machine.{Bodies, Mem, Tree, Leaf, Ended, closed, Said, Next, Cannot, Big, Longer, Moved, step_of, raised}

-- a machine's state: the memory, the branches, the number of steps of each, and what is left of the budget
pub record State : Type 0 where
  pub mem : Mem
  pub tree : Tree
  pub steps : ℕ → ℕ
  pub left : ℕ

-- the state once branch b has made this step, as one entry of the order
abbrev pub entered : State → ℕ → Moved → State
entered s b r = record { mem = record r.mem { entry = suc r.mem.entry }; tree = r.tree; steps = raised s.steps b 1; left = s.left - r.cost }

-- the step of a branch in a state, where the procs have these bodies
abbrev pub step_in : Bodies → State → ℕ → Said Moved
step_in F s b = step_of F [] b s.left s.mem s.tree

abbrev pub on_moved : Said Moved → (Moved → Option State) → Option State
on_moved (Next r) go = go r
on_moved _ go = None

-- the state after an order, where each step is Next with what is left
abbrev pub follow : Bodies → State → List ℕ → Option State
follow F s [] = Some s
follow F s (b ∷ bs) = on_moved (step_in F s b) (λ r. follow F (entered s b r) bs)

-- main's body as branch 0, in an empty heap, with this budget
abbrev pub start_of : Source1 → ℕ → State
start_of file budget = record {
  mem = record { heap = nothing; version = λ p. 0; entry = 1; made = λ b. 0; next_branch = 1 };
  tree = Leaf 0 (closed [] (code (root_names file) file.main.body []));
  steps = λ b. 0;
  left = budget;
}

-- the state after this order, if it is a run within the budget
abbrev pub run_of : Source1 → ℕ → List ℕ → Option State
run_of file budget order = follow (bodies_in file) (start_of file budget) order

-- what a run has cost that leaves this state
abbrev pub cost_of : ℕ → State → ℕ
cost_of budget s = budget - s.left

module _ (F : Bodies) where
  -- A run ends in this state so: main has a value, or the next step of the branch costs more than is left, or a term of it
  -- is too big.
  abbrev pub Ends : State → End → Type 0
  Ends s (Done v) = s.tree ≡ Leaf 0 (Ended v)
  Ends s (Spent b) = step_in F s b ≡ Longer
  Ends s (EndBig b) = step_in F s b ≡ Big

  -- b is the lowest branch that can step
  pub record IsLowest (s : State) (b : ℕ) : Type 0 where
    pub can : step_in F s b ≢ Cannot
    pub others : (c : ℕ) → c < b → step_in F s c ≡ Cannot

  abbrev pub EndsLowest : State → End → Type 0
  EndsLowest s (Done v) = Ends s (Done v)
  EndsLowest s (Spent b) = IsLowest s b × Ends s (Spent b)
  EndsLowest s (EndBig b) = IsLowest s b × Ends s (EndBig b)

  -- From this state the lowest branch that can step goes on, entry after entry, up to this end.
  abbrev pub GoesLowest : State → List ℕ → End → Type 0
  GoesLowest s [] end = EndsLowest s end
  GoesLowest s (b ∷ bs) end = IsLowest s b × (r : Moved) × (step_in F s b ≡ Next r) × GoesLowest (entered s b r) bs end
