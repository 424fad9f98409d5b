-- What a run shows.
use Rattle.std.specs.Prelude.{◌≡◌, ℕ, List, [], Some, replicate}
use Rattle.tht_tree.specs.declared.file.Source1.{Source1}
use Rattle.tht_tree.specs.declared.run.End.{End}
use Rattle.tht_logic.specs.Machine.{step_of}
use Rattle.tht_logic.specs.Procedures.{bodies_in}
use Rattle.tht_logic.specs.Runs.{State, start_of, run_of, cost_of, GoesLowest}
use Rattle.tht_logic.specs.Soundness.{IsSafe}
use Rattle.tht_front.specs.declared.course.Course.{Course}
use Rattle.tht_front.specs.declared.course.Course.TheVariants.{Ended, Faulted}

-- after so many steps of branch 0, which is always the lowest that can step, the run ends so
pub record RunEnds (file : Source1) (budget : ℕ) (end : End) (steps : ℕ) : Type 0 where
  pub last : State
  pub runs : run_of file budget (replicate steps 0) ≡ Some last
  pub ends : GoesLowest (bodies_in file) (start_of file budget) (replicate steps 0) end
  pub cost : cost_of budget last ≡ steps

-- after some run a step is a fault
pub record RunFaults (file : Source1) (budget : ℕ) : Type 0 where
  pub order : List ℕ
  pub last : State
  pub runs : run_of file budget order ≡ Some last
  pub left : ℕ
  pub fault : IsSafe (step_of (bodies_in file) [] 0 left last.mem last.tree) → ⊥

abbrev pub Shows : Source1 → ℕ → Course → Type 0
Shows file budget (Ended end steps) = RunEnds file budget end steps
Shows file budget Faulted = RunFaults file budget
