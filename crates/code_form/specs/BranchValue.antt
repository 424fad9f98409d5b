-- What a branch is seen as.
use Rattle.std.specs.Prelude.{ℕ}
use Rattle.code_form.specs.declared.branch.Mode.{Mode}
use Rattle.code_form.specs.StackValue.{StackValue}

-- Its number, the number of its steps, the next index of its arena, where it stands, its body on its way, and that of the block that it is inside
-- of. Inside a block its body stands at the block, and where it waits for children at the fork.
pub record BranchValue : Type 0 where
  pub number : ℕ
  pub steps : ℕ
  pub next_index : ℕ
  pub mode : Mode
  pub body : StackValue
  pub block : StackValue
