-- The program that a body on its way stands for, and the blocks and forks in front of it.
use Rattle.std.specs.Prelude.{◌≡◌, ℕ, Bool, true, false, List, slice_get, drop, Option, Some, None}
use Rattle.tht_tree.specs.declared.plain.Value.{Value}
use Rattle.tht_logic.specs.Machine.{Prog, Ended, Block, Fork}
use Rattle.code_form.specs.declared.code.Code.{Code}
use Rattle.code_form.specs.declared.code.Node.{Node}
use Rattle.code_form.specs.declared.code.Node.TheVariants as node
use Rattle.code_form.specs.declared.frames.Front.{Front}
use Rattle.code_form.specs.declared.frames.Front.TheVariants as front
use Rattle.code_form.specs.declared.under_way.Inner.{Inner}
use Rattle.code_form.specs.declared.under_way.Sides.{Sides}
use Rattle.code_form.specs.declared.under_way.Split.{Split}
use Rattle.code_form.specs.Codes.{means_of}
use Rattle.code_form.specs.Fronts.{IsNoBlock}
use Rattle.code_form.specs.Stack.{rests, front_prog}
use Rattle.code_form.specs.StackValue.{StackValue}

-- the values of the innermost variables
abbrev pub env_of : StackValue → List Value
env_of s = drop s.base s.values

-- what follows the value of the innermost call
abbrev pub behind_of : Code → StackValue → Value → Prog
behind_of code s = rests (means_of code) s.values s.frames Ended

-- the program: what stands in front, with all that follows
abbrev pub stack_prog : Code → StackValue → Prog
stack_prog code s = front_prog (means_of code) s.front (env_of s) (behind_of code s)

abbrev pub ended_in : Front → Option Value
ended_in (front.Ended w) = Some w
ended_in _ = None

-- ---- blocks and forks

abbrev pub inner_in : Node → Option Inner
inner_in (node.Atomic p next) = Some (record { first = p; next = next })
inner_in _ = None

abbrev pub split_in : Node → Option Split
split_in (node.Fork p q next) = Some (record { left = p; right = q; next = next })
split_in _ = None

abbrev pub is_block_node : Node → Bool
is_block_node (node.Atomic p next) = true
is_block_node _ = false

abbrev pub is_fork_node : Node → Bool
is_fork_node (node.Fork p q next) = true
is_fork_node _ = false

abbrev pub is_at : (Node → Bool) → Option Node → Bool
is_at test None = false
is_at test (Some n) = test n

-- such a node stands in front
abbrev pub StandsAt : (Node → Bool) → List Node → Front → Type 0
StandsAt test nodes (front.At i) = is_at test (slice_get nodes i) ≡ true
StandsAt test nodes _ = ⊥

-- an atomic block stands in front, whose body begins with this node
pub record BeginsAt (code : Code) (s : StackValue) (first : ℕ) : Type 0 where
  pub rest : Value → Prog
  pub is : stack_prog code s ≡ Block (means_of code first (env_of s)) rest
  pub stands : StandsAt is_block_node code.nodes s.front

abbrev pub IsBlockFrom : Code → StackValue → Option ℕ → Type 0
IsBlockFrom code s (Some first) = BeginsAt code s first
IsBlockFrom code s None = IsNoBlock (stack_prog code s)

-- a fork stands in front, whose bodies begin with these nodes
pub record ForksTo (code : Code) (s : StackValue) (sides : Sides) : Type 0 where
  pub rest : Value → Value → Prog
  pub is : stack_prog code s ≡ Fork (means_of code sides.left (env_of s)) (means_of code sides.right (env_of s)) rest
  pub stands : StandsAt is_fork_node code.nodes s.front
