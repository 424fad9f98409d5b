-- What a branch stands for, what it asks for, and what it is told.
use Rattle.std.specs.Prelude.{Bool, true, false, ◌≡◌, ℕ, List}
use Rattle.tht_tree.specs.declared.plain.Value.{Value}
use Rattle.tht_tree.specs.declared.plain.Place.{Place}
use Rattle.tht_tree.specs.declared.plain.Place.TheVariants.{Cell}
use Rattle.tht_tree.specs.Values.{unit_value}
use Rattle.tht_logic.specs.Machine.{Prog, Ended, FrontBig, Block, Bodies}
use Rattle.code_form.specs.declared.code.Code.{Code}
use Rattle.code_form.specs.declared.code.Node.{Node}
use Rattle.code_form.specs.declared.ask.Ask.{Ask}
use Rattle.code_form.specs.declared.ask.Ask.TheVariants as ask
use Rattle.code_form.specs.declared.branch.Mode.{Mode}
use Rattle.code_form.specs.declared.branch.Mode.TheVariants as mode
use Rattle.code_form.specs.declared.frames.Front.{Front}
use Rattle.code_form.specs.declared.ways.Told.{Told}
use Rattle.code_form.specs.declared.ways.Told.TheVariants.{Went, Joined}
use Rattle.code_form.specs.BranchValue.{BranchValue}
use Rattle.code_form.specs.Fronts.{front_ask, FrontTakes, front_after, front_cells, IsFork, block_rest, fork_rest}
use Rattle.code_form.specs.Stack.{IsPlainFront}
use Rattle.code_form.specs.Stacks.{stack_prog, is_block_node, is_fork_node, StandsAt}

-- What a branch stands for: it is at work on a program; or it is inside an atomic block, with what is left of the block's body and what follows
-- the block's value; or it waits for two children, which have these numbers, with what follows their values.
pub data Standing : Type 0 where
  at_work : Prog → Standing
  inside : Prog → (Value → Prog) → Standing
  waiting : ℕ → ℕ → (Value → Value → Prog) → Standing

abbrev pub is_inside : Standing → Bool
is_inside (at_work p) = false
is_inside (inside p rest) = true
is_inside (waiting x y rest) = false

abbrev pub standing_in : Mode → Prog → Prog → Standing
standing_in mode.AtWork p q = at_work p
standing_in mode.InBlock p q = inside q (block_rest p)
standing_in (mode.Waiting x y) p q = waiting x y (fork_rest p)

abbrev pub standing_of : Code → BranchValue → Standing
standing_of code s = standing_in s.mode (stack_prog code s.body) (stack_prog code s.block)

-- the program of a branch's body, which stands at the block that the branch is inside of, or at the fork that it waits for
abbrev pub program_of : Code → BranchValue → Prog
program_of code s = stack_prog code s.body

abbrev pub IsInMode : List Node → Mode → Front → Type 0
IsInMode nodes mode.AtWork f = Unit {0}
IsInMode nodes mode.InBlock f = StandsAt is_block_node nodes f
IsInMode nodes (mode.Waiting x y) f = StandsAt is_fork_node nodes f

-- statements stand in front of the branch's two bodies, at a block where it is inside of one, and at a fork where it waits
pub record AreOf (nodes : List Node) (m : Mode) (of_body of_block : Front) : Type 0 where
  pub body : IsPlainFront nodes of_body
  pub block : IsPlainFront nodes of_block
  pub mode : IsInMode nodes m of_body

-- the branch is of this code
abbrev pub IsOf : Code → BranchValue → Type 0
IsOf code s = AreOf code.nodes s.mode s.body.front s.block.front

-- ---- asking

-- the program in front: of the block, where the branch is inside one
abbrev pub front_in : Standing → Prog
front_in (at_work p) = p
front_in (inside p rest) = p
front_in (waiting x y rest) = FrontBig

-- a block whose body has become a value is at its end
abbrev pub block_ask : Prog → Ask
block_ask (Ended w) = ask.BlockEnd
block_ask p = front_ask p

-- what a branch asks for
abbrev pub ask_of : Standing → Ask
ask_of (at_work p) = front_ask p
ask_of (inside p rest) = block_ask p
ask_of (waiting x y rest) = ask.Waiting x y

-- ---- telling

abbrev pub IsWent : Told → Type 0
IsWent Went = Unit {0}
IsWent _ = ⊥

abbrev pub IsJoined : Told → Type 0
IsJoined (Joined ends) = Unit {0}
IsJoined _ = ⊥

-- what can be told of the front of a program, and of that of a block's body: a block, and its end, that it was carried out
abbrev pub WorkTakes : Prog → Told → Type 0
WorkTakes (Block p rest) told = IsWent told
WorkTakes p told = FrontTakes p told

abbrev pub BlockTakes : Prog → Told → Type 0
BlockTakes (Ended w) told = IsWent told
BlockTakes p told = FrontTakes p told

abbrev pub Takes : Standing → Told → Type 0
Takes (at_work p) told = WorkTakes p told
Takes (inside p rest) told = BlockTakes p told
Takes (waiting x y rest) told = IsJoined told

-- the values that both children came to
abbrev pub x_of : Told → Value
x_of (Joined ends) = ends.x
x_of _ = unit_value

abbrev pub y_of : Told → Value
y_of (Joined ends) = ends.y
y_of _ = unit_value

-- what the branch stands for then; the first new cell of an `alloc` is this place
abbrev pub work_after : Bodies → Place → Prog → Told → Standing
work_after F place (Block p rest) told = inside p rest
work_after F place p told = at_work (front_after F place p told)

abbrev pub block_after : Bodies → Place → Prog → (Value → Prog) → Told → Standing
block_after F place (Ended w) rest told = at_work (rest w)
block_after F place p rest told = inside (front_after F place p told) rest

abbrev pub after : Bodies → Place → Standing → Told → Standing
after F place (at_work p) told = work_after F place p told
after F place (inside p rest) told = block_after F place p rest told
after F place (waiting x y rest) told = at_work (rest (x_of told) (y_of told))

abbrev pub new_cells : Standing → ℕ
new_cells s = front_cells (front_in s)

-- the place of the next cell that a branch makes
abbrev pub next_place : BranchValue → Place
next_place s = Cell s.number s.next_index

-- the branch with nothing but its place in the code changed, and the next index of its arena, which is this
pub record IsSameButMoved (s : BranchValue) (index : ℕ) (t : BranchValue) : Type 0 where
  pub number : t.number ≡ s.number
  pub steps : t.steps ≡ s.steps
  pub next_index : t.next_index ≡ index

-- ---- forks

-- a fork stands in front
abbrev pub CanFork : Standing → Type 0
CanFork (at_work p) = IsFork p
CanFork _ = ⊥

abbrev pub IsWaiting : Mode → Type 0
IsWaiting (mode.Waiting x y) = Unit {0}
IsWaiting _ = ⊥

-- the branch has made no step and no cell, and has no number of its own yet
pub record IsNew (s : BranchValue) : Type 0 where
  pub number : s.number ≡ 0
  pub steps : s.steps ≡ 0
  pub next_index : s.next_index ≡ 0

-- a branch that waits, and what it stands for, with these numbers of its children
abbrev pub renumbered : ℕ → ℕ → Mode → Mode
renumbered x y (mode.Waiting a b) = mode.Waiting x y
renumbered x y m = m

abbrev pub with_children : ℕ → ℕ → BranchValue → BranchValue
with_children x y s = record s { mode = renumbered x y s.mode }

abbrev pub with_numbers : ℕ → ℕ → Standing → Standing
with_numbers x y (waiting a b rest) = waiting x y rest
with_numbers x y s = s
