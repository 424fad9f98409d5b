-- What a program asks for, and what follows the statement in front of it.
use Rattle.std.specs.Prelude.{ℕ, length}
use Rattle.tht_tree.specs.declared.plain.Value.{Value}
use Rattle.tht_tree.specs.declared.plain.Value.TheVariants as v
use Rattle.tht_tree.specs.declared.plain.Place.{Place}
use Rattle.tht_tree.specs.Values.{unit_value}
use Rattle.tht_logic.specs.Machine as machine
use Rattle.tht_logic.specs.Machine.{Cmd, Prog, Ended, FrontBig, Plain, Block, Fork, Bodies, and_then}
use Rattle.code_form.specs.declared.ask.Ask.{Ask}
use Rattle.code_form.specs.declared.ask.Ask.TheVariants as ask
use Rattle.code_form.specs.declared.ways.Told.{Told}
use Rattle.code_form.specs.declared.ways.Told.TheVariants.{Went, Got}

-- ---- asking

abbrev pub cmd_ask : Cmd → Ask
cmd_ask machine.TermBig = ask.TermBig
cmd_ask (machine.Read s p) = ask.Read p s
cmd_ask (machine.Write p w) = ask.Write p w
cmd_ask (machine.Alloc vs) = ask.Alloc vs
cmd_ask (machine.Free p) = ask.Free p
cmd_ask (machine.Publish p) = ask.Publish p
cmd_ask (machine.Retract p) = ask.Retract p
cmd_ask (machine.Call f vs) = ask.Call

-- what a program asks for: what stands in front of it, with the values of the statement's terms
abbrev pub front_ask : Prog → Ask
front_ask (Ended w) = ask.Value w
front_ask FrontBig = ask.FrontBig
front_ask (Plain c rest) = cmd_ask c
front_ask (Block p rest) = ask.Atomic
front_ask (Fork p q rest) = ask.Fork

-- ---- telling

-- a plain statement can be told this: a read the value that was read, and each other that it was carried out
abbrev pub CanTell : Cmd → Told → Type 0
CanTell (machine.Read s p) (Got w) = Unit {0}
CanTell (machine.Write p w) Went = Unit {0}
CanTell (machine.Alloc vs) Went = Unit {0}
CanTell (machine.Free p) Went = Unit {0}
CanTell (machine.Publish p) Went = Unit {0}
CanTell (machine.Retract p) Went = Unit {0}
CanTell (machine.Call f vs) Went = Unit {0}
CanTell _ _ = ⊥

-- a plain statement stands in front, which can be told this
abbrev pub FrontTakes : Prog → Told → Type 0
FrontTakes (Plain c rest) told = CanTell c told
FrontTakes _ told = ⊥

-- what follows a statement that was carried out; the first new cell of an `alloc` is this place
abbrev pub past : Bodies → Place → Cmd → Told → (Value → Prog) → Prog
past F place (machine.Read s p) (Got w) rest = rest w
past F place (machine.Alloc vs) told rest = rest (v.Loc place)
past F place (machine.Call f vs) told rest = and_then (F f vs) rest
past F place c told rest = rest unit_value

-- what follows the plain statement in front of a program
abbrev pub front_after : Bodies → Place → Prog → Told → Prog
front_after F place (Plain c rest) told = past F place c told rest
front_after F place p told = p

-- how many cells a statement makes
abbrev pub cells_of : Cmd → ℕ
cells_of (machine.Alloc vs) = length vs
cells_of _ = 0

abbrev pub front_cells : Prog → ℕ
front_cells (Plain c rest) = cells_of c
front_cells _ = 0

-- ---- blocks and forks

abbrev pub IsNoBlock : Prog → Type 0
IsNoBlock (Block p rest) = ⊥
IsNoBlock _ = Unit {0}

abbrev pub IsFork : Prog → Type 0
IsFork (Fork p q rest) = Unit {0}
IsFork _ = ⊥

-- what follows the value of the block in front
abbrev pub block_rest : Prog → Value → Prog
block_rest (Block p rest) w = rest w
block_rest _ w = FrontBig

-- the bodies of the fork in front, and what follows their values
abbrev pub fork_left : Prog → Prog
fork_left (Fork p q rest) = p
fork_left _ = FrontBig

abbrev pub fork_right : Prog → Prog
fork_right (Fork p q rest) = q
fork_right _ = FrontBig

abbrev pub fork_rest : Prog → Value → Value → Prog
fork_rest (Fork p q rest) w u = rest w u
fork_rest _ w u = FrontBig
