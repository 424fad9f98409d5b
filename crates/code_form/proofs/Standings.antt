-- What a branch stands for, from where it stands and the programs of its bodies.
use Rattle.std.proofs.Common.{◌≡◌, ◌∙◌, ◌+◌, ℕ, Result, Ok, Err, OnOk, refl, sym, ap, subst, arith}
use Rattle.tht_tree.specs.declared.plain.Place.{Place}
use Rattle.tht_tree.specs.declared.plain.Value.{Value}
use Rattle.tht_logic.specs.Machine as machine
use Rattle.tht_logic.specs.Machine.{Prog, Ended, FrontBig, Plain, Block, Fork, Bodies}
use Rattle.code_form.specs.declared.branch.Mode.{Mode}
use Rattle.code_form.specs.declared.branch.Mode.TheVariants as mode
use Rattle.code_form.specs.declared.code.Code.{Code}
use Rattle.code_form.specs.declared.ways.Told.{Told}
use Rattle.code_form.specs.BranchValue.{BranchValue}
use Rattle.code_form.specs.Branches.{Standing, at_work, inside, standing_in, standing_of, WorkTakes, BlockTakes, Takes, block_ask, work_after, block_after, after, new_cells, x_of, y_of, IsSameButMoved}
use Rattle.code_form.specs.Fronts.{front_ask, FrontTakes, front_after, front_cells, IsNoBlock, block_rest, fork_rest}
use Rattle.code_form.specs.Stacks.{stack_prog}
use Rattle.code_form.specs.Statements.{in_block}

on_ok : {T E A B : Type 0} (r : Result T E) → (A → B) → OnOk r A → OnOk r B
on_ok (Ok x) f a = f a
on_ok (Err e) f a = tt

-- ---- programs

pub asked_in_block : (p : Prog) → in_block (front_ask p) ≡ block_ask p
asked_in_block (Ended w) = refl
asked_in_block FrontBig = refl
asked_in_block (Plain machine.TermBig rest) = refl
asked_in_block (Plain (machine.Read s q) rest) = refl
asked_in_block (Plain (machine.Write q w) rest) = refl
asked_in_block (Plain (machine.Alloc vs) rest) = refl
asked_in_block (Plain (machine.Free q) rest) = refl
asked_in_block (Plain (machine.Publish q) rest) = refl
asked_in_block (Plain (machine.Retract q) rest) = refl
asked_in_block (Plain (machine.Call f vs) rest) = refl
asked_in_block (Block p rest) = refl
asked_in_block (Fork p q rest) = refl

-- outside of a block, what can be told of a program that begins with none is told of a plain statement
pub works_on : (p : Prog) (told : Told) → IsNoBlock p → WorkTakes p told → FrontTakes p told
works_on (Ended w) told d t = t
works_on FrontBig told d t = t
works_on (Plain c rest) told d t = t
works_on (Block p rest) told d t = absurd d
works_on (Fork p q rest) told d t = t

works_after : (F : Bodies) (place : Place) (p : Prog) (told : Told) → IsNoBlock p → at_work (front_after F place p told) ≡ work_after F place p told
works_after F place (Ended w) told d = refl
works_after F place FrontBig told d = refl
works_after F place (Plain c rest) told d = refl
works_after F place (Block p rest) told d = absurd d
works_after F place (Fork p q rest) told d = refl

-- and inside, of one that has not become a value
abbrev pub IsNoValue : Prog → Type 0
IsNoValue (Ended w) = ⊥
IsNoValue _ = Unit {0}

pub blocks_on : (p : Prog) (told : Told) → IsNoValue p → BlockTakes p told → FrontTakes p told
blocks_on (Ended w) told d t = absurd d
blocks_on FrontBig told d t = t
blocks_on (Plain c rest) told d t = t
blocks_on (Block p rest) told d t = t
blocks_on (Fork p q rest) told d t = t

blocks_after : (F : Bodies) (place : Place) (p : Prog) (more : Value → Prog) (told : Told) → IsNoValue p → inside (front_after F place p told) more ≡ block_after F place p more told
blocks_after F place (Ended w) more told d = absurd d
blocks_after F place FrontBig more told d = refl
blocks_after F place (Plain c rest) more told d = refl
blocks_after F place (Block p rest) more told d = refl
blocks_after F place (Fork p q rest) more told d = refl

-- ---- branches

module _ (code : Code) (s : BranchValue) where
  abbrev body : Prog
  body = stack_prog code s.body

  abbrev block : Prog
  block = stack_prog code s.block

  pub stands_in : (m : Mode) → s.mode ≡ m → standing_of code s ≡ standing_in m body block
  stands_in m e = ap (λ z. standing_in z body block) e

  pub takes_in : (m : Mode) (told : Told) → s.mode ≡ m → Takes (standing_of code s) told → Takes (standing_in m body block) told
  takes_in m told e t = subst (λ z. Takes z told) (stands_in m e) t

-- the branch has gone past what stood in front
module _ {T E : Type 0} (code : Code) (s t : BranchValue) (F : Bodies) (place : Place) (told : Told) (r : Result T E) where
  abbrev Goes : Standing → Type 0
  Goes x = OnOk r (standing_of code t ≡ x)

  abbrev Went : Type 0
  Went = Goes (after F place (standing_of code s) told)

  abbrev Moves : ℕ → Type 0
  Moves n = OnOk r (IsSameButMoved s n t)

  abbrev HasMoved : Type 0
  HasMoved = Moves (s.next_index + new_cells (standing_of code s))

  went : (x : Standing) → x ≡ after F place (standing_of code s) told → Goes x → Went
  went x e g = on_ok r (λ h. h ∙ e) g

  has_moved : (n : ℕ) → n ≡ s.next_index + new_cells (standing_of code s) → Moves n → HasMoved
  has_moved n e g = on_ok r (λ h. subst (λ k. IsSameButMoved s k t) e h) g

  -- past a plain statement outside of a block
  pub passed_at_work : s.mode ≡ mode.AtWork → IsNoBlock (stack_prog code s.body) → Goes (at_work (front_after F place (stack_prog code s.body) told)) → Went
  passed_at_work m d g = went _ (works_after F place (stack_prog code s.body) told d ∙ ap (λ z. after F place z told) (sym (stands_in code s mode.AtWork m))) g

  pub moved_at_work : s.mode ≡ mode.AtWork → Moves (s.next_index + front_cells (stack_prog code s.body)) → HasMoved
  moved_at_work m g = has_moved _ (ap (λ z. s.next_index + new_cells z) (sym (stands_in code s mode.AtWork m))) g

  -- and inside
  pub passed_in_block : s.mode ≡ mode.InBlock → IsNoValue (stack_prog code s.block) → Goes (inside (front_after F place (stack_prog code s.block) told) (block_rest (stack_prog code s.body))) → Went
  passed_in_block m d g = went _ (blocks_after F place (stack_prog code s.block) (block_rest (stack_prog code s.body)) told d ∙ ap (λ z. after F place z told) (sym (stands_in code s mode.InBlock m))) g

  pub moved_in_block : s.mode ≡ mode.InBlock → Moves (s.next_index + front_cells (stack_prog code s.block)) → HasMoved
  moved_in_block m g = has_moved _ (ap (λ z. s.next_index + new_cells z) (sym (stands_in code s mode.InBlock m))) g

  -- nothing is made
  plus_none : (n k : ℕ) → k ≡ 0 → n ≡ n + k
  plus_none n k e = omega (arith, e)

  -- into a block
  pub entered : (p : Prog) (rest : Value → Prog) → s.mode ≡ mode.AtWork → stack_prog code s.body ≡ Block p rest → Goes (inside p (block_rest (stack_prog code s.body))) → Went
  entered p rest m is g =
      went _ (ap (λ z. inside p (block_rest z)) is ∙ ap (λ z. work_after F place z told) (sym is) ∙ ap (λ z. after F place z told) (sym (stands_in code s mode.AtWork m))) g

  pub moved_entered : (p : Prog) (rest : Value → Prog) → s.mode ≡ mode.AtWork → stack_prog code s.body ≡ Block p rest → Moves s.next_index → HasMoved
  moved_entered p rest m is g = has_moved _ (plus_none s.next_index _ (ap new_cells (stands_in code s mode.AtWork m) ∙ ap front_cells is)) g

  -- and out of it
  pub left_block : (w : Value) → s.mode ≡ mode.InBlock → stack_prog code s.block ≡ Ended w → Goes (at_work (block_rest (stack_prog code s.body) w)) → Went
  left_block w m is g =
      went _ (ap (λ z. block_after F place z (block_rest (stack_prog code s.body)) told) (sym is) ∙ ap (λ z. after F place z told) (sym (stands_in code s mode.InBlock m))) g

  pub moved_out : (w : Value) → s.mode ≡ mode.InBlock → stack_prog code s.block ≡ Ended w → Moves s.next_index → HasMoved
  moved_out w m is g = has_moved _ (plus_none s.next_index _ (ap new_cells (stands_in code s mode.InBlock m) ∙ ap front_cells is)) g

  -- on with the values of the children
  pub has_joined : (x y : ℕ) → s.mode ≡ mode.Waiting x y → Goes (at_work (fork_rest (stack_prog code s.body) (x_of told) (y_of told))) → Went
  has_joined x y m g = went _ (ap (λ z. after F place z told) (sym (stands_in code s (mode.Waiting x y) m))) g

  pub moved_joined : (x y : ℕ) → s.mode ≡ mode.Waiting x y → Moves s.next_index → HasMoved
  moved_joined x y m g = has_moved _ (plus_none s.next_index _ (ap new_cells (stands_in code s (mode.Waiting x y) m))) g
