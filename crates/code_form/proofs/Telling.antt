-- What a branch can be told where it asks for a statement.
use Rattle.std.proofs.Common.{false, ◌≡◌, ℕ, List}
use Rattle.tht_tree.specs.declared.plain.Place.{Place}
use Rattle.tht_tree.specs.declared.plain.Sort.{Sort}
use Rattle.tht_tree.specs.declared.plain.Value.{Value}
use Rattle.tht_logic.specs.Machine as machine
use Rattle.tht_logic.specs.Machine.{Prog, Ended, FrontBig, Plain, Block, Fork}
use Rattle.code_form.specs.declared.ask.Ask.TheVariants as ask
use Rattle.code_form.specs.declared.ways.Joined.{Joined}
use Rattle.code_form.specs.declared.ways.Told.TheVariants.{Went, Got}
use Rattle.code_form.specs.declared.ways.Told.TheVariants as told
use Rattle.code_form.specs.Branches.{Standing, at_work, inside, waiting, is_inside, block_ask, ask_of, Takes, CanFork}
use Rattle.code_form.specs.Fronts.{front_ask}

pub takes_read : (s : Standing) (place : Place) (k : Sort) (w : Value) → ask_of s ≡ ask.Read place k → Takes s (Got w)
takes_read (at_work (Plain (machine.Read r q) rest)) place k w e = tt
takes_read (inside (Plain (machine.Read r q) rest) more) place k w e = tt
takes_read s place k w e = cc e

pub takes_write : (s : Standing) (place : Place) (w : Value) → ask_of s ≡ ask.Write place w → Takes s Went
takes_write (at_work (Plain (machine.Write q u) rest)) place w e = tt
takes_write (inside (Plain (machine.Write q u) rest) more) place w e = tt
takes_write s place w e = cc e

pub takes_alloc : (s : Standing) (vs : List Value) → ask_of s ≡ ask.Alloc vs → Takes s Went
takes_alloc (at_work (Plain (machine.Alloc us) rest)) vs e = tt
takes_alloc (inside (Plain (machine.Alloc us) rest) more) vs e = tt
takes_alloc s vs e = cc e

pub takes_free : (s : Standing) (place : Place) → ask_of s ≡ ask.Free place → Takes s Went
takes_free (at_work (Plain (machine.Free q) rest)) place e = tt
takes_free (inside (Plain (machine.Free q) rest) more) place e = tt
takes_free s place e = cc e

pub takes_publish : (s : Standing) (place : Place) → ask_of s ≡ ask.Publish place → Takes s Went
takes_publish (at_work (Plain (machine.Publish q) rest)) place e = tt
takes_publish (inside (Plain (machine.Publish q) rest) more) place e = tt
takes_publish s place e = cc e

pub takes_retract : (s : Standing) (place : Place) → ask_of s ≡ ask.Retract place → Takes s Went
takes_retract (at_work (Plain (machine.Retract q) rest)) place e = tt
takes_retract (inside (Plain (machine.Retract q) rest) more) place e = tt
takes_retract s place e = cc e

pub takes_call : (s : Standing) → ask_of s ≡ ask.Call → Takes s Went
takes_call (at_work (Plain (machine.Call f us) rest)) e = tt
takes_call (inside (Plain (machine.Call f us) rest) more) e = tt
takes_call s e = cc e

-- no program that is at work is at the end of a block, nor does it wait
pub no_end : (p : Prog) → front_ask p ≡ ask.BlockEnd → ⊥
no_end (Ended w) e = cc
no_end FrontBig e = cc
no_end (Plain machine.TermBig rest) e = cc
no_end (Plain (machine.Read s q) rest) e = cc
no_end (Plain (machine.Write q w) rest) e = cc
no_end (Plain (machine.Alloc vs) rest) e = cc
no_end (Plain (machine.Free q) rest) e = cc
no_end (Plain (machine.Publish q) rest) e = cc
no_end (Plain (machine.Retract q) rest) e = cc
no_end (Plain (machine.Call f vs) rest) e = cc
no_end (Block p rest) e = cc
no_end (Fork p r rest) e = cc

pub no_wait : (p : Prog) (x y : ℕ) → front_ask p ≡ ask.Waiting x y → ⊥
no_wait (Ended w) x y e = cc
no_wait FrontBig x y e = cc
no_wait (Plain machine.TermBig rest) x y e = cc
no_wait (Plain (machine.Read s q) rest) x y e = cc
no_wait (Plain (machine.Write q w) rest) x y e = cc
no_wait (Plain (machine.Alloc vs) rest) x y e = cc
no_wait (Plain (machine.Free q) rest) x y e = cc
no_wait (Plain (machine.Publish q) rest) x y e = cc
no_wait (Plain (machine.Retract q) rest) x y e = cc
no_wait (Plain (machine.Call f vs) rest) x y e = cc
no_wait (Block p rest) x y e = cc
no_wait (Fork p r rest) x y e = cc

no_wait_inside : (p : Prog) (x y : ℕ) → block_ask p ≡ ask.Waiting x y → ⊥
no_wait_inside (Ended w) x y e = cc
no_wait_inside FrontBig x y e = cc
no_wait_inside (Plain machine.TermBig rest) x y e = cc
no_wait_inside (Plain (machine.Read s q) rest) x y e = cc
no_wait_inside (Plain (machine.Write q w) rest) x y e = cc
no_wait_inside (Plain (machine.Alloc vs) rest) x y e = cc
no_wait_inside (Plain (machine.Free q) rest) x y e = cc
no_wait_inside (Plain (machine.Publish q) rest) x y e = cc
no_wait_inside (Plain (machine.Retract q) rest) x y e = cc
no_wait_inside (Plain (machine.Call f vs) rest) x y e = cc
no_wait_inside (Block p rest) x y e = cc
no_wait_inside (Fork p r rest) x y e = cc

pub takes_block_end : (s : Standing) → ask_of s ≡ ask.BlockEnd → Takes s Went
takes_block_end (inside (Ended w) more) e = tt
takes_block_end (inside FrontBig more) e = cc e
takes_block_end (inside (Plain c rest) more) e = absurd (no_end (Plain c rest) e)
takes_block_end (inside (Block p rest) more) e = cc e
takes_block_end (inside (Fork p q rest) more) e = cc e
takes_block_end (at_work p) e = absurd (no_end p e)
takes_block_end (waiting x y rest) e = cc e

pub takes_waiting : (s : Standing) (x y : ℕ) (ends : Joined) → ask_of s ≡ ask.Waiting x y → Takes s (told.Joined ends)
takes_waiting (waiting a b rest) x y ends e = tt
takes_waiting (at_work p) x y ends e = absurd (no_wait p x y e)
takes_waiting (inside p rest) x y ends e = absurd (no_wait_inside p x y e)

-- outside of blocks a block can be gone into, and a fork made
pub takes_atomic : (s : Standing) → ask_of s ≡ ask.Atomic → is_inside s ≡ false → Takes s Went
takes_atomic (at_work (Block p rest)) e out = tt
takes_atomic (at_work (Ended w)) e out = cc e
takes_atomic (at_work FrontBig) e out = cc e
takes_atomic (at_work (Fork p q rest)) e out = cc e
takes_atomic (at_work (Plain machine.TermBig rest)) e out = cc e
takes_atomic (at_work (Plain (machine.Read s q) rest)) e out = cc e
takes_atomic (at_work (Plain (machine.Write q w) rest)) e out = cc e
takes_atomic (at_work (Plain (machine.Alloc vs) rest)) e out = cc e
takes_atomic (at_work (Plain (machine.Free q) rest)) e out = cc e
takes_atomic (at_work (Plain (machine.Publish q) rest)) e out = cc e
takes_atomic (at_work (Plain (machine.Retract q) rest)) e out = cc e
takes_atomic (at_work (Plain (machine.Call f vs) rest)) e out = cc e
takes_atomic (inside p rest) e out = cc out
takes_atomic (waiting x y rest) e out = cc e

pub can_fork : (s : Standing) → ask_of s ≡ ask.Fork → is_inside s ≡ false → CanFork s
can_fork (at_work (Fork p q rest)) e out = tt
can_fork (at_work (Ended w)) e out = cc e
can_fork (at_work FrontBig) e out = cc e
can_fork (at_work (Block p rest)) e out = cc e
can_fork (at_work (Plain machine.TermBig rest)) e out = cc e
can_fork (at_work (Plain (machine.Read s q) rest)) e out = cc e
can_fork (at_work (Plain (machine.Write q w) rest)) e out = cc e
can_fork (at_work (Plain (machine.Alloc vs) rest)) e out = cc e
can_fork (at_work (Plain (machine.Free q) rest)) e out = cc e
can_fork (at_work (Plain (machine.Publish q) rest)) e out = cc e
can_fork (at_work (Plain (machine.Retract q) rest)) e out = cc e
can_fork (at_work (Plain (machine.Call f vs) rest)) e out = cc e
can_fork (inside p rest) e out = cc out
can_fork (waiting x y rest) e out = cc e
