-- The statement in front of a program, from what the program asks for.
use Rattle.std.proofs.Common.{◌≡◌, ℕ, List, refl, sym, ap, subst}
use Rattle.tht_tree.specs.declared.plain.Place.{Place}
use Rattle.tht_tree.specs.declared.plain.Sort.{Sort}
use Rattle.tht_tree.specs.declared.plain.Value.{Value}
use Rattle.tht_logic.specs.Machine.{Cmd, TermBig, Read, Write, Alloc, Free, Publish, Retract, Call, Prog, Ended, FrontBig, Plain, Block, Fork}
use Rattle.code_form.specs.declared.ask.Ask.{Ask}
use Rattle.code_form.specs.declared.ask.Ask.TheVariants as ask
use Rattle.code_form.specs.declared.ways.Told.{Told}
use Rattle.code_form.specs.Fronts.{front_ask, CanTell, FrontTakes}

-- this statement stands in front
pub record Front (p : Prog) (c : Cmd) : Type 0 where
  pub rest : Value → Prog
  pub is : p ≡ Plain c rest

-- the statement that asks for this
abbrev asking : Ask → Cmd
asking (ask.Read p s) = Read s p
asking (ask.Write p w) = Write p w
asking (ask.Alloc vs) = Alloc vs
asking (ask.Free p) = Free p
asking (ask.Publish p) = Publish p
asking (ask.Retract p) = Retract p
asking _ = TermBig

pub at_big : (p : Prog) → front_ask p ≡ ask.TermBig → Front p TermBig
at_big (Plain TermBig rest) e = record { rest = rest; is = refl }
at_big _ e = absurd (cc)

pub at_read : (p : Prog) (a : Place) (s : Sort) → front_ask p ≡ ask.Read a s → Front p (Read s a)
at_read (Plain (Read t b) rest) a s e = record { rest = rest; is = ap (λ x. Plain (asking x) rest) e }
at_read _ a s e = absurd (cc)

pub at_write : (p : Prog) (a : Place) (w : Value) → front_ask p ≡ ask.Write a w → Front p (Write a w)
at_write (Plain (Write b v) rest) a w e = record { rest = rest; is = ap (λ x. Plain (asking x) rest) e }
at_write _ a w e = absurd (cc)

pub at_alloc : (p : Prog) (vs : List Value) → front_ask p ≡ ask.Alloc vs → Front p (Alloc vs)
at_alloc (Plain (Alloc ws) rest) vs e = record { rest = rest; is = ap (λ x. Plain (asking x) rest) e }
at_alloc _ vs e = absurd (cc)

pub at_free : (p : Prog) (a : Place) → front_ask p ≡ ask.Free a → Front p (Free a)
at_free (Plain (Free b) rest) a e = record { rest = rest; is = ap (λ x. Plain (asking x) rest) e }
at_free _ a e = absurd (cc)

pub at_publish : (p : Prog) (a : Place) → front_ask p ≡ ask.Publish a → Front p (Publish a)
at_publish (Plain (Publish b) rest) a e = record { rest = rest; is = ap (λ x. Plain (asking x) rest) e }
at_publish _ a e = absurd (cc)

pub at_retract : (p : Prog) (a : Place) → front_ask p ≡ ask.Retract a → Front p (Retract a)
at_retract (Plain (Retract b) rest) a e = record { rest = rest; is = ap (λ x. Plain (asking x) rest) e }
at_retract _ a e = absurd (cc)

-- an atomic block, and a fork
pub record BlockFront (p : Prog) : Type 0 where
  pub body : Prog
  pub rest : Value → Prog
  pub is : p ≡ Block body rest

pub record ForkFront (p : Prog) : Type 0 where
  pub left : Prog
  pub right : Prog
  pub rest : Value → Value → Prog
  pub is : p ≡ Fork left right rest

pub at_block : (p : Prog) → front_ask p ≡ ask.Atomic → BlockFront p
at_block (Block q rest) e = record { body = q; rest = rest; is = refl }
at_block (Plain TermBig rest) e = absurd (cc)
at_block (Plain (Read s a) rest) e = absurd (cc)
at_block (Plain (Write a v) rest) e = absurd (cc)
at_block (Plain (Alloc vs) rest) e = absurd (cc)
at_block (Plain (Free a) rest) e = absurd (cc)
at_block (Plain (Publish a) rest) e = absurd (cc)
at_block (Plain (Retract a) rest) e = absurd (cc)
at_block (Plain (Call f vs) rest) e = absurd (cc)
at_block _ e = absurd (cc)

pub at_fork : (p : Prog) → front_ask p ≡ ask.Fork → ForkFront p
at_fork (Fork q r rest) e = record { left = q; right = r; rest = rest; is = refl }
at_fork (Plain TermBig rest) e = absurd (cc)
at_fork (Plain (Read s a) rest) e = absurd (cc)
at_fork (Plain (Write a v) rest) e = absurd (cc)
at_fork (Plain (Alloc vs) rest) e = absurd (cc)
at_fork (Plain (Free a) rest) e = absurd (cc)
at_fork (Plain (Publish a) rest) e = absurd (cc)
at_fork (Plain (Retract a) rest) e = absurd (cc)
at_fork (Plain (Call f vs) rest) e = absurd (cc)
at_fork _ e = absurd (cc)

-- no program is at the end of a block, and none waits
pub no_block_end : (p : Prog) → front_ask p ≡ ask.BlockEnd → ⊥
no_block_end (Ended w) e = cc
no_block_end FrontBig e = cc
no_block_end (Plain TermBig rest) e = cc
no_block_end (Plain (Read s a) rest) e = cc
no_block_end (Plain (Write a v) rest) e = cc
no_block_end (Plain (Alloc vs) rest) e = cc
no_block_end (Plain (Free a) rest) e = cc
no_block_end (Plain (Publish a) rest) e = cc
no_block_end (Plain (Retract a) rest) e = cc
no_block_end (Plain (Call f vs) rest) e = cc
no_block_end (Block p rest) e = cc
no_block_end (Fork p q rest) e = cc

pub no_waiting : (p : Prog) (x y : ℕ) → front_ask p ≡ ask.Waiting x y → ⊥
no_waiting (Ended w) x y e = cc
no_waiting FrontBig x y e = cc
no_waiting (Plain TermBig rest) x y e = cc
no_waiting (Plain (Read s a) rest) x y e = cc
no_waiting (Plain (Write a v) rest) x y e = cc
no_waiting (Plain (Alloc vs) rest) x y e = cc
no_waiting (Plain (Free a) rest) x y e = cc
no_waiting (Plain (Publish a) rest) x y e = cc
no_waiting (Plain (Retract a) rest) x y e = cc
no_waiting (Plain (Call f vs) rest) x y e = cc
no_waiting (Block p rest) x y e = cc
no_waiting (Fork p q rest) x y e = cc

-- some call stands in front
pub record CallFront (p : Prog) : Type 0 where
  pub name : List ℕ
  pub values : List Value
  pub front : Front p (Call name values)

pub at_call : (p : Prog) → front_ask p ≡ ask.Call → CallFront p
at_call (Plain (Call f vs) rest) e = record { name = f; values = vs; front = record { rest = rest; is = refl } }
at_call _ e = absurd (cc)

abbrev value_asked : Value → Ask → Value
value_asked d (ask.Value v) = v
value_asked d _ = d

pub at_value : (p : Prog) (w : Value) → front_ask p ≡ ask.Value w → p ≡ Ended w
at_value (Ended v) w e = ap (λ x. Ended (value_asked v x)) e
at_value FrontBig w e = absurd (cc)
at_value (Plain TermBig rest) w e = absurd (cc)
at_value (Plain (Read s a) rest) w e = absurd (cc)
at_value (Plain (Write a v) rest) w e = absurd (cc)
at_value (Plain (Alloc vs) rest) w e = absurd (cc)
at_value (Plain (Free a) rest) w e = absurd (cc)
at_value (Plain (Publish a) rest) w e = absurd (cc)
at_value (Plain (Retract a) rest) w e = absurd (cc)
at_value (Block p rest) w e = absurd (cc)
at_value (Fork p q rest) w e = absurd (cc)
at_value (Plain (Call f vs) rest) w e = absurd (cc)

pub at_front_big : (p : Prog) → front_ask p ≡ ask.FrontBig → p ≡ FrontBig
at_front_big FrontBig e = refl
at_front_big (Ended w) e = absurd (cc)
at_front_big (Plain TermBig rest) e = absurd (cc)
at_front_big (Plain (Read s a) rest) e = absurd (cc)
at_front_big (Plain (Write a v) rest) e = absurd (cc)
at_front_big (Plain (Alloc vs) rest) e = absurd (cc)
at_front_big (Plain (Free a) rest) e = absurd (cc)
at_front_big (Plain (Publish a) rest) e = absurd (cc)
at_front_big (Plain (Retract a) rest) e = absurd (cc)
at_front_big (Block p rest) e = absurd (cc)
at_front_big (Fork p q rest) e = absurd (cc)
at_front_big (Plain (Call f vs) rest) e = absurd (cc)

-- the statement in front can be told this
pub takes : (p : Prog) (c : Cmd) (told : Told) → Front p c → CanTell c told → FrontTakes p told
takes p c told f can = subst (λ z. FrontTakes z told) (sym f.is) can
