-- The machine: what stands in front of a branch, which cells it may touch, its plain statements, and one step.
use Rattle.std.specs.Prelude.{ℕ, zero, suc, ◌+◌, ◌==◌, Bool, true, false, ◌&&◌, ◌||◌, List, [], ◌∷◌, length, map, Option, Some, None, if◌then◌else◌}
use Rattle.tht_tree.specs.declared.plain.Value.{Value}
use Rattle.tht_tree.specs.declared.plain.Value.TheVariants as v
use Rattle.tht_tree.specs.declared.plain.Place.{Place}
use Rattle.tht_tree.specs.declared.plain.Place.TheVariants.{Cell}
use Rattle.tht_tree.specs.declared.plain.Sort.{Sort}
use Rattle.tht_tree.specs.Values.{Val, is, unit_value, value_in, place_in, bool_of, has_sort, Env}
use Rattle.tht_tree.specs.Syntax.{Trm}
use Rattle.tht_logic.specs.Programs.{Code, ret, test, read, write, alloc, drop, publish, retract, call, nest, atomic, par}
use Rattle.tht_tree.specs.Terms.{value_of, fits}
use Rattle.tht_tree.specs.Heaps.{Heap, Held, shared, own, held_value, with_value, with_at}

-- ---- fronts

-- a plain statement with the values of its terms, or with a term that does not fit
pub data Cmd : Type 0 where
  TermBig : Cmd
  Read : Sort → Place → Cmd
  Write : Place → Value → Cmd
  Alloc : List Value → Cmd
  Free : Place → Cmd
  Publish : Place → Cmd
  Retract : Place → Cmd
  Call : List ℕ → List Value → Cmd

-- A closed body, by what stands in front: a value, a term that does not fit, a plain statement, an atomic block, or a fork of two bodies; each with
-- what follows its answer.
pub data Prog : Type 0 where
  Ended : Value → Prog
  FrontBig : Prog
  Plain : Cmd → (Value → Prog) → Prog
  Block : Prog → (Value → Prog) → Prog
  Fork : Prog → Prog → (Value → Value → Prog) → Prog

-- a body, and what follows its value
abbrev pub and_then : Prog → (Value → Prog) → Prog
and_then (Ended v) rest = rest v
and_then FrontBig rest = FrontBig
and_then (Plain c next) rest = Plain c (λ v. and_then (next v) rest)
and_then (Block p next) rest = Block p (λ v. and_then (next v) rest)
and_then (Fork p q next) rest = Fork p q (λ v w. and_then (next v w) rest)

abbrev pub no_env : Env
no_env x = is unit_value

-- the value of a program's term
abbrev pub value : List Val → Trm → Value
value vs t = value_in (value_of no_env vs t)

abbrev pub all_fit : List Val → List Trm → Bool
all_fit vs [] = true
all_fit vs (t ∷ ts) = fits no_env vs t && all_fit vs ts

abbrev pub if_fit : List Val → List Trm → Cmd → Cmd
if_fit vs ts c = if all_fit vs ts then c else TermBig

-- the program with these values of its variables put in, the innermost first
abbrev pub closed : List Val → Code → Prog
closed vs (ret t) = if fits no_env vs t then Ended (value vs t) else FrontBig
closed vs (test t p q) = if fits no_env vs t then (if bool_of (value_of no_env vs t) then closed vs p else closed vs q) else FrontBig
closed vs (read s t p) = Plain (if_fit vs (t ∷ []) (Read s (place_in (value vs t)))) (λ v. closed (is v ∷ vs) p)
closed vs (write t u p) = Plain (if_fit vs (t ∷ u ∷ []) (Write (place_in (value vs t)) (value vs u))) (λ v. closed vs p)
closed vs (alloc ts p) = Plain (if_fit vs ts (Alloc (map (value vs) ts))) (λ v. closed (is v ∷ vs) p)
closed vs (drop t p) = Plain (if_fit vs (t ∷ []) (Free (place_in (value vs t)))) (λ v. closed vs p)
closed vs (publish t p) = Plain (if_fit vs (t ∷ []) (Publish (place_in (value vs t)))) (λ v. closed vs p)
closed vs (retract t p) = Plain (if_fit vs (t ∷ []) (Retract (place_in (value vs t)))) (λ v. closed vs p)
closed vs (call f ts p) = Plain (if_fit vs ts (Call f (map (value vs) ts))) (λ v. closed (is v ∷ vs) p)
closed vs (nest s p q) = and_then (closed vs p) (λ v. closed (is v ∷ vs) q)
closed vs (atomic s p q) = Block (closed vs p) (λ v. closed (is v ∷ vs) q)
closed vs (par s r p q rest) = Fork (closed vs p) (closed vs q) (λ v w. closed (is w ∷ is v ∷ vs) rest)

-- ---- the memory

-- The heap; for each place the number of the entry that last wrote or made it; the number, from 1, of the entry under
-- way; the next index of each arena; and the next branch number.
pub record Mem : Type 0 where
  pub heap : Heap
  pub version : Place → ℕ
  pub entry : ℕ
  pub made : ℕ → ℕ
  pub next_branch : ℕ

-- a cell that is touched and not written, or is taken away, keeps its version
abbrev pub retag : Mem → Place → Option Held → Mem
retag m p c = record m { heap = with_at m.heap p c }

-- a cell that is written or made has the entry under way for its version
abbrev pub put : Mem → Place → Option Held → Mem
put m p c = record m { heap = with_at m.heap p c; version = with_at m.version p m.entry }

abbrev pub is_in : ℕ → List ℕ → Bool
is_in b [] = false
is_in b (a ∷ rest) = (a == b) || is_in b rest

abbrev pub if_may : Bool → Held → Option Held
if_may b c = if b then Some c else None

-- The cell once branch b, which has these ancestors, has touched it, or none where it may not: its own cells, those of its
-- ancestors, which become its own, and inside an atomic block the shared ones.
abbrev pub touched : List ℕ → ℕ → Bool → Option Held → Option Held
touched above b inside None = None
touched above b inside (Some (shared v)) = if_may inside (shared v)
touched above b inside (Some (own a v)) = if_may (is_in a (b ∷ above)) (own b v)

-- the values in a row, in new cells of branch b from index i on
abbrev pub laid : ℕ → ℕ → List Value → Mem → Mem
laid b i [] m = m
laid b i (v ∷ vs) m = laid b (suc i) vs (put m (Cell b i) (Some (own b v)))

-- the counts, with n more for b
abbrev pub raised : (ℕ → ℕ) → ℕ → ℕ → ℕ → ℕ
raised counts b n a = if b == a then counts a + n else counts a

abbrev pub alloc_cells : Mem → ℕ → List Value → Mem
alloc_cells m b vs = record (laid b (m.made b) vs m) { made = raised m.made b (length vs) }

-- ---- steps

-- What is said of a plain statement and of a step: what comes next; that the branch cannot step; that a term is too big;
-- that the step would cost more than is left; or a fault, a touch that is not allowed or a value of another sort.
pub data Said (A : Type 0) : Type 0 where
  Next : A → Said A
  Cannot : Said A
  Big : Said A
  Longer : Said A
  Touch : Place → Said A
  Wrong : Said A

abbrev pub on_next : {A B : Type 0} → Said A → (A → Said B) → Said B
on_next (Next a) f = f a
on_next Cannot f = Cannot
on_next Big f = Big
on_next Longer f = Longer
on_next (Touch p) f = Touch p
on_next Wrong f = Wrong

-- goes on with the touched cell
abbrev pub at : {A : Type 0} → Place → Option Held → (Held → Said A) → Said A
at p None go = Touch p
at p (Some c) go = go c

abbrev pub Ran : Type 0
Ran = Mem × Prog

-- the bodies of the procs, by their names, with these values for their parameters
abbrev pub Bodies : Type 0
Bodies = List ℕ → List Value → Prog

-- One plain statement of branch b, inside an atomic block or not. After a call the body of the callee stands in front of what follows its result.
-- The steps of `publish` and `retract` are not built yet: they are faults, so that nothing is claimed of a file with one.
abbrev pub plain_step : Bodies → List ℕ → ℕ → Bool → Mem → Cmd → (Value → Prog) → Said Ran
plain_step F above b inside m TermBig rest = Big
plain_step F above b inside m (Read s p) rest =
    at p (touched above b inside (m.heap p)) (λ c. if has_sort s (held_value c) then Next (retag m p (Some c), rest (held_value c)) else Wrong)
plain_step F above b inside m (Write p v) rest = at p (touched above b inside (m.heap p)) (λ c. Next (put m p (Some (with_value c v)), rest unit_value))
plain_step F above b inside m (Alloc vs) rest = Next (alloc_cells m b vs, rest (v.Loc (Cell b (m.made b))))
plain_step F above b inside m (Free p) rest = at p (touched above b inside (m.heap p)) (λ c. Next (retag m p None, rest unit_value))
plain_step F above b inside m (Publish p) rest = Wrong
plain_step F above b inside m (Retract p) rest = Wrong
plain_step F above b inside m (Call f vs) rest = Next (m, and_then (F f vs) rest)

-- the branches: one at work, with its number and its closed body
pub data Tree : Type 0 where
  Leaf : ℕ → Prog → Tree

abbrev pub branches : Tree → List ℕ
branches (Leaf b p) = b ∷ []

-- the branches below the tree's root
abbrev pub below : Tree → List ℕ
below (Leaf b p) = []

pub record Moved : Type 0 where
  pub cost : ℕ
  pub mem : Mem
  pub tree : Tree

abbrev pub unless_zero : {A : Type 0} → ℕ → Said A → Said A
unless_zero zero s = Longer
unless_zero (suc n) s = s

abbrev pub at_leaf : ℕ → Ran → Moved
at_leaf b r = record { cost = 1; mem = r.0; tree = Leaf b r.1 }

-- The step of a branch at work, with n left. The steps of blocks and of forks are not built yet: they are faults, so that nothing is claimed of a file
-- with one.
abbrev pub work : Bodies → List ℕ → ℕ → ℕ → Mem → Prog → Said Moved
work F above b n m (Ended v) = Cannot
work F above b n m FrontBig = Big
work F above b n m (Plain c rest) = unless_zero n (on_next (plain_step F above b false m c rest) (λ r. Next (at_leaf b r)))
work F above b n m (Block p rest) = unless_zero n Wrong
work F above b n m (Fork p q rest) = unless_zero n Wrong

-- the step of branch c in a tree that stands below these ancestors, with n left
abbrev pub step_of : Bodies → List ℕ → ℕ → ℕ → Mem → Tree → Said Moved
step_of F above c n m (Leaf b p) = if b == c then work F above b n m p else Cannot
