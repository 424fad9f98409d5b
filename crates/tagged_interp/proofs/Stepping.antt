-- What a Lab does with the statement in front is the machine's step.
use Rattle.std.proofs.Common.{◌≡◌, ◌≢◌, ℕ, zero, suc, ◌+◌, ◌<◌, IfOk, Ok, Err, Result, cond, true, false, List, [], ◌++◌, map, length, length-append, slice_set, Option, Some, None, option_map, refl, sym, ◌∙◌, ap, subst, arith}
use Rattle.std.proofs.lemmas.List.{length-set, length-map}
use Rattle.tht_tree.specs.declared.plain.Place.{Place}
use Rattle.tht_tree.specs.declared.plain.Place.TheVariants.{Cell}
use Rattle.tht_tree.specs.declared.plain.Sort.{Sort}
use Rattle.tht_tree.specs.declared.plain.Value.{Value}
use Rattle.tht_tree.specs.declared.plain.Value.TheVariants as v
use Rattle.tht_tree.specs.Values.{has_sort, unit_value}
use Rattle.tht_tree.specs.Heaps.{own}
use Rattle.tht_logic.proofs.Leaves.{only_a_value}
use Rattle.tht_tree.specs.declared.plain.Memory.{Memory}
use Rattle.std.specs.Option.{is_some}
use Rattle.tht_logic.specs.Machine.{Bodies, Cmd, TermBig, Read, Write, Alloc, Free, Publish, Retract, Call, Prog, Ended, FrontBig, Plain, Block, Fork, and_then, Mem, retag, put, alloc_cells, Ran, Said, Next, Cannot, Big, Longer, Touch, Wrong, on_next, at_leaf, plain_step, Tree, Leaf, Moved, work, step_of}
use Rattle.code_form.specs.declared.ask.Ask.{Ask}
use Rattle.code_form.specs.declared.ask.Ask.TheVariants as ask
use Rattle.code_form.specs.declared.ways.Told.{Told}
use Rattle.code_form.specs.declared.ways.Told.TheVariants.{Went, Got}
use Rattle.code_form.specs.Codes.{bodies_of}
use Rattle.code_form.specs.Branches.{at_work, standing_of, next_place, IsOf, IsSameButMoved, program_of}
use Rattle.code_form.specs.Fronts.{front_ask, front_after, cells_of, front_cells}
use Rattle.code_form.specs.BranchValue.{BranchValue}
use Rattle.code_form.specs.declared.code.Code.{Code}
use Rattle.tagged_interp.specs.Labs.{LabValue, IsWhole, StandsFor, program, held, index_of}
use Rattle.tagged_interp.specs.declared.lab.LabSaid.{LabSaid}
use Rattle.tagged_interp.specs.Steps.{Goes, SaysTheStep, main_value}
use Rattle.tagged_interp.proofs.Cells.{no_other, IsHeapOf, heap_set, heap_same, heap_laid}
use Rattle.tagged_interp.proofs.Fronts.{Front, CallFront, BlockFront, ForkFront, at_read, at_write, at_alloc, at_free, at_call}

abbrev some_or : Value → Option Value → Value
some_or d None = d
some_or d (Some v) = v

some_same : (v w : Value) → Some v ≡ Some w → v ≡ w
some_same v w e = ap (some_or v) e

there_is : (o : Option Value) → is_some o ≡ true → (w : Value) × (o ≡ Some w)
there_is None e = cc
there_is (Some w) e = (w, refl)

-- a branch that goes past its statement is whole again with the cells that the statement leaves
pub still_whole : (code : Code) (main new : BranchValue) (cells more : List (Option Value)) (c : Cmd) → IsWhole code main cells → Front (program_of code main) c → IsOf code new
    → standing_of code new ≡ at_work (program_of code new) → IsSameButMoved main (main.next_index + front_cells (program_of code main)) new → length more ≡ length cells + cells_of c → IsWhole code new more
still_whole code main new cells more c whole front of works moved count =
    let made : front_cells (program_of code main) ≡ cells_of c = ap front_cells front.is in
    let next = whole.next in
    let index = moved.next_index in
    record { of_code = of; works = works; number = moved.number ∙ whole.number; next = omega arith }

module _ (old : LabValue) (m : Mem) (t : Tree) (stands : StandsFor old m t) where
  abbrev F : Bodies
  F = bodies_of old.code

  -- the step of branch 0, where this stands in front of it
  works : (p : Prog) (left : ℕ) → program old ≡ p → step_of F [] 0 left m t ≡ work F [] 0 left m p
  works p left e = ap (step_of F [] 0 left m) (stands.tree ∙ ap (Leaf 0) e)

  -- another branch is not there
  pub no_branch : (b left : ℕ) → b ≢ 0 → step_of F [] b left m t ≡ Cannot
  no_branch zero left n = absurd (n refl)
  no_branch (suc b) left n = ap (step_of F [] (suc b) left m) stands.tree ∙ ap (λ z. cond z (work F [] 0 left m (program old)) Cannot) (no_other b)

  pub cannot_at : (w : Value) (left : ℕ) → program old ≡ Ended w → step_of F [] 0 left m t ≡ Cannot
  cannot_at w left e = works (Ended w) left e

  pub front_big_at : (left : ℕ) → program old ≡ FrontBig → step_of F [] 0 left m t ≡ Big
  front_big_at left e = works FrontBig left e

  module _ (c : Cmd) (front : Front (program old) c) where
    -- nothing is left
    pub longer_at : step_of F [] 0 0 m t ≡ Longer
    longer_at = works (Plain c front.rest) 0 front.is

    stepped : (left : ℕ) (s : Said Ran) → plain_step F [] 0 false m c front.rest ≡ s → step_of F [] 0 (suc left) m t ≡ on_next s (λ r. Next (at_leaf 0 r))
    stepped left s e = works (Plain c front.rest) (suc left) front.is ∙ ap (λ z. on_next z (λ r. Next (at_leaf 0 r))) e

    goes : (left : ℕ) (new : LabValue) (r : Ran) → plain_step F [] 0 false m c front.rest ≡ Next r → program new ≡ r.1 → IsHeapOf new.cells r.0.heap → r.0.made 0 ≡ length new.cells
        → Goes new 1 (step_of F [] 0 (suc left) m t)
    goes left new r e p h made = record {
      moved = at_leaf 0 r;
      next = stepped left (Next r) e;
      costs = refl;
      stands = record { heap = h; made = made; tree = ap (Leaf 0) (sym p) };
    }

  -- what is not built yet is a fault, or longer where nothing is left
  pub publish_at : (a : Place) (left : ℕ) → Front (program old) (Publish a) → step_of F [] 0 (suc left) m t ≡ Wrong
  publish_at a left front = stepped (Publish a) front left Wrong refl

  pub retract_at : (a : Place) (left : ℕ) → Front (program old) (Retract a) → step_of F [] 0 (suc left) m t ≡ Wrong
  retract_at a left front = stepped (Retract a) front left Wrong refl

  pub block_at : (left : ℕ) → BlockFront (program old) → step_of F [] 0 (suc left) m t ≡ Wrong
  block_at left front = works (Block front.body front.rest) (suc left) front.is

  pub block_longer : BlockFront (program old) → step_of F [] 0 0 m t ≡ Longer
  block_longer front = works (Block front.body front.rest) 0 front.is

  pub fork_at : (left : ℕ) → ForkFront (program old) → step_of F [] 0 (suc left) m t ≡ Wrong
  fork_at left front = works (Fork front.left front.right front.rest) (suc left) front.is

  pub fork_longer : ForkFront (program old) → step_of F [] 0 0 m t ≡ Longer
  fork_longer front = works (Fork front.left front.right front.rest) 0 front.is

  pub term_big_at : (left : ℕ) → Front (program old) TermBig → step_of F [] 0 (suc left) m t ≡ Big
  term_big_at left front = stepped TermBig front left Big refl

  -- what follows a statement that was carried out
  follows : (c : Cmd) (front : Front (program old) c) (told : Told) (new : LabValue) → program new ≡ front_after F (next_place old.main) (program old) told
      → program new ≡ front_after F (next_place old.main) (Plain c front.rest) told
  follows c front told new e = e ∙ ap (λ p. front_after F (next_place old.main) p told) front.is

  -- what the heap has at a place
  has : (p : Place) (o : Option Value) → held old.cells p ≡ o → m.heap p ≡ option_map (own 0) o
  has p o e = stands.heap p ∙ ap (option_map (own 0)) e

  module _ (new : LabValue) (left : ℕ) where
    abbrev the_step : Said Moved
    the_step = step_of F [] 0 (suc left) m t

    module _ (p : Place) (s : Sort) (front : Front (program old) (Read s p)) where
      pub no_cell_to_read : held old.cells p ≡ None → the_step ≡ Touch p
      no_cell_to_read e = stepped (Read s p) front left (Touch p) (rw (has p None e) refl)

      pub wrong_sort : (w : Value) → held old.cells p ≡ Some w → has_sort s w ≡ false → the_step ≡ Wrong
      wrong_sort w e other = stepped (Read s p) front left Wrong (rw (has p (Some w) e, other) refl)

      pub was_read : (w : Value) → held old.cells p ≡ Some w → has_sort s w ≡ true → program new ≡ front_after F (next_place old.main) (program old) (Got w) → new.cells ≡ old.cells → Goes new 1 the_step
      was_read w e sorted on same =
          goes (Read s p) front left new (retag m p (Some (own 0 w)), front.rest w) (rw (has p (Some w) e, sorted) refl) (follows (Read s p) front (Got w) new on)
          (rw same (heap_same old.cells m.heap p w stands.heap e)) (stands.made ∙ ap length (sym same))

    module _ (p : Place) (w : Value) (front : Front (program old) (Write p w)) where
      pub no_cell_to_write : held old.cells p ≡ None → the_step ≡ Touch p
      no_cell_to_write e = stepped (Write p w) front left (Touch p) (rw (has p None e) refl)

      pub was_written : (u : Value) → held old.cells p ≡ Some u → program new ≡ front_after F (next_place old.main) (program old) Went → new.cells ≡ slice_set old.cells (index_of p) (Some w) → Goes new 1 the_step
      was_written u e on set =
          goes (Write p w) front left new (put m p (Some (own 0 w)), front.rest unit_value) (rw (has p (Some u) e) refl) (follows (Write p w) front Went new on)
          (rw set (heap_set old.cells m.heap p u (Some w) stands.heap e)) (stands.made ∙ sym (length-set old.cells (index_of p) (Some w)) ∙ ap length (sym set))

    module _ (p : Place) (front : Front (program old) (Free p)) where
      pub no_cell_to_free : held old.cells p ≡ None → the_step ≡ Touch p
      no_cell_to_free e = stepped (Free p) front left (Touch p) (rw (has p None e) refl)

      pub was_freed : (u : Value) → held old.cells p ≡ Some u → program new ≡ front_after F (next_place old.main) (program old) Went → new.cells ≡ slice_set old.cells (index_of p) None → Goes new 1 the_step
      was_freed u e on set =
          goes (Free p) front left new (retag m p None, front.rest unit_value) (rw (has p (Some u) e) refl) (follows (Free p) front Went new on)
          (rw set (heap_set old.cells m.heap p u None stands.heap e)) (stands.made ∙ sym (length-set old.cells (index_of p) None) ∙ ap length (sym set))

    -- the first new cell is the next one that the branch makes
    first_place : IsWhole old.code old.main old.cells → next_place old.main ≡ Cell 0 (m.made 0)
    first_place whole = let a = whole.number in let b : old.main.next_index ≡ m.made 0 = whole.next ∙ sym stands.made in rw (a, b) refl

    pub was_made : (vs : List Value) → Front (program old) (Alloc vs) → IsWhole old.code old.main old.cells → program new ≡ front_after F (next_place old.main) (program old) Went
        → new.cells ≡ old.cells ++ map Some vs → Goes new 1 the_step
    was_made vs front whole on more =
        goes (Alloc vs) front left new (alloc_cells m 0 vs, front.rest (v.Loc (Cell 0 (m.made 0)))) refl
        (follows (Alloc vs) front Went new on ∙ ap (λ p. front.rest (v.Loc p)) (first_place whole))
        (rw more (heap_laid vs old.cells m (m.made 0) stands.made stands.heap))
        (let a = stands.made in let b = length-append old.cells (map Some vs) in let d = length-map vs Some in let e = ap length more in omega arith)

    pub was_called : CallFront (program old) → program new ≡ front_after F (next_place old.main) (program old) Went → new.cells ≡ old.cells → Goes new 1 the_step
    was_called call on same =
        goes (Call call.name call.values) call.front left new (m, and_then (F call.name call.values) call.front.rest) refl (follows (Call call.name call.values) call.front Went new on)
        (rw same stands.heap) (stands.made ∙ ap length (sym same))

-- ---- from what stands in front

-- the branch has gone past the statement in front, which was told this
abbrev pub HasPassed : LabValue → Told → LabValue → Type 0
HasPassed old told new = program new ≡ front_after (bodies_of old.code) (next_place old.main) (program old) told

-- the step of branch 0, with one left at least, has led to this
abbrev pub Carries : LabValue → LabValue → Type 0
Carries old new = (left : ℕ) (m : Mem) (t : Tree) → StandsFor old m t → Goes new 1 (step_of (bodies_of old.code) [] 0 (suc left) m t)

-- in a Lab whose parts are these
module _ (parts old new : LabValue) (same : parts ≡ old) where
  asked : (a : Ask) → front_ask (program old) ≡ a → front_ask (program parts) ≡ a
  asked a e = ap (λ l. front_ask (program l)) same ∙ e

  pub has_read : (p : Place) (s : Sort) (w : Value) → front_ask (program old) ≡ ask.Read p s → held parts.cells p ≡ Some w → has_sort s w ≡ true → HasPassed parts (Got w) new → new.cells ≡ parts.cells → Carries old new
  has_read p s w front there sorted on cells =
      subst (λ l. Carries l new) same (λ left m t stands. was_read parts m t stands new left p s (at_read (program parts) p s (asked (ask.Read p s) front)) w there sorted on cells)

  pub has_written : (p : Place) (w : Value) → front_ask (program old) ≡ ask.Write p w → is_some (held parts.cells p) ≡ true → HasPassed parts Went new → new.cells ≡ slice_set parts.cells (index_of p) (Some w) → Carries old new
  has_written p w front there on cells =
      let u = there_is (held parts.cells p) there in
      subst (λ l. Carries l new) same (λ left m t stands. was_written parts m t stands new left p w (at_write (program parts) p w (asked (ask.Write p w) front)) u.0 u.1 on cells)

  pub has_freed : (p : Place) → front_ask (program old) ≡ ask.Free p → is_some (held parts.cells p) ≡ true → HasPassed parts Went new → new.cells ≡ slice_set parts.cells (index_of p) None → Carries old new
  has_freed p front there on cells =
      let u = there_is (held parts.cells p) there in
      subst (λ l. Carries l new) same (λ left m t stands. was_freed parts m t stands new left p (at_free (program parts) p (asked (ask.Free p) front)) u.0 u.1 on cells)

  pub has_made : (vs : List Value) → front_ask (program old) ≡ ask.Alloc vs → IsWhole parts.code parts.main parts.cells → HasPassed parts Went new → new.cells ≡ parts.cells ++ map Some vs → Carries old new
  has_made vs front whole on cells =
      subst (λ l. Carries l new) same (λ left m t stands. was_made parts m t stands new left vs (at_alloc (program parts) vs (asked (ask.Alloc vs) front)) whole on cells)

  pub has_called : front_ask (program old) ≡ ask.Call → HasPassed parts Went new → new.cells ≡ parts.cells → Carries old new
  has_called front on cells =
      subst (λ l. Carries l new) same (λ left m t stands. was_called parts m t stands new left (at_call (program parts) (asked ask.Call front)) on cells)

-- ---- branches

-- the answer of a step with one left at least, where so much is left
pub with_left : (r : Result LabSaid Memory) (old new : LabValue) (branch left : ℕ) → branch ≡ 0 → left ≢ 0 → IfOk r (λ said. (n : ℕ) → SaysTheStep old 0 (suc n) said new) → IfOk r (λ said. SaysTheStep old branch left said new)
with_left (Ok said) old new branch zero first some h = absurd (some refl)
with_left (Ok said) old new branch (suc n) first some h = subst (λ b. SaysTheStep old b (suc n) said new) (sym first) (h n)
with_left (Err e) old new branch left first some h = tt

module _ (lab : LabValue) (m : Mem) (t : Tree) (stands : StandsFor lab m t) (o : Option Value) (is : o ≡ main_value t) where
  value_in_front : (p : Prog) (w : Value) → main_value (Leaf 0 p) ≡ Some w → p ≡ Ended w
  value_in_front (Ended v) w e = ap Ended (some_same v w e)
  value_in_front FrontBig w e = absurd (cc)
  value_in_front (Plain c rest) w e = absurd (cc)
  value_in_front (Block p rest) w e = absurd (cc)
  value_in_front (Fork p q rest) w e = absurd (cc)

  -- none can step where main has a value
  pub none_can : (w : Value) → o ≡ Some w → (b left : ℕ) → step_of (bodies_of lab.code) [] b left m t ≡ Cannot
  none_can w e zero left = cannot_at lab m t stands w left (value_in_front (program lab) w (sym (ap main_value stands.tree) ∙ sym is ∙ e))
  none_can w e (suc b) left = no_branch lab m t stands (suc b) left (λ z. absurd (omega arith))

  -- main can step where it has none
  pub main_can : o ≡ None → (left : ℕ) → (step_of (bodies_of lab.code) [] 0 left m t ≢ Cannot) × ((c : ℕ) → c < 0 → step_of (bodies_of lab.code) [] c left m t ≡ Cannot)
  main_can e left = (can, λ c l. absurd (omega arith))
    where
      can : step_of (bodies_of lab.code) [] 0 left m t ≢ Cannot
      can no_step =
          let w = only_a_value (bodies_of lab.code) m 0 left (program lab) (sym (ap (step_of (bodies_of lab.code) [] 0 left m) stands.tree) ∙ no_step) in
          let f : None ≡ Some w.0 = sym e ∙ is ∙ ap main_value (stands.tree ∙ ap (Leaf 0) w.1) in
          cc
