-- Steps of branch 0, one after the other.
use Rattle.std.proofs.Common.{◌≡◌, ◌≢◌, ℕ, zero, suc, ◌+◌, ◌-◌, ◌≤◌, List, [], ◌∷◌, ◌++◌, replicate, append-nil, Option, Some, None, refl, sym, ◌∙◌, ap, subst, arith}
use Rattle.tht_tree.specs.declared.plain.Value.{Value}
use Rattle.tht_tree.specs.declared.plain.Place.{Place}
use Rattle.tht_tree.specs.declared.file.Source1.{Source1}
use Rattle.tht_tree.specs.declared.run.End.{End}
use Rattle.tht_tree.specs.declared.run.End.TheVariants as end
use Rattle.tht_logic.specs.Machine.{Bodies, Ended, Mem, Tree, Leaf, Said, Next, Cannot, Big, Longer, Touch, Wrong, Moved, step_of}
use Rattle.tht_logic.specs.Procedures.{bodies_in}
use Rattle.tht_logic.specs.Runs.{State, entered, step_in, on_moved, follow, start_of, run_of, IsLowest, EndsLowest, GoesLowest}
use Rattle.tht_logic.specs.Soundness.{IsSafe}
use Rattle.tht_logic.proofs.Leaves.{step_costs, only_a_value}
use Rattle.code_form.specs.Codes.{bodies_of}
use Rattle.tagged_interp.specs.declared.lab.LabSaid.{LabSaid}
use Rattle.tagged_interp.specs.declared.lab.LabSaid.TheVariants as said
use Rattle.tagged_interp.specs.Labs.{LabValue, StandsFor, program}
use Rattle.tagged_interp.specs.Steps.{Goes, Says, SaysTheStep, IsUnchangedUnlessWent, main_value}
use Rattle.tht_front.specs.Outcomes.{RunEnds, RunFaults}

-- ---- orders of branch 0 alone

module _ (F : Bodies) where
  -- one step of branch 0, which is the lowest that can step
  pub record Steps1 (s t : State) : Type 0 where
    pub lowest : IsLowest F s 0
    pub moved : Moved
    pub says : step_in F s 0 ≡ Next moved
    pub after : t ≡ entered s 0 moved

  -- so many steps
  pub Steps : ℕ → State → State → Type 0
  Steps zero s t = s ≡ t
  Steps (suc n) s t = (u : State) × Steps n s u × Steps1 u t

replicate_on : (n : ℕ) (order : List ℕ) → replicate n 0 ++ 0 ∷ order ≡ replicate (suc n) 0 ++ order
replicate_on zero order = refl
replicate_on (suc n) order = ap (λ l. 0 ∷ l) (replicate_on n order)

module _ (F : Bodies) where
  follows_on : (n : ℕ) (s t : State) (order : List ℕ) → Steps F n s t → follow F s (replicate n 0 ++ order) ≡ follow F t order
  unfolding Steps
  follows_on zero s t order h = ap (λ u. follow F u order) h
  follows_on (suc n) s t order h =
      ap (follow F s) (sym (replicate_on n order)) ∙ follows_on n s h.0 (0 ∷ order) h.1
      ∙ ap (λ x. on_moved x (λ r. follow F (entered h.0 0 r) order)) h.2.says ∙ ap (λ u. follow F u order) (sym h.2.after)

  lowest_on : (n : ℕ) (s t : State) (order : List ℕ) (e : End) → Steps F n s t → GoesLowest F t order e → GoesLowest F s (replicate n 0 ++ order) e
  unfolding Steps
  lowest_on zero s t order e h g = let P : State → Type 0 = λ u. GoesLowest F u order e in subst P (sym h) g
  lowest_on (suc n) s t order e h g =
      let P : State → Type 0 = λ u. GoesLowest F u order e in
      let Q : List ℕ → Type 0 = λ l. GoesLowest F s l e in
      subst Q (replicate_on n order) (lowest_on n s h.0 (0 ∷ order) e h.1 (h.2.lowest, h.2.moved, h.2.says, subst P h.2.after g))

  -- a branch that does something is the lowest
  lowest : (s : State) (o : Said Moved) → step_in F s 0 ≡ o → o ≢ Cannot → IsLowest F s 0
  lowest s o e n = record { can = λ c. n (sym e ∙ c); others = λ c l. absurd (omega arith) }

-- ---- where the run stands

abbrev some_or : Value → Option Value → Value
some_or d None = d
some_or d (Some v) = v

module _ (file : Source1) (budget : ℕ) where
  abbrev F : Bodies
  F = bodies_in file

  -- so much is left, after the steps that the rest of the budget has paid, and the machine is in a state for which the Lab stands
  pub record About (lab : LabValue) (left : ℕ) : Type 0 where
    pub steps : ℕ
    pub state : State
    pub so_far : Steps F steps (start_of file budget) state
    pub left_is : state.left ≡ left
    pub counts : steps + left ≡ budget
    pub stands : StandsFor lab state.mem state.tree
    pub bodies : bodies_of lab.code ≡ F

  pub begins : (lab : LabValue) → bodies_of lab.code ≡ F → ((n : ℕ) → StandsFor lab (start_of file n).mem (start_of file n).tree) → About lab budget
  unfolding Steps
  begins lab bodies stands = record { steps = 0; state = start_of file budget; so_far = refl; left_is = refl; counts = omega arith; stands = stands budget; bodies = bodies }

  so_run : (steps : ℕ) (t : State) → Steps F steps (start_of file budget) t → run_of file budget (replicate steps 0) ≡ Some t
  so_run steps t h = ap (follow F (start_of file budget)) (sym (append-nil (replicate steps 0))) ∙ follows_on F steps (start_of file budget) t [] h

  module _ (lab : LabValue) (left : ℕ) (here : About lab left) where
    pub within : left ≤ budget
    within = let c = here.counts in omega arith

    ended : (e : End) → EndsLowest F here.state e → RunEnds file budget e (budget - left)
    ended e at_end =
        let c = here.counts in
        let l = here.left_is in
        let P : List ℕ → Type 0 = λ order. GoesLowest F (start_of file budget) order e in
        let ends : RunEnds file budget e here.steps = record {
          last = here.state;
          runs = so_run here.steps here.state here.so_far;
          ends = subst P (append-nil (replicate here.steps 0)) (lowest_on F here.steps (start_of file budget) here.state [] e here.so_far at_end);
          cost = omega arith;
        } in
        let all : here.steps ≡ budget - left = omega arith in
        subst (RunEnds file budget e) all ends

    fault : (IsSafe (step_in F here.state 0) → ⊥) → RunFaults file budget
    fault f = record { order = replicate here.steps 0; last = here.state; runs = so_run here.steps here.state here.so_far; left = here.state.left; fault = f }

    -- what the Lab says of branch 0 is said of the run's state
    says_here : (what : LabSaid) (new : LabValue) → SaysTheStep lab 0 left what new → Says what new (step_in F here.state 0)
    says_here what new h =
        let P : Bodies → Type 0 = λ G. Says what new (step_of G [] 0 left here.state.mem here.state.tree) in
        let Q : ℕ → Type 0 = λ n. Says what new (step_of F [] 0 n here.state.mem here.state.tree) in
        subst Q (sym here.left_is) (subst P here.bodies (h here.state.mem here.state.tree here.stands))

    went : (cost : ℕ) (new : LabValue) → SaysTheStep lab 0 left (said.Went cost) new → Goes new cost (step_in F here.state 0)
    went cost new h = says_here (said.Went cost) new h

    -- a step that went cost 1, and so much was left
    pub costs : (cost : ℕ) (new : LabValue) → SaysTheStep lab 0 left (said.Went cost) new → (cost ≡ 1) × (1 ≤ left)
    costs cost new h =
        let g = went cost new h in
        let c = step_costs F here.state.mem 0 here.state.left here.state.tree g.moved g.next in
        let one = c.one in
        let less = c.less in
        let same = g.costs in
        let l = here.left_is in
        (omega arith, omega arith)

    pub went_on : (cost : ℕ) (new : LabValue) → SaysTheStep lab 0 left (said.Went cost) new → IsUnchangedUnlessWent lab (said.Went cost) new → About new (left - cost)
    unfolding Steps
    went_on cost new h keeps =
        let g = went cost new h in
        let one = (costs cost new h).0 in
        let less = (costs cost new h).1 in
        let same = g.costs in
        let l = here.left_is in
        let c = here.counts in
        record {
          steps = suc here.steps;
          state = entered here.state 0 g.moved;
          so_far = (here.state, here.so_far, record { lowest = lowest F here.state (Next g.moved) g.next (λ z. cc); moved = g.moved; says = g.next; after = refl });
          left_is = omega arith;
          counts = omega arith;
          stands = record { heap = g.stands.heap; made = g.stands.made; tree = g.stands.tree };
          bodies = ap bodies_of keeps ∙ here.bodies;
        }

    pub spent_at : (new : LabValue) → SaysTheStep lab 0 left said.Longer new → RunEnds file budget (end.Spent 0) (budget - left)
    spent_at new h = let f : step_in F here.state 0 ≡ Longer = says_here said.Longer new h in ended (end.Spent 0) (lowest F here.state Longer f (λ z. cc), f)

    pub too_big_at : (new : LabValue) → SaysTheStep lab 0 left said.Big new → RunEnds file budget (end.Big 0) (budget - left)
    too_big_at new h = let f : step_in F here.state 0 ≡ Big = says_here said.Big new h in ended (end.Big 0) (lowest F here.state Big f (λ z. cc), f)

    pub touch_at : (p : Place) (new : LabValue) → SaysTheStep lab 0 left (said.Touch p) new → RunFaults file budget
    touch_at p new h = let f : step_in F here.state 0 ≡ Touch p = says_here (said.Touch p) new h in fault (λ safe. subst IsSafe f safe)

    pub wrong_at : (new : LabValue) → SaysTheStep lab 0 left said.Wrong new → RunFaults file budget
    wrong_at new h = let f : step_in F here.state 0 ≡ Wrong = says_here said.Wrong new h in fault (λ safe. subst IsSafe f safe)

    -- main has a value where no step can come
    abbrev pub IsValue : Type 0
    IsValue = (v : Value) × (here.state.tree ≡ Leaf 0 (Ended v))

    value_there : (new : LabValue) → SaysTheStep lab 0 left said.Cannot new → IsValue
    value_there new h =
        let f : step_in F here.state 0 ≡ Cannot = says_here said.Cannot new h in
        let w = only_a_value F here.state.mem 0 here.state.left (program lab) (sym (ap (step_of F [] 0 here.state.left here.state.mem) here.stands.tree) ∙ f) in
        (w.0, here.stands.tree ∙ ap (Leaf 0) w.1)

    -- what the Lab says of main's value
    abbrev pub IsMainValue : LabValue → Option Value → Type 0
    IsMainValue new o = (m : Mem) (t : Tree) → StandsFor new m t → o ≡ main_value t

    value_is : (new : LabValue) (o : Option Value) → IsUnchangedUnlessWent lab said.Cannot new → IsMainValue new o → (w : IsValue) → o ≡ Some w.0
    value_is new o keeps says w =
        let P : LabValue → Type 0 = λ l. StandsFor l here.state.mem here.state.tree in
        says here.state.mem here.state.tree (subst P (sym keeps) here.stands) ∙ ap main_value w.1

    pub done_at : (new : LabValue) (v : Value) → SaysTheStep lab 0 left said.Cannot new → IsUnchangedUnlessWent lab said.Cannot new → IsMainValue new (Some v) → RunEnds file budget (end.Done v) (budget - left)
    done_at new v h keeps says =
        let w = value_there new h in
        let same : v ≡ w.0 = ap (some_or v) (value_is new (Some v) keeps says w) in
        ended (end.Done v) (w.1 ∙ ap (λ x. Leaf 0 (Ended x)) (sym same))

    pub no_end : (new : LabValue) → SaysTheStep lab 0 left said.Cannot new → IsUnchangedUnlessWent lab said.Cannot new → IsMainValue new None → ⊥
    no_end new h keeps says = let e = value_is new None keeps says (value_there new h) in cc
