-- A statement that nothing refuses keeps for one step more than what follows it: statements on private cells, and proof steps.
use Rattle.std.proofs.Common.{◌≡◌, ℕ, zero, suc, ◌≤◌, le_refl, arith, Bool, true, false, cond, List, [], ◌∷◌, map, Option, Some, None, Ok, refl, sym, ◌∙◌, ap, subst}
use Rattle.tht_tree.specs.declared.body.EndKind.TheOpen as f
use Rattle.tht_tree.specs.declared.plain.Place.{Place}
use Rattle.tht_tree.specs.declared.plain.Place.TheVariants.{Cell}
use Rattle.tht_tree.specs.declared.plain.Sort.{Sort}
use Rattle.tht_tree.specs.declared.plain.Sort.TheVariants as sort
use Rattle.tht_tree.specs.declared.plain.Spot.{Spot}
use Rattle.tht_tree.specs.declared.plain.Value.{Value}
use Rattle.tht_tree.specs.declared.proof.Proof.{Proof}
use Rattle.tht_tree.specs.declared.step.Step.{Step}
use Rattle.tht_tree.specs.declared.term.Term.{Term}
use Rattle.tht_tree.specs.declared.walk.Class.{Class}
use Rattle.tht_tree.specs.declared.walk.Class.TheVariants as class
use Rattle.tht_tree.specs.declared.decl.Head.{Head}
use Rattle.tht_tree.specs.declared.step.StepKind.{StepKind}
use Rattle.tht_logic.specs.Meanings.{meaning_in}
use Rattle.tht_tree.specs.Values.{Val, is, Env, bind, a_place, value_in, place_in, same_place}
use Rattle.tht_tree.specs.Syntax.{Names, trm}
use Rattle.tht_tree.specs.Terms as logic
use Rattle.tht_tree.specs.Heaps.{Heap, Held, own, with_at}
use Rattle.tht_tree.specs.Rules.Context.{Context, Scope}
use Rattle.tht_tree.specs.Walk.Names as walk
use Rattle.tht_tree.specs.Walk.Names.{with_name, new_name, with_result, with_hypothesis}
use Rattle.tht_tree.specs.Walk.Terms.{program_of, any_program, any_programs}
use Rattle.tht_tree.specs.Walk.Proofs as proofs
use Rattle.tht_tree.specs.Walk.Steps as steps
use Rattle.tht_logic.specs.Machine.{Bodies, Prog, Plain, Cmd, TermBig, Read, Write, Alloc, Free, Leaf, closed, value, all_fit}
use Rattle.tht_logic.specs.Soundness.{Assertion, Postcondition, Keeps, no_invariant, post_of}
use Rattle.tht_logic.specs.Rules.Definitions.{Declarations}
use Rattle.tht_logic.specs.Rules.Steps.{after_step}
use Rattle.tht_logic.proofs.Acts.{big_acts, read_acts, write_acts, alloc_acts, free_acts}
use Rattle.tht_logic.proofs.Parts.{AllOwn, IsOwnAt}
use Rattle.tht_logic.proofs.Outside.{keeps_plain, when_stands, stands_own}
use Rattle.proof_laws.specs.Walked.{Matches}
use Rattle.proof_laws.proofs.WalkedTerms.{no_walk_code}
use Rattle.assn_laws.specs.Allocs.{with_cells, IsFree, values_in}
use Rattle.assn_laws.proofs.FileLaw.{file_steps_are_sound, file_allocs_are_sound}
use Rattle.assn_laws.proofs.FileCells.{file_reads_are_sound, file_writes_are_sound, file_frees_are_sound}
use Rattle.assn_laws.proofs.Refusing.{nothing}
use Rattle.assn_laws.proofs.NewCells.{acted_cells, own_cells}
use Rattle.hoare_laws.proofs.ProgramValues.{HaveValues, program_value, value_of_sort, program_values}
use Rattle.hoare_laws.proofs.Growing.{Grows, grows_on, grows_with, grows_by_step, same_values_bind, with_result_values, with_other_values, after_step_values, other_values}
use Rattle.tht_tree.specs.Walk.Bodies as w
use Rattle.tht_logic.specs.Programs.{Whole, stmt_at}
use Rattle.tht_logic.specs.Rules.Commands.{after_read, after_write, after_free, after_alloc}
use Rattle.tht_logic.specs.Rules.Bodies as rules
use Rattle.assn_laws.specs.FileLaws.{IsReady, IsIn}
use Rattle.assn_laws.specs.Walked.{KnowsProcs, KnowsProcAt}
use Rattle.assn_laws.proofs.ProcNames.{procs_with_name, procs_after_step}
use Rattle.hoare_laws.proofs.Places.{Setting, Aim, IsAt, Keeping, GoesOn, StmtSound, moved, stayed}
use Rattle.hoare_laws.proofs.WalkedStmts.{read_walked, write_walked, alloc_walked, free_walked}

own_changed : (h : Heap) (p : Place) (o : Option Held) → IsOwnAt o → AllOwn h → AllOwn (with_at h p o)
own_changed h p o a all q = pick (same_place p q)
  where
    pick : (t : Bool) → IsOwnAt (cond t o (h q))
    pick true = a
    pick false = all q

module _ (at : Setting) where
  abbrev decl : Declarations
  decl = at.decl

  abbrev roots : Names
  roots = decl.proofs.roots

  abbrev F : Bodies
  F = at.F

  abbrev above : List ℕ
  above = at.above

  abbrev b : ℕ
  b = at.b

  abbrev I : Assertion
  I = no_invariant

  no_roots : roots ≡ []
  no_roots = at.ready.declares.roots

  known_with : (names : walk.Scope) (x : List ℕ) (k : Class) → ((o : Option Head) → KnowsProcAt (Some k) o) → KnowsProcs decl.procs names → KnowsProcs decl.procs (with_name names x k)
  known_with names x k other known = procs_with_name decl.procs names x k other known

  known_after_step : (names : walk.Scope) (x : StepKind) → KnowsProcs decl.procs names → KnowsProcs decl.procs (steps.after_step x names)
  known_after_step names x known = procs_after_step decl.procs names x known

  module _ (aim : Aim at) where
    abbrev Q : Postcondition
    Q = post_of (meaning_in at.file) roots aim.old aim.post

    -- the branch at work on a statement, for one step more
    abbrev pub at_work : ℕ → Cmd → (Value → Prog) → Heap → Type 0
    at_work k c rest h = Keeps F I (suc k) above (Leaf b (Plain c rest)) h Q

    pub if_it_fits : (k : ℕ) (fit : Bool) (c : Cmd) (rest : Value → Prog) (h : Heap) → at_work k c rest h → at_work k (cond fit c TermBig) rest h
    if_it_fits k true c rest h keeps = keeps
    if_it_fits k false c rest h keeps = keeps_plain F I k above b TermBig rest h Q _ (big_acts F above b false rest h) (λ u q no. absurd no)

    module _ (names : walk.Scope) (c : Context) (env : Env) (h : Heap) (xs : Names) (vs : List Val) (here : IsAt at aim names c env h xs vs) where
      the_place : (t : Term) (p : Place) → program_of names sort.Loc t ≡ no_walk_code → logic.value roots env t ≡ a_place p → place_in (value vs (trm roots xs t)) ≡ p
      the_place t p placed at = ap (λ z. place_in (value_in z)) (value_of_sort roots no_roots names c.scope here.inside.matches env xs vs here.values sort.Loc t placed ∙ at)

      free_keeps : (k : ℕ) (spot : Spot) (t : Term) (i : ℕ) (q : Proof) (next : Context) (code : Whole) → program_of names sort.Loc t ≡ no_walk_code → proofs.proof q names ≡ nothing
          → after_free decl.proofs spot c t i q ≡ Ok next → GoesOn at aim k names next code → at_work k (Free (place_in (value vs (trm roots xs t)))) (λ w. closed vs (code xs)) h
      free_keeps k spot t i q next code placed proved ok goes_on =
          let law = file_frees_are_sound at.file decl at.ready names c next env h here.inside spot t i q placed proved ok in
          let cell = law.0 in
          let p = cell.place in
          let rest : Value → Prog = λ w. closed vs (code xs) in
          let x : Heap = with_at h p None in
          subst (λ z. at_work k (Free z) rest h) (sym (the_place t p placed cell.at))
          (when_stands F I k above (Leaf b (Plain (Free p) rest)) h Q (λ f m stands.
          keeps_plain F I k above b (Free p) rest h Q _ (free_acts F above b false rest h p cell.branch cell.held cell.there)
          (λ y z g. subst (λ z. AllOwn z × Keeps F I k above (Leaf b y) z Q) (sym g.1)
          (own_changed h p None tt (stands_own stands), subst (λ z. Keeps F I k above (Leaf b z) x Q) (sym g.0) (goes_on env x xs vs (stayed at aim names c env h xs vs here next x law.1))))))

      write_keeps : (k : ℕ) (spot : Spot) (t u : Term) (i : ℕ) (q : Proof) (next : Context) (code : Whole) → program_of names sort.Loc t ≡ no_walk_code → any_program names u ≡ no_walk_code
          → proofs.proof q names ≡ nothing → after_write decl.proofs spot c t u i q ≡ Ok next → GoesOn at aim k names next code
          → at_work k (Write (place_in (value vs (trm roots xs t))) (value vs (trm roots xs u))) (λ w. closed vs (code xs)) h
      write_keeps k spot t u i q next code placed stored proved ok goes_on =
          let law = file_writes_are_sound at.file decl at.ready names c next env h here.inside spot t u i q placed stored proved ok in
          let cell = law.0 in
          let p = cell.place in
          let new : Value = value_in (logic.value roots env u) in
          let rest : Value → Prog = λ w. closed vs (code xs) in
          let x : Heap = with_at h p (Some (own b new)) in
          subst (λ z. at_work k (Write z (value vs (trm roots xs u))) rest h) (sym (the_place t p placed cell.at))
          (subst (λ z. at_work k (Write p z) rest h) (sym (ap value_in (program_value roots no_roots names c.scope here.inside.matches env xs vs here.values u stored)))
          (when_stands F I k above (Leaf b (Plain (Write p new) rest)) h Q (λ f m stands.
          keeps_plain F I k above b (Write p new) rest h Q _ (write_acts F above b false rest h p cell.branch cell.held cell.there new)
          (λ y z g. subst (λ z. AllOwn z × Keeps F I k above (Leaf b y) z Q) (sym g.1)
          (own_changed h p (Some (own b new)) tt (stands_own stands), subst (λ z. Keeps F I k above (Leaf b z) x Q) (sym g.0) (goes_on env x xs vs (stayed at aim names c env h xs vs here next x (law.1 b))))))))

      read_keeps : (k : ℕ) (spot : Spot) (x : List ℕ) (r : Sort) (t : Term) (i : ℕ) (n : List ℕ) (q : Proof) (next : Context) (code : Whole) → new_name names x ≡ no_walk_code
          → new_name (with_result names x r) n ≡ no_walk_code → program_of names sort.Loc t ≡ no_walk_code → proofs.proof q names ≡ nothing → after_read decl.proofs spot c x r t i n q ≡ Ok next
          → GoesOn at aim k (with_hypothesis (with_result names x r) n) next code → at_work k (Read r (place_in (value vs (trm roots xs t)))) (λ w. closed (is w ∷ vs) (code (x ∷ xs))) h
      read_keeps k spot x r t i n q next code new new_hyp placed proved ok goes_on =
          let law = file_reads_are_sound at.file decl at.ready names c next env h here.inside spot x r t i n q new new_hyp placed proved ok in
          let cell = law.0 in
          let p = cell.place in
          let got : Value = cell.held in
          let rest : Value → Prog = λ w. closed (is w ∷ vs) (code (x ∷ xs)) in
          let y : Heap = with_at h p (Some (own b got)) in
          let wider : walk.Scope = with_result names x r in
          let later : Env = bind env x (is got) in
          let values : HaveValues roots (with_hypothesis wider n) later (x ∷ xs) (is got ∷ vs) =
          with_other_values roots wider later (x ∷ xs) (is got ∷ vs) (with_result_values roots names env xs vs here.values x r (is got)) n class.Hypothesis (λ s e. cc) in
          let grows : Grows names (with_hypothesis wider n) =
          grows_on names wider (with_hypothesis wider n) (grows_with names x (class.Program r) new) (grows_with wider n class.Hypothesis new_hyp) in
          let place = moved at aim names c env h xs vs here (with_hypothesis wider n) next later y (x ∷ xs) (is got ∷ vs) (law.2 b) (known_with wider n class.Hypothesis (λ q. tt) (known_with names x (class.Program r) (λ q. tt) here.procs)) values grows (same_values_bind roots names c.scope here.inside.matches env x (is got) new) in
          subst (λ z. at_work k (Read r z) rest h) (sym (the_place t p placed cell.at))
          (when_stands F I k above (Leaf b (Plain (Read r p) rest)) h Q (λ f m stands.
          keeps_plain F I k above b (Read r p) rest h Q _ (read_acts F above b false rest h p cell.branch got cell.there r law.1)
          (λ u z g. subst (λ z. AllOwn z × Keeps F I k above (Leaf b u) z Q) (sym g.1)
          (own_changed h p (Some (own b got)) tt (stands_own stands), subst (λ z. Keeps F I k above (Leaf b z) y Q) (sym g.0) (goes_on later y (x ∷ xs) (is got ∷ vs) place)))))

      alloc_keeps : (k : ℕ) (spot : Spot) (x : List ℕ) (ts : List Term) (next : Context) (code : Whole) → new_name names x ≡ no_walk_code → any_programs names ts ≡ no_walk_code
          → after_alloc spot c x ts ≡ Ok next → GoesOn at aim k (with_result names x sort.Loc) next code
          → at_work k (Alloc (map (value vs) (map (trm roots xs) ts))) (λ w. closed (is w ∷ vs) (code (x ∷ xs))) h
      alloc_keeps k spot x ts next code new stored ok goes_on =
          let us : List Value = values_in roots env ts in
          let rest : Value → Prog = λ w. closed (is w ∷ vs) (code (x ∷ xs)) in
          let wider : walk.Scope = with_result names x sort.Loc in
          let place : (i : ℕ) → IsFree b i h → IsAt at aim wider next (bind env x (a_place (Cell b i))) (with_cells b i us h) (x ∷ xs) (a_place (Cell b i) ∷ vs) = λ i free.
          moved at aim names c env h xs vs here wider next (bind env x (a_place (Cell b i))) (with_cells b i us h) (x ∷ xs) (a_place (Cell b i) ∷ vs)
          (file_allocs_are_sound at.file decl at.ready names c next env h here.inside spot x ts new stored ok b i free)
          (known_with names x (class.Program sort.Loc) (λ q. tt) here.procs)
          (with_result_values roots names env xs vs here.values x sort.Loc (a_place (Cell b i)))
          (grows_with names x (class.Program sort.Loc) new)
          (same_values_bind roots names c.scope here.inside.matches env x (a_place (Cell b i)) new) in
          subst (λ z. at_work k (Alloc z) rest h) (sym (program_values roots no_roots names c.scope here.inside.matches env xs vs here.values ts stored))
          (when_stands F I k above (Leaf b (Plain (Alloc us) rest)) h Q (λ f m stands.
          keeps_plain F I k above b (Alloc us) rest h Q _ (alloc_acts F above b false rest h us)
          (λ u z g.
          let y : Heap = with_cells b g.0 us h in
          subst (λ z. AllOwn z × Keeps F I k above (Leaf b u) z Q) (sym (g.2 ∙ acted_cells b g.0 us h)) (
            own_cells b g.0 us h (stands_own stands),
            subst (λ z. Keeps F I k above (Leaf b z) y Q) (sym g.1) (goes_on (bind env x (a_place (Cell b g.0))) y (x ∷ xs) (a_place (Cell b g.0) ∷ vs) (place g.0 g.3)),
          ))))

      -- a proof step is no step of the machine
      step_keeps : (k : ℕ) (x : Step) (next : Context) (code : Whole) → steps.step x names ≡ nothing → after_step decl c x ≡ Ok next → GoesOn at aim k (steps.after_step x.kind names) next code
          → Keeping at aim k h (closed vs (code xs))
      step_keeps k x next code walked ok goes_on =
          let law = file_steps_are_sound at.file decl at.ready names c next env h here.inside x walked ok in
          let later : Env = law.0 in
          let values : HaveValues roots (steps.after_step x.kind names) later xs vs =
          after_step_values roots names later xs vs (other_values roots names c.scope here.inside.matches env later xs vs law.1 here.values) x.kind in
          goes_on later h xs vs (moved at aim names c env h xs vs here (steps.after_step x.kind names) next later h xs vs law.2 (known_after_step names x.kind here.procs) values (grows_by_step names x.kind x.spot walked) law.1)

  -- ---- statements by their level

  pub read_sound : (spot : Spot) (x : List ℕ) (r : Sort) (t : Term) (i : ℕ) (n : List ℕ) (q : Proof)
      → StmtSound at (stmt_at roots (f.Read x r t i n q)) (w.statement_at (f.Read x r t i n q) spot) (rules.stmt_at decl (f.Read x r t i n q) spot)
  read_sound spot x r t i n q aim zero meet names c next env h xs vs here e ok code goes_on = tt
  read_sound spot x r t i n q aim (suc k) meet names c next env h xs vs here e ok code goes_on =
      let walked = read_walked spot names aim.post.sort x r t i n q e in
      if_it_fits aim k (all_fit vs (trm roots xs t ∷ [])) _ _ h
      (read_keeps aim names c env h xs vs here k spot x r t i n q next code walked.new walked.new_hyp walked.place walked.proved ok (goes_on k (omega arith)))

  pub write_sound : (spot : Spot) (t u : Term) (i : ℕ) (q : Proof)
      → StmtSound at (stmt_at roots (f.Write t u i q)) (w.statement_at (f.Write t u i q) spot) (rules.stmt_at decl (f.Write t u i q) spot)
  write_sound spot t u i q aim zero meet names c next env h xs vs here e ok code goes_on = tt
  write_sound spot t u i q aim (suc k) meet names c next env h xs vs here e ok code goes_on =
      let walked = write_walked spot names aim.post.sort t u i q e in
      if_it_fits aim k (all_fit vs (trm roots xs t ∷ trm roots xs u ∷ [])) _ _ h
      (write_keeps aim names c env h xs vs here k spot t u i q next code walked.place walked.value walked.proved ok (goes_on k (omega arith)))

  pub alloc_sound : (spot : Spot) (x : List ℕ) (ts : List Term)
      → StmtSound at (stmt_at roots (f.Alloc x ts)) (w.statement_at (f.Alloc x ts) spot) (rules.stmt_at decl (f.Alloc x ts) spot)
  alloc_sound spot x ts aim zero meet names c next env h xs vs here e ok code goes_on = tt
  alloc_sound spot x ts aim (suc k) meet names c next env h xs vs here e ok code goes_on =
      let walked = alloc_walked spot names aim.post.sort x ts e in
      if_it_fits aim k (all_fit vs (map (trm roots xs) ts)) _ _ h
      (alloc_keeps aim names c env h xs vs here k spot x ts next code walked.new walked.values ok (goes_on k (omega arith)))

  pub free_sound : (spot : Spot) (t : Term) (i : ℕ) (q : Proof)
      → StmtSound at (stmt_at roots (f.Free t i q)) (w.statement_at (f.Free t i q) spot) (rules.stmt_at decl (f.Free t i q) spot)
  free_sound spot t i q aim zero meet names c next env h xs vs here e ok code goes_on = tt
  free_sound spot t i q aim (suc k) meet names c next env h xs vs here e ok code goes_on =
      let walked = free_walked spot names aim.post.sort t i q e in
      if_it_fits aim k (all_fit vs (trm roots xs t ∷ [])) _ _ h
      (free_keeps aim names c env h xs vs here k spot t i q next code walked.place walked.proved ok (goes_on k (omega arith)))

  pub step_sound : (spot : Spot) (x : Step) → StmtSound at (stmt_at roots (f.Proof x)) (w.statement_at (f.Proof x) spot) (rules.stmt_at decl (f.Proof x) spot)
  step_sound spot x aim k meet names c next env h xs vs here e ok code goes_on = step_keeps aim names c env h xs vs here k x next code e ok (goes_on k (le_refl k))
