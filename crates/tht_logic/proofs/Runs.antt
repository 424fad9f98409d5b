-- What keeps for every number of steps from the start is sound.
use Rattle.std.proofs.Common.{◌≡◌, ℕ, suc, List, [], ◌∷◌, ◌++◌, refl, ap, subst, inl, inr, Some, Option, arith}
use Rattle.tht_tree.specs.declared.file.Source1.{Source1}
use Rattle.tht_logic.specs.Programs.{code, root_names}
use Rattle.tht_tree.specs.Heaps.{nothing, private_part, kept, if_own}
use Rattle.tht_logic.specs.Machine.{Bodies, Mem, Tree, Leaf, closed, no_env, Moved, Said, Next, Cannot, Big, Longer, Touch, Wrong, step_of, branches}
use Rattle.tht_logic.specs.Procedures.{bodies_in, main_post}
use Rattle.tht_logic.specs.Meanings.{meaning_in}
use Rattle.tht_logic.specs.Runs.{State, step_in, entered, on_moved, follow, start_of}
use Rattle.tht_logic.specs.Soundness.{Assertion, Postcondition, Stands, Keeps, Leaves, HasTags, Leads, AreBelow, IsSound, no_invariant, post_of}
use Rattle.tht_logic.proofs.Said.{leads_map, leads_both, leads_all}
use Rattle.tht_logic.proofs.HeapLaws.{Joins-nothing, beside_nothing}
use Rattle.tht_logic.proofs.Parts.{private_is}
use Rattle.tht_logic.proofs.Numbers.{from_alone, in_first, in_which}
use Rattle.tht_logic.proofs.Moves.{Moves, step_moves}

module _ (F : Bodies) (I : Assertion) (Q : Postcondition) where
  -- a state of a run: its whole private part is the tree's, which keeps to the post
  record Runs (s : State) : Type 0 where
    pub keeps : (k : ℕ) → Keeps F I k [] s.tree (private_part s.mem.heap) Q
    pub stands : Stands I [] s.tree (private_part s.mem.heap) nothing s.mem

  branches_below : (s : State) → Runs s → AreBelow s.mem.next_branch (branches s.tree)
  branches_below s r a e = r.stands.numbered a (in_first a (branches s.tree) [] e)

  new_tags : (m : Mem) (t : Tree) (r : Moved) → Moves [] m t r → HasTags (private_part m.heap) (branches t ++ []) → HasTags (private_part r.mem.heap) (branches r.tree ++ [])
  new_tags m t r h tags p a v e =
      elim (h.tags p a v (private_is (r.mem.heap p) a v e)) [
        | inl x ↦ in_first a (branches r.tree) [] x
        | inr x ↦ elim (in_which a (branches t) [] (tags p a x.1.0 (ap (kept if_own) x.1.1))) [ inl y ↦ let z = x.0 in cc | inr y ↦ cc ]
      ]

  after : (s : State) (b : ℕ) (r : Moved) → Runs s → Moves [] s.mem s.tree r → ((k : ℕ) → Leaves (λ u q. Keeps F I k [] u q Q) I nothing r) → Runs (entered s b r)
  after s b r run h done = record {
    keeps = λ k. subst (λ q. Keeps F I k [] r.tree q Q) (Joins-nothing (done k).1) (done k).3;
    stands = record {
      parts = beside_nothing (private_part r.mem.heap);
      invariant = (done 0).2;
      distinct = h.distinct;
      numbered = λ a e. elim (in_which a (branches r.tree) [] e) [
        | inl x ↦ elim (h.grown a x) [ inl y ↦ let z = branches_below s run a y in omega (arith, h.next) | inr y ↦ y.1 ]
        | inr x ↦ cc
      ];
      tags = new_tags s.mem s.tree r h run.stands.tags;
      apart = λ p a v e. cc;
      is_made = h.made run.stands.is_made;
    };
  }

  steps_on : (s : State) (b n : ℕ) → Runs s → Leads (step_of F [] b n s.mem s.tree) (λ r. Runs (entered s b r))
  steps_on s b n run =
      leads_map (step_of F [] b n s.mem s.tree) (λ r. Moves [] s.mem s.tree r × ((k : ℕ) → Leaves (λ u q. Keeps F I k [] u q Q) I nothing r)) _ (λ r x. after s b r run x.0 x.1)
      (leads_both (step_of F [] b n s.mem s.tree) _ _
      (step_moves F [] b n s.mem s.tree run.stands.distinct)
      (leads_all (step_of F [] b n s.mem s.tree) _ (λ k. (run.keeps (suc k)).goes nothing s.mem run.stands b n)))

  moved_on : (x : Said Moved) (go : Moved → Option State) (s : State) (P : Moved → Type 0) → Leads x P → ((r : Moved) → P r → go r ≡ Some s → Runs s) → on_moved x go ≡ Some s → Runs s
  moved_on (Next r) go s P h f e = f r h e
  moved_on Cannot go s P h f e = cc
  moved_on Big go s P h f e = cc
  moved_on Longer go s P h f e = cc
  moved_on (Touch p) go s P h f e = cc
  moved_on Wrong go s P h f e = cc

  some_same : (x y : State) → Some x ≡ Some y → x ≡ y
  some_same x y e = cc

  runs : (order : List ℕ) (s t : State) → Runs s → follow F s order ≡ Some t → Runs t
  runs [] s t run e = subst Runs (some_same s t e) run
  runs (b ∷ bs) s t run e = moved_on (step_in F s b) _ t _ (steps_on s b s.left run) (λ r x f. runs bs (entered s b r) t x f) e

-- main's body keeps from the empty heap
abbrev pub StartKeeps : Source1 → ℕ → Type 0
StartKeeps file k = Keeps (bodies_in file) no_invariant k [] (Leaf 0 (closed [] (code (root_names file) file.main.body []))) nothing (post_of (meaning_in file) (root_names file) no_env (main_post file))

module _ (file : Source1) (keeps : (k : ℕ) → StartKeeps file k) where
  start_runs : (budget : ℕ) → Runs (bodies_in file) no_invariant (post_of (meaning_in file) (root_names file) no_env (main_post file)) (start_of file budget)
  start_runs budget = record {
    keeps = keeps;
    stands = record {
      parts = beside_nothing nothing;
      invariant = λ p. refl;
      distinct = refl;
      numbered = λ a e. elim (in_which a (0 ∷ []) [] e) [ inl x ↦ let z = from_alone a 0 x in omega arith | inr x ↦ cc ];
      tags = λ p a v e. cc;
      apart = λ p a v e. cc;
      is_made = λ a i c e. cc;
    };
  }

  pub keeps_is_sound : IsSound file
  keeps_is_sound = record {
    safe = λ budget order s e b n. let r = runs (bodies_in file) _ _ order (start_of file budget) s (start_runs budget) e in (r.keeps 1).safe nothing s.mem r.stands b n;
    invariant = λ budget order s e. let r = runs (bodies_in file) _ _ order (start_of file budget) s (start_runs budget) e in r.stands.invariant;
    ends = λ budget order s e v f. let r = runs (bodies_in file) _ _ order (start_of file budget) s (start_runs budget) e in (r.keeps 1).ends nothing s.mem r.stands 0 v f;
  }
