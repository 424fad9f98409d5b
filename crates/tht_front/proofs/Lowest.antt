-- The lowest-first run of a state: it is one, and it ends as it says.
use Rattle.std.proofs.Common.{◌≡◌, ℕ, ◌<◌, ◌==◌, cond, Bool, true, false, List, [], ◌∷◌, Option, None, Some, refl, sym, ◌∙◌, ap, subst, arith}
use Rattle.tht_tree.specs.declared.plain.Value.{Value}
use Rattle.tht_tree.specs.declared.run.End.{End}
use Rattle.tht_tree.specs.declared.run.End.TheVariants as end
use Rattle.tht_logic.specs.Machine.{Bodies, Leaf, Ended, Tree, Said, Next, Cannot, Big, Longer, Moved}
use Rattle.tht_logic.specs.Runs.{State, entered, step_in, on_moved, follow, Ends, IsLowest, EndsLowest, GoesLowest}

-- what is in an option, or this
abbrev or_first : State → Option State → State
or_first d None = d
or_first d (Some x) = x

pub some_same : (x y : State) → Some x ≡ Some y → x ≡ y
some_same x y e = ap (or_first x) e

abbrev cannot : Said Moved
cannot = Cannot

no_step : (c : Bool) → cond c cannot cannot ≡ cannot
no_step true = refl
no_step false = refl

abbrev value_in_tree : Value → Tree → Value
value_in_tree d (Leaf b (Ended v)) = v
value_in_tree d _ = d

abbrev moved_in : Moved → Said Moved → Moved
moved_in d (Next r) = r
moved_in d _ = d

-- where the procs have these bodies
module _ (F : Bodies) where
  ends_there : (s : State) (e : End) → EndsLowest F s e → Ends F s e
  ends_there s (end.Done v) h = h
  ends_there s (end.Spent b) h = h.1
  ends_there s (end.Big b) h = h.1

  -- the run that goes lowest ends so where its order leads
  pub ends_at : (order : List ℕ) (s t : State) (e : End) → GoesLowest F s order e → follow F s order ≡ Some t → Ends F t e
  ends_at [] s t e h f = let P : State → Type 0 = λ u. Ends F u e in subst P (some_same s t f) (ends_there s e h)
  ends_at (b ∷ bs) s t e h f = ends_at bs (entered s b h.1) t e h.3 (sym (ap (λ x. on_moved x (λ r. follow F (entered s b r) bs)) h.2) ∙ f)

  -- ---- there is one

  pub one_lowest : (s : State) (b c : ℕ) → IsLowest F s b → IsLowest F s c → b ≡ c
  one_lowest s b c p q =
      let not_below : b < c → ⊥ = λ l. p.can (q.others b l) in
      let not_above : c < b → ⊥ = λ l. q.can (p.others c l) in
      omega arith

  -- where main has a value no branch can step
  none_can : (s : State) (v : Value) (b : ℕ) → s.tree ≡ Leaf 0 (Ended v) → IsLowest F s b → ⊥
  none_can s v b h l = l.can (rw h (no_step (0 == b)))

  same_step : (s : State) (b c : ℕ) (x y : Said Moved) → b ≡ c → step_in F s b ≡ x → step_in F s c ≡ y → x ≡ y
  same_step s b c x y e p q = sym p ∙ ap (step_in F s) e ∙ q

  one_end : (s : State) (e f : End) → EndsLowest F s e → EndsLowest F s f → e ≡ f
  one_end s (end.Done v) (end.Done w) p q = ap end.Done (ap (value_in_tree v) (sym p ∙ q))
  one_end s (end.Done v) (end.Spent c) p q = absurd (none_can s v c p q.0)
  one_end s (end.Done v) (end.Big c) p q = absurd (none_can s v c p q.0)
  one_end s (end.Spent b) (end.Done w) p q = absurd (none_can s w b q p.0)
  one_end s (end.Big b) (end.Done w) p q = absurd (none_can s w b q p.0)
  one_end s (end.Spent b) (end.Spent c) p q = ap end.Spent (one_lowest s b c p.0 q.0)
  one_end s (end.Big b) (end.Big c) p q = ap end.Big (one_lowest s b c p.0 q.0)
  one_end s (end.Spent b) (end.Big c) p q = let e = same_step s b c Longer Big (one_lowest s b c p.0 q.0) p.1 q.1 in cc
  one_end s (end.Big b) (end.Spent c) p q = let e = same_step s b c Big Longer (one_lowest s b c p.0 q.0) p.1 q.1 in cc

  -- a run that has ended so goes no further
  no_more : (s : State) (e : End) (b : ℕ) (r : Moved) → EndsLowest F s e → IsLowest F s b → step_in F s b ≡ Next r → ⊥
  no_more s (end.Done v) b r p l n = none_can s v b p l
  no_more s (end.Spent c) b r p l n = let e = same_step s c b Longer (Next r) (one_lowest s c b p.0 l) p.1 n in cc
  no_more s (end.Big c) b r p l n = let e = same_step s c b Big (Next r) (one_lowest s c b p.0 l) p.1 n in cc

  pub one_run : (order other : List ℕ) (s : State) (e f : End) → GoesLowest F s order e → GoesLowest F s other f → (order ≡ other) × (e ≡ f)
  one_run [] [] s e f p q = (refl, one_end s e f p q)
  one_run [] (c ∷ cs) s e f p q = absurd (no_more s e c q.1 p q.0 q.2)
  one_run (b ∷ bs) [] s e f p q = absurd (no_more s f b p.1 q p.0 p.2)
  one_run (b ∷ bs) (c ∷ cs) s e f p q =
      let same : b ≡ c = one_lowest s b c p.0 q.0 in
      let moved : p.1 ≡ q.1 = ap (moved_in p.1) (same_step s b c (Next p.1) (Next q.1) same p.2 q.2) in
      let there : entered s b p.1 ≡ entered s c q.1 = rw (same, moved) refl in
      let P : State → Type 0 = λ u. GoesLowest F u bs e in
      let more = one_run bs cs (entered s c q.1) e f (subst P there p.3) q.3 in
      (rw (same, more.0) refl, more.1)
