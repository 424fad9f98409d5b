-- What the reading of a whole text says: the tree that it spells, or its first fault.
use Rattle.std.proofs.Common.{◌≡◌, ℕ, ◌≤◌, ◌<◌, ap, sym, subst, ◌∙◌, refl, arith, Bool, true, false, inl, inr, List, [], ◌∷◌, ◌++◌, length, append-nil, Option, None, Ok, Err}
use Rattle.tht_tree.specs.declared.token.TokenKind.{TokenKind}
use Rattle.tht_tree.specs.Tokens.{Limit, Mark, counts, counts_at, Tok, tok, mark_of}
use Rattle.tht_tree.specs.Productions.{Rel}
use Rattle.tht_tree.specs.Faults.{Fault, unexpected, over, marked, Permits, Ends, IsFault}
use Rattle.tht_grammar.specs.Steps.{Outcome, Reader}
use Rattle.tht_grammar.specs.Reading.{finish}
use Rattle.tht_grammar.proofs.FirstFault.{AllCount, count_at}
use Rattle.tht_grammar.proofs.Local.{like, SameHead, no_head, one_head, Near, here, before, Alike, IsLocal}
use Rattle.tht_grammar.proofs.Exact.{IsRead, IsStuck, Sound, IsLifted, Reaches, Exact}

-- ---- texts that part at a place

near_front : (j l c : List Tok) (h : SameHead j l) → Near j l h (c ++ j) (c ++ l)
near_front j l [] h = here
near_front j l (t ∷ c) h = before (near_front j l c h)

near_long : {j l : List Tok} {h : SameHead j l} {a b : List Tok} → Near j l h a b → length j ≤ length a
near_long here = omega arith
near_long (before n) = let m = near_long n in omega arith

near_is : {j l : List Tok} {h : SameHead j l} {a b : List Tok} → Near j l h a b → length a ≤ length j → b ≡ l
near_is here s = refl
near_is (before n) s = let m = near_long n in absurd (omega arith)

-- a token with another mark
same_marked : (m : Mark) (t : Tok) (j more : List Tok) → SameHead (t ∷ j) (marked m t ∷ more)
same_marked m (tok q w) j more = one_head (like refl refl refl)

mark_is : (m : Mark) (t : Tok) → mark_of (marked m t) ≡ m
mark_is m (tok q w) = refl

no_empty : {j l : List Tok} → SameHead j l → 0 < length j → [] ≡ l → ⊥
no_empty no_head s m = omega arith
no_empty (one_head k) s m = cc

module _ (A : Type 0) (j l : List Tok) (h : SameHead j l) where
  -- A reader that stops at j, or finds a fault there, does not come to the end of a text that goes on so.
  stop_ok : (x y : A) → 0 < length j → Alike j l h (Ok (x, j)) (Ok (y, [])) → ⊥
  stop_ok x y s (inl n) = no_empty h s (near_is n.1 (omega arith))
  stop_ok x y s (inr n) = omega arith

  fault_ok : (f : Fault) (y : A) → Alike j l h {A = A} (Err (f, j)) (Ok (y, [])) → ⊥
  fault_ok f y n = omega arith

  stop_err : (x : A) (q : Fault × List Tok) → Alike j l h {A = A} (Ok (x, j)) (Err q) → ⊥
  stop_err x q n = omega arith

  -- the faults of two such texts are the same, at the same place
  fault_err : (f : Fault) (q : Fault × List Tok) → Alike j l h {A = A} (Err (f, j)) (Err q) → (f ≡ q.0) × (q.1 ≡ l)
  fault_err f q (inl n) = (n.0, near_is n.1 (omega arith))
  fault_err f q (inr n) = absurd (omega arith)

-- ---- limits that do not count

not_lifted : (q : Fault × List Tok) → unexpected ≡ q.0 → IsLifted q → ⊥
not_lifted (unexpected, j) e h = h
not_lifted (over l, j) e h = cc

counts_there : (u : Limit) (q : Fault × List Tok) (t : Tok) (l : List Tok) → over u ≡ q.0 → q.1 ≡ t ∷ l → counts_at (mark_of t) u ≡ true → IsLifted q
    → ⊥
counts_there u (unexpected, j) t l e f c h = h
counts_there u (over v, []) t l e f c h = h
counts_there u (over v, (w ∷ j)) t l e f c h =
    let same : w ≡ t = cc in let limit : u ≡ v = cc in
    let P : Tok → Type 0 = λ w. counts_at (mark_of w) v ≡ false in let Q : Limit → Type 0 = λ v. counts_at (mark_of t) v ≡ false in
    let no : counts_at (mark_of t) u ≡ false = subst Q (sym limit) (subst P same h) in cc

all_counts : (t : Tok) (l : Limit) → mark_of t ≡ counts → counts_at (mark_of t) l ≡ true
all_counts t l e = rw e refl

-- ---- judgement

-- S n spells with at most n constructs inside one another, and the reader answers by one such number.
module _ {A : Type 0} (S : ℕ → Rel A) (n : ℕ) {stops : Option TokenKind → Bool} (p : Reader A) (e : (m : ℕ)
    → Exact (S n) (S m) stops p) (at_end : stops None ≡ true) (local : IsLocal p) where
  -- by any number of them
  abbrev pub Whole : Rel A
  Whole i x j = (m : ℕ) × S m i x j

  -- what another text spells that the reader does not come to
  against : {o : Outcome A} (c : List Tok) {j l : List Tok} (h : SameHead j l) (y : A) → p (c ++ j) ≡ o → Whole (c ++ l) y []
      → (Alike j l h o (Ok (y, [])) → ⊥)
      → ((q : Fault × List Tok) → IsLifted q → Alike j l h o (Err q) → ⊥) → ⊥
  against {o = o} c {j = j} {l = l} h y g r ok err = go ((e r.0).complete (c ++ l) [] y r.1 at_end)
    where
      a : Alike j l h o (p (c ++ l))
      a = let P : Outcome A → Type 0 = λ z. Alike j l h z (p (c ++ l)) in subst P g ((local j l h).alike (c ++ j) (c ++ l) (near_front j l c h))

      at : (z : Outcome A) → p (c ++ l) ≡ z → Alike j l h o z
      at z f = let P : Outcome A → Type 0 = λ z. Alike j l h o z in subst P f a

      go : Reaches y [] (p (c ++ l)) → ⊥
      go (inl f) = ok (at (Ok (y, [])) f)
      go (inr f) = err f.0 f.2 (at (Err f.0) f.1)

  unexpected_ends : (c j i : List Tok) → i ≡ c ++ j → p i ≡ Err (unexpected, j) → Ends Whole unexpected c j
  unexpected_ends c [] i f g = λ y r. against c no_head y (ap p (sym f) ∙ g) (rw append-nil r)
      (fault_ok A [] [] no_head unexpected y) (λ q lifts a. not_lifted q (fault_err A [] [] no_head unexpected q a).0 lifts)
  unexpected_ends c (t ∷ j) i f g = λ m more y r. let h = same_marked m t j more in against c h y (ap p (sym f) ∙ g) r
      (fault_ok A (t ∷ j) (marked m t ∷ more) h unexpected y)
      (λ q lifts a. not_lifted q (fault_err A (t ∷ j) (marked m t ∷ more) h unexpected q a).0 lifts)

  over_ends : (u : Limit) (c j more i : List Tok) → Permits (over u) j more → i ≡ c ++ j → p i ≡ Err (over u, j) → Ends Whole (over u) c j
  over_ends u c [] more i never f g = never
  over_ends u c (t ∷ j) more i permits f g = λ m more y counts r. let h = same_marked m t j more in against c h y (ap p (sym f) ∙ g) r
      (fault_ok A (t ∷ j) (marked m t ∷ more) h (over u) y)
      (λ q lifts a. let w = fault_err A (t ∷ j) (marked m t ∷ more) h (over u) q a in
      counts_there u q (marked m t) more w.0 w.1 (let P : Mark → Type 0 = λ m. counts_at m u ≡ true in subst P (sym (mark_is m t)) counts) lifts)

  ends_at : (f : Fault) (c j more i : List Tok) → Permits f j more → i ≡ c ++ j → p i ≡ Err (f, j) → Ends Whole f c j
  ends_at unexpected c j more i permits f g = unexpected_ends c j i f g
  ends_at (over u) c j more i permits f g = over_ends u c j more i permits f g

  module _ (i : List Tok) where
    -- the reader stops before the end of the text
    stop_fault : (x : A) (t : Tok) (j : List Tok) → p i ≡ Ok (x, t ∷ j) → IsRead (S n) i x (t ∷ j) → IsFault Whole i unexpected (t ∷ j)
    stop_fault x t j g s = record {
      front = s.taken;
      all = s.all;
      more = [];
      value = x;
      permits = tt;
      begins = (n, s.spells [] (inl refl));
      ends = λ m more y r. let h = same_marked m t j more in against s.taken h y (ap p (sym s.all) ∙ g) r
          (stop_ok A (t ∷ j) (marked m t ∷ more) h x y (omega arith)) (λ q lifts a. stop_err A (t ∷ j) (marked m t ∷ more) h x q a);
    }

    fault_at : (o : Outcome A) → p i ≡ o → Sound (S n) i o → (q : Fault × List Tok) → finish o ≡ Err q → IsFault Whole i q.0 q.1
    fault_at (Ok (x, [])) g s q h = cc
    fault_at (Ok (x, (t ∷ j))) g s q h = let same : (unexpected, t ∷ j) ≡ q = cc in
        let P : Fault × List Tok → Type 0 = λ q. IsFault Whole i q.0 q.1 in subst P same (stop_fault x t j g s)
    fault_at (Err (f, j)) g s q h = let same : (f, j) ≡ q = cc in let P : Fault × List Tok → Type 0 = λ q. IsFault Whole i q.0 q.1 in
        subst P same (record {
          front = s.taken;
          all = s.all;
          more = s.completion.more;
          value = s.completion.value;
          permits = s.completion.permits;
          begins = (n, let b = s.completion.spells [] refl in rw append-nil at b);
          ends = ends_at f s.taken j s.completion.more i s.completion.permits s.all g;
        })

    -- a fault that is found is the first one
    pub judge_fault : (q : Fault × List Tok) → finish (p i) ≡ Err q → IsFault Whole i q.0 q.1
    judge_fault q h = fault_at (p i) refl ((e 0).sound i) q h

    ok_at : (o : Outcome A) → Sound (S n) i o → (x : A) → finish o ≡ Ok (x, []) → Whole i x []
    ok_at (Ok (y, [])) s x h =
        let pair : ◌≡◌ {A = A × List Tok} (y, []) (x, []) = cc in let same : y ≡ x = ap (λ (p : A × List Tok). p.0) pair in
        let all : s.taken ++ [] ≡ i = sym s.all in
        let P : List Tok → Type 0 = λ i. Whole i x [] in
        let Q : A → Type 0 = λ y. Whole (s.taken ++ []) y [] in subst P all (subst Q same (n, s.spells [] (inl refl)))
    ok_at (Ok (y, (t ∷ j))) s x h = cc
    ok_at (Err q) s x h = cc

    -- what is read is spelled so
    pub judge_ok : (x : A) → finish (p i) ≡ Ok (x, []) → Whole i x []
    judge_ok x h = ok_at (p i) ((e 0).sound i) x h

    module _ (all : AllCount i) where
      counted : (q : Fault × List Tok) → IsStuck (S n) i q.0 q.1 → IsLifted q → ⊥
      counted (unexpected, j) s h = h
      counted (over u, []) s h = h
      counted (over u, (t ∷ j)) s h = let P : List Tok → Type 0 = AllCount in let c = count_at s.taken t j (subst P s.all all) in
          let yes = all_counts t u c in cc

      -- what is spelled so is read
      pub judge_complete : (x : A) → Whole i x [] → finish (p i) ≡ Ok (x, [])
      judge_complete x r = go ((e r.0).complete i [] x r.1 at_end)
        where
          go : Reaches x [] (p i) → finish (p i) ≡ Ok (x, [])
          go (inl f) = rw f refl
          go (inr f) = absurd (counted f.0 (let P : Outcome A → Type 0 = Sound (S n) i in subst P f.1 ((e 0).sound i)) f.2)
