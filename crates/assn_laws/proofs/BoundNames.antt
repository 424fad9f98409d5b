-- The names that putting in gives bound variables, and putting one thing after another.
use Rattle.std.proofs.Common.{◌≡◌, ℕ, zero, suc, ◌<◌, ◌≤◌, Bool, true, false, arith, length, List, refl, sym, ◌∙◌, ap}
use Rattle.std.specs.Prelude.{bytes_eq, if◌then◌else◌}
use Rattle.tht_tree.specs.Syntax.{Trm, lit, free, bound, len, off, neg, op}
use Rattle.tht_tree.specs.Normal.Putting.{put}
use Rattle.tht_tree.proofs.SameTerm.{bytes_eq-true}
use Rattle.tht_logic.specs.Putting.{bound_name, only_zeros, zeros}
use Rattle.assn_laws.specs.AssertionLaws.{EachName}

pub same_itself : (d : ℕ) → bytes_eq (bound_name d) (bound_name d) ≡ true
same_itself zero = refl
same_itself (suc d) = same_itself d

pub later_is_other : (d e : ℕ) → e < d → bytes_eq (bound_name d) (bound_name e) ≡ false
later_is_other zero e l = absurd (omega (arith, l))
later_is_other (suc zero) zero l = refl
later_is_other (suc (suc d)) zero l = refl
later_is_other (suc d) (suc e) l = later_is_other d e (omega (arith, l))

pub earlier_is_other : (d e : ℕ) → d < e → bytes_eq (bound_name d) (bound_name e) ≡ false
earlier_is_other d zero l = absurd (omega (arith, l))
earlier_is_other zero (suc zero) l = refl
earlier_is_other zero (suc (suc e)) l = refl
earlier_is_other (suc d) (suc e) l = earlier_is_other d e (omega (arith, l))

bound_zeros : (d : ℕ) → only_zeros (bound_name d) ≡ true
bound_zeros zero = refl
bound_zeros (suc d) = bound_zeros d

bound_length : (d : ℕ) → length (bound_name d) ≡ suc d
bound_length zero = refl
bound_length (suc d) = ap suc (bound_length d)

pub zeros_of_bound : (d : ℕ) → zeros (bound_name d) ≡ suc d
zeros_of_bound d = ap (λ c. if c then length (bound_name d) else 0) (bound_zeros d) ∙ bound_length d

-- a name of fewer zeros is another
pub fewer_zeros : (d : ℕ) (x : List ℕ) → zeros x ≤ d → bytes_eq (bound_name d) x ≡ false
fewer_zeros d x l = pick (bytes_eq (bound_name d) x) refl
  where
    pick : (c : Bool) → bytes_eq (bound_name d) x ≡ c → c ≡ false
    pick true e =
        let same : suc d ≡ zeros x = sym (zeros_of_bound d) ∙ ap zeros (bytes_eq-true (bound_name d) x e) in
        absurd (omega (arith, same, l))
    pick false e = refl

-- ---- one thing after another

-- where each name of which P holds fares the same
module _ (P : List ℕ → Type 0) (f g h base : List ℕ → Trm) (names : (x : List ℕ) → EachName P (h x) → f x ≡ put base (g x)) where
  pub put_after : (u : Trm) → EachName P (put h u) → put f u ≡ put base (put g u)
  put_after (lit v) e = refl
  put_after (free x) e = names x e
  put_after (bound k) e = refl
  put_after (len a) e = ap len (put_after a e)
  put_after (off k a) e = ap (off k) (put_after a e)
  put_after (neg a) e = ap neg (put_after a e)
  put_after (op o a b) e = λ i. op o (put_after a e.0 i) (put_after b e.1 i)

-- where each name of a term fares the same
module _ (P : List ℕ → Type 0) (f g : List ℕ → Trm) (names : (x : List ℕ) → P x → f x ≡ g x) where
  pub put_same : (u : Trm) → EachName P u → put f u ≡ put g u
  put_same (lit v) e = refl
  put_same (free x) e = names x e
  put_same (bound k) e = refl
  put_same (len a) e = ap len (put_same a e)
  put_same (off k a) e = ap (off k) (put_same a e)
  put_same (neg a) e = ap neg (put_same a e)
  put_same (op o a b) e = λ i. op o (put_same a e.0 i) (put_same b e.1 i)
