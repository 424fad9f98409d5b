-- Each form of assertion without names, and with terms put in.
use Rattle.std.proofs.Common.{◌≡◌, ℕ, suc, List, ◌∷◌, map, refl}
use Rattle.tht_tree.specs.declared.plain.Sort.{Sort}
use Rattle.tht_tree.specs.declared.term.Term.{Term}
use Rattle.tht_tree.specs.declared.assn.Assn.{Assn}
use Rattle.tht_tree.specs.declared.assn.Assn.TheVariants as a
use Rattle.tht_tree.specs.Syntax.{Names, trm}
use Rattle.tht_tree.specs.Normal.Putting.{Puts, put_in}
use Rattle.tht_logic.specs.Assertions.{Asn, emp, fact, own, shared, star, inst, exist, either, asn_at, asn}
use Rattle.tht_logic.specs.Putting.{bound_name, zeros_made, renaming, put_assn_at, put_inside, put_in_assn}
use Rattle.assn_laws.proofs.AssnLevels.{on-Emp, on-Fact, on-Own, on-Shared, on-Star, on-Inst, on-Exists, on-Either, on-two-Emp, on-two-Fact, on-two-Own, on-two-Shared, on-two-Star, on-two-Inst, on-two-Exists, on-two-Either}

module _ (roots xs : Names) where
  pub asn-Emp : asn roots xs a.Emp ≡ emp
  asn-Emp = on-Emp Names Asn (asn_at roots) xs

  pub asn-Fact : (t : Term) → asn roots xs (a.Fact t) ≡ fact (trm roots xs t)
  asn-Fact t = on-Fact Names Asn (asn_at roots) t xs

  pub asn-Own : (t u : Term) → asn roots xs (a.Own t u) ≡ own (trm roots xs t) (trm roots xs u)
  asn-Own t u = on-Own Names Asn (asn_at roots) t u xs

  pub asn-Shared : (t u : Term) → asn roots xs (a.Shared t u) ≡ shared (trm roots xs t) (trm roots xs u)
  asn-Shared t u = on-Shared Names Asn (asn_at roots) t u xs

  pub asn-Star : (p q : Assn) → asn roots xs (a.Star p q) ≡ star (asn roots xs p) (asn roots xs q)
  asn-Star p q = on-Star Names Asn (asn_at roots) p q xs

  pub asn-Inst : (n : List ℕ) (ts : List Term) → asn roots xs (a.Inst n ts) ≡ inst n (map (trm roots xs) ts)
  asn-Inst n ts = on-Inst Names Asn (asn_at roots) n ts xs

  pub asn-Exists : (x : List ℕ) (s : Sort) (p : Assn) → asn roots xs (a.Exists x s p) ≡ exist s (asn roots (x ∷ xs) p)
  asn-Exists x s p = on-Exists Names Asn (asn_at roots) x s p xs

  pub asn-Either : (p q : Assn) → asn roots xs (a.Either p q) ≡ either (asn roots xs p) (asn roots xs q)
  asn-Either p q = on-Either Names Asn (asn_at roots) p q xs

module _ (d : ℕ) (by : Puts) where
  pub put-Emp : put_inside d by a.Emp ≡ a.Emp
  put-Emp = on-two-Emp ℕ Puts Assn put_assn_at d by

  pub put-Fact : (t : Term) → put_inside d by (a.Fact t) ≡ a.Fact (put_in by t)
  put-Fact t = on-two-Fact ℕ Puts Assn put_assn_at t d by

  pub put-Own : (t u : Term) → put_inside d by (a.Own t u) ≡ a.Own (put_in by t) (put_in by u)
  put-Own t u = on-two-Own ℕ Puts Assn put_assn_at t u d by

  pub put-Shared : (t u : Term) → put_inside d by (a.Shared t u) ≡ a.Shared (put_in by t) (put_in by u)
  put-Shared t u = on-two-Shared ℕ Puts Assn put_assn_at t u d by

  pub put-Star : (p q : Assn) → put_inside d by (a.Star p q) ≡ a.Star (put_inside d by p) (put_inside d by q)
  put-Star p q = on-two-Star ℕ Puts Assn put_assn_at p q d by

  pub put-Inst : (n : List ℕ) (ts : List Term) → put_inside d by (a.Inst n ts) ≡ a.Inst n (map (put_in by) ts)
  put-Inst n ts = on-two-Inst ℕ Puts Assn put_assn_at n ts d by

  pub put-Exists : (x : List ℕ) (s : Sort) (p : Assn) → put_inside d by (a.Exists x s p) ≡ a.Exists (bound_name d) s (put_inside (suc d) (renaming x d by) p)
  put-Exists x s p = on-two-Exists ℕ Puts Assn put_assn_at x s p d by

  pub put-Either : (p q : Assn) → put_inside d by (a.Either p q) ≡ a.Either (put_inside d by p) (put_inside d by q)
  put-Either p q = on-two-Either ℕ Puts Assn put_assn_at p q d by

-- putting in is putting in from the number on that it takes
pub put_whole : (by : Puts) (p : Assn) → put_in_assn by p ≡ put_inside (zeros_made by p) by p
unfolding put_in_assn
put_whole by p = refl
