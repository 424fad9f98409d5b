-- What flattening makes of each form of assertion.
use Rattle.std.proofs.Common.{◌≡◌, ℕ, List, [], ◌∷◌, ◌++◌, sym, ◌∙◌, ap}
use Rattle.tht_tree.specs.declared.plain.Sort.{Sort}
use Rattle.tht_tree.specs.declared.term.Term.{Term}
use Rattle.tht_tree.specs.declared.assn.Assn.{Assn}
use Rattle.tht_tree.specs.declared.assn.Assn.TheVariants as a
use Rattle.tht_logic.specs.Flatten.{Flat, flatten_at, flat_of, flatten}
use Rattle.assn_laws.proofs.AssnLevels.{Star, Exists, Either, Star-is, Exists-is, Either-is, at-Emp, at-Fact, at-Own, at-Shared, at-Star, at-Inst, at-Exists, at-Either}

-- the tree beside a list is the assertion
pub whole_is : (p : Assn) → (flat_of p).whole ≡ p
whole_is a.Emp = ap (λ r. r.whole) (at-Emp Flat flatten_at)
whole_is (a.Fact t) = ap (λ r. r.whole) (at-Fact Flat flatten_at t)
whole_is (a.Own t u) = ap (λ r. r.whole) (at-Own Flat flatten_at t u)
whole_is (a.Shared t u) = ap (λ r. r.whole) (at-Shared Flat flatten_at t u)
whole_is (Star p q) = ap (λ r. (flat_of r).whole) (sym (Star-is p q)) ∙ ap (λ r. r.whole) (at-Star Flat flatten_at p q) ∙ (λ i. a.Star (whole_is p i) (whole_is q i)) ∙ Star-is p q
whole_is (a.Inst n ts) = ap (λ r. r.whole) (at-Inst Flat flatten_at n ts)
whole_is (Exists x s p) = ap (λ r. (flat_of r).whole) (sym (Exists-is x s p)) ∙ ap (λ r. r.whole) (at-Exists Flat flatten_at x s p) ∙ ap (a.Exists x s) (whole_is p) ∙ Exists-is x s p
whole_is (Either p q) =
    ap (λ r. (flat_of r).whole) (sym (Either-is p q)) ∙ ap (λ r. r.whole) (at-Either Flat flatten_at p q) ∙ (λ i. a.Either (whole_is p i) (whole_is q i)) ∙ Either-is p q

pub flatten-Emp : flatten a.Emp ≡ []
flatten-Emp = ap (λ r. r.atoms) (at-Emp Flat flatten_at)

pub flatten-Fact : (t : Term) → flatten (a.Fact t) ≡ a.Fact t ∷ []
flatten-Fact t = ap (λ r. r.atoms) (at-Fact Flat flatten_at t)

pub flatten-Own : (t u : Term) → flatten (a.Own t u) ≡ a.Own t u ∷ []
flatten-Own t u = ap (λ r. r.atoms) (at-Own Flat flatten_at t u)

pub flatten-Shared : (t u : Term) → flatten (a.Shared t u) ≡ a.Shared t u ∷ []
flatten-Shared t u = ap (λ r. r.atoms) (at-Shared Flat flatten_at t u)

pub flatten-Star : (p q : Assn) → flatten (a.Star p q) ≡ flatten p ++ flatten q
flatten-Star p q = ap (λ r. r.atoms) (at-Star Flat flatten_at p q)

pub flatten-Inst : (n : List ℕ) (ts : List Term) → flatten (a.Inst n ts) ≡ a.Inst n ts ∷ []
flatten-Inst n ts = ap (λ r. r.atoms) (at-Inst Flat flatten_at n ts)

pub flatten-Exists : (x : List ℕ) (s : Sort) (p : Assn) → flatten (a.Exists x s p) ≡ a.Exists x s p ∷ []
flatten-Exists x s p = ap (λ r. r.atoms) (at-Exists Flat flatten_at x s p) ∙ ap (λ q. a.Exists x s q ∷ []) (whole_is p)

pub flatten-Either : (p q : Assn) → flatten (a.Either p q) ≡ a.Either p q ∷ []
flatten-Either p q = ap (λ r. r.atoms) (at-Either Flat flatten_at p q) ∙ (λ i. a.Either (whole_is p i) (whole_is q i) ∷ [])

pub ruleset flattening = (flatten-Emp, flatten-Fact, flatten-Own, flatten-Shared, flatten-Star, flatten-Inst, flatten-Exists, flatten-Either)
