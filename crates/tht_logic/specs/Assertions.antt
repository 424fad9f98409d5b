-- Assertions with bound variables by position: two that differ in the names of bound variables alone are one.
use Rattle.std.specs.Prelude.{ℕ, List, ◌∷◌, map}
use Rattle.tht_tree.specs.declared.plain.Sort.{Sort}
use Rattle.tht_tree.specs.declared.assn.Assn.{Assn, fold-Assn}
use Rattle.tht_tree.specs.declared.assn.Assn.TheOpen as a
use Rattle.tht_tree.specs.Syntax.{Names, Trm, trm}

-- An assertion: the empty heap; a formula; one private cell and one shared cell at a place with a value (points-to); two disjoint parts
-- of the heap (separating conjunction); an instance of a predicate; some value of a sort, which what stands behind calls `bound 0`
-- (existential); and one of two (disjunction).
pub data Asn : Type 0 where
  emp : Asn
  fact : Trm → Asn
  own : Trm → Trm → Asn
  shared : Trm → Trm → Asn
  star : Asn → Asn → Asn
  inst : List ℕ → List Trm → Asn
  exist : Sort → Asn → Asn
  either : Asn → Asn → Asn

abbrev pub asn_at : Names → a.Assn-F (Names → Asn) → Names → Asn
asn_at roots a.Emp xs = emp
asn_at roots (a.Fact t) xs = fact (trm roots xs t)
asn_at roots (a.Own t u) xs = own (trm roots xs t) (trm roots xs u)
asn_at roots (a.Shared t u) xs = shared (trm roots xs t) (trm roots xs u)
asn_at roots (a.Star p q) xs = star (p xs) (q xs)
asn_at roots (a.Inst p ts) xs = inst p (map (trm roots xs) ts)
asn_at roots (a.Exists x s p) xs = exist s (p (x ∷ xs))
asn_at roots (a.Either p q) xs = either (p xs) (q xs)

-- the assertion, where these are the roots and these names are bound
abbrev pub asn : Names → Names → Assn → Asn
asn roots xs p = fold-Assn (Names → Asn) (asn_at roots) p xs
