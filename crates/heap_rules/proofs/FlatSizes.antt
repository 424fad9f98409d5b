-- How many atoms an assertion has, and how large they are together.
use Rattle.std.proofs.Common.{◌≡◌, ◌≢◌, ℕ, ◌+◌, [], ◌∷◌, length, sum_by, refl, sym, ◌∙◌, ap, subst, arith}
use Rattle.std.proofs.lemmas.List.{length-append}
use Rattle.std.proofs.lemmas.List.Sums.{sum_by-append, sum_by-cons}
use Rattle.tht_tree.specs.declared.assn.Assn.{Assn}
use Rattle.tht_tree.specs.declared.assn.Assn.TheVariants as a
use Rattle.tht_tree.specs.Rules.Sizes.{assn_nodes}
use Rattle.tht_logic.specs.Flatten.{flatten}
use Rattle.assn_laws.proofs.AssnLevels.{Star, Exists, Either, Star-is, Exists-is, Either-is}
use Rattle.assn_laws.proofs.Flattening.{flatten-Emp, flatten-Fact, flatten-Own, flatten-Shared, flatten-Star, flatten-Inst, flatten-Exists, flatten-Either}

abbrev IsOne : Assn → Type 0
IsOne p = flatten p ≡ p ∷ []

pub an_atom : (p : Assn) → p ≢ a.Emp → ((q r : Assn) → p ≢ a.Star q r) → flatten p ≡ p ∷ []
an_atom a.Emp e s = absurd (e refl)
an_atom (a.Fact t) e s = flatten-Fact t
an_atom (a.Own t u) e s = flatten-Own t u
an_atom (a.Shared t u) e s = flatten-Shared t u
an_atom (Star p q) e s = absurd (s p q (sym (Star-is p q)))
an_atom (a.Inst n ts) e s = flatten-Inst n ts
an_atom (Exists x r p) e s = subst IsOne (Exists-is x r p) (flatten-Exists x r p)
an_atom (Either p q) e s = subst IsOne (Either-is p q) (flatten-Either p q)

abbrev pub size : Assn → ℕ
size p = sum_by assn_nodes (flatten p)

pub size_emp : size a.Emp ≡ 0
size_emp = ap (sum_by assn_nodes) flatten-Emp

pub size_star : (p q : Assn) → size (a.Star p q) ≡ size p + size q
size_star p q = ap (sum_by assn_nodes) (flatten-Star p q) ∙ sum_by-append assn_nodes (flatten p) (flatten q)

pub size_one : (p : Assn) → p ≢ a.Emp → ((q r : Assn) → p ≢ a.Star q r) → size p ≡ assn_nodes p
size_one p e s = let f = ap (sum_by assn_nodes) (an_atom p e s) in let g = sum_by-cons assn_nodes p [] in omega (arith, f, g)

abbrev pub count : Assn → ℕ
count p = length (flatten p)

pub count_emp : count a.Emp ≡ 0
count_emp = ap length flatten-Emp

pub count_star : (p q : Assn) → count (a.Star p q) ≡ count p + count q
count_star p q = ap length (flatten-Star p q) ∙ length-append (flatten p) (flatten q)

pub count_one : (p : Assn) → p ≢ a.Emp → ((q r : Assn) → p ≢ a.Star q r) → count p ≡ 1
count_one p e s = ap length (an_atom p e s)
