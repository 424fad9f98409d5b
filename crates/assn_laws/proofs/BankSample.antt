-- The give of a whole invariant: two accounts that hold 150 together.
use Rattle.std.proofs.Common.{◌≡◌, ℕ, List, [], ◌∷◌, Option, Some, None, Ok, Err}
use Rattle.std.specs.Prelude.{bytes_eq, if◌then◌else◌}
use Rattle.tht_tree.specs.declared.plain.Sort.TheVariants as sort
use Rattle.tht_tree.specs.declared.term.Term.{Term}
use Rattle.tht_tree.specs.declared.term.Term.TheVariants as t
use Rattle.tht_tree.specs.declared.assn.Assn.{Assn}
use Rattle.tht_tree.specs.declared.assn.Assn.TheVariants as a
use Rattle.tht_tree.specs.declared.give.GiveKind.TheOpen as g
use Rattle.tht_tree.specs.declared.proof.ProofKind.TheOpen as p
use Rattle.tht_tree.specs.declared.rule.RuleCode.TheVariants.{R1, R4}
use Rattle.tht_tree.specs.Rules.Context.{Context, no_locals}
use Rattle.tht_logic.specs.Putting.{put_in_assn}
use Rattle.tht_logic.specs.Rules.Checking.{Checked}
use Rattle.tht_logic.specs.Rules.Definitions.{Predicate, one_case, Declarations}
use Rattle.tht_logic.specs.Rules.Gives.{Atoms, frame_of}
use Rattle.assn_laws.proofs.Samples.{o, oo, num, var, refusal, in_column, proof_in, by_levels, by_putting}

-- the roots a and b, the variables v and w, and the predicate k
abbrev ra : List ℕ
ra = 97 ∷ []

abbrev rb : List ℕ
rb = 98 ∷ []

abbrev v : List ℕ
v = 118 ∷ []

abbrev w : List ℕ
w = 119 ∷ []

abbrev bank : List ℕ
bank = 107 ∷ []

--     shared pred k () = exists v : nat . exists w : nat . a => v * b => w * [v + w = 150];
abbrev body_of : Term → Term → Assn
body_of x y = a.Star (a.Star (a.Shared (var ra) x) (a.Shared (var rb) y)) (a.Fact (t.Eq (t.Add x y) (num 150)))

abbrev bank_body : Assn
bank_body = a.Exists v sort.Nat (a.Exists w sort.Nat (body_of (var v) (var w)))

abbrev of_name : List ℕ → Option Predicate
of_name n = if bytes_eq bank n then Some (one_case [] bank_body) else None

abbrev decl : Declarations
decl = record { proofs = record { roots = ra ∷ rb ∷ []; lemmas = λ l ts. None }; predicates = of_name; lemmas = λ l. None; procs = λ f. None }

-- 1: a => 100, 2: b => 50
abbrev atoms : Atoms
atoms = (1, a.Shared (var ra) (num 100)) ∷ (2, a.Shared (var rb) (num 50)) ∷ []

abbrev known : Context
known = record { scope = no_locals; hyps = []; atoms = atoms; made = 2 }

put_body : put_in_assn [] bank_body ≡ a.Exists o sort.Nat (a.Exists oo sort.Nat (body_of (var o) (var oo)))
put_body = simp by_putting

put_first : (x : ℕ) → put_in_assn ((o, num x) ∷ []) (a.Exists oo sort.Nat (body_of (var o) (var oo))) ≡ a.Exists o sort.Nat (body_of (num x) (var o))
put_first x = simp by_putting

put_second : (x y : ℕ) → put_in_assn ((o, num y) ∷ []) (body_of (num x) (var o)) ≡ body_of (num x) (num y)
put_second x y = simp by_putting

ruleset by_puts = (put_body, put_first, put_second, by_levels)

-- fold ex [x] ex [y] (@i * @j * [calc]) : k()
abbrev of : ℕ → ℕ → ℕ → ℕ → Checked Atoms
of x y i j =
    frame_of decl known (in_column 1 (g.Fold (in_column 6 (g.Ex (num x) (in_column 15 (g.Ex (num y) (in_column 24
    (g.Star (in_column 24 (g.Star (in_column 24 (g.Atom i)) (in_column 29 (g.Atom j)))) (in_column 34 (g.Fact (proof_in 35 p.Calc))))))))))) atoms (a.Inst bank [])

whole : of 100 50 1 2 ≡ Ok []
whole = simp by_puts

-- the other account's number
turned : of 50 100 1 2 ≡ Err (refusal 24 R4)
turned = simp by_puts

twice : of 100 50 1 1 ≡ Err (refusal 29 R1)
twice = simp by_puts

-- 100 + 60 is not 150, but the cell is asked first
cell_first : of 100 60 1 2 ≡ Err (refusal 29 R4)
cell_first = simp by_puts
