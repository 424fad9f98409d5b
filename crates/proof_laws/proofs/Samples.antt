-- Small proofs, and what is refused of each, worked out by hand from the rules. Each form has one that is accepted, and some that
-- are not.
use Rattle.std.proofs.Common.{◌≡◌, ℕ, zero, suc, ◌+◌, ◌*◌, ◌^◌, ◌-◌, max, arith, List, [], ◌∷◌, Option, Some, None, sym, ◌∙◌, ap}
use Rattle.std.specs.Prelude.{bytes_eq, if◌then◌else◌}
use Rattle.tht_tree.specs.declared.plain.Spot.{Spot}
use Rattle.tht_tree.specs.declared.plain.Sort.TheVariants as sort
use Rattle.tht_tree.specs.declared.assn.Assn.{Assn, fold-roll-Assn}
use Rattle.tht_tree.specs.declared.assn.Assn.TheOpen as f
use Rattle.tht_tree.specs.declared.assn.Assn.TheVariants as a
use Rattle.tht_tree.specs.declared.state.Hyp.{Hyp}
use Rattle.tht_tree.specs.declared.state.Local.TheVariants.{Variable}
use Rattle.tht_tree.specs.declared.term.Term.{Term}
use Rattle.tht_tree.specs.declared.term.Term.TheVariants as t
use Rattle.tht_tree.specs.declared.proof.Proof.{Proof}
use Rattle.tht_tree.specs.declared.proof.LinEntry.{LinEntry, roll-LinEntry}
use Rattle.tht_tree.specs.declared.proof.ProofKind.{ProofKind, roll-ProofKind}
use Rattle.tht_tree.specs.declared.proof.ProofKind.TheOpen as p
use Rattle.tht_tree.specs.Rules.Sizes.{nodes_at, nodes, levels_at, levels, assn_nodes, assn_nodes_at}
use Rattle.tht_tree.proofs.TermFolds.{at-Num, at-Add}
use Rattle.tht_tree.specs.Rules.Context.{Context, Scope, no_locals, with_local}
use Rattle.normal_laws.proofs.TermLevels.{computing}
use Rattle.tht_tree.specs.Normal.Putting.{put_in}
use Rattle.tht_tree.specs.declared.rule.RuleCode.{RuleCode}
use Rattle.tht_tree.specs.declared.rule.RuleCode.TheVariants.{R1, R2, R5, R6, R7, R8, R9, R10, R12}
use Rattle.tht_tree.specs.declared.rule.RuleRefusal.{RuleRefusal}
use Rattle.tht_tree.specs.Rules.Shapes.{Pair}
use Rattle.tht_tree.specs.Rules.Known.{Declared}
use Rattle.tht_tree.specs.Rules.Proofs.{prove}
use Rattle.proof_laws.proofs.Levels.{prove_on, prove_kind_on, entry_multiplier, entry_fact, entry_proof}

-- ---- trees

own_nodes : (v w : Term) → assn_nodes (a.Own v w) ≡ nodes v + nodes w + 1
own_nodes v w = ap assn_nodes (sym (a.rolls-Own v w)) ∙ fold-roll-Assn ℕ assn_nodes_at (f.Own v w)

shared_nodes : (v w : Term) → assn_nodes (a.Shared v w) ≡ nodes v + nodes w + 1
shared_nodes v w = ap assn_nodes (sym (a.rolls-Shared v w)) ∙ fold-roll-Assn ℕ assn_nodes_at (f.Shared v w)

fact_nodes : (v : Term) → assn_nodes (a.Fact v) ≡ nodes v + 1
fact_nodes v = ap assn_nodes (sym (a.rolls-Fact v)) ∙ fold-roll-Assn ℕ assn_nodes_at (f.Fact v)

-- ---- what is known

-- the numbers x and y, the sequences s and u, the places p and q, and the truths b and d; g and h are roots
abbrev x : List ℕ
x = 120 ∷ []

abbrev y : List ℕ
y = 121 ∷ []

abbrev s : List ℕ
s = 115 ∷ []

abbrev u : List ℕ
u = 117 ∷ []

abbrev pl : List ℕ
pl = 112 ∷ []

abbrev ql : List ℕ
ql = 113 ∷ []

abbrev b : List ℕ
b = 98 ∷ []

abbrev d : List ℕ
d = 100 ∷ []

abbrev g : List ℕ
g = 103 ∷ []

abbrev n : List ℕ
n = 110 ∷ []

abbrev var : List ℕ → Term
var = t.Var

abbrev num : ℕ → Term
num = t.Num

-- the hypotheses 1 to 10, by the digit that is their name
abbrev h1 : List ℕ
h1 = 49 ∷ []

abbrev h2 : List ℕ
h2 = 50 ∷ []

abbrev h3 : List ℕ
h3 = 51 ∷ []

abbrev h4 : List ℕ
h4 = 52 ∷ []

abbrev h5 : List ℕ
h5 = 53 ∷ []

abbrev h6 : List ℕ
h6 = 54 ∷ []

abbrev h7 : List ℕ
h7 = 55 ∷ []

abbrev h8 : List ℕ
h8 = 56 ∷ []

abbrev h9 : List ℕ
h9 = 57 ∷ []

abbrev hyp : List ℕ → Term → Hyp
hyp h v = record { name = h; formula = v }

abbrev hyps : List Hyp
hyps =
    hyp h1 (t.Eq (var x) (var y))
    ∷ hyp h2 (t.Le (var x) (var y))
    ∷ hyp h3 (t.Le (var y) (var x))
    ∷ hyp h4 (var b)
    ∷ hyp h5 (t.Not (var d))
    ∷ hyp h6 (t.Or (var b) (var d))
    ∷ hyp h7 (t.And (var b) (var d))
    ∷ hyp h8 (t.Imp (var b) (var d))
    ∷ hyp h9 (t.Eq (t.Cons (var x) (var s)) (t.Cons (var y) (var u)))
    ∷ []

abbrev variables : Scope
variables =
    with_local (with_local (with_local (with_local (with_local (with_local (with_local (with_local no_locals x (Variable sort.Nat)) y (Variable sort.Nat)) s (Variable sort.Seq)) u (Variable sort.Seq)) pl (Variable sort.Loc)) ql (Variable sort.Loc)) b (Variable sort.Bool)) d (Variable sort.Bool)

-- the atoms 1: p -> x, 2: q => y and 3: [b]
abbrev atoms : List (ℕ × Assn)
atoms = (1, a.Own (var pl) (var x)) ∷ (2, a.Shared (var ql) (var y)) ∷ (3, a.Fact (var b)) ∷ []

abbrev known : Context
known = record { scope = variables; hyps = hyps; atoms = atoms; made = 3 }

-- The root g; the lemma l wants t <= 1 of its argument t and gives t < 2; the lemma k is not pure.
abbrev of_lemma : List ℕ → List Term → Option Pair
of_lemma l (v ∷ []) = if bytes_eq l (108 ∷ []) then Some (t.Le v (num 1), t.Lt v (num 2)) else None
of_lemma l _ = None

abbrev declared : Declared
declared = record { roots = g ∷ []; lemmas = of_lemma }

-- n <= y with x and with y for n
with_x : put_in ((n, var x) ∷ []) (t.Le (var n) (var y)) ≡ t.Le (var x) (var y)
with_x = simp computing

with_y : put_in ((n, var y) ∷ []) (t.Le (var n) (var y)) ≡ t.Le (var y) (var y)
with_y = simp computing

ruleset by_levels = (with_x, with_y, prove_on, prove_kind_on, entry_multiplier, entry_fact, entry_proof, own_nodes, shared_nodes, fact_nodes, computing)

-- ---- proofs

abbrev at : ℕ → Spot
at column = record { line = 1; column = column }

-- a proof of this form that stands in this column
abbrev in_column : ℕ → p.ProofKind-F ProofKind LinEntry Proof → Proof
in_column column k = record { spot = at column; kind = roll-ProofKind k }

abbrev entry : ℕ → Term → Proof → LinEntry
entry k v q = roll-LinEntry (record { multiplier = k; fact = v; proof = q })

-- what is refused of the proof of this form in column 1 of this goal
abbrev of : p.ProofKind-F ProofKind LinEntry Proof → Term → Option RuleRefusal
of k goal = prove declared (in_column 1 k) known goal

abbrev accepted : Option RuleRefusal
accepted = None

-- this code at this column
abbrev refused : ℕ → RuleCode → Option RuleRefusal
refused column code = Some (record { spot = at column; code = code })

-- ---- hyp and refl

-- hyp 1 : x = y
its_formula : of (p.Hyp h1) (t.Eq (var x) (var y)) ≡ accepted
its_formula = simp by_levels

-- hyp 1 : y = x
another_formula : of (p.Hyp h1) (t.Eq (var y) (var x)) ≡ refused 1 R5
another_formula = simp by_levels

-- refl : x + 1 = x + 1
same_sides : of (p.Refl) (t.Eq (t.Add (var x) (num 1)) (t.Add (var x) (num 1))) ≡ accepted
same_sides = simp by_levels

-- refl : x + 1 = 1 + x
sides_turned : of (p.Refl) (t.Eq (t.Add (var x) (num 1)) (t.Add (num 1) (var x))) ≡ refused 1 R5
sides_turned = simp by_levels

-- refl : x <= x
no_equation : of (p.Refl) (t.Le (var x) (var x)) ≡ refused 1 R5
no_equation = simp by_levels

-- ---- calc and as

-- calc : x + 1 = 1 + x
one_normal_form : of (p.Calc) (t.Eq (t.Add (var x) (num 1)) (t.Add (num 1) (var x))) ≡ accepted
one_normal_form = simp by_levels

-- calc : x = y
not_computed : of (p.Calc) (t.Eq (var x) (var y)) ≡ refused 1 R8
not_computed = simp by_levels

-- calc : 2^64 - 1 times itself times 2 is 0: too wide
too_wide : of (p.Calc) (t.Eq (t.Mul (t.Mul (num (2 ^ 64 - 1)) (num (2 ^ 64 - 1))) (num 2)) (num 0)) ≡ refused 1 R7
too_wide = simp by_levels

-- as [x = y] hyp 1 : x + 0 = y
recast : of (p.Recast (t.Eq (var x) (var y)) (in_column 2 (p.Hyp h1))) (t.Eq (t.Add (var x) (num 0)) (var y)) ≡ accepted
recast = simp by_levels

-- as [x = y] hyp 1 : x = y + 1
recast_differs : of (p.Recast (t.Eq (var x) (var y)) (in_column 2 (p.Hyp h1))) (t.Eq (var x) (t.Add (var y) (num 1))) ≡ refused 1 R8
recast_differs = simp by_levels

-- as [x = y] todo : b: the proof comes before the normal forms
recast_proof_first : of (p.Recast (t.Eq (var x) (var y)) (in_column 2 p.Todo)) (var b) ≡ refused 2 R9
recast_proof_first = simp by_levels

-- ---- sym and both

-- sym hyp 1 : y = x
turned : of (p.Sym (in_column 2 (p.Hyp h1))) (t.Eq (var y) (var x)) ≡ accepted
turned = simp by_levels

-- sym hyp 1 : x = y
not_turned : of (p.Sym (in_column 2 (p.Hyp h1))) (t.Eq (var x) (var y)) ≡ refused 2 R5
not_turned = simp by_levels

-- sym todo : b
sym_shape_first : of (p.Sym (in_column 2 p.Todo)) (var b) ≡ refused 1 R5
sym_shape_first = simp by_levels

-- both hyp 2 hyp 3 : x = y
both_ways : of (p.Both (in_column 2 (p.Hyp h2)) (in_column 3 (p.Hyp h3))) (t.Eq (var x) (var y)) ≡ accepted
both_ways = simp by_levels

-- both hyp 2 hyp 2 : x = y
one_way : of (p.Both (in_column 2 (p.Hyp h2)) (in_column 3 (p.Hyp h2))) (t.Eq (var x) (var y)) ≡ refused 3 R5
one_way = simp by_levels

-- both todo todo : s = u
not_numbers : of (p.Both (in_column 2 p.Todo) (in_column 3 p.Todo)) (t.Eq (var s) (var u)) ≡ refused 1 R5
not_numbers = simp by_levels

-- ---- subst

-- subst (n : nat . n <= y) [x] [y] hyp 1 hyp 2 : y <= y
equals_put_in : of (p.Subst n sort.Nat (t.Le (var n) (var y)) (var x) (var y) (in_column 2 (p.Hyp h1)) (in_column 3 (p.Hyp h2))) (t.Le (var y) (var y)) ≡ accepted
equals_put_in = simp by_levels

-- subst (n : nat . n <= y) [x] [y] todo todo : x <= y
another_goal : of (p.Subst n sort.Nat (t.Le (var n) (var y)) (var x) (var y) (in_column 2 p.Todo) (in_column 3 p.Todo)) (t.Le (var x) (var y)) ≡ refused 1 R5
another_goal = simp by_levels

-- subst (n : nat . n <= y) [y] [x] hyp 1 hyp 2 : x <= y: y = x is to be proved first
other_equation : of (p.Subst n sort.Nat (t.Le (var n) (var y)) (var y) (var x) (in_column 2 (p.Hyp h1)) (in_column 3 (p.Hyp h2))) (t.Le (var x) (var y)) ≡ refused 2 R5
other_equation = simp by_levels

-- ---- connectives

-- pair hyp 4 hyp 5 : b and not d
pair : of (p.Pair (in_column 2 (p.Hyp h4)) (in_column 3 (p.Hyp h5))) (t.And (var b) (t.Not (var d))) ≡ accepted
pair = simp by_levels

-- pair hyp 4 todo : b and d
second_part : of (p.Pair (in_column 2 (p.Hyp h4)) (in_column 3 p.Todo)) (t.And (var b) (var d)) ≡ refused 3 R9
second_part = simp by_levels

-- fst [d] hyp 7 : b
first_of : of (p.Fst (var d) (in_column 2 (p.Hyp h7))) (var b) ≡ accepted
first_of = simp by_levels

-- fst [b] hyp 7 : d
not_first : of (p.Fst (var b) (in_column 2 (p.Hyp h7))) (var d) ≡ refused 2 R5
not_first = simp by_levels

-- snd [b] hyp 7 : d
second_of : of (p.Snd (var b) (in_column 2 (p.Hyp h7))) (var d) ≡ accepted
second_of = simp by_levels

-- snd [d] hyp 7 : b
not_second : of (p.Snd (var d) (in_column 2 (p.Hyp h7))) (var b) ≡ refused 2 R5
not_second = simp by_levels

-- inl hyp 4 : b or d
left_part : of (p.Inl (in_column 2 (p.Hyp h4))) (t.Or (var b) (var d)) ≡ accepted
left_part = simp by_levels

-- inl hyp 4 : d or b
not_left : of (p.Inl (in_column 2 (p.Hyp h4))) (t.Or (var d) (var b)) ≡ refused 2 R5
not_left = simp by_levels

-- inr hyp 4 : d or b
right_part : of (p.Inr (in_column 2 (p.Hyp h4))) (t.Or (var d) (var b)) ≡ accepted
right_part = simp by_levels

-- inr todo : b and d
inr_shape_first : of (p.Inr (in_column 2 p.Todo)) (t.And (var b) (var d)) ≡ refused 1 R5
inr_shape_first = simp by_levels

-- cases [b or d] hyp 6 { n . hyp n } { n . absurd (neg [d] hyp 5 hyp n) } : b
two_cases : of (p.Cases (t.Or (var b) (var d)) (in_column 2 (p.Hyp h6)) n (in_column 3 (p.Hyp n)) n (in_column 4 (p.Absurd (in_column 5 (p.Neg (var d) (in_column 6 (p.Hyp h5)) (in_column 7 (p.Hyp n))))))) (var b) ≡ accepted
two_cases = simp by_levels

-- cases [b or d] hyp 6 { n . hyp n } { n . hyp n } : b
second_case : of (p.Cases (t.Or (var b) (var d)) (in_column 2 (p.Hyp h6)) n (in_column 3 (p.Hyp n)) n (in_column 4 (p.Hyp n))) (var b) ≡ refused 4 R5
second_case = simp by_levels

-- cases [b and d] todo { n . todo } { n . todo } : b
no_disjunction : of (p.Cases (t.And (var b) (var d)) (in_column 2 p.Todo) n (in_column 3 p.Todo) n (in_column 4 p.Todo)) (var b) ≡ refused 1 R5
no_disjunction = simp by_levels

-- fun n . hyp n : d imp d
implication : of (p.Fun n (in_column 2 (p.Hyp n))) (t.Imp (var d) (var d)) ≡ accepted
implication = simp by_levels

-- fun n . neg [d] hyp 5 hyp n : not d
negation : of (p.Fun n (in_column 2 (p.Neg (var d) (in_column 3 (p.Hyp h5)) (in_column 4 (p.Hyp n))))) (t.Not (var d)) ≡ accepted
negation = simp by_levels

-- fun n . hyp n : not d: false is to be proved
not_false : of (p.Fun n (in_column 2 (p.Hyp n))) (t.Not (var d)) ≡ refused 2 R5
not_false = simp by_levels

-- app [b] hyp 8 hyp 4 : d
applied : of (p.App (var b) (in_column 2 (p.Hyp h8)) (in_column 3 (p.Hyp h4))) (var d) ≡ accepted
applied = simp by_levels

-- app [d] hyp 8 hyp 4 : b
another_implication : of (p.App (var d) (in_column 2 (p.Hyp h8)) (in_column 3 (p.Hyp h4))) (var b) ≡ refused 2 R5
another_implication = simp by_levels

-- neg [d] hyp 5 (app [b] hyp 8 hyp 4) : false
contradiction : of (p.Neg (var d) (in_column 2 (p.Hyp h5)) (in_column 3 (p.App (var b) (in_column 4 (p.Hyp h8)) (in_column 5 (p.Hyp h4))))) t.False ≡ accepted
contradiction = simp by_levels

-- neg [d] hyp 5 todo : false
neg_second : of (p.Neg (var d) (in_column 2 (p.Hyp h5)) (in_column 3 p.Todo)) t.False ≡ refused 3 R9
neg_second = simp by_levels

-- neg [d] todo todo : b
neg_shape_first : of (p.Neg (var d) (in_column 2 p.Todo) (in_column 3 p.Todo)) (var b) ≡ refused 1 R5
neg_shape_first = simp by_levels

-- absurd (neg [d] hyp 5 (app [b] hyp 8 hyp 4)) : s = u
from_false : of (p.Absurd (in_column 2 (p.Neg (var d) (in_column 3 (p.Hyp h5)) (in_column 4 (p.App (var b) (in_column 5 (p.Hyp h8)) (in_column 6 (p.Hyp h4))))))) (t.Eq (var s) (var u)) ≡ accepted
from_false = simp by_levels

-- absurd hyp 4 : d
no_contradiction : of (p.Absurd (in_column 2 (p.Hyp h4))) (var d) ≡ refused 2 R5
no_contradiction = simp by_levels

-- em [b] { n . inl hyp n } { n . inr hyp n } : b or not b
excluded_middle : of (p.Em (var b) n (in_column 2 (p.Inl (in_column 3 (p.Hyp n)))) n (in_column 4 (p.Inr (in_column 5 (p.Hyp n))))) (t.Or (var b) (t.Not (var b))) ≡ accepted
excluded_middle = simp by_levels

-- em [b] { n . hyp n } { n . hyp n } : b
second_is_negation : of (p.Em (var b) n (in_column 2 (p.Hyp n)) n (in_column 3 (p.Hyp n))) (var b) ≡ refused 3 R5
second_is_negation = simp by_levels

-- ---- linear certificates

-- lin 1 { 1 [x <= y] hyp 2 } : x < y + 1
one_fact : of (p.Lin 1 (entry 1 (t.Le (var x) (var y)) (in_column 2 (p.Hyp h2)) ∷ [])) (t.Lt (var x) (t.Add (var y) (num 1))) ≡ accepted
one_fact = simp by_levels

-- lin 2 { 2 [x <= y] hyp 2 } : 2 * x <= 2 * y + 1, whose negation is 2 * y + 2 <= 2 * x
larger_multipliers : of (p.Lin 1 (entry 2 (t.Le (var x) (var y)) (in_column 2 (p.Hyp h2)) ∷ [])) (t.Le (t.Mul (num 2) (var x)) (t.Add (t.Mul (num 2) (var y)) (num 1))) ≡ accepted
larger_multipliers = simp by_levels

-- lin 1 { 1 [x <= y] hyp 2 } : x < y
refutes_not : of (p.Lin 1 (entry 1 (t.Le (var x) (var y)) (in_column 2 (p.Hyp h2)) ∷ [])) (t.Lt (var x) (var y)) ≡ refused 1 R6
refutes_not = simp by_levels

-- lin 1 { 1 [x = y] hyp 1 } : x + 1 = y + 1
equation_both_ways : of (p.Lin 1 (entry 1 (t.Eq (var x) (var y)) (in_column 2 (p.Hyp h1)) ∷ [])) (t.Eq (t.Add (var x) (num 1)) (t.Add (var y) (num 1))) ≡ accepted
equation_both_ways = simp by_levels

-- lin 1 { 1 [x <= y] todo } : x = y: a fact must be an equation too
fact_is_no_equation : of (p.Lin 1 (entry 1 (t.Le (var x) (var y)) (in_column 2 p.Todo) ∷ [])) (t.Eq (var x) (var y)) ≡ refused 1 R5
fact_is_no_equation = simp by_levels

-- lin 0 { 1 [y < x] todo, 1 [x <= y] todo } : false
lin_proofs_in_order : of (p.Lin 0 (entry 1 (t.Lt (var y) (var x)) (in_column 2 p.Todo) ∷ entry 1 (t.Le (var x) (var y)) (in_column 3 p.Todo) ∷ [])) t.False ≡ refused 2 R9
lin_proofs_in_order = simp by_levels

-- lin 1 { 1 [not (x <= y)] absurd .. , 1 [x <= y] hyp 2 } : false
false_goal : of (p.Lin 1 (entry 1 (t.Not (t.Le (var x) (var y))) (in_column 2 (p.Absurd (in_column 3 (p.Neg (var d) (in_column 4 (p.Hyp h5)) (in_column 5 (p.App (var b) (in_column 6 (p.Hyp h8)) (in_column 7 (p.Hyp h4)))))))) ∷ entry 1 (t.Le (var x) (var y)) (in_column 8 (p.Hyp h2)) ∷ [])) t.False ≡ accepted
false_goal = simp by_levels

-- lin 1 { 1 [1 <= 2] todo, 1 [true] calc } : x <= y: entry by entry
entry_by_entry : of (p.Lin 1 (entry 1 (t.Le (num 1) (num 2)) (in_column 2 p.Todo) ∷ entry 1 t.True (in_column 3 p.Calc) ∷ [])) (t.Le (var x) (var y)) ≡ refused 2 R9
entry_by_entry = simp by_levels

-- lin 1 { 1 [1 <= 2] calc, 1 [true] todo } : x <= y
fact_has_no_reading : of (p.Lin 1 (entry 1 (t.Le (num 1) (num 2)) (in_column 2 p.Calc) ∷ entry 1 t.True (in_column 3 p.Todo) ∷ [])) (t.Le (var x) (var y)) ≡ refused 1 R5
fact_has_no_reading = simp by_levels

-- lin 1 { 1 [x = y] hyp 1 } : x = y + 1: y + 1 < x is refuted, and x < y + 1 is not
second_check : of (p.Lin 1 (entry 1 (t.Eq (var x) (var y)) (in_column 2 (p.Hyp h1)) ∷ [])) (t.Eq (var x) (t.Add (var y) (num 1))) ≡ refused 1 R6
second_check = simp by_levels

-- lin 1 { 1 [(2^64 - 1) * (2^64 - 1) <= x] todo } : x <= y: the proofs come before the readings
readings_after_proofs : of (p.Lin 1 (entry 1 (t.Le (t.Mul (num (2 ^ 64 - 1)) (num (2 ^ 64 - 1))) (var x)) (in_column 2 p.Todo) ∷ [])) (t.Le (var x) (var y)) ≡ refused 2 R9
readings_after_proofs = simp by_levels

-- lin 1 { } : b
lin_shape_first : of (p.Lin 1 []) (var b) ≡ refused 1 R5
lin_shape_first = simp by_levels

-- lin (2^64 - 1) { } : (2^64 - 1) * (2^64 - 1) <= x: the negation has a coefficient outside i128
reading_too_wide : of (p.Lin 1 []) (t.Le (t.Mul (num (2 ^ 64 - 1)) (num (2 ^ 64 - 1))) (var x)) ≡ refused 1 R7
reading_too_wide = simp by_levels

-- lin (2^64 - 1) { } : 2^63 * (2^63 * x) <= y: a product of the certificate is outside i128
product_too_wide : of (p.Lin (2 ^ 64 - 1) []) (t.Le (t.Mul (num (2 ^ 63)) (t.Mul (num (2 ^ 63)) (var x))) (var y)) ≡ refused 1 R7
product_too_wide = simp by_levels

-- ---- differences and sequences

-- monus hyp 3 : (x - y) + y = x
restored : of (p.Monus (in_column 2 (p.Hyp h3))) (t.Eq (t.Add (t.Sub (var x) (var y)) (var y)) (var x)) ≡ accepted
restored = simp by_levels

-- monus hyp 2 : x - y = 0
nothing_left : of (p.Monus (in_column 2 (p.Hyp h2))) (t.Eq (t.Sub (var x) (var y)) (num 0)) ≡ accepted
nothing_left = simp by_levels

-- monus hyp 3 : x - y = 0
wrong_way : of (p.Monus (in_column 2 (p.Hyp h3))) (t.Eq (t.Sub (var x) (var y)) (num 0)) ≡ refused 2 R5
wrong_way = simp by_levels

-- monus todo : (x - y) + x = x
other_number : of (p.Monus (in_column 2 p.Todo)) (t.Eq (t.Add (t.Sub (var x) (var y)) (var x)) (var x)) ≡ refused 1 R5
other_number = simp by_levels

-- head [s] [u] hyp 9 : x = y
heads : of (p.Head (var s) (var u) (in_column 2 (p.Hyp h9))) (t.Eq (var x) (var y)) ≡ accepted
heads = simp by_levels

-- head [u] [s] hyp 9 : x = y
other_tails : of (p.Head (var u) (var s) (in_column 2 (p.Hyp h9))) (t.Eq (var x) (var y)) ≡ refused 2 R5
other_tails = simp by_levels

-- head [s] [u] todo : p = q
heads_are_numbers : of (p.Head (var s) (var u) (in_column 2 p.Todo)) (t.Eq (var pl) (var ql)) ≡ refused 1 R5
heads_are_numbers = simp by_levels

-- tail [x] [y] hyp 9 : s = u
tails : of (p.Tail (var x) (var y) (in_column 2 (p.Hyp h9))) (t.Eq (var s) (var u)) ≡ accepted
tails = simp by_levels

-- tail [x] [y] todo : x = y
tails_are_sequences : of (p.Tail (var x) (var y) (in_column 2 p.Todo)) (t.Eq (var x) (var y)) ≡ refused 1 R5
tails_are_sequences = simp by_levels

-- nocons : not (nil = (x :: s))
nocons : of (p.Nocons) (t.Not (t.Eq t.Nil (t.Cons (var x) (var s)))) ≡ accepted
nocons = simp by_levels

-- nocons : not ((x :: s) = nil)
nocons_turned : of (p.Nocons) (t.Not (t.Eq (t.Cons (var x) (var s)) t.Nil)) ≡ refused 1 R5
nocons_turned = simp by_levels

-- ---- cells

-- apart 1 2 : not (p = q)
two_cells : of (p.Apart 1 2) (t.Not (t.Eq (var pl) (var ql))) ≡ accepted
two_cells = simp by_levels

-- apart 2 1 : not (p = q)
cells_turned : of (p.Apart 2 1) (t.Not (t.Eq (var pl) (var ql))) ≡ refused 1 R5
cells_turned = simp by_levels

-- apart 1 1 : not (p = p)
one_cell : of (p.Apart 1 1) (t.Not (t.Eq (var pl) (var pl))) ≡ refused 1 R5
one_cell = simp by_levels

-- apart 3 7 : not (p = q): a missing atom comes before one that is no cell
missing_first : of (p.Apart 3 7) (t.Not (t.Eq (var pl) (var ql))) ≡ refused 1 R1
missing_first = simp by_levels

-- apart 3 3 : not (p = q): one that is no cell comes before equal numbers
no_cell_next : of (p.Apart 3 3) (t.Not (t.Eq (var pl) (var ql))) ≡ refused 1 R2
no_cell_next = simp by_levels

-- nonnull 2 : not (q = null)
not_null : of (p.Nonnull 2) (t.Not (t.Eq (var ql) t.Null)) ≡ accepted
not_null = simp by_levels

-- nonnull 4 : not (q = null)
no_such_atom : of (p.Nonnull 4) (t.Not (t.Eq (var ql) t.Null)) ≡ refused 1 R1
no_such_atom = simp by_levels

-- nonnull 3 : not (q = null)
no_cell : of (p.Nonnull 3) (t.Not (t.Eq (var ql) t.Null)) ≡ refused 1 R2
no_cell = simp by_levels

-- nonnull 1 : not (q = null)
another_place : of (p.Nonnull 1) (t.Not (t.Eq (var ql) t.Null)) ≡ refused 1 R5
another_place = simp by_levels

-- ---- lemma and todo

-- lemma l(0) calc : 0 < 2
lemma : of (p.Lemma (108 ∷ []) (num 0 ∷ []) (in_column 2 p.Calc)) (t.Lt (num 0) (num 2)) ≡ accepted
lemma = simp by_levels

-- lemma l(x) todo : 0 < 2: the goal comes before the proof
lemma_gives_another : of (p.Lemma (108 ∷ []) (var x ∷ []) (in_column 2 p.Todo)) (t.Lt (num 0) (num 2)) ≡ refused 1 R5
lemma_gives_another = simp by_levels

-- lemma l(x) calc : x < 2
lemma_wants : of (p.Lemma (108 ∷ []) (var x ∷ []) (in_column 2 p.Calc)) (t.Lt (var x) (num 2)) ≡ refused 2 R8
lemma_wants = simp by_levels

-- lemma k(x) todo : b
not_pure : of (p.Lemma (107 ∷ []) (var x ∷ []) (in_column 2 p.Todo)) (var b) ≡ refused 1 R12
not_pure = simp by_levels

-- todo : b
always : of (p.Todo) (var b) ≡ refused 1 R9
always = simp by_levels

-- inl todo : b or d
todo_inside : of (p.Inl (in_column 2 p.Todo)) (t.Or (var b) (var d)) ≡ refused 2 R9
todo_inside = simp by_levels

-- ---- sizes

-- a sum of ones with so many operators
deep : ℕ → Term
deep zero = num 1
deep (suc k) = t.Add (deep k) (num 1)

deep_nodes : (k : ℕ) → nodes (deep k) ≡ 2 * k + 1
unfolding deep
deep_nodes zero = at-Num ℕ nodes_at 1
deep_nodes (suc k) = at-Add ℕ nodes_at (deep k) (num 1) ∙ (λ i. deep_nodes k i + at-Num ℕ nodes_at 1 i + 1) ∙ (omega arith)

deep_levels : (k : ℕ) → levels (deep k) ≡ k + 1
unfolding deep
deep_levels zero = at-Num ℕ levels_at 1
deep_levels (suc k) = at-Add ℕ levels_at (deep k) (num 1) ∙ (λ i. max (deep_levels k i) (at-Num ℕ levels_at 1 i) + 1) ∙ (omega arith)

ruleset with_deep = (deep_nodes, deep_levels, by_levels)

-- snd [1 + .. + 1 <= 0] todo : b, where the conjunction has a thousand levels, and one more
abbrev snd_of : ℕ → Option RuleRefusal
snd_of k = of (p.Snd (t.Le (deep k) (num 0)) (in_column 2 p.Todo)) (var b)

thousand_levels : snd_of 997 ≡ refused 2 R9
thousand_levels = simp with_deep

one_level_more : snd_of 998 ≡ refused 1 R10
one_level_more = simp with_deep

-- the hypothesis of `fun` counts with all that is known: that is 262,143 nodes here
abbrev much_known : Context
much_known = record { scope = variables; hyps = hyp h1 (deep 131071) ∷ []; atoms = []; made = 0 }

-- fun n . hyp n : b imp b
all_known_fits : prove declared (in_column 1 (p.Fun n (in_column 2 (p.Hyp n)))) much_known (t.Imp (var b) (var b)) ≡ accepted
all_known_fits = simp with_deep

-- fun n . todo : not b imp not b
all_known_is_large : prove declared (in_column 1 (p.Fun n (in_column 2 p.Todo))) much_known (t.Imp (t.Not (var b)) (t.Not (var b))) ≡ refused 1 R10
all_known_is_large = simp with_deep
