-- Small assertions, steps and gives, and what the rules make of them, worked out by hand. Each form of step and of give has one that is
-- accepted, and some that are not.
use Rattle.std.proofs.Common.{◌≡◌, ℕ, true, false, List, [], ◌∷◌, Option, Some, None, Ok, Err}
use Rattle.std.specs.Prelude.{bytes_eq, if◌then◌else◌}
use Rattle.tht_tree.specs.declared.plain.Spot.{Spot}
use Rattle.tht_tree.specs.declared.plain.Sort.{Sort}
use Rattle.tht_tree.specs.declared.plain.Sort.TheVariants as sort
use Rattle.tht_tree.specs.declared.term.Term.{Term}
use Rattle.tht_tree.specs.declared.term.Term.TheVariants as t
use Rattle.tht_tree.specs.declared.assn.Assn.{Assn}
use Rattle.tht_tree.specs.declared.assn.Assn.TheVariants as a
use Rattle.tht_tree.specs.declared.decl.Param.{Param}
use Rattle.tht_tree.specs.declared.state.Hyp.{Hyp}
use Rattle.tht_tree.specs.declared.state.Local.TheVariants.{Variable}
use Rattle.tht_tree.specs.declared.proof.Proof.{Proof}
use Rattle.tht_tree.specs.declared.proof.LinEntry.{LinEntry}
use Rattle.tht_tree.specs.declared.proof.ProofKind.{ProofKind, roll-ProofKind}
use Rattle.tht_tree.specs.declared.proof.ProofKind.TheOpen as p
use Rattle.tht_tree.specs.declared.give.Give.{Give}
use Rattle.tht_tree.specs.declared.give.GiveKind.{GiveKind, roll-GiveKind}
use Rattle.tht_tree.specs.declared.give.GiveKind.TheOpen as g
use Rattle.tht_tree.specs.declared.rule.RuleCode.{RuleCode}
use Rattle.tht_tree.specs.declared.rule.RuleCode.TheVariants.{R1, R4, R5, R13}
use Rattle.tht_tree.specs.declared.rule.RuleRefusal.{RuleRefusal}
use Rattle.tht_tree.specs.Rules.Context.{Context, Scope, no_locals, with_local}
use Rattle.tht_logic.specs.Putting.{put_in_assn}
use Rattle.tht_logic.specs.Alike.{alike}
use Rattle.tht_logic.specs.Flatten.{flatten}
use Rattle.tht_logic.specs.Rules.Checking.{Checked}
use Rattle.tht_logic.specs.Rules.Definitions.{Cases, Predicate, one_case, two_cases, Lemma, Declarations, NoCase, arguments, definition}
use Rattle.tht_logic.specs.Rules.Gives.{Atoms, frame_of}
use Rattle.normal_laws.proofs.TermLevels.{computing as of_terms}
use Rattle.assn_laws.proofs.AssnLevels.{computing as of_assertions}
use Rattle.assn_laws.proofs.Nameless.{put_whole}
use Rattle.assn_laws.proofs.Flattening.{flattening}
use Rattle.assn_laws.proofs.GiveLevels.{by_level}

pub ruleset by_levels = (flattening, by_level, of_assertions, of_terms)

-- what is put in, worked out: for what is written out alone
pub ruleset by_putting = (put_whole, by_levels)

-- ---- names and terms

-- the numbers x and y, the places p and q, the sequence s and the truth b
abbrev pub x : List ℕ
x = 120 ∷ []

abbrev pub y : List ℕ
y = 121 ∷ []

abbrev pub pl : List ℕ
pl = 112 ∷ []

abbrev pub ql : List ℕ
ql = 113 ∷ []

abbrev pub sq : List ℕ
sq = 115 ∷ []

abbrev pub b : List ℕ
b = 98 ∷ []

-- bound names of samples; the names of the first bound variables
abbrev pub n : List ℕ
n = 110 ∷ []

abbrev pub m : List ℕ
m = 109 ∷ []

abbrev pub o : List ℕ
o = 48 ∷ []

abbrev pub oo : List ℕ
oo = 48 ∷ 48 ∷ []

abbrev ooo : List ℕ
ooo = 48 ∷ 48 ∷ 48 ∷ []

abbrev pub h : List ℕ
h = 104 ∷ []

-- the hypotheses 1 and 2, and predicates and lemmas
abbrev pub h1 : List ℕ
h1 = 49 ∷ []

abbrev pub h2 : List ℕ
h2 = 50 ∷ []

abbrev pub cell : List ℕ
cell = 99 ∷ []

abbrev pub list : List ℕ
list = 108 ∷ []

abbrev pub put : List ℕ
put = 107 ∷ []

abbrev pub var : List ℕ → Term
var = t.Var

abbrev pub num : ℕ → Term
num = t.Num

abbrev pub le : Term → Term → Assn
le u w = a.Fact (t.Le u w)

-- ---- what is declared and known

abbrev pub param : List ℕ → Sort → Param
param v r = record { name = v; sort = r }

--     pred c (x : loc, y : nat) = x -> y * [y <= 9];
abbrev pub cell_body : Assn
cell_body = a.Star (a.Own (var x) (var y)) (le (var y) (num 9))

--     pred l (x : loc, s : seq) on s
--       nil = [x = null]
--       cons n s = exists m : loc . x -> n * x.1 -> m * l(m, s);
abbrev list_nil : Assn
list_nil = a.Fact (t.Eq (var x) t.Null)

abbrev list_cons : Assn
list_cons = a.Exists m sort.Loc (a.Star (a.Star (a.Own (var x) (var n)) (a.Own (t.Offset (var x) 1) (var m))) (a.Inst list (var m ∷ var sq ∷ [])))

abbrev list_params : List Param
list_params = param x sort.Loc ∷ param sq sort.Seq ∷ []

abbrev list_cases : Cases
list_cases = record { params = list_params; on = sq; nil = list_nil; head = n; tail = sq; cons = list_cons }

abbrev of_name : List ℕ → Option Predicate
of_name v =
    if bytes_eq cell v
    then Some (one_case (param x sort.Loc ∷ param y sort.Nat ∷ []) cell_body)
    else (if bytes_eq list v then Some (two_cases list_cases) else None)

--     lemma k (y : nat) { p -> y } { c(p, 9) * [y = 9] } ..
abbrev of_lemma : List ℕ → Option Lemma
of_lemma v =
    if bytes_eq put v
    then Some (record { params = param y sort.Nat ∷ []; pre = a.Own (var pl) (var y); post = a.Star (a.Inst cell (var pl ∷ num 9 ∷ [])) (a.Fact (t.Eq (var y) (num 9))) })
    else None

abbrev pub decl : Declarations
decl = record { proofs = record { roots = []; lemmas = λ l ts. None }; predicates = of_name; lemmas = of_lemma; procs = λ f. None }

abbrev pub scope : Scope
scope =
    with_local (with_local (with_local (with_local (with_local (with_local no_locals x (Variable sort.Nat)) y (Variable sort.Nat)) pl (Variable sort.Loc)) ql (Variable sort.Loc)) sq (Variable sort.Seq)) b (Variable sort.Bool)

abbrev pub hyp : List ℕ → Term → Hyp
hyp v u = record { name = v; formula = u }

-- 1 says x = y, and 2 says x <= 9
abbrev pub hyps : List Hyp
hyps = hyp h1 (t.Eq (var x) (var y)) ∷ hyp h2 (t.Le (var x) (num 9)) ∷ []

abbrev pub a1 : Assn
a1 = a.Own (var pl) (var x)

abbrev pub a2 : Assn
a2 = a.Shared (var ql) (var y)

abbrev pub a3 : Assn
a3 = a.Fact (var b)

abbrev pub a4 : Assn
a4 = a.Exists o sort.Nat (a.Star (a.Own (var ql) (var o)) (le (var o) (var x)))

abbrev pub a5 : Assn
a5 = a.Inst cell (var ql ∷ var y ∷ [])

abbrev pub a6 : Assn
a6 = a.Inst list (var pl ∷ var sq ∷ [])

abbrev pub a7 : Assn
a7 = a.Inst list (var pl ∷ t.Nil ∷ [])

abbrev pub a8 : Assn
a8 = a.Inst list (var ql ∷ t.Cons (var x) (var sq) ∷ [])

-- 1: p -> x, 2: q => y, 3: [b], 4: exists n : nat . q -> n * [n <= x], 5: c(q, y), 6: l(p, s), 7: l(p, nil), 8: l(q, x :: s)
abbrev atoms : Atoms
atoms = (1, a1) ∷ (2, a2) ∷ (3, a3) ∷ (4, a4) ∷ (5, a5) ∷ (6, a6) ∷ (7, a7) ∷ (8, a8) ∷ []

abbrev pub known : Context
known = record { scope = scope; hyps = hyps; atoms = atoms; made = 8 }

abbrev pub at : ℕ → Spot
at column = record { line = 1; column = column }

abbrev pub refusal : ℕ → RuleCode → RuleRefusal
refusal column code = record { spot = at column; code = code }

-- ---- putting in

-- x for n in `exists x : nat . p -> x * [n <= x]`: the bound variable is another
never_captured : put_in_assn ((n, var x) ∷ []) (a.Exists x sort.Nat (a.Star (a.Own (var pl) (var x)) (le (var n) (var x)))) ≡ a.Exists o sort.Nat (a.Star (a.Own (var pl) (var o)) (le (var x) (var o)))
never_captured = simp by_putting

-- x for n in `exists n : nat . p -> n`: a bound variable of that name is another
bound_stays : put_in_assn ((n, var x) ∷ []) (a.Exists n sort.Nat (a.Own (var pl) (var n))) ≡ a.Exists o sort.Nat (a.Own (var pl) (var o))
bound_stays = simp by_putting

-- x for y and y for x, at once
at_once : put_in_assn ((y, var x) ∷ (x, var y) ∷ []) (le (var x) (var y)) ≡ le (var y) (var x)
at_once = simp by_putting

-- one behind the other has the next name, beside it the same
by_level_names : put_in_assn [] (a.Star (a.Exists n sort.Nat (a.Exists m sort.Loc (a.Own (var m) (var n)))) (a.Exists m sort.Loc (a.Inst list (var m ∷ var sq ∷ []))))
    ≡ a.Star (a.Exists o sort.Nat (a.Exists oo sort.Loc (a.Own (var oo) (var o)))) (a.Exists o sort.Loc (a.Inst list (var o ∷ var sq ∷ [])))
by_level_names = simp by_putting

-- what stands behind an `exists`, with x for its variable, is named from the first name on
opened : put_in_assn ((o, var x) ∷ []) (a.Exists oo sort.Loc (a.Own (var oo) (var o))) ≡ a.Exists o sort.Loc (a.Own (var o) (var x))
opened = simp by_putting

-- one name twice: what stands behind both binders means the nearer one
nearest : put_in_assn [] (a.Exists x sort.Nat (a.Exists x sort.Nat (le (var x) (num 9)))) ≡ a.Exists o sort.Nat (a.Exists oo sort.Nat (le (var oo) (num 9)))
nearest = simp by_putting

-- Names that no source can spell. 0 for n in `exists x : nat . [n <= x]`: the bound variable is 00; so it is where 0 was free before.
zero_put_in : put_in_assn ((n, var o) ∷ []) (a.Exists x sort.Nat (le (var n) (var x))) ≡ a.Exists oo sort.Nat (le (var o) (var oo))
zero_put_in = simp by_putting

zero_is_free : put_in_assn [] (a.Exists x sort.Nat (a.Exists y sort.Nat (a.Star (le (var o) (var x)) (le (var x) (var y)))))
    ≡ a.Exists oo sort.Nat (a.Exists ooo sort.Nat (a.Star (le (var o) (var oo)) (le (var oo) (var ooo))))
zero_is_free = simp by_putting

-- the longest one counts
the_longest : put_in_assn ((n, var oo) ∷ (m, var o) ∷ []) (a.Exists x sort.Nat (a.Star (le (var m) (var n)) (le (var n) (var x))))
    ≡ a.Exists ooo sort.Nat (a.Star (le (var o) (var oo)) (le (var oo) (var ooo)))
the_longest = simp by_putting

-- 0 is no matter where it is bound, or stands for a name that is not there
zero_is_bound : put_in_assn ((n, var oo) ∷ []) (a.Exists oo sort.Nat (a.Exists o sort.Nat (le (var oo) (var o)))) ≡ a.Exists o sort.Nat (a.Exists oo sort.Nat (le (var o) (var oo)))
zero_is_bound = simp by_putting

-- ---- alike

other_names : alike (a.Exists n sort.Nat (a.Own (var pl) (var n))) (a.Exists m sort.Nat (a.Own (var pl) (var m))) ≡ true
other_names = simp by_levels

other_sorts : alike (a.Exists n sort.Nat (a.Own (var pl) (var n))) (a.Exists n sort.Loc (a.Own (var pl) (var n))) ≡ false
other_sorts = simp by_levels

bound_is_not_free : alike (a.Exists n sort.Nat (a.Own (var pl) (var n))) (a.Exists m sort.Nat (a.Own (var pl) (var n))) ≡ false
bound_is_not_free = simp by_levels

-- ---- flatten

-- (p -> x * emp) * ([b] * q => y)
in_order : flatten (a.Star (a.Star a1 a.Emp) (a.Star a3 a2)) ≡ a1 ∷ a3 ∷ a2 ∷ []
in_order = simp by_levels

kept_whole : flatten (a.Star a4 (a.Either (a.Star a1 a2) a.Emp)) ≡ a4 ∷ a.Either (a.Star a1 a2) a.Emp ∷ []
kept_whole = simp by_levels

-- ---- definitions

-- the arguments y and x of parameters x and y
put_all_at_once : put_in_assn (arguments (param x sort.Nat ∷ param y sort.Nat ∷ []) (var y ∷ var x ∷ [])) (le (var x) (var y)) ≡ le (var y) (var x)
put_all_at_once = simp by_putting

all_at_once : definition (one_case (param x sort.Nat ∷ param y sort.Nat ∷ []) (le (var x) (var y))) (var y ∷ var x ∷ []) ≡ Ok (le (var y) (var x))
all_at_once = simp (put_all_at_once, by_levels)

-- the definitions of the instances c(q, y), c(p, x), l(p, nil) and l(q, x :: s)
abbrev pub of_a5 : Assn
of_a5 = a.Star (a.Own (var ql) (var y)) (le (var y) (num 9))

abbrev of_cell : Assn
of_cell = a.Star (a.Own (var pl) (var x)) (le (var x) (num 9))

abbrev pub of_a7 : Assn
of_a7 = a.Fact (t.Eq (var pl) t.Null)

abbrev pub of_a8 : Assn
of_a8 = a.Exists o sort.Loc (a.Star (a.Star (a.Own (var ql) (var x)) (a.Own (t.Offset (var ql) 1) (var o))) (a.Inst list (var o ∷ var sq ∷ [])))

abbrev pub cell_params : List Param
cell_params = param x sort.Loc ∷ param y sort.Nat ∷ []

pub put_a5 : put_in_assn (arguments cell_params (var ql ∷ var y ∷ [])) cell_body ≡ of_a5
put_a5 = simp by_putting

pub put_cell : put_in_assn (arguments cell_params (var pl ∷ var x ∷ [])) cell_body ≡ of_cell
put_cell = simp by_putting

pub put_a7 : put_in_assn (arguments list_params (var pl ∷ t.Nil ∷ [])) list_nil ≡ of_a7
put_a7 = simp by_putting

pub put_a8 : put_in_assn ((n, var x) ∷ (sq, var sq) ∷ arguments list_params (var ql ∷ t.Cons (var x) (var sq) ∷ [])) list_cons ≡ of_a8
put_a8 = simp by_putting

pub ruleset by_puts = (put_a5, put_cell, put_a7, put_a8, by_levels)

of_nil : definition (two_cases list_cases) (var pl ∷ t.Nil ∷ []) ≡ Ok of_a7
of_nil = simp by_puts

of_cons : definition (two_cases list_cases) (var ql ∷ t.Cons (var x) (var sq) ∷ []) ≡ Ok of_a8
of_cons = simp by_puts

of_variable : definition (two_cases list_cases) (var pl ∷ var sq ∷ []) ≡ Err NoCase
of_variable = simp by_puts

-- a head that has the name of the parameter behind `on`: what stands there means the head
put_head : put_in_assn ((sq, var x) ∷ (m, var sq) ∷ arguments list_params (var ql ∷ t.Cons (var x) (var sq) ∷ [])) (a.Own (var x) (var sq)) ≡ a.Own (var ql) (var x)
put_head = simp by_putting

head_hides : definition (two_cases (record list_cases { head = sq; tail = m; cons = a.Own (var x) (var sq) })) (var ql ∷ t.Cons (var x) (var sq) ∷ []) ≡ Ok (a.Own (var ql) (var x))
head_hides = simp (put_head, by_puts)

-- ---- gives

-- a give, and a proof, of this form that stands in this column
abbrev pub in_column : ℕ → g.GiveKind-F GiveKind Give → Give
in_column column k = record { spot = at column; kind = roll-GiveKind k }

abbrev pub proof_in : ℕ → p.ProofKind-F ProofKind LinEntry Proof → Proof
proof_in column k = record { spot = at column; kind = roll-ProofKind k }

-- what the give of this form in column 1 leaves of all atoms
abbrev pub of : g.GiveKind-F GiveKind Give → Assn → Checked Atoms
of k goal = frame_of decl known (in_column 1 k) atoms goal

abbrev refused : ℕ → RuleCode → Checked Atoms
refused column code = Err (refusal column code)

abbrev but_1 : Atoms
but_1 = (2, a2) ∷ (3, a3) ∷ (4, a4) ∷ (5, a5) ∷ (6, a6) ∷ (7, a7) ∷ (8, a8) ∷ []

-- emp : emp
the_empty_heap : of g.Emp a.Emp ≡ Ok atoms
the_empty_heap = simp by_puts

-- emp : [b]
not_emp : of g.Emp a3 ≡ refused 1 R4
not_emp = simp by_puts

-- emp : emp * emp
emp_for_both : of g.Emp (a.Star a.Emp a.Emp) ≡ refused 1 R4
emp_for_both = simp by_puts

-- emp * emp : emp
both_for_emp : of (g.Star (in_column 1 g.Emp) (in_column 7 g.Emp)) a.Emp ≡ refused 1 R4
both_for_emp = simp by_puts

-- @1 : p -> x
its_atom : of (g.Atom 1) a1 ≡ Ok but_1
its_atom = simp by_puts

-- @1 : p -> y
another_atom : of (g.Atom 1) (a.Own (var pl) (var y)) ≡ refused 1 R4
another_atom = simp by_puts

-- @9 : p -> x
no_such_atom : of (g.Atom 9) a1 ≡ refused 1 R1
no_such_atom = simp by_puts

-- @4 : exists m : nat . q -> m * [m <= x]
up_to_names : of (g.Atom 4) (a.Exists m sort.Nat (a.Star (a.Own (var ql) (var m)) (le (var m) (var x)))) ≡ Ok ((1, a1) ∷ (2, a2) ∷ (3, a3) ∷ (5, a5) ∷ (6, a6) ∷ (7, a7) ∷ (8, a8) ∷ [])
up_to_names = simp by_puts

-- @1 * @2 : p -> x * q => y
both_parts : of (g.Star (in_column 1 (g.Atom 1)) (in_column 6 (g.Atom 2))) (a.Star a1 a2) ≡ Ok ((3, a3) ∷ (4, a4) ∷ (5, a5) ∷ (6, a6) ∷ (7, a7) ∷ (8, a8) ∷ [])
both_parts = simp by_puts

-- @1 * @1 : p -> x * p -> x
consumed_twice : of (g.Star (in_column 1 (g.Atom 1)) (in_column 6 (g.Atom 1))) (a.Star a1 a1) ≡ refused 6 R1
consumed_twice = simp by_puts

-- @1 * @2 : p -> x
no_star : of (g.Star (in_column 1 (g.Atom 1)) (in_column 6 (g.Atom 2))) a1 ≡ refused 1 R4
no_star = simp by_puts

-- [hyp 1] : [x = y]
by_proof : of (g.Fact (proof_in 2 (p.Hyp h1))) (a.Fact (t.Eq (var x) (var y))) ≡ Ok atoms
by_proof = simp by_puts

-- [hyp 1] : [y = x]
wrong_proof : of (g.Fact (proof_in 2 (p.Hyp h1))) (a.Fact (t.Eq (var y) (var x))) ≡ refused 2 R5
wrong_proof = simp by_puts

-- [todo] : p -> x
shape_before_proof : of (g.Fact (proof_in 2 p.Todo)) a1 ≡ refused 1 R4
shape_before_proof = simp by_puts

-- @1 * [nonnull 1] : p -> x * [not (p = null)]: proofs see what was consumed
consumed_is_seen : of (g.Star (in_column 1 (g.Atom 1)) (in_column 6 (g.Fact (proof_in 7 (p.Nonnull 1))))) (a.Star a1 (a.Fact (t.Not (t.Eq (var pl) t.Null)))) ≡ Ok but_1
consumed_is_seen = simp by_puts

-- exists n : nat . [n = y]
abbrev some_y : Assn
some_y = a.Exists n sort.Nat (a.Fact (t.Eq (var n) (var y)))

put_x : put_in_assn ((n, var x) ∷ []) (a.Fact (t.Eq (var n) (var y))) ≡ a.Fact (t.Eq (var x) (var y))
put_x = simp by_putting

-- ex [x] [hyp 1] : exists n : nat . [n = y]
with_x : of (g.Ex (var x) (in_column 8 (g.Fact (proof_in 9 (p.Hyp h1))))) some_y ≡ Ok atoms
with_x = simp (put_x, by_puts)

-- ex [x] emp : exists n : nat . [n = y]
inside_ex : of (g.Ex (var x) (in_column 8 g.Emp)) some_y ≡ refused 8 R4
inside_ex = simp (put_x, by_puts)

-- ex [b] [todo] : exists n : nat . [n = y]
another_sort : of (g.Ex (var b) (in_column 8 (g.Fact (proof_in 9 p.Todo)))) some_y ≡ refused 1 R4
another_sort = simp by_puts

-- ex [x] [hyp 1] : [x = y]
no_exists : of (g.Ex (var x) (in_column 8 (g.Fact (proof_in 9 (p.Hyp h1))))) (a.Fact (t.Eq (var x) (var y))) ≡ refused 1 R4
no_exists = simp by_puts

-- left @1 : either p -> x or emp
left_side : of (g.Left (in_column 6 (g.Atom 1))) (a.Either a1 a.Emp) ≡ Ok but_1
left_side = simp by_puts

-- right @1 : either p -> x or emp
other_side : of (g.Right (in_column 7 (g.Atom 1))) (a.Either a1 a.Emp) ≡ refused 7 R4
other_side = simp by_puts

-- right emp : either p -> x or emp
right_side : of (g.Right (in_column 7 g.Emp)) (a.Either a1 a.Emp) ≡ Ok atoms
right_side = simp by_puts

-- left @1 : p -> x
no_choice : of (g.Left (in_column 6 (g.Atom 1))) a1 ≡ refused 1 R4
no_choice = simp by_puts

-- fold (@1 * [hyp 2]) : c(p, x)
folded : of (g.Fold (in_column 6 (g.Star (in_column 7 (g.Atom 1)) (in_column 12 (g.Fact (proof_in 13 (p.Hyp h2))))))) (a.Inst cell (var pl ∷ var x ∷ [])) ≡ Ok but_1
folded = simp by_puts

-- fold @6 : l(p, s)
no_case : of (g.Fold (in_column 6 (g.Atom 6))) a6 ≡ refused 1 R13
no_case = simp by_puts

-- fold @1 : p -> x
no_instance : of (g.Fold (in_column 6 (g.Atom 1))) a1 ≡ refused 1 R4
no_instance = simp by_puts
