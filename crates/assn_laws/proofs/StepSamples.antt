-- Small steps, an `alloc` and a return, and what is known after each or refused in it, worked out by hand, from what is known in `Samples`.
use Rattle.std.proofs.Common.{◌≡◌, ℕ, ◌^◌, ◌-◌, List, [], ◌∷◌, ◌++◌, Some, None, Ok, Err, refl}
use Rattle.tht_tree.specs.declared.plain.Sort.TheVariants as sort
use Rattle.tht_tree.specs.declared.term.Term.{Term}
use Rattle.tht_tree.specs.declared.term.Term.TheVariants as t
use Rattle.tht_tree.specs.declared.assn.Assn.TheVariants as a
use Rattle.tht_tree.specs.declared.state.Post.{Post}
use Rattle.tht_tree.specs.declared.state.Local.TheVariants.{Variable, Hypothesis}
use Rattle.tht_tree.specs.declared.proof.ProofKind.TheOpen as p
use Rattle.tht_tree.specs.declared.give.GiveKind.TheOpen as g
use Rattle.tht_tree.specs.declared.step.StepKind.{StepKind}
use Rattle.tht_tree.specs.declared.step.StepKind.TheVariants as s
use Rattle.tht_tree.specs.declared.rule.RuleCode.{RuleCode}
use Rattle.tht_tree.specs.declared.rule.RuleCode.TheVariants.{R1, R2, R3, R4, R5, R10, R13}
use Rattle.tht_tree.specs.Rules.Context.{Context, with_local}
use Rattle.tht_logic.specs.Putting.{put_in_assn}
use Rattle.tht_logic.specs.Rules.Checking.{Checked}
use Rattle.tht_logic.specs.Rules.Gives.{Atoms}
use Rattle.tht_logic.specs.Rules.Steps.{after_step}
use Rattle.tht_logic.specs.Rules.Commands.{after_alloc}
use Rattle.tht_logic.specs.Rules.Bodies.{return_refused}
use Rattle.tht_logic.specs.Rules.Definitions.{arguments}
use Rattle.assn_laws.proofs.Samples.{x, y, pl, ql, sq, b, n, m, o, h, h1, h2, cell, list, put, var, num, le, param, decl, scope, hyp, hyps, a1, a2, a3, a4, a5, a6, a7, a8, known, at, refusal, of_a7, of_a8, in_column, proof_in, by_putting, by_puts}

-- what is known after the step of this form, in column 1
abbrev after : StepKind → Checked Context
after k = after_step decl known (record { spot = at 1; kind = k })

abbrev refused : ℕ → RuleCode → Checked Context
refused column code = Err (refusal column code)

abbrev with_hypothesis : Atoms → List ℕ → Term → Context
with_hypothesis atoms v u = record { scope = with_local scope v Hypothesis; hyps = hyps ++ hyp v u ∷ []; atoms = atoms; made = 8 }

abbrev with_atoms : Atoms → ℕ → Context
with_atoms atoms made = record { scope = scope; hyps = hyps; atoms = atoms; made = made }

-- ---- have

-- have h : x = y by hyp 1
have_h : after (s.Have h (t.Eq (var x) (var y)) (proof_in 5 (p.Hyp h1))) ≡ Ok (with_hypothesis known.atoms h (t.Eq (var x) (var y)))
have_h = simp by_puts

-- have h : y = x by hyp 1
have_another : after (s.Have h (t.Eq (var y) (var x)) (proof_in 5 (p.Hyp h1))) ≡ refused 5 R5
have_another = simp by_puts

-- ---- open

put_m : put_in_assn ((o, var m) ∷ []) (a.Star (a.Own (var ql) (var o)) (le (var o) (var x))) ≡ a.Star (a.Own (var ql) (var m)) (le (var m) (var x))
put_m = simp by_putting

-- open 4 as m : nat
open_variable : after (s.OpenVar 4 m sort.Nat)
    ≡ Ok (record {
      scope = with_local scope m (Variable sort.Nat);
      hyps = hyps;
      atoms = (1, a1) ∷ (2, a2) ∷ (3, a3) ∷ (5, a5) ∷ (6, a6) ∷ (7, a7) ∷ (8, a8) ∷ (9, a.Own (var ql) (var m)) ∷ (10, le (var m) (var x)) ∷ [];
      made = 10;
    })
open_variable = simp (put_m, by_puts)

-- open 9 as m : nat
open_nothing : after (s.OpenVar 9 m sort.Nat) ≡ refused 1 R1
open_nothing = refl

-- open 1 as m : nat
open_a_cell : after (s.OpenVar 1 m sort.Nat) ≡ refused 1 R2
open_a_cell = simp by_puts

-- open 4 as m : loc
open_another_sort : after (s.OpenVar 4 m sort.Loc) ≡ refused 1 R2
open_another_sort = simp by_puts

-- open 3 as h
open_fact : after (s.OpenFact 3 h) ≡ Ok (with_hypothesis ((1, a1) ∷ (2, a2) ∷ (4, a4) ∷ (5, a5) ∷ (6, a6) ∷ (7, a7) ∷ (8, a8) ∷ []) h (var b))
open_fact = simp by_puts

-- open 4 as h
open_no_fact : after (s.OpenFact 4 h) ≡ refused 1 R2
open_no_fact = simp by_puts

-- open 9 as h
open_no_atom : after (s.OpenFact 9 h) ≡ refused 1 R1
open_no_atom = refl

-- open 4 as m : nat, where 2^32 - 1 atoms were made
open_too_many : after_step decl (record known { made = 2 ^ 32 - 1 }) (record { spot = at 1; kind = s.OpenVar 4 m sort.Nat }) ≡ refused 1 R10
open_too_many = simp (put_m, by_puts)

-- ---- unfold

-- unfold 5
unfold_one_case : after (s.Unfold 5)
    ≡ Ok (with_atoms ((1, a1) ∷ (2, a2) ∷ (3, a3) ∷ (4, a4) ∷ (6, a6) ∷ (7, a7) ∷ (8, a8) ∷ (9, a.Own (var ql) (var y)) ∷ (10, le (var y) (num 9)) ∷ []) 10)
unfold_one_case = simp by_puts

-- unfold 7
unfold_nil : after (s.Unfold 7) ≡ Ok (with_atoms ((1, a1) ∷ (2, a2) ∷ (3, a3) ∷ (4, a4) ∷ (5, a5) ∷ (6, a6) ∷ (8, a8) ∷ (9, of_a7) ∷ []) 9)
unfold_nil = simp by_puts

-- unfold 8
unfold_cons : after (s.Unfold 8) ≡ Ok (with_atoms ((1, a1) ∷ (2, a2) ∷ (3, a3) ∷ (4, a4) ∷ (5, a5) ∷ (6, a6) ∷ (7, a7) ∷ (9, of_a8) ∷ []) 9)
unfold_cons = simp by_puts

-- unfold 6
unfold_no_case : after (s.Unfold 6) ≡ refused 1 R13
unfold_no_case = simp by_puts

-- unfold 1
unfold_a_cell : after (s.Unfold 1) ≡ refused 1 R2
unfold_a_cell = simp by_puts

-- unfold 9
unfold_nothing : after (s.Unfold 9) ≡ refused 1 R1
unfold_nothing = refl

-- unfold 5, where 2^32 - 1 atoms were made
unfold_too_many : after_step decl (record known { made = 2 ^ 32 - 1 }) (record { spot = at 1; kind = s.Unfold 5 }) ≡ refused 1 R10
unfold_too_many = simp by_puts

-- ---- fold

-- fold c(p, x) by @1 * [hyp 2]
fold_cell : after (s.Fold cell (var pl ∷ var x ∷ []) (in_column 12 (g.Star (in_column 12 (g.Atom 1)) (in_column 17 (g.Fact (proof_in 18 (p.Hyp h2)))))))
    ≡ Ok (with_atoms ((2, a2) ∷ (3, a3) ∷ (4, a4) ∷ (5, a5) ∷ (6, a6) ∷ (7, a7) ∷ (8, a8) ∷ (9, a.Inst cell (var pl ∷ var x ∷ [])) ∷ []) 9)
fold_cell = simp by_puts

-- fold c(p, x) by @1
fold_in_part : after (s.Fold cell (var pl ∷ var x ∷ []) (in_column 12 (g.Atom 1))) ≡ refused 12 R4
fold_in_part = simp by_puts

-- fold l(p, s) by @6
fold_no_case : after (s.Fold list (var pl ∷ var sq ∷ []) (in_column 12 (g.Atom 6))) ≡ refused 1 R13
fold_no_case = simp by_puts

-- fold l(p, s) by @9: that there is no case comes before the give
fold_no_case_first : after (s.Fold list (var pl ∷ var sq ∷ []) (in_column 12 (g.Atom 9))) ≡ refused 1 R13
fold_no_case_first = simp by_puts

-- fold c(p, x) by @1 * [hyp 2], where 2^32 - 1 atoms were made
fold_too_many : after_step decl (record known { made = 2 ^ 32 - 1 })
    (record { spot = at 1; kind = s.Fold cell (var pl ∷ var x ∷ []) (in_column 12 (g.Star (in_column 12 (g.Atom 1)) (in_column 17 (g.Fact (proof_in 18 (p.Hyp h2)))))) }) ≡ refused 1 R10
fold_too_many = simp by_puts

-- ---- rewrite

-- rewrite 1 2 to y by hyp 1
rewrite_value : after (s.Rewrite 1 2 (var y) (proof_in 18 (p.Hyp h1)))
    ≡ Ok (with_atoms ((1, a.Own (var pl) (var y)) ∷ (2, a2) ∷ (3, a3) ∷ (4, a4) ∷ (5, a5) ∷ (6, a6) ∷ (7, a7) ∷ (8, a8) ∷ []) 8)
rewrite_value = simp by_puts

-- rewrite 5 2 to y by refl: part 2 of an instance is its second argument
rewrite_argument : after (s.Rewrite 5 2 (var y) (proof_in 18 p.Refl)) ≡ Ok known
rewrite_argument = simp by_puts

-- rewrite 1 1 to q by hyp 1
rewrite_place : after (s.Rewrite 1 1 (var ql) (proof_in 18 (p.Hyp h1))) ≡ refused 18 R5
rewrite_place = simp by_puts

-- rewrite 1 1 to y by todo
rewrite_another_sort : after (s.Rewrite 1 1 (var y) (proof_in 18 p.Todo)) ≡ refused 1 R2
rewrite_another_sort = simp by_puts

-- rewrite 1 3 to y by todo
rewrite_no_part : after (s.Rewrite 1 3 (var y) (proof_in 18 p.Todo)) ≡ refused 1 R2
rewrite_no_part = simp by_puts

-- rewrite 5 0 to y by todo
rewrite_part_0 : after (s.Rewrite 5 0 (var y) (proof_in 18 p.Todo)) ≡ refused 1 R2
rewrite_part_0 = simp by_puts

-- rewrite 3 1 to b by todo
rewrite_fact : after (s.Rewrite 3 1 (var b) (proof_in 18 p.Todo)) ≡ refused 1 R2
rewrite_fact = simp by_puts

-- rewrite 9 1 to b by todo
rewrite_nothing : after (s.Rewrite 9 1 (var b) (proof_in 18 p.Todo)) ≡ refused 1 R1
rewrite_nothing = refl

-- ---- use

put_pre : put_in_assn (arguments (param y sort.Nat ∷ []) (var x ∷ [])) (a.Own (var pl) (var y)) ≡ a1
put_pre = simp by_putting

put_post : put_in_assn (arguments (param y sort.Nat ∷ []) (var x ∷ [])) (a.Star (a.Inst cell (var pl ∷ num 9 ∷ [])) (a.Fact (t.Eq (var y) (num 9))))
    ≡ a.Star (a.Inst cell (var pl ∷ num 9 ∷ [])) (a.Fact (t.Eq (var x) (num 9)))
put_post = simp by_putting

-- use k(x) by @1
use_lemma : after (s.Use put (var x ∷ []) (in_column 12 (g.Atom 1)))
    ≡ Ok (with_atoms ((2, a2) ∷ (3, a3) ∷ (4, a4) ∷ (5, a5) ∷ (6, a6) ∷ (7, a7) ∷ (8, a8) ∷ (9, a.Inst cell (var pl ∷ num 9 ∷ [])) ∷ (10, a.Fact (t.Eq (var x) (num 9))) ∷ []) 10)
use_lemma = simp (put_pre, put_post, by_puts)

-- use k(x) by @2
use_another : after (s.Use put (var x ∷ []) (in_column 12 (g.Atom 2))) ≡ refused 12 R4
use_another = simp (put_pre, put_post, by_puts)

-- ---- statements and ends

-- m <- alloc (x, y, 9)
three_cells : after_alloc (at 1) known m (var x ∷ var y ∷ num 9 ∷ [])
    ≡ Ok (record {
      scope = with_local scope m (Variable sort.Loc);
      hyps = hyps;
      atoms = (1, a1) ∷ (2, a2) ∷ (3, a3) ∷ (4, a4) ∷ (5, a5) ∷ (6, a6) ∷ (7, a7) ∷ (8, a8)
          ∷ (9, a.Own (var m) (var x)) ∷ (10, a.Own (t.Offset (var m) 1) (var y)) ∷ (11, a.Own (t.Offset (var m) 2) (num 9)) ∷ [];
      made = 11;
    })
three_cells = simp by_puts

-- the postcondition r : nat { p -> r }
abbrev post : Post
post = record { result = n; sort = sort.Nat; assn = a.Own (var pl) (var n) }

put_result : put_in_assn ((n, var x) ∷ []) (a.Own (var pl) (var n)) ≡ a1
put_result = simp by_putting

-- ret x by @1, where atom 1 is all
returned : return_refused decl (at 1) (record known { atoms = (1, a1) ∷ [] }) (var x) (in_column 10 (g.Atom 1)) post ≡ None
returned = simp (put_result, by_puts)

-- ret x by @1, where atom 2 is left
atoms_left : return_refused decl (at 1) (record known { atoms = (1, a1) ∷ (2, a2) ∷ [] }) (var x) (in_column 10 (g.Atom 1)) post ≡ Some (refusal 1 R3)
atoms_left = simp (put_result, by_puts)

-- ret x by @2: what is refused in the give comes first
give_first : return_refused decl (at 1) (record known { atoms = (1, a1) ∷ (2, a2) ∷ [] }) (var x) (in_column 10 (g.Atom 2)) post ≡ Some (refusal 10 R4)
give_first = simp (put_result, by_puts)
