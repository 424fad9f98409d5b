-- Gives and steps at the limits of one assertion: what is made counts whole, before it is split.
use Rattle.std.proofs.Common.{◌≡◌, ℕ, zero, suc, ◌+◌, ◌*◌, max, arith, [], ◌∷◌, Option, Some, None, Ok, Err, ◌∙◌}
use Rattle.tht_tree.specs.declared.plain.Sort.{Sort}
use Rattle.tht_tree.specs.declared.plain.Sort.TheVariants as sort
use Rattle.tht_tree.specs.declared.term.Term.{Term}
use Rattle.tht_tree.specs.declared.term.Term.TheVariants as t
use Rattle.tht_tree.specs.declared.assn.Assn.TheVariants as a
use Rattle.tht_tree.specs.declared.proof.ProofKind.TheOpen as p
use Rattle.tht_tree.specs.declared.give.Give.{Give}
use Rattle.tht_tree.specs.declared.give.GiveKind.TheOpen as g
use Rattle.tht_tree.specs.declared.step.StepKind.TheVariants as s
use Rattle.tht_tree.specs.declared.state.Local.TheVariants.{Hypothesis}
use Rattle.tht_tree.specs.declared.rule.RuleCode.TheVariants.{R1, R9, R10}
use Rattle.tht_tree.specs.Rules.Context.{Context, with_local}
use Rattle.tht_tree.specs.Rules.Scoping.{both_of, sort_at, sort_of}
use Rattle.tht_tree.specs.Rules.Sizes.{nodes_at, nodes, levels_at, levels}
use Rattle.tht_tree.proofs.TermFolds.{at-Num, at-Add}
use Rattle.tht_logic.specs.Putting.{put_in_assn}
use Rattle.tht_logic.specs.Rules.Checking.{Checked}
use Rattle.tht_logic.specs.Rules.Definitions.{one_case, Declarations, arguments}
use Rattle.tht_logic.specs.Rules.Gives.{Atoms}
use Rattle.tht_logic.specs.Rules.Steps.{after_step}
use Rattle.tht_logic.specs.Rules.Bodies.{return_refused}
use Rattle.assn_laws.proofs.Samples.{x, n, ql, cell, var, num, le, param, cell_params, cell_body, decl, scope, at, refusal, of, in_column, proof_in, by_putting, by_puts, h, hyp}

-- a sum of ones with so many operators
deep : ℕ → Term
deep zero = num 1
deep (suc k) = t.Add (deep k) (num 1)

deep_nodes : (k : ℕ) → nodes (deep k) ≡ 2 * k + 1
unfolding deep
deep_nodes zero = at-Num ℕ nodes_at 1
deep_nodes (suc k) = at-Add ℕ nodes_at (deep k) (num 1) ∙ (λ i. deep_nodes k i + at-Num ℕ nodes_at 1 i + 1) ∙ (omega arith)

deep_levels : (k : ℕ) → levels (deep k) ≡ k + 1
unfolding deep
deep_levels zero = at-Num ℕ levels_at 1
deep_levels (suc k) = at-Add ℕ levels_at (deep k) (num 1) ∙ (λ i. max (deep_levels k i) (at-Num ℕ levels_at 1 i) + 1) ∙ (omega arith)

deep_sort : (k : ℕ) → sort_of [] scope (deep k) ≡ Some sort.Nat
unfolding deep
deep_sort zero = at-Num (Option Sort) (sort_at [] scope) 1
deep_sort (suc k) = at-Add (Option Sort) (sort_at [] scope) (deep k) (num 1) ∙ (λ i. both_of sort.Nat (deep_sort k i) (at-Num (Option Sort) (sort_at [] scope) 1 i) sort.Nat)

-- exists n : nat . [n <= 0], with a sum for n
put_deep : (k : ℕ) → put_in_assn ((n, deep k) ∷ []) (le (var n) (num 0)) ≡ le (deep k) (num 0)
put_deep k = simp by_putting

ruleset with_deep = (put_deep, deep_sort, deep_nodes, deep_levels, by_puts)

abbrev ex_of : ℕ → Checked Atoms
ex_of k = of (g.Ex (deep k) (in_column 8 (g.Fact (proof_in 9 p.Todo)))) (a.Exists n sort.Nat (le (var n) (num 0)))

thousand_levels : ex_of 997 ≡ Err (refusal 9 R9)
thousand_levels = simp with_deep

one_level_more : ex_of 998 ≡ Err (refusal 1 R10)
one_level_more = simp with_deep

-- unfold 1, where 1 is c(q, 1 + .. + 1)
put_cell_deep : (k : ℕ) → put_in_assn (arguments cell_params (var ql ∷ deep k ∷ [])) cell_body ≡ a.Star (a.Own (var ql) (deep k)) (le (deep k) (num 9))
put_cell_deep k = simp by_putting

ruleset with_cell = (put_cell_deep, with_deep)

abbrev one_atom : ℕ → Context
one_atom k = record { scope = scope; hyps = []; atoms = (1, a.Inst cell (var ql ∷ deep k ∷ [])) ∷ []; made = 1 }

abbrev unfolded : ℕ → Checked Context
unfolded k = after_step decl (one_atom k) (record { spot = at 1; kind = s.Unfold 1 })

fits_whole : unfolded 996 ≡ Ok (record { scope = scope; hyps = []; atoms = (2, a.Own (var ql) (deep 996)) ∷ (3, le (deep 996) (num 9)) ∷ []; made = 3 })
fits_whole = simp with_cell

too_large_whole : unfolded 997 ≡ Err (refusal 1 R10)
too_large_whole = simp with_cell

-- pred k (x : nat) = emp: what stands for x is no part of the definition
abbrev without_x : Declarations
without_x = record { proofs = decl.proofs; predicates = λ q. Some (one_case (param x sort.Nat ∷ []) a.Emp); lemmas = λ l. None; procs = λ f. None }

put_nothing : (k : ℕ) → put_in_assn (arguments (param x sort.Nat ∷ []) (deep k ∷ [])) a.Emp ≡ a.Emp
put_nothing k = simp by_putting

-- fold k(1 + .. + 1) by this give
abbrev folded : Give → Checked Context
folded z = after_step without_x (one_atom 1) (record { spot = at 1; kind = s.Fold cell (deep 1000 ∷ []) z })

-- the give comes before the size of the instance
give_first : folded (in_column 12 (g.Atom 9)) ≡ Err (refusal 12 R1)
give_first = simp (put_nothing, with_deep)

instance_too_large : folded (in_column 12 g.Emp) ≡ Err (refusal 1 R10)
instance_too_large = simp (put_nothing, with_deep)

-- ret 1 + .. + 1 by @9, where the postcondition is n : nat { [n <= 0] }: its size comes before the give
post_first : return_refused decl (at 1) (one_atom 1) (deep 998) (in_column 9 (g.Atom 9)) (record { result = n; sort = sort.Nat; assn = le (var n) (num 0) }) ≡ Some (refusal 1 R10)
post_first = simp with_deep

post_fits : return_refused decl (at 1) (one_atom 1) (deep 997) (in_column 9 (g.Atom 9)) (record { result = n; sort = sort.Nat; assn = le (var n) (num 0) }) ≡ Some (refusal 9 R1)
post_fits = simp with_deep

-- ---- at the limit of the whole state

-- a sum of ones of so many levels in all its parts, and its size
wide : ℕ → Term
wide zero = num 1
wide (suc k) = t.Add (wide k) (wide k)

abbrev wide_size : ℕ → ℕ
wide_size zero = 1
wide_size (suc k) = 2 * wide_size k + 1

wide_nodes : (k : ℕ) → nodes (wide k) ≡ wide_size k
unfolding wide
wide_nodes zero = at-Num ℕ nodes_at 1
wide_nodes (suc k) = at-Add ℕ nodes_at (wide k) (wide k) ∙ (λ i. wide_nodes k i + wide_nodes k i + 1) ∙ (omega arith)

wide_levels : (k : ℕ) → levels (wide k) ≡ k + 1
unfolding wide
wide_levels zero = at-Num ℕ levels_at 1
wide_levels (suc k) = at-Add ℕ levels_at (wide k) (wide k) ∙ (λ i. max (wide_levels k i) (wide_levels k i) + 1) ∙ (omega arith)

-- four atoms of 65,536 nodes: all that can be known
abbrev full : Context
full = record { scope = scope; hyps = []; atoms = (1, a.Fact (wide 15)) ∷ (2, a.Fact (wide 15)) ∷ (3, a.Fact (wide 15)) ∷ (4, a.Fact (wide 15)) ∷ []; made = 4 }

ruleset with_wide = (wide_nodes, wide_levels, by_puts)

-- open 1 as h: the formula is one node less
full_open : after_step decl full (record { spot = at 1; kind = s.OpenFact 1 h })
    ≡ Ok (record { scope = with_local scope h Hypothesis; hyps = hyp h (wide 15) ∷ []; atoms = (2, a.Fact (wide 15)) ∷ (3, a.Fact (wide 15)) ∷ (4, a.Fact (wide 15)) ∷ []; made = 4 })
full_open = simp with_wide

-- have h : 1 = 1 by refl
full_have : after_step decl full (record { spot = at 1; kind = s.Have h (t.Eq (num 1) (num 1)) (proof_in 5 p.Refl) }) ≡ Err (refusal 1 R10)
full_have = simp with_wide
