-- Small files, and what is refused in each.
use Rattle.std.proofs.Common.{◌≡◌, refl, [], ◌∷◌, None}
use Rattle.tht_tree.specs.declared.plain.Sort.TheVariants as sort
use Rattle.tht_tree.specs.declared.term.Term.TheOpen as t
use Rattle.tht_tree.specs.declared.assn.Assn.TheOpen as a
use Rattle.tht_tree.specs.declared.proof.Proof.{Proof}
use Rattle.tht_tree.specs.declared.proof.ProofKind.TheOpen as p
use Rattle.tht_tree.specs.declared.give.GiveKind.TheOpen as g
use Rattle.tht_tree.specs.declared.step.StepKind.TheVariants as s
use Rattle.tht_tree.specs.declared.body.EndKind.TheOpen as b
use Rattle.tht_tree.specs.declared.decl.Access.TheVariants as access
use Rattle.tht_tree.specs.declared.decl.Initial.TheVariants as v
use Rattle.tht_tree.specs.declared.decl.LemmaKind.TheVariants as l
use Rattle.tht_tree.specs.declared.decl.DeclKind.TheVariants as d
use Rattle.tht_tree.specs.declared.file.Source1.{Source1}
use Rattle.tht_tree.specs.declared.walk.WalkCode.TheVariants.{N1, N2, N3, N4, N5, N6, N7, S1, S2, S3, S4, S5}
use Rattle.tht_tree.specs.Walk.Files.{first_refusal}
use Rattle.walk_laws.proofs.SampleTrees.{at, tm, an, a_proof, a_give, a_stmt, the_end, block, refused, levels}

-- ---- files

-- ---- one file for each code

--     tht 1
--     main r : nat { emp } { ret x by emp }
abbrev unknown_name_file : Source1
unknown_name_file = record { version = 1; decls = []; main = record { spot = (at 2 1); result = (114 ∷ []); sort = sort.Nat; post = (an (a.Emp)); body = (block [] (record { spot = (at 2 24); kind = the_end (b.Ret (tm (t.Var (120 ∷ []))) (record { spot = (at 2 33); kind = a_give (g.Emp) })) })) } }

unknown_name : first_refusal unknown_name_file ≡ refused 2 24 N1
unknown_name = simp (levels)

--     tht 1
--     main r : nat { emp } { ret r by emp }
abbrev result_is_not_known_file : Source1
result_is_not_known_file = record { version = 1; decls = []; main = record { spot = (at 2 1); result = (114 ∷ []); sort = sort.Nat; post = (an (a.Emp)); body = (block [] (record { spot = (at 2 24); kind = the_end (b.Ret (tm (t.Var (114 ∷ []))) (record { spot = (at 2 33); kind = a_give (g.Emp) })) })) } }

result_is_not_known : first_refusal result_is_not_known_file ≡ refused 2 24 N1
result_is_not_known = simp (levels)

--     tht 1
--     main r : nat { emp } {
--       x <- alloc (0);
--       x <- alloc (1);
--       ret 0 by emp
--     }
abbrev bound_twice_file : Source1
bound_twice_file = record { version = 1; decls = []; main = record { spot = (at 2 1); result = (114 ∷ []); sort = sort.Nat; post = (an (a.Emp)); body = (block (record { spot = (at 3 3); kind = a_stmt (b.Alloc (120 ∷ []) ((tm (t.Num 0)) ∷ [])) } ∷ record { spot = (at 4 3); kind = a_stmt (b.Alloc (120 ∷ []) ((tm (t.Num 1)) ∷ [])) } ∷ []) (record { spot = (at 5 3); kind = the_end (b.Ret (tm (t.Num 0)) (record { spot = (at 5 12); kind = a_give (g.Emp) })) })) } }

bound_twice : first_refusal bound_twice_file ≡ refused 4 3 N2
bound_twice = simp (levels)

--     tht 1
--     main r : nat { emp } {
--       x <- alloc (0);
--       x <- alloc (true + y);
--       ret 0 by emp
--     }
abbrev table_before_text_file : Source1
table_before_text_file = record { version = 1; decls = []; main = record { spot = (at 2 1); result = (114 ∷ []); sort = sort.Nat; post = (an (a.Emp)); body = (block (record { spot = (at 3 3); kind = a_stmt (b.Alloc (120 ∷ []) ((tm (t.Num 0)) ∷ [])) } ∷ record { spot = (at 4 3); kind = a_stmt (b.Alloc (120 ∷ []) ((tm (t.Add (tm (t.True)) (tm (t.Var (121 ∷ []))))) ∷ [])) } ∷ []) (record { spot = (at 5 3); kind = the_end (b.Ret (tm (t.Num 0)) (record { spot = (at 5 12); kind = a_give (g.Emp) })) })) } }

table_before_text : first_refusal table_before_text_file ≡ refused 4 3 N1
table_before_text = simp (levels)

--     tht 1
--     main r : nat { emp } {
--       have h : 0 = 0 by refl;
--       ret h by emp
--     }
abbrev hypothesis_in_a_term_file : Source1
hypothesis_in_a_term_file = record { version = 1; decls = []; main = record { spot = (at 2 1); result = (114 ∷ []); sort = sort.Nat; post = (an (a.Emp)); body = (block (record { spot = (at 3 3); kind = a_stmt (b.Proof (record { spot = (at 3 3); kind = s.Have (104 ∷ []) (tm (t.Eq (tm (t.Num 0)) (tm (t.Num 0)))) (record { spot = (at 3 21); kind = a_proof (p.Refl) }) })) } ∷ []) (record { spot = (at 4 3); kind = the_end (b.Ret (tm (t.Var (104 ∷ []))) (record { spot = (at 4 12); kind = a_give (g.Emp) })) })) } }

hypothesis_in_a_term : first_refusal hypothesis_in_a_term_file ≡ refused 4 3 N3
hypothesis_in_a_term = simp (levels)

--     tht 1
--     pred p (x : nat) = emp;
--     main r : nat { p() } { ret 0 by emp }
abbrev too_few_arguments_file : Source1
too_few_arguments_file = record { version = 1; decls = (record { spot = (at 2 1); kind = d.Pred access.Private (112 ∷ []) (record { name = (120 ∷ []); sort = sort.Nat } ∷ []) (an (a.Emp)) } ∷ []); main = record { spot = (at 3 1); result = (114 ∷ []); sort = sort.Nat; post = (an (a.Inst (112 ∷ []) [])); body = (block [] (record { spot = (at 3 24); kind = the_end (b.Ret (tm (t.Num 0)) (record { spot = (at 3 33); kind = a_give (g.Emp) })) })) } }

too_few_arguments : first_refusal too_few_arguments_file ≡ refused 3 1 N4
too_few_arguments = simp (levels)

--     tht 1
--     root a : nat := 0;
--     invariant { a => 0 } by @1;
--     root b : nat := 0;
--     main r : nat { emp } { ret 0 by emp }
abbrev root_behind_the_invariant_file : Source1
root_behind_the_invariant_file = record { version = 1; decls = (record { spot = (at 2 1); kind = d.Root (97 ∷ []) sort.Nat (v.Num 0) } ∷ record { spot = (at 3 1); kind = d.Invariant (an (a.Shared (tm (t.Var (97 ∷ []))) (tm (t.Num 0)))) (record { spot = (at 3 25); kind = a_give (g.Atom 1) }) } ∷ record { spot = (at 4 1); kind = d.Root (98 ∷ []) sort.Nat (v.Num 0) } ∷ []); main = record { spot = (at 5 1); result = (114 ∷ []); sort = sort.Nat; post = (an (a.Emp)); body = (block [] (record { spot = (at 5 24); kind = the_end (b.Ret (tm (t.Num 0)) (record { spot = (at 5 33); kind = a_give (g.Emp) })) })) } }

root_behind_the_invariant : first_refusal root_behind_the_invariant_file ≡ refused 4 1 N5
root_behind_the_invariant = simp (levels)

--     tht 1
--     root a : nat := 0;
--     main r : nat { emp } { ret 0 by emp }
abbrev no_invariant_file : Source1
no_invariant_file = record { version = 1; decls = (record { spot = (at 2 1); kind = d.Root (97 ∷ []) sort.Nat (v.Num 0) } ∷ []); main = record { spot = (at 3 1); result = (114 ∷ []); sort = sort.Nat; post = (an (a.Emp)); body = (block [] (record { spot = (at 3 24); kind = the_end (b.Ret (tm (t.Num 0)) (record { spot = (at 3 33); kind = a_give (g.Emp) })) })) } }

no_invariant : first_refusal no_invariant_file ≡ refused 2 1 N6
no_invariant = refl

--     tht 1
--     pred p () = p();
--     main r : nat { emp } { ret 0 by emp }
abbrev predicate_names_itself_file : Source1
predicate_names_itself_file = record { version = 1; decls = (record { spot = (at 2 1); kind = d.Pred access.Private (112 ∷ []) [] (an (a.Inst (112 ∷ []) [])) } ∷ []); main = record { spot = (at 3 1); result = (114 ∷ []); sort = sort.Nat; post = (an (a.Emp)); body = (block [] (record { spot = (at 3 24); kind = the_end (b.Ret (tm (t.Num 0)) (record { spot = (at 3 33); kind = a_give (g.Emp) })) })) } }

predicate_names_itself : first_refusal predicate_names_itself_file ≡ refused 2 1 N7
predicate_names_itself = simp (levels)

--     tht 1
--     pred l (s : seq) on s nil = emp cons m t = l(t);
--     main r : nat { l(nil) } { ret 0 by emp }
abbrev predicate_names_its_tail_file : Source1
predicate_names_its_tail_file = record { version = 1; decls = (record { spot = (at 2 1); kind = d.PredOn access.Private (108 ∷ []) (record { name = (115 ∷ []); sort = sort.Seq } ∷ []) (115 ∷ []) (an (a.Emp)) (109 ∷ []) (116 ∷ []) (an (a.Inst (108 ∷ []) ((tm (t.Var (116 ∷ []))) ∷ []))) } ∷ []); main = record { spot = (at 3 1); result = (114 ∷ []); sort = sort.Nat; post = (an (a.Inst (108 ∷ []) ((tm (t.Nil)) ∷ []))); body = (block [] (record { spot = (at 3 27); kind = the_end (b.Ret (tm (t.Num 0)) (record { spot = (at 3 36); kind = a_give (g.Emp) })) })) } }

predicate_names_its_tail : first_refusal predicate_names_its_tail_file ≡ None
predicate_names_its_tail = simp (levels)

--     tht 1
--     lemma l (k : nat) on k { emp } { emp } zero { ret () by emp } next m {
--       use l(m) by emp;
--       use l(m + 1) by emp;
--       ret () by emp
--     }
--     main r : nat { emp } { ret 0 by emp }
abbrev lemma_names_itself_file : Source1
lemma_names_itself_file = record { version = 1; decls = (record { spot = (at 2 1); kind = d.Lemma (record { spot = (at 2 1); name = (108 ∷ []); params = (record { name = (107 ∷ []); sort = sort.Nat } ∷ []); pre = (an (a.Emp)); post = (an (a.Emp)); kind = l.OnNat (107 ∷ []) (block [] (record { spot = (at 2 47); kind = the_end (b.Ret (tm (t.Unit)) (record { spot = (at 2 57); kind = a_give (g.Emp) })) })) (109 ∷ []) (block (record { spot = (at 3 3); kind = a_stmt (b.Proof (record { spot = (at 3 3); kind = s.Use (108 ∷ []) ((tm (t.Var (109 ∷ []))) ∷ []) (record { spot = (at 3 15); kind = a_give (g.Emp) }) })) } ∷ record { spot = (at 4 3); kind = a_stmt (b.Proof (record { spot = (at 4 3); kind = s.Use (108 ∷ []) ((tm (t.Add (tm (t.Var (109 ∷ []))) (tm (t.Num 1)))) ∷ []) (record { spot = (at 4 19); kind = a_give (g.Emp) }) })) } ∷ []) (record { spot = (at 5 3); kind = the_end (b.Ret (tm (t.Unit)) (record { spot = (at 5 13); kind = a_give (g.Emp) })) })) }) } ∷ []); main = record { spot = (at 7 1); result = (114 ∷ []); sort = sort.Nat; post = (an (a.Emp)); body = (block [] (record { spot = (at 7 24); kind = the_end (b.Ret (tm (t.Num 0)) (record { spot = (at 7 33); kind = a_give (g.Emp) })) })) } }

lemma_names_itself : first_refusal lemma_names_itself_file ≡ refused 4 3 N7
lemma_names_itself = simp (levels)

--     tht 1
--     main r : nat { emp } { ret true by emp }
abbrev clash_file : Source1
clash_file = record { version = 1; decls = []; main = record { spot = (at 2 1); result = (114 ∷ []); sort = sort.Nat; post = (an (a.Emp)); body = (block [] (record { spot = (at 2 24); kind = the_end (b.Ret (tm (t.True)) (record { spot = (at 2 36); kind = a_give (g.Emp) })) })) } }

clash : first_refusal clash_file ≡ refused 2 24 S1
clash = simp (levels)

--     tht 1
--     main r : nat { emp } {
--       open 1 as x : nat;
--       ret x by emp
--     }
abbrev logic_in_a_program_file : Source1
logic_in_a_program_file = record { version = 1; decls = []; main = record { spot = (at 2 1); result = (114 ∷ []); sort = sort.Nat; post = (an (a.Emp)); body = (block (record { spot = (at 3 3); kind = a_stmt (b.Proof (record { spot = (at 3 3); kind = s.OpenVar 1 (120 ∷ []) sort.Nat })) } ∷ []) (record { spot = (at 4 3); kind = the_end (b.Ret (tm (t.Var (120 ∷ []))) (record { spot = (at 4 12); kind = a_give (g.Emp) })) })) } }

logic_in_a_program : first_refusal logic_in_a_program_file ≡ refused 4 3 S2
logic_in_a_program = simp (levels)

--     tht 1
--     main r : nat { null => 0 } { ret 0 by emp }
abbrev shared_cell_in_main_file : Source1
shared_cell_in_main_file = record { version = 1; decls = []; main = record { spot = (at 2 1); result = (114 ∷ []); sort = sort.Nat; post = (an (a.Shared (tm (t.Null)) (tm (t.Num 0)))); body = (block [] (record { spot = (at 2 30); kind = the_end (b.Ret (tm (t.Num 0)) (record { spot = (at 2 39); kind = a_give (g.Emp) })) })) } }

shared_cell_in_main : first_refusal shared_cell_in_main_file ≡ refused 2 1 S3
shared_cell_in_main = simp (levels)

--     tht 1
--     main r : nat { emp } {
--       x <- alloc (0);
--       publish x at 1 by refl;
--       ret 0 by emp
--     }
abbrev publish_outside_file : Source1
publish_outside_file = record { version = 1; decls = []; main = record { spot = (at 2 1); result = (114 ∷ []); sort = sort.Nat; post = (an (a.Emp)); body = (block (record { spot = (at 3 3); kind = a_stmt (b.Alloc (120 ∷ []) ((tm (t.Num 0)) ∷ [])) } ∷ record { spot = (at 4 3); kind = a_stmt (b.Publish (tm (t.Var (120 ∷ []))) 1 (record { spot = (at 4 21); kind = a_proof (p.Refl) })) } ∷ []) (record { spot = (at 5 3); kind = the_end (b.Ret (tm (t.Num 0)) (record { spot = (at 5 12); kind = a_give (g.Emp) })) })) } }

publish_outside : first_refusal publish_outside_file ≡ refused 4 3 S4
publish_outside = simp (levels)

--     tht 1
--     main r : seq { emp } { ret 0 by emp }
abbrev sequence_as_a_result_file : Source1
sequence_as_a_result_file = record { version = 1; decls = []; main = record { spot = (at 2 1); result = (114 ∷ []); sort = sort.Seq; post = (an (a.Emp)); body = (block [] (record { spot = (at 2 24); kind = the_end (b.Ret (tm (t.Num 0)) (record { spot = (at 2 33); kind = a_give (g.Emp) })) })) } }

sequence_as_a_result : first_refusal sequence_as_a_result_file ≡ refused 2 1 S5
sequence_as_a_result = simp (levels)

-- ---- what is known where, which code comes first, and what is allowed

--     tht 1
--     main r : nat { emp } {
--       (x : nat, y : nat) <- par () { ret 0 by emp } { [y = 0] } () { ret 0 by emp } { emp };
--       ret 0 by emp
--     }
abbrev n1_second_result_file : Source1
n1_second_result_file = record { version = 1; decls = []; main = record { spot = (at 2 1); result = (114 ∷ []); sort = sort.Nat; post = (an (a.Emp)); body = (block (record { spot = (at 3 3); kind = a_stmt (b.Par (120 ∷ []) sort.Nat (121 ∷ []) sort.Nat [] (block [] (record { spot = (at 3 34); kind = the_end (b.Ret (tm (t.Num 0)) (record { spot = (at 3 43); kind = a_give (g.Emp) })) })) (an (a.Fact (tm (t.Eq (tm (t.Var (121 ∷ []))) (tm (t.Num 0)))))) [] (block [] (record { spot = (at 3 66); kind = the_end (b.Ret (tm (t.Num 0)) (record { spot = (at 3 75); kind = a_give (g.Emp) })) })) (an (a.Emp))) } ∷ []) (record { spot = (at 4 3); kind = the_end (b.Ret (tm (t.Num 0)) (record { spot = (at 4 12); kind = a_give (g.Emp) })) })) } }

n1_second_result : first_refusal n1_second_result_file ≡ refused 3 3 N1
n1_second_result = simp (levels)

--     tht 1
--     main r : nat { emp } {
--       x <- alloc (x);
--       ret 0 by emp
--     }
abbrev n1_own_result_file : Source1
n1_own_result_file = record { version = 1; decls = []; main = record { spot = (at 2 1); result = (114 ∷ []); sort = sort.Nat; post = (an (a.Emp)); body = (block (record { spot = (at 3 3); kind = a_stmt (b.Alloc (120 ∷ []) ((tm (t.Var (120 ∷ []))) ∷ [])) } ∷ []) (record { spot = (at 4 3); kind = the_end (b.Ret (tm (t.Num 0)) (record { spot = (at 4 12); kind = a_give (g.Emp) })) })) } }

n1_own_result : first_refusal n1_own_result_file ≡ refused 3 3 N1
n1_own_result = simp (levels)

--     tht 1
--     main r : nat { emp } {
--       have h : 0 = 0 by   subst (x : nat . x = 0) [x] [0] refl refl;
--       ret 0 by emp
--     }
abbrev n1_subst_file : Source1
n1_subst_file = record { version = 1; decls = []; main = record { spot = (at 2 1); result = (114 ∷ []); sort = sort.Nat; post = (an (a.Emp)); body = (block (record { spot = (at 3 3); kind = a_stmt (b.Proof (record { spot = (at 3 3); kind = s.Have (104 ∷ []) (tm (t.Eq (tm (t.Num 0)) (tm (t.Num 0)))) (record { spot = (at 3 23); kind = a_proof (p.Subst (120 ∷ []) sort.Nat (tm (t.Eq (tm (t.Var (120 ∷ []))) (tm (t.Num 0)))) (tm (t.Var (120 ∷ []))) (tm (t.Num 0)) (record { spot = (at 3 55); kind = a_proof (p.Refl) }) (record { spot = (at 3 60); kind = a_proof (p.Refl) })) }) })) } ∷ []) (record { spot = (at 4 3); kind = the_end (b.Ret (tm (t.Num 0)) (record { spot = (at 4 12); kind = a_give (g.Emp) })) })) } }

n1_subst : first_refusal n1_subst_file ≡ refused 3 23 N1
n1_subst = simp (levels)

--     tht 1
--     pred l (s : seq) on s nil = [s = nil] cons m t = emp;
--     main r : nat { emp } { ret 0 by emp }
abbrev n1_replaced_file : Source1
n1_replaced_file = record { version = 1; decls = (record { spot = (at 2 1); kind = d.PredOn access.Private (108 ∷ []) (record { name = (115 ∷ []); sort = sort.Seq } ∷ []) (115 ∷ []) (an (a.Fact (tm (t.Eq (tm (t.Var (115 ∷ []))) (tm (t.Nil)))))) (109 ∷ []) (116 ∷ []) (an (a.Emp)) } ∷ []); main = record { spot = (at 3 1); result = (114 ∷ []); sort = sort.Nat; post = (an (a.Emp)); body = (block [] (record { spot = (at 3 24); kind = the_end (b.Ret (tm (t.Num 0)) (record { spot = (at 3 33); kind = a_give (g.Emp) })) })) } }

n1_replaced : first_refusal n1_replaced_file ≡ refused 2 1 N1
n1_replaced = simp (levels)

--     tht 1
--     main r : nat { emp } {
--       have h : 0 = 0 by hyp h;
--       ret 0 by emp
--     }
abbrev n1_own_hypothesis_file : Source1
n1_own_hypothesis_file = record { version = 1; decls = []; main = record { spot = (at 2 1); result = (114 ∷ []); sort = sort.Nat; post = (an (a.Emp)); body = (block (record { spot = (at 3 3); kind = a_stmt (b.Proof (record { spot = (at 3 3); kind = s.Have (104 ∷ []) (tm (t.Eq (tm (t.Num 0)) (tm (t.Num 0)))) (record { spot = (at 3 21); kind = a_proof (p.Hyp (104 ∷ [])) }) })) } ∷ []) (record { spot = (at 4 3); kind = the_end (b.Ret (tm (t.Num 0)) (record { spot = (at 4 12); kind = a_give (g.Emp) })) })) } }

n1_own_hypothesis : first_refusal n1_own_hypothesis_file ≡ refused 3 21 N1
n1_own_hypothesis = simp (levels)

--     tht 1
--     invariant { p() } by emp;
--     shared pred p () = emp;
--     main r : nat { emp } { ret 0 by emp }
abbrev n1_later_file : Source1
n1_later_file = record { version = 1; decls = (record { spot = (at 2 1); kind = d.Invariant (an (a.Inst (112 ∷ []) [])) (record { spot = (at 2 22); kind = a_give (g.Emp) }) } ∷ record { spot = (at 3 1); kind = d.Pred access.Shared (112 ∷ []) [] (an (a.Emp)) } ∷ []); main = record { spot = (at 4 1); result = (114 ∷ []); sort = sort.Nat; post = (an (a.Emp)); body = (block [] (record { spot = (at 4 24); kind = the_end (b.Ret (tm (t.Num 0)) (record { spot = (at 4 33); kind = a_give (g.Emp) })) })) } }

n1_later : first_refusal n1_later_file ≡ refused 2 1 N1
n1_later = simp (levels)

--     tht 1
--     pred l (s : seq) on u nil = emp cons m t = emp;
--     main r : nat { emp } { ret 0 by emp }
abbrev n1_on_file : Source1
n1_on_file = record { version = 1; decls = (record { spot = (at 2 1); kind = d.PredOn access.Private (108 ∷ []) (record { name = (115 ∷ []); sort = sort.Seq } ∷ []) (117 ∷ []) (an (a.Emp)) (109 ∷ []) (116 ∷ []) (an (a.Emp)) } ∷ []); main = record { spot = (at 3 1); result = (114 ∷ []); sort = sort.Nat; post = (an (a.Emp)); body = (block [] (record { spot = (at 3 24); kind = the_end (b.Ret (tm (t.Num 0)) (record { spot = (at 3 33); kind = a_give (g.Emp) })) })) } }

n1_on : first_refusal n1_on_file ≡ refused 2 1 N1
n1_on = simp (levels)

--     tht 1
--     pred p () = emp;
--     pred l (s : seq) on p nil = emp cons m t = emp;
--     main r : nat { emp } { ret 0 by emp }
abbrev n3_on_file : Source1
n3_on_file = record { version = 1; decls = (record { spot = (at 2 1); kind = d.Pred access.Private (112 ∷ []) [] (an (a.Emp)) } ∷ record { spot = (at 3 1); kind = d.PredOn access.Private (108 ∷ []) (record { name = (115 ∷ []); sort = sort.Seq } ∷ []) (112 ∷ []) (an (a.Emp)) (109 ∷ []) (116 ∷ []) (an (a.Emp)) } ∷ []); main = record { spot = (at 4 1); result = (114 ∷ []); sort = sort.Nat; post = (an (a.Emp)); body = (block [] (record { spot = (at 4 24); kind = the_end (b.Ret (tm (t.Num 0)) (record { spot = (at 4 33); kind = a_give (g.Emp) })) })) } }

n3_on : first_refusal n3_on_file ≡ refused 3 1 N3
n3_on = simp (levels)

--     tht 1
--     pred l (s : nat) on s nil = emp cons m t = emp;
--     main r : nat { emp } { ret 0 by emp }
abbrev s1_on_file : Source1
s1_on_file = record { version = 1; decls = (record { spot = (at 2 1); kind = d.PredOn access.Private (108 ∷ []) (record { name = (115 ∷ []); sort = sort.Nat } ∷ []) (115 ∷ []) (an (a.Emp)) (109 ∷ []) (116 ∷ []) (an (a.Emp)) } ∷ []); main = record { spot = (at 3 1); result = (114 ∷ []); sort = sort.Nat; post = (an (a.Emp)); body = (block [] (record { spot = (at 3 24); kind = the_end (b.Ret (tm (t.Num 0)) (record { spot = (at 3 33); kind = a_give (g.Emp) })) })) } }

s1_on : first_refusal s1_on_file ≡ refused 2 1 S1
s1_on = simp (levels)

--     tht 1
--     pred a () = emp;
--     main r : nat { exists a : nat . emp } { ret 0 by emp }
abbrev n2_bound_name_file : Source1
n2_bound_name_file = record { version = 1; decls = (record { spot = (at 2 1); kind = d.Pred access.Private (97 ∷ []) [] (an (a.Emp)) } ∷ []); main = record { spot = (at 3 1); result = (114 ∷ []); sort = sort.Nat; post = (an (a.Exists (97 ∷ []) sort.Nat (an (a.Emp)))); body = (block [] (record { spot = (at 3 41); kind = the_end (b.Ret (tm (t.Num 0)) (record { spot = (at 3 50); kind = a_give (g.Emp) })) })) } }

n2_bound_name : first_refusal n2_bound_name_file ≡ refused 3 1 N2
n2_bound_name = simp (levels)

--     tht 1
--     proc f (x : nat) [] { emp } x : nat { emp } { ret 0 by emp }
--     main r : nat { emp } { ret 0 by emp }
abbrev n2_result_file : Source1
n2_result_file = record { version = 1; decls = (record { spot = (at 2 1); kind = d.Proc (record { name = (102 ∷ []); params = (record { name = (120 ∷ []); sort = sort.Nat } ∷ []); logic = []; pre = (an (a.Emp)); result = (120 ∷ []); sort = sort.Nat; post = (an (a.Emp)) }) (block [] (record { spot = (at 2 47); kind = the_end (b.Ret (tm (t.Num 0)) (record { spot = (at 2 56); kind = a_give (g.Emp) })) })) } ∷ []); main = record { spot = (at 3 1); result = (114 ∷ []); sort = sort.Nat; post = (an (a.Emp)); body = (block [] (record { spot = (at 3 24); kind = the_end (b.Ret (tm (t.Num 0)) (record { spot = (at 3 33); kind = a_give (g.Emp) })) })) } }

n2_result : first_refusal n2_result_file ≡ refused 2 1 N2
n2_result = simp (levels)

--     tht 1
--     proc f (f : nat) [] { emp } x : nat { emp } { ret 0 by emp }
--     main r : nat { emp } { ret 0 by emp }
abbrev n2_own_name_file : Source1
n2_own_name_file = record { version = 1; decls = (record { spot = (at 2 1); kind = d.Proc (record { name = (102 ∷ []); params = (record { name = (102 ∷ []); sort = sort.Nat } ∷ []); logic = []; pre = (an (a.Emp)); result = (120 ∷ []); sort = sort.Nat; post = (an (a.Emp)) }) (block [] (record { spot = (at 2 47); kind = the_end (b.Ret (tm (t.Num 0)) (record { spot = (at 2 56); kind = a_give (g.Emp) })) })) } ∷ []); main = record { spot = (at 3 1); result = (114 ∷ []); sort = sort.Nat; post = (an (a.Emp)); body = (block [] (record { spot = (at 3 24); kind = the_end (b.Ret (tm (t.Num 0)) (record { spot = (at 3 33); kind = a_give (g.Emp) })) })) } }

n2_own_name : first_refusal n2_own_name_file ≡ refused 2 1 N2
n2_own_name = simp (levels)

--     tht 1
--     main r : nat { emp } {
--       x <- alloc (0);
--       y : nat <- read x at 1 as y by refl;
--       ret 0 by emp
--     }
abbrev n2_read_file : Source1
n2_read_file = record { version = 1; decls = []; main = record { spot = (at 2 1); result = (114 ∷ []); sort = sort.Nat; post = (an (a.Emp)); body = (block (record { spot = (at 3 3); kind = a_stmt (b.Alloc (120 ∷ []) ((tm (t.Num 0)) ∷ [])) } ∷ record { spot = (at 4 3); kind = a_stmt (b.Read (121 ∷ []) sort.Nat (tm (t.Var (120 ∷ []))) 1 (121 ∷ []) (record { spot = (at 4 34); kind = a_proof (p.Refl) })) } ∷ []) (record { spot = (at 5 3); kind = the_end (b.Ret (tm (t.Num 0)) (record { spot = (at 5 12); kind = a_give (g.Emp) })) })) } }

n2_read : first_refusal n2_read_file ≡ refused 4 3 N2
n2_read = simp (levels)

--     tht 1
--     main r : nat { emp } {
--       (x : nat, x : nat) <- par () { ret 0 by emp } { emp } () { ret 0 by emp } { emp };
--       ret 0 by emp
--     }
abbrev n2_par_file : Source1
n2_par_file = record { version = 1; decls = []; main = record { spot = (at 2 1); result = (114 ∷ []); sort = sort.Nat; post = (an (a.Emp)); body = (block (record { spot = (at 3 3); kind = a_stmt (b.Par (120 ∷ []) sort.Nat (120 ∷ []) sort.Nat [] (block [] (record { spot = (at 3 34); kind = the_end (b.Ret (tm (t.Num 0)) (record { spot = (at 3 43); kind = a_give (g.Emp) })) })) (an (a.Emp)) [] (block [] (record { spot = (at 3 62); kind = the_end (b.Ret (tm (t.Num 0)) (record { spot = (at 3 71); kind = a_give (g.Emp) })) })) (an (a.Emp))) } ∷ []) (record { spot = (at 4 3); kind = the_end (b.Ret (tm (t.Num 0)) (record { spot = (at 4 12); kind = a_give (g.Emp) })) })) } }

n2_par : first_refusal n2_par_file ≡ refused 3 3 N2
n2_par = simp (levels)

--     tht 1
--     main r : nat { emp } {
--       have h : 0 = 0 by fun g . fun g . refl;
--       ret 0 by emp
--     }
abbrev n2_fun_file : Source1
n2_fun_file = record { version = 1; decls = []; main = record { spot = (at 2 1); result = (114 ∷ []); sort = sort.Nat; post = (an (a.Emp)); body = (block (record { spot = (at 3 3); kind = a_stmt (b.Proof (record { spot = (at 3 3); kind = s.Have (104 ∷ []) (tm (t.Eq (tm (t.Num 0)) (tm (t.Num 0)))) (record { spot = (at 3 21); kind = a_proof (p.Fun (103 ∷ []) (record { spot = (at 3 29); kind = a_proof (p.Fun (103 ∷ []) (record { spot = (at 3 37); kind = a_proof (p.Refl) })) })) }) })) } ∷ []) (record { spot = (at 4 3); kind = the_end (b.Ret (tm (t.Num 0)) (record { spot = (at 4 12); kind = a_give (g.Emp) })) })) } }

n2_fun : first_refusal n2_fun_file ≡ refused 3 29 N2
n2_fun = simp (levels)

--     tht 1
--     pred l (s : seq) on s nil = emp cons t t = emp;
--     main r : nat { emp } { ret 0 by emp }
abbrev n2_case_names_file : Source1
n2_case_names_file = record { version = 1; decls = (record { spot = (at 2 1); kind = d.PredOn access.Private (108 ∷ []) (record { name = (115 ∷ []); sort = sort.Seq } ∷ []) (115 ∷ []) (an (a.Emp)) (116 ∷ []) (116 ∷ []) (an (a.Emp)) } ∷ []); main = record { spot = (at 3 1); result = (114 ∷ []); sort = sort.Nat; post = (an (a.Emp)); body = (block [] (record { spot = (at 3 24); kind = the_end (b.Ret (tm (t.Num 0)) (record { spot = (at 3 33); kind = a_give (g.Emp) })) })) } }

n2_case_names : first_refusal n2_case_names_file ≡ refused 2 1 N2
n2_case_names = simp (levels)

--     tht 1
--     pred l (s : seq, s : nat) on s nil = [s = 0] cons m t = emp;
--     main r : nat { emp } { ret 0 by emp }
abbrev n2_one_is_replaced_file : Source1
n2_one_is_replaced_file = record { version = 1; decls = (record { spot = (at 2 1); kind = d.PredOn access.Private (108 ∷ []) (record { name = (115 ∷ []); sort = sort.Seq } ∷ record { name = (115 ∷ []); sort = sort.Nat } ∷ []) (115 ∷ []) (an (a.Fact (tm (t.Eq (tm (t.Var (115 ∷ []))) (tm (t.Num 0)))))) (109 ∷ []) (116 ∷ []) (an (a.Emp)) } ∷ []); main = record { spot = (at 3 1); result = (114 ∷ []); sort = sort.Nat; post = (an (a.Emp)); body = (block [] (record { spot = (at 3 24); kind = the_end (b.Ret (tm (t.Num 0)) (record { spot = (at 3 33); kind = a_give (g.Emp) })) })) } }

n2_one_is_replaced : first_refusal n2_one_is_replaced_file ≡ refused 2 1 N2
n2_one_is_replaced = simp (levels)

--     tht 1
--     pred l (s : seq) on s nil = emp cons s t = l(t);
--     main r : nat { emp } { ret 0 by emp }
abbrev ok_case_names_file : Source1
ok_case_names_file = record { version = 1; decls = (record { spot = (at 2 1); kind = d.PredOn access.Private (108 ∷ []) (record { name = (115 ∷ []); sort = sort.Seq } ∷ []) (115 ∷ []) (an (a.Emp)) (115 ∷ []) (116 ∷ []) (an (a.Inst (108 ∷ []) ((tm (t.Var (116 ∷ []))) ∷ []))) } ∷ []); main = record { spot = (at 3 1); result = (114 ∷ []); sort = sort.Nat; post = (an (a.Emp)); body = (block [] (record { spot = (at 3 24); kind = the_end (b.Ret (tm (t.Num 0)) (record { spot = (at 3 33); kind = a_give (g.Emp) })) })) } }

ok_case_names : first_refusal ok_case_names_file ≡ None
ok_case_names = simp (levels)

--     tht 1
--     main r : nat { emp } {
--       have h : 0 = 0 by cases [0 = 0 or 0 = 0] inl refl { g . hyp g } { g . hyp g };
--       ret 0 by emp
--     }
abbrev ok_one_hypothesis_twice_file : Source1
ok_one_hypothesis_twice_file = record { version = 1; decls = []; main = record { spot = (at 2 1); result = (114 ∷ []); sort = sort.Nat; post = (an (a.Emp)); body = (block (record { spot = (at 3 3); kind = a_stmt (b.Proof (record { spot = (at 3 3); kind = s.Have (104 ∷ []) (tm (t.Eq (tm (t.Num 0)) (tm (t.Num 0)))) (record { spot = (at 3 21); kind = a_proof (p.Cases (tm (t.Or (tm (t.Eq (tm (t.Num 0)) (tm (t.Num 0)))) (tm (t.Eq (tm (t.Num 0)) (tm (t.Num 0)))))) (record { spot = (at 3 44); kind = a_proof (p.Inl (record { spot = (at 3 48); kind = a_proof (p.Refl) })) }) (103 ∷ []) (record { spot = (at 3 59); kind = a_proof (p.Hyp (103 ∷ [])) }) (103 ∷ []) (record { spot = (at 3 73); kind = a_proof (p.Hyp (103 ∷ [])) })) }) })) } ∷ []) (record { spot = (at 4 3); kind = the_end (b.Ret (tm (t.Num 0)) (record { spot = (at 4 12); kind = a_give (g.Emp) })) })) } }

ok_one_hypothesis_twice : first_refusal ok_one_hypothesis_twice_file ≡ None
ok_one_hypothesis_twice = simp (levels)

--     tht 1
--     main r : nat { emp } {
--       have h : 0 = 0 by em [0 = 0] { g . hyp g } { k . hyp g };
--       ret 0 by emp
--     }
abbrev n1_other_hypothesis_file : Source1
n1_other_hypothesis_file = record { version = 1; decls = []; main = record { spot = (at 2 1); result = (114 ∷ []); sort = sort.Nat; post = (an (a.Emp)); body = (block (record { spot = (at 3 3); kind = a_stmt (b.Proof (record { spot = (at 3 3); kind = s.Have (104 ∷ []) (tm (t.Eq (tm (t.Num 0)) (tm (t.Num 0)))) (record { spot = (at 3 21); kind = a_proof (p.Em (tm (t.Eq (tm (t.Num 0)) (tm (t.Num 0)))) (103 ∷ []) (record { spot = (at 3 38); kind = a_proof (p.Hyp (103 ∷ [])) }) (107 ∷ []) (record { spot = (at 3 52); kind = a_proof (p.Hyp (103 ∷ [])) })) }) })) } ∷ []) (record { spot = (at 4 3); kind = the_end (b.Ret (tm (t.Num 0)) (record { spot = (at 4 12); kind = a_give (g.Emp) })) })) } }

n1_other_hypothesis : first_refusal n1_other_hypothesis_file ≡ refused 3 52 N1
n1_other_hypothesis = simp (levels)

--     tht 1
--     main r : nat { emp } {
--       x : nat <- do () { x <- alloc (0); free x at 1 by refl; ret 0 by emp } { [x = 0] };
--       ret x by emp
--     }
abbrev ok_result_free_in_body_file : Source1
ok_result_free_in_body_file = record { version = 1; decls = []; main = record { spot = (at 2 1); result = (114 ∷ []); sort = sort.Nat; post = (an (a.Emp)); body = (block (record { spot = (at 3 3); kind = a_stmt (b.Do (120 ∷ []) sort.Nat [] (block (record { spot = (at 3 22); kind = a_stmt (b.Alloc (120 ∷ []) ((tm (t.Num 0)) ∷ [])) } ∷ record { spot = (at 3 38); kind = a_stmt (b.Free (tm (t.Var (120 ∷ []))) 1 (record { spot = (at 3 53); kind = a_proof (p.Refl) })) } ∷ []) (record { spot = (at 3 59); kind = the_end (b.Ret (tm (t.Num 0)) (record { spot = (at 3 68); kind = a_give (g.Emp) })) })) (an (a.Fact (tm (t.Eq (tm (t.Var (120 ∷ []))) (tm (t.Num 0))))))) } ∷ []) (record { spot = (at 4 3); kind = the_end (b.Ret (tm (t.Var (120 ∷ []))) (record { spot = (at 4 12); kind = a_give (g.Emp) })) })) } }

ok_result_free_in_body : first_refusal ok_result_free_in_body_file ≡ None
ok_result_free_in_body = simp (levels)

--     tht 1
--     main r : nat { emp } {
--       (x : nat, y : nat) <- par () { ret 0 by emp } { exists y : nat . [x = y] } () { ret 0 by emp } { emp };
--       ret x + y by emp
--     }
abbrev ok_box_of_the_first_file : Source1
ok_box_of_the_first_file = record { version = 1; decls = []; main = record { spot = (at 2 1); result = (114 ∷ []); sort = sort.Nat; post = (an (a.Emp)); body = (block (record { spot = (at 3 3); kind = a_stmt (b.Par (120 ∷ []) sort.Nat (121 ∷ []) sort.Nat [] (block [] (record { spot = (at 3 34); kind = the_end (b.Ret (tm (t.Num 0)) (record { spot = (at 3 43); kind = a_give (g.Emp) })) })) (an (a.Exists (121 ∷ []) sort.Nat (an (a.Fact (tm (t.Eq (tm (t.Var (120 ∷ []))) (tm (t.Var (121 ∷ []))))))))) [] (block [] (record { spot = (at 3 83); kind = the_end (b.Ret (tm (t.Num 0)) (record { spot = (at 3 92); kind = a_give (g.Emp) })) })) (an (a.Emp))) } ∷ []) (record { spot = (at 4 3); kind = the_end (b.Ret (tm (t.Add (tm (t.Var (120 ∷ []))) (tm (t.Var (121 ∷ []))))) (record { spot = (at 4 16); kind = a_give (g.Emp) })) })) } }

ok_box_of_the_first : first_refusal ok_box_of_the_first_file ≡ None
ok_box_of_the_first = simp (levels)

--     tht 1
--     main r : nat { [r = 7] } {
--       r <- alloc (0);
--       free r at 1 by refl;
--       ret 7 by [calc]
--     }
abbrev ok_main_binds_its_result_name_file : Source1
ok_main_binds_its_result_name_file = record { version = 1; decls = []; main = record { spot = (at 2 1); result = (114 ∷ []); sort = sort.Nat; post = (an (a.Fact (tm (t.Eq (tm (t.Var (114 ∷ []))) (tm (t.Num 7)))))); body = (block (record { spot = (at 3 3); kind = a_stmt (b.Alloc (114 ∷ []) ((tm (t.Num 0)) ∷ [])) } ∷ record { spot = (at 4 3); kind = a_stmt (b.Free (tm (t.Var (114 ∷ []))) 1 (record { spot = (at 4 18); kind = a_proof (p.Refl) })) } ∷ []) (record { spot = (at 5 3); kind = the_end (b.Ret (tm (t.Num 7)) (record { spot = (at 5 12); kind = a_give (g.Fact (record { spot = (at 5 13); kind = a_proof (p.Calc) })) })) })) } }

ok_main_binds_its_result_name : first_refusal ok_main_binds_its_result_name_file ≡ None
ok_main_binds_its_result_name = simp (levels)

--     tht 1
--     lemma l () { emp } { emp } { ret () by emp }
--     main r : nat { emp } {
--       x <- call l()[] by emp;
--       ret 0 by emp
--     }
abbrev n3_call_file : Source1
n3_call_file = record { version = 1; decls = (record { spot = (at 2 1); kind = d.Lemma (record { spot = (at 2 1); name = (108 ∷ []); params = []; pre = (an (a.Emp)); post = (an (a.Emp)); kind = l.Plain (block [] (record { spot = (at 2 30); kind = the_end (b.Ret (tm (t.Unit)) (record { spot = (at 2 40); kind = a_give (g.Emp) })) })) }) } ∷ []); main = record { spot = (at 3 1); result = (114 ∷ []); sort = sort.Nat; post = (an (a.Emp)); body = (block (record { spot = (at 4 3); kind = a_stmt (b.Call (120 ∷ []) (108 ∷ []) [] [] (record { spot = (at 4 22); kind = a_give (g.Emp) })) } ∷ []) (record { spot = (at 5 3); kind = the_end (b.Ret (tm (t.Num 0)) (record { spot = (at 5 12); kind = a_give (g.Emp) })) })) } }

n3_call : first_refusal n3_call_file ≡ refused 4 3 N3
n3_call = simp (levels)

--     tht 1
--     shared pred p () = emp;
--     root a : loc := p;
--     invariant { emp } by emp;
--     main r : nat { emp } { ret 0 by emp }
abbrev n3_root_value_file : Source1
n3_root_value_file = record { version = 1; decls = (record { spot = (at 2 1); kind = d.Pred access.Shared (112 ∷ []) [] (an (a.Emp)) } ∷ record { spot = (at 3 1); kind = d.Root (97 ∷ []) sort.Loc (v.Root (112 ∷ [])) } ∷ record { spot = (at 4 1); kind = d.Invariant (an (a.Emp)) (record { spot = (at 4 22); kind = a_give (g.Emp) }) } ∷ []); main = record { spot = (at 5 1); result = (114 ∷ []); sort = sort.Nat; post = (an (a.Emp)); body = (block [] (record { spot = (at 5 24); kind = the_end (b.Ret (tm (t.Num 0)) (record { spot = (at 5 33); kind = a_give (g.Emp) })) })) } }

n3_root_value : first_refusal n3_root_value_file ≡ refused 3 1 N3
n3_root_value = simp (levels)

--     tht 1
--     root a : loc := a;
--     invariant { exists v : loc . a => v } by ex [a] @1;
--     main r : nat { emp } { ret 0 by emp }
abbrev ok_root_names_itself_file : Source1
ok_root_names_itself_file = record { version = 1; decls = (record { spot = (at 2 1); kind = d.Root (97 ∷ []) sort.Loc (v.Root (97 ∷ [])) } ∷ record { spot = (at 3 1); kind = d.Invariant (an (a.Exists (118 ∷ []) sort.Loc (an (a.Shared (tm (t.Var (97 ∷ []))) (tm (t.Var (118 ∷ []))))))) (record { spot = (at 3 42); kind = a_give (g.Ex (tm (t.Var (97 ∷ []))) (record { spot = (at 3 49); kind = a_give (g.Atom 1) })) }) } ∷ []); main = record { spot = (at 4 1); result = (114 ∷ []); sort = sort.Nat; post = (an (a.Emp)); body = (block [] (record { spot = (at 4 24); kind = the_end (b.Ret (tm (t.Num 0)) (record { spot = (at 4 33); kind = a_give (g.Emp) })) })) } }

ok_root_names_itself : first_refusal ok_root_names_itself_file ≡ None
ok_root_names_itself = simp (levels)

--     tht 1
--     root a : nat := a;
--     invariant { emp } by emp;
--     main r : nat { emp } { ret 0 by emp }
abbrev s1_root_value_file : Source1
s1_root_value_file = record { version = 1; decls = (record { spot = (at 2 1); kind = d.Root (97 ∷ []) sort.Nat (v.Root (97 ∷ [])) } ∷ record { spot = (at 3 1); kind = d.Invariant (an (a.Emp)) (record { spot = (at 3 22); kind = a_give (g.Emp) }) } ∷ []); main = record { spot = (at 4 1); result = (114 ∷ []); sort = sort.Nat; post = (an (a.Emp)); body = (block [] (record { spot = (at 4 24); kind = the_end (b.Ret (tm (t.Num 0)) (record { spot = (at 4 33); kind = a_give (g.Emp) })) })) } }

s1_root_value : first_refusal s1_root_value_file ≡ refused 2 1 S1
s1_root_value = refl

--     tht 1
--     root a : seq := null;
--     invariant { emp } by emp;
--     main r : nat { emp } { ret 0 by emp }
abbrev s1_root_seq_file : Source1
s1_root_seq_file = record { version = 1; decls = (record { spot = (at 2 1); kind = d.Root (97 ∷ []) sort.Seq v.Null } ∷ record { spot = (at 3 1); kind = d.Invariant (an (a.Emp)) (record { spot = (at 3 22); kind = a_give (g.Emp) }) } ∷ []); main = record { spot = (at 4 1); result = (114 ∷ []); sort = sort.Nat; post = (an (a.Emp)); body = (block [] (record { spot = (at 4 24); kind = the_end (b.Ret (tm (t.Num 0)) (record { spot = (at 4 33); kind = a_give (g.Emp) })) })) } }

s1_root_seq : first_refusal s1_root_seq_file ≡ refused 2 1 S1
s1_root_seq = refl

--     tht 1
--     proc f (x : nat) [y : nat] { emp } r : nat { emp } { ret x by emp }
--     main r : nat { emp } {
--       x <- call f(0)[] by emp;
--       ret 0 by emp
--     }
abbrev n4_call_file : Source1
n4_call_file = record { version = 1; decls = (record { spot = (at 2 1); kind = d.Proc (record { name = (102 ∷ []); params = (record { name = (120 ∷ []); sort = sort.Nat } ∷ []); logic = (record { name = (121 ∷ []); sort = sort.Nat } ∷ []); pre = (an (a.Emp)); result = (114 ∷ []); sort = sort.Nat; post = (an (a.Emp)) }) (block [] (record { spot = (at 2 54); kind = the_end (b.Ret (tm (t.Var (120 ∷ []))) (record { spot = (at 2 63); kind = a_give (g.Emp) })) })) } ∷ []); main = record { spot = (at 3 1); result = (114 ∷ []); sort = sort.Nat; post = (an (a.Emp)); body = (block (record { spot = (at 4 3); kind = a_stmt (b.Call (120 ∷ []) (102 ∷ []) ((tm (t.Num 0)) ∷ []) [] (record { spot = (at 4 23); kind = a_give (g.Emp) })) } ∷ []) (record { spot = (at 5 3); kind = the_end (b.Ret (tm (t.Num 0)) (record { spot = (at 5 12); kind = a_give (g.Emp) })) })) } }

n4_call : first_refusal n4_call_file ≡ refused 4 3 N4
n4_call = simp (levels)

--     tht 1
--     pred p (x : nat) = p();
--     main r : nat { emp } { ret 0 by emp }
abbrev n4_before_n7_file : Source1
n4_before_n7_file = record { version = 1; decls = (record { spot = (at 2 1); kind = d.Pred access.Private (112 ∷ []) (record { name = (120 ∷ []); sort = sort.Nat } ∷ []) (an (a.Inst (112 ∷ []) [])) } ∷ []); main = record { spot = (at 3 1); result = (114 ∷ []); sort = sort.Nat; post = (an (a.Emp)); body = (block [] (record { spot = (at 3 24); kind = the_end (b.Ret (tm (t.Num 0)) (record { spot = (at 3 33); kind = a_give (g.Emp) })) })) } }

n4_before_n7 : first_refusal n4_before_n7_file ≡ refused 2 1 N4
n4_before_n7 = simp (levels)

--     tht 1
--     pred p (x : nat) = emp;
--     main r : nat { p(true, 0) } { ret 0 by emp }
abbrev n4_before_s1_file : Source1
n4_before_s1_file = record { version = 1; decls = (record { spot = (at 2 1); kind = d.Pred access.Private (112 ∷ []) (record { name = (120 ∷ []); sort = sort.Nat } ∷ []) (an (a.Emp)) } ∷ []); main = record { spot = (at 3 1); result = (114 ∷ []); sort = sort.Nat; post = (an (a.Inst (112 ∷ []) ((tm (t.True)) ∷ (tm (t.Num 0)) ∷ []))); body = (block [] (record { spot = (at 3 31); kind = the_end (b.Ret (tm (t.Num 0)) (record { spot = (at 3 40); kind = a_give (g.Emp) })) })) } }

n4_before_s1 : first_refusal n4_before_s1_file ≡ refused 3 1 N4
n4_before_s1 = simp (levels)

--     tht 1
--     invariant { emp } by emp;
--     invariant { emp } by emp;
--     main r : nat { emp } { ret 0 by emp }
abbrev n5_second_invariant_file : Source1
n5_second_invariant_file = record { version = 1; decls = (record { spot = (at 2 1); kind = d.Invariant (an (a.Emp)) (record { spot = (at 2 22); kind = a_give (g.Emp) }) } ∷ record { spot = (at 3 1); kind = d.Invariant (an (a.Emp)) (record { spot = (at 3 22); kind = a_give (g.Emp) }) } ∷ []); main = record { spot = (at 4 1); result = (114 ∷ []); sort = sort.Nat; post = (an (a.Emp)); body = (block [] (record { spot = (at 4 24); kind = the_end (b.Ret (tm (t.Num 0)) (record { spot = (at 4 33); kind = a_give (g.Emp) })) })) } }

n5_second_invariant : first_refusal n5_second_invariant_file ≡ refused 3 1 N5
n5_second_invariant = simp (levels)

--     tht 1
--     proc f () [] { emp } r : nat { emp } { ret 0 by emp }
--     invariant { emp } by emp;
--     main r : nat { emp } { ret 0 by emp }
abbrev n5_behind_proc_file : Source1
n5_behind_proc_file = record { version = 1; decls = (record { spot = (at 2 1); kind = d.Proc (record { name = (102 ∷ []); params = []; logic = []; pre = (an (a.Emp)); result = (114 ∷ []); sort = sort.Nat; post = (an (a.Emp)) }) (block [] (record { spot = (at 2 40); kind = the_end (b.Ret (tm (t.Num 0)) (record { spot = (at 2 49); kind = a_give (g.Emp) })) })) } ∷ record { spot = (at 3 1); kind = d.Invariant (an (a.Emp)) (record { spot = (at 3 22); kind = a_give (g.Emp) }) } ∷ []); main = record { spot = (at 4 1); result = (114 ∷ []); sort = sort.Nat; post = (an (a.Emp)); body = (block [] (record { spot = (at 4 24); kind = the_end (b.Ret (tm (t.Num 0)) (record { spot = (at 4 33); kind = a_give (g.Emp) })) })) } }

n5_behind_proc : first_refusal n5_behind_proc_file ≡ refused 3 1 N5
n5_behind_proc = simp (levels)

--     tht 1
--     root a : nat := true;
--     main r : nat { emp } { ret 0 by emp }
abbrev n6_before_s1_file : Source1
n6_before_s1_file = record { version = 1; decls = (record { spot = (at 2 1); kind = d.Root (97 ∷ []) sort.Nat v.True } ∷ []); main = record { spot = (at 3 1); result = (114 ∷ []); sort = sort.Nat; post = (an (a.Emp)); body = (block [] (record { spot = (at 3 24); kind = the_end (b.Ret (tm (t.Num 0)) (record { spot = (at 3 33); kind = a_give (g.Emp) })) })) } }

n6_before_s1 : first_refusal n6_before_s1_file ≡ refused 2 1 N6
n6_before_s1 = refl

--     tht 1
--     lemma l (k : nat) on k { emp } { emp } zero {       use l(0) by emp; ret () by emp } next m { ret () by emp }
--     main r : nat { emp } { ret 0 by emp }
abbrev n7_first_case_file : Source1
n7_first_case_file = record { version = 1; decls = (record { spot = (at 2 1); kind = d.Lemma (record { spot = (at 2 1); name = (108 ∷ []); params = (record { name = (107 ∷ []); sort = sort.Nat } ∷ []); pre = (an (a.Emp)); post = (an (a.Emp)); kind = l.OnNat (107 ∷ []) (block (record { spot = (at 2 53); kind = a_stmt (b.Proof (record { spot = (at 2 53); kind = s.Use (108 ∷ []) ((tm (t.Num 0)) ∷ []) (record { spot = (at 2 65); kind = a_give (g.Emp) }) })) } ∷ []) (record { spot = (at 2 70); kind = the_end (b.Ret (tm (t.Unit)) (record { spot = (at 2 80); kind = a_give (g.Emp) })) })) (109 ∷ []) (block [] (record { spot = (at 2 95); kind = the_end (b.Ret (tm (t.Unit)) (record { spot = (at 2 105); kind = a_give (g.Emp) })) })) }) } ∷ []); main = record { spot = (at 3 1); result = (114 ∷ []); sort = sort.Nat; post = (an (a.Emp)); body = (block [] (record { spot = (at 3 24); kind = the_end (b.Ret (tm (t.Num 0)) (record { spot = (at 3 33); kind = a_give (g.Emp) })) })) } }

n7_first_case : first_refusal n7_first_case_file ≡ refused 2 53 N7
n7_first_case = simp (levels)

--     tht 1
--     lemma l () { [0 = 0] } { [0 = 0] } {
--       have h : 0 = 0 by lemma l() refl;
--       ret () by [hyp h]
--     }
--     main r : nat { emp } { ret 0 by emp }
abbrev n7_plain_proof_file : Source1
n7_plain_proof_file = record { version = 1; decls = (record { spot = (at 2 1); kind = d.Lemma (record { spot = (at 2 1); name = (108 ∷ []); params = []; pre = (an (a.Fact (tm (t.Eq (tm (t.Num 0)) (tm (t.Num 0)))))); post = (an (a.Fact (tm (t.Eq (tm (t.Num 0)) (tm (t.Num 0)))))); kind = l.Plain (block (record { spot = (at 3 3); kind = a_stmt (b.Proof (record { spot = (at 3 3); kind = s.Have (104 ∷ []) (tm (t.Eq (tm (t.Num 0)) (tm (t.Num 0)))) (record { spot = (at 3 21); kind = a_proof (p.Lemma (108 ∷ []) [] (record { spot = (at 3 31); kind = a_proof (p.Refl) })) }) })) } ∷ []) (record { spot = (at 4 3); kind = the_end (b.Ret (tm (t.Unit)) (record { spot = (at 4 13); kind = a_give (g.Fact (record { spot = (at 4 14); kind = a_proof (p.Hyp (104 ∷ [])) })) })) })) }) } ∷ []); main = record { spot = (at 6 1); result = (114 ∷ []); sort = sort.Nat; post = (an (a.Emp)); body = (block [] (record { spot = (at 6 24); kind = the_end (b.Ret (tm (t.Num 0)) (record { spot = (at 6 33); kind = a_give (g.Emp) })) })) } }

n7_plain_proof : first_refusal n7_plain_proof_file ≡ refused 3 21 N7
n7_plain_proof = simp (levels)

--     tht 1
--     lemma l (k : nat, s : seq) on s { emp } { [len s = len s] } nil { ret () by [refl] } cons m t {
--       use l(m, t) by emp;
--       have h : len t = len t by lemma l(0, t) refl;
--       ret () by [refl]
--     }
--     main r : nat { emp } {
--       use l(0, nil) by emp;
--       ret 0 by emp
--     }
abbrev ok_lemma_on_seq_file : Source1
ok_lemma_on_seq_file = record { version = 1; decls = (record { spot = (at 2 1); kind = d.Lemma (record { spot = (at 2 1); name = (108 ∷ []); params = (record { name = (107 ∷ []); sort = sort.Nat } ∷ record { name = (115 ∷ []); sort = sort.Seq } ∷ []); pre = (an (a.Emp)); post = (an (a.Fact (tm (t.Eq (tm (t.Len (tm (t.Var (115 ∷ []))))) (tm (t.Len (tm (t.Var (115 ∷ []))))))))); kind = l.OnSeq (115 ∷ []) (block [] (record { spot = (at 2 67); kind = the_end (b.Ret (tm (t.Unit)) (record { spot = (at 2 77); kind = a_give (g.Fact (record { spot = (at 2 78); kind = a_proof (p.Refl) })) })) })) (109 ∷ []) (116 ∷ []) (block (record { spot = (at 3 3); kind = a_stmt (b.Proof (record { spot = (at 3 3); kind = s.Use (108 ∷ []) ((tm (t.Var (109 ∷ []))) ∷ (tm (t.Var (116 ∷ []))) ∷ []) (record { spot = (at 3 18); kind = a_give (g.Emp) }) })) } ∷ record { spot = (at 4 3); kind = a_stmt (b.Proof (record { spot = (at 4 3); kind = s.Have (104 ∷ []) (tm (t.Eq (tm (t.Len (tm (t.Var (116 ∷ []))))) (tm (t.Len (tm (t.Var (116 ∷ []))))))) (record { spot = (at 4 29); kind = a_proof (p.Lemma (108 ∷ []) ((tm (t.Num 0)) ∷ (tm (t.Var (116 ∷ []))) ∷ []) (record { spot = (at 4 43); kind = a_proof (p.Refl) })) }) })) } ∷ []) (record { spot = (at 5 3); kind = the_end (b.Ret (tm (t.Unit)) (record { spot = (at 5 13); kind = a_give (g.Fact (record { spot = (at 5 14); kind = a_proof (p.Refl) })) })) })) }) } ∷ []); main = record { spot = (at 7 1); result = (114 ∷ []); sort = sort.Nat; post = (an (a.Emp)); body = (block (record { spot = (at 8 3); kind = a_stmt (b.Proof (record { spot = (at 8 3); kind = s.Use (108 ∷ []) ((tm (t.Num 0)) ∷ (tm (t.Nil)) ∷ []) (record { spot = (at 8 20); kind = a_give (g.Emp) }) })) } ∷ []) (record { spot = (at 9 3); kind = the_end (b.Ret (tm (t.Num 0)) (record { spot = (at 9 12); kind = a_give (g.Emp) })) })) } }

ok_lemma_on_seq : first_refusal ok_lemma_on_seq_file ≡ None
ok_lemma_on_seq = simp (levels)

--     tht 1
--     lemma l (k : seq, s : seq) on s { emp } { emp } nil { ret () by emp } cons m t {
--       use l(t, k) by emp;
--       ret () by emp
--     }
--     main r : nat { emp } { ret 0 by emp }
abbrev n7_head_for_tail_file : Source1
n7_head_for_tail_file = record { version = 1; decls = (record { spot = (at 2 1); kind = d.Lemma (record { spot = (at 2 1); name = (108 ∷ []); params = (record { name = (107 ∷ []); sort = sort.Seq } ∷ record { name = (115 ∷ []); sort = sort.Seq } ∷ []); pre = (an (a.Emp)); post = (an (a.Emp)); kind = l.OnSeq (115 ∷ []) (block [] (record { spot = (at 2 55); kind = the_end (b.Ret (tm (t.Unit)) (record { spot = (at 2 65); kind = a_give (g.Emp) })) })) (109 ∷ []) (116 ∷ []) (block (record { spot = (at 3 3); kind = a_stmt (b.Proof (record { spot = (at 3 3); kind = s.Use (108 ∷ []) ((tm (t.Var (116 ∷ []))) ∷ (tm (t.Var (107 ∷ []))) ∷ []) (record { spot = (at 3 18); kind = a_give (g.Emp) }) })) } ∷ []) (record { spot = (at 4 3); kind = the_end (b.Ret (tm (t.Unit)) (record { spot = (at 4 13); kind = a_give (g.Emp) })) })) }) } ∷ []); main = record { spot = (at 6 1); result = (114 ∷ []); sort = sort.Nat; post = (an (a.Emp)); body = (block [] (record { spot = (at 6 24); kind = the_end (b.Ret (tm (t.Num 0)) (record { spot = (at 6 33); kind = a_give (g.Emp) })) })) } }

n7_head_for_tail : first_refusal n7_head_for_tail_file ≡ refused 3 3 N7
n7_head_for_tail = simp (levels)

--     tht 1
--     main r : nat { emp } {
--       if 1 as h { ret 0 by emp } else { ret 0 by emp }
--     }
abbrev s1_if_file : Source1
s1_if_file = record { version = 1; decls = []; main = record { spot = (at 2 1); result = (114 ∷ []); sort = sort.Nat; post = (an (a.Emp)); body = (block [] (record { spot = (at 3 3); kind = the_end (b.If (tm (t.Num 1)) (104 ∷ []) (block [] (record { spot = (at 3 15); kind = the_end (b.Ret (tm (t.Num 0)) (record { spot = (at 3 24); kind = a_give (g.Emp) })) })) (block [] (record { spot = (at 3 37); kind = the_end (b.Ret (tm (t.Num 0)) (record { spot = (at 3 46); kind = a_give (g.Emp) })) }))) })) } }

s1_if : first_refusal s1_if_file ≡ refused 3 3 S1
s1_if = simp (levels)
