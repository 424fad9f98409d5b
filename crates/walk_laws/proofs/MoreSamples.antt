-- More small files, and what is refused in each; and two whole files.
use Rattle.std.proofs.Common.{◌≡◌, refl, [], ◌∷◌, None}
use Rattle.tht_tree.specs.declared.plain.Sort.TheVariants as sort
use Rattle.tht_tree.specs.declared.term.Term.TheOpen as t
use Rattle.tht_tree.specs.declared.assn.Assn.TheOpen as a
use Rattle.tht_tree.specs.declared.proof.Proof.{Proof}
use Rattle.tht_tree.specs.declared.proof.ProofKind.TheOpen as p
use Rattle.tht_tree.specs.declared.give.GiveKind.TheOpen as g
use Rattle.tht_tree.specs.declared.step.StepKind.TheVariants as s
use Rattle.tht_tree.specs.declared.body.EndKind.TheOpen as b
use Rattle.tht_tree.specs.declared.decl.Access.TheVariants as access
use Rattle.tht_tree.specs.declared.decl.Initial.TheVariants as v
use Rattle.tht_tree.specs.declared.decl.LemmaKind.TheVariants as l
use Rattle.tht_tree.specs.declared.decl.DeclKind.TheVariants as d
use Rattle.tht_tree.specs.declared.file.Source1.{Source1}
use Rattle.tht_tree.specs.declared.walk.WalkCode.TheVariants.{N1, N2, N3, S1, S2, S3, S4, S5}
use Rattle.tht_tree.specs.Walk.Files.{first_refusal}
use Rattle.walk_laws.proofs.SampleTrees.{at, tm, an, a_proof, an_entry, a_give, a_stmt, the_end, block, refused, levels}

--     tht 1
--     main r : nat { emp } {
--       have h : 0 = null by refl;
--       ret 0 by emp
--     }
abbrev s1_equation_file : Source1
s1_equation_file = record { version = 1; decls = []; main = record { spot = (at 2 1); result = (114 ∷ []); sort = sort.Nat; post = (an (a.Emp)); body = (block (record { spot = (at 3 3); kind = a_stmt (b.Proof (record { spot = (at 3 3); kind = s.Have (104 ∷ []) (tm (t.Eq (tm (t.Num 0)) (tm (t.Null)))) (record { spot = (at 3 24); kind = a_proof (p.Refl) }) })) } ∷ []) (record { spot = (at 4 3); kind = the_end (b.Ret (tm (t.Num 0)) (record { spot = (at 4 12); kind = a_give (g.Emp) })) })) } }

s1_equation : first_refusal s1_equation_file ≡ refused 3 3 S1
s1_equation = simp (levels)

--     tht 1
--     main r : nat { emp } {
--       have h : 0 = 0 by tail [nil] [0] refl;
--       ret 0 by emp
--     }
abbrev s1_tail_file : Source1
s1_tail_file = record { version = 1; decls = []; main = record { spot = (at 2 1); result = (114 ∷ []); sort = sort.Nat; post = (an (a.Emp)); body = (block (record { spot = (at 3 3); kind = a_stmt (b.Proof (record { spot = (at 3 3); kind = s.Have (104 ∷ []) (tm (t.Eq (tm (t.Num 0)) (tm (t.Num 0)))) (record { spot = (at 3 21); kind = a_proof (p.Tail (tm (t.Nil)) (tm (t.Num 0)) (record { spot = (at 3 36); kind = a_proof (p.Refl) })) }) })) } ∷ []) (record { spot = (at 4 3); kind = the_end (b.Ret (tm (t.Num 0)) (record { spot = (at 4 12); kind = a_give (g.Emp) })) })) } }

s1_tail : first_refusal s1_tail_file ≡ refused 3 21 S1
s1_tail = simp (levels)

--     tht 1
--     main r : nat { emp } {
--       have h : 0 = 0 by lin 1 { 1 [0 = 0] refl, 1 [0] hyp k };
--       ret 0 by emp
--     }
abbrev s1_inside_lin_file : Source1
s1_inside_lin_file = record { version = 1; decls = []; main = record { spot = (at 2 1); result = (114 ∷ []); sort = sort.Nat; post = (an (a.Emp)); body = (block (record { spot = (at 3 3); kind = a_stmt (b.Proof (record { spot = (at 3 3); kind = s.Have (104 ∷ []) (tm (t.Eq (tm (t.Num 0)) (tm (t.Num 0)))) (record { spot = (at 3 21); kind = a_proof (p.Lin 1 (an_entry (record { multiplier = 1; fact = (tm (t.Eq (tm (t.Num 0)) (tm (t.Num 0)))); proof = (record { spot = (at 3 39); kind = a_proof (p.Refl) }) }) ∷ an_entry (record { multiplier = 1; fact = (tm (t.Num 0)); proof = (record { spot = (at 3 51); kind = a_proof (p.Hyp (107 ∷ [])) }) }) ∷ [])) }) })) } ∷ []) (record { spot = (at 4 3); kind = the_end (b.Ret (tm (t.Num 0)) (record { spot = (at 4 12); kind = a_give (g.Emp) })) })) } }

s1_inside_lin : first_refusal s1_inside_lin_file ≡ refused 3 21 S1
s1_inside_lin = simp (levels)

--     tht 1
--     main r : nat { emp } {
--       have h : 0 = 0 by lin 1 { 1 [0 = 0] refl, 1 [0 = 0]   hyp k };
--       ret 0 by emp
--     }
abbrev n1_inside_lin_file : Source1
n1_inside_lin_file = record { version = 1; decls = []; main = record { spot = (at 2 1); result = (114 ∷ []); sort = sort.Nat; post = (an (a.Emp)); body = (block (record { spot = (at 3 3); kind = a_stmt (b.Proof (record { spot = (at 3 3); kind = s.Have (104 ∷ []) (tm (t.Eq (tm (t.Num 0)) (tm (t.Num 0)))) (record { spot = (at 3 21); kind = a_proof (p.Lin 1 (an_entry (record { multiplier = 1; fact = (tm (t.Eq (tm (t.Num 0)) (tm (t.Num 0)))); proof = (record { spot = (at 3 39); kind = a_proof (p.Refl) }) }) ∷ an_entry (record { multiplier = 1; fact = (tm (t.Eq (tm (t.Num 0)) (tm (t.Num 0)))); proof = (record { spot = (at 3 57); kind = a_proof (p.Hyp (107 ∷ [])) }) }) ∷ [])) }) })) } ∷ []) (record { spot = (at 4 3); kind = the_end (b.Ret (tm (t.Num 0)) (record { spot = (at 4 12); kind = a_give (g.Emp) })) })) } }

n1_inside_lin : first_refusal n1_inside_lin_file ≡ refused 3 57 N1
n1_inside_lin = simp (levels)

--     tht 1
--     main r : nat { emp } {
--       x <- alloc (1 + nil);
--       ret 0 by emp
--     }
abbrev s1_before_s2_file : Source1
s1_before_s2_file = record { version = 1; decls = []; main = record { spot = (at 2 1); result = (114 ∷ []); sort = sort.Nat; post = (an (a.Emp)); body = (block (record { spot = (at 3 3); kind = a_stmt (b.Alloc (120 ∷ []) ((tm (t.Add (tm (t.Num 1)) (tm (t.Nil)))) ∷ [])) } ∷ []) (record { spot = (at 4 3); kind = the_end (b.Ret (tm (t.Num 0)) (record { spot = (at 4 12); kind = a_give (g.Emp) })) })) } }

s1_before_s2 : first_refusal s1_before_s2_file ≡ refused 3 3 S1
s1_before_s2 = simp (levels)

--     tht 1
--     main r : nat { emp } {
--       x <- alloc (nil);
--       ret 0 by emp
--     }
abbrev s2_alloc_file : Source1
s2_alloc_file = record { version = 1; decls = []; main = record { spot = (at 2 1); result = (114 ∷ []); sort = sort.Nat; post = (an (a.Emp)); body = (block (record { spot = (at 3 3); kind = a_stmt (b.Alloc (120 ∷ []) ((tm (t.Nil)) ∷ [])) } ∷ []) (record { spot = (at 4 3); kind = the_end (b.Ret (tm (t.Num 0)) (record { spot = (at 4 12); kind = a_give (g.Emp) })) })) } }

s2_alloc : first_refusal s2_alloc_file ≡ refused 3 3 S2
s2_alloc = simp (levels)

--     tht 1
--     main r : nat { emp } { ret len nil by emp }
abbrev s2_len_file : Source1
s2_len_file = record { version = 1; decls = []; main = record { spot = (at 2 1); result = (114 ∷ []); sort = sort.Nat; post = (an (a.Emp)); body = (block [] (record { spot = (at 2 24); kind = the_end (b.Ret (tm (t.Len (tm (t.Nil)))) (record { spot = (at 2 39); kind = a_give (g.Emp) })) })) } }

s2_len : first_refusal s2_len_file ≡ refused 2 24 S2
s2_len = simp (levels)

--     tht 1
--     lemma l (u : unit) { emp } { emp }         { ret u by emp }
--     main r : nat { emp } { ret 0 by emp }
abbrev s2_lemma_file : Source1
s2_lemma_file = record { version = 1; decls = (record { spot = (at 2 1); kind = d.Lemma (record { spot = (at 2 1); name = (108 ∷ []); params = (record { name = (117 ∷ []); sort = sort.Unit } ∷ []); pre = (an (a.Emp)); post = (an (a.Emp)); kind = l.Plain (block [] (record { spot = (at 2 46); kind = the_end (b.Ret (tm (t.Var (117 ∷ []))) (record { spot = (at 2 55); kind = a_give (g.Emp) })) })) }) } ∷ []); main = record { spot = (at 3 1); result = (114 ∷ []); sort = sort.Nat; post = (an (a.Emp)); body = (block [] (record { spot = (at 3 24); kind = the_end (b.Ret (tm (t.Num 0)) (record { spot = (at 3 33); kind = a_give (g.Emp) })) })) } }

s2_lemma : first_refusal s2_lemma_file ≡ refused 2 46 S2
s2_lemma = simp (levels)

--     tht 1
--     lemma l () { emp } { emp } { ret 5 by emp }
--     main r : nat { emp } { ret 0 by emp }
abbrev s4_lemma_ret_file : Source1
s4_lemma_ret_file = record { version = 1; decls = (record { spot = (at 2 1); kind = d.Lemma (record { spot = (at 2 1); name = (108 ∷ []); params = []; pre = (an (a.Emp)); post = (an (a.Emp)); kind = l.Plain (block [] (record { spot = (at 2 30); kind = the_end (b.Ret (tm (t.Num 5)) (record { spot = (at 2 39); kind = a_give (g.Emp) })) })) }) } ∷ []); main = record { spot = (at 3 1); result = (114 ∷ []); sort = sort.Nat; post = (an (a.Emp)); body = (block [] (record { spot = (at 3 24); kind = the_end (b.Ret (tm (t.Num 0)) (record { spot = (at 3 33); kind = a_give (g.Emp) })) })) } }

s4_lemma_ret : first_refusal s4_lemma_ret_file ≡ refused 2 30 S4
s4_lemma_ret = simp (levels)

--     tht 1
--     lemma l () { emp } { emp } { if true as h { ret () by emp } else { ret () by emp } }
--     main r : nat { emp } { ret 0 by emp }
abbrev s4_lemma_if_file : Source1
s4_lemma_if_file = record { version = 1; decls = (record { spot = (at 2 1); kind = d.Lemma (record { spot = (at 2 1); name = (108 ∷ []); params = []; pre = (an (a.Emp)); post = (an (a.Emp)); kind = l.Plain (block [] (record { spot = (at 2 30); kind = the_end (b.If (tm (t.True)) (104 ∷ []) (block [] (record { spot = (at 2 45); kind = the_end (b.Ret (tm (t.Unit)) (record { spot = (at 2 55); kind = a_give (g.Emp) })) })) (block [] (record { spot = (at 2 68); kind = the_end (b.Ret (tm (t.Unit)) (record { spot = (at 2 78); kind = a_give (g.Emp) })) }))) })) }) } ∷ []); main = record { spot = (at 3 1); result = (114 ∷ []); sort = sort.Nat; post = (an (a.Emp)); body = (block [] (record { spot = (at 3 24); kind = the_end (b.Ret (tm (t.Num 0)) (record { spot = (at 3 33); kind = a_give (g.Emp) })) })) } }

s4_lemma_if : first_refusal s4_lemma_if_file ≡ refused 2 30 S4
s4_lemma_if = simp (levels)

--     tht 1
--     lemma l (b : bool) { emp } { emp } { if b as h { ret () by emp } else { ret () by emp } }
--     main r : nat { emp } { ret 0 by emp }
abbrev s2_before_s4_lemma_if_file : Source1
s2_before_s4_lemma_if_file = record { version = 1; decls = (record { spot = (at 2 1); kind = d.Lemma (record { spot = (at 2 1); name = (108 ∷ []); params = (record { name = (98 ∷ []); sort = sort.Bool } ∷ []); pre = (an (a.Emp)); post = (an (a.Emp)); kind = l.Plain (block [] (record { spot = (at 2 38); kind = the_end (b.If (tm (t.Var (98 ∷ []))) (104 ∷ []) (block [] (record { spot = (at 2 50); kind = the_end (b.Ret (tm (t.Unit)) (record { spot = (at 2 60); kind = a_give (g.Emp) })) })) (block [] (record { spot = (at 2 73); kind = the_end (b.Ret (tm (t.Unit)) (record { spot = (at 2 83); kind = a_give (g.Emp) })) }))) })) }) } ∷ []); main = record { spot = (at 3 1); result = (114 ∷ []); sort = sort.Nat; post = (an (a.Emp)); body = (block [] (record { spot = (at 3 24); kind = the_end (b.Ret (tm (t.Num 0)) (record { spot = (at 3 33); kind = a_give (g.Emp) })) })) } }

s2_before_s4_lemma_if : first_refusal s2_before_s4_lemma_if_file ≡ refused 2 38 S2
s2_before_s4_lemma_if = simp (levels)

--     tht 1
--     lemma l () { emp } { emp } { write null 0 at 1 by refl; ret () by emp }
--     main r : nat { emp } { ret 0 by emp }
abbrev s4_lemma_write_file : Source1
s4_lemma_write_file = record { version = 1; decls = (record { spot = (at 2 1); kind = d.Lemma (record { spot = (at 2 1); name = (108 ∷ []); params = []; pre = (an (a.Emp)); post = (an (a.Emp)); kind = l.Plain (block (record { spot = (at 2 30); kind = a_stmt (b.Write (tm (t.Null)) (tm (t.Num 0)) 1 (record { spot = (at 2 51); kind = a_proof (p.Refl) })) } ∷ []) (record { spot = (at 2 57); kind = the_end (b.Ret (tm (t.Unit)) (record { spot = (at 2 67); kind = a_give (g.Emp) })) })) }) } ∷ []); main = record { spot = (at 3 1); result = (114 ∷ []); sort = sort.Nat; post = (an (a.Emp)); body = (block [] (record { spot = (at 3 24); kind = the_end (b.Ret (tm (t.Num 0)) (record { spot = (at 3 33); kind = a_give (g.Emp) })) })) } }

s4_lemma_write : first_refusal s4_lemma_write_file ≡ refused 2 30 S4
s4_lemma_write = simp (levels)

--     tht 1
--     main r : nat { emp } {
--       x : nat <- atomic () {
--         y : nat <- atomic () { ret 0 by emp } { emp };
--         ret 0 by emp
--       } { emp };
--       ret 0 by emp
--     }
abbrev s4_atomic_inside_file : Source1
s4_atomic_inside_file = record { version = 1; decls = []; main = record { spot = (at 2 1); result = (114 ∷ []); sort = sort.Nat; post = (an (a.Emp)); body = (block (record { spot = (at 3 3); kind = a_stmt (b.Atomic (120 ∷ []) sort.Nat [] (block (record { spot = (at 4 5); kind = a_stmt (b.Atomic (121 ∷ []) sort.Nat [] (block [] (record { spot = (at 4 28); kind = the_end (b.Ret (tm (t.Num 0)) (record { spot = (at 4 37); kind = a_give (g.Emp) })) })) (an (a.Emp))) } ∷ []) (record { spot = (at 5 5); kind = the_end (b.Ret (tm (t.Num 0)) (record { spot = (at 5 14); kind = a_give (g.Emp) })) })) (an (a.Emp))) } ∷ []) (record { spot = (at 7 3); kind = the_end (b.Ret (tm (t.Num 0)) (record { spot = (at 7 12); kind = a_give (g.Emp) })) })) } }

s4_atomic_inside : first_refusal s4_atomic_inside_file ≡ refused 4 5 S4
s4_atomic_inside = simp (levels)

--     tht 1
--     main r : nat { emp } {
--       x : nat <- atomic () {
--         y : nat <- atomic () { ret 0 by emp } { null => 0 };
--         ret 0 by emp
--       } { emp };
--       ret 0 by emp
--     }
abbrev s3_before_s4_file : Source1
s3_before_s4_file = record { version = 1; decls = []; main = record { spot = (at 2 1); result = (114 ∷ []); sort = sort.Nat; post = (an (a.Emp)); body = (block (record { spot = (at 3 3); kind = a_stmt (b.Atomic (120 ∷ []) sort.Nat [] (block (record { spot = (at 4 5); kind = a_stmt (b.Atomic (121 ∷ []) sort.Nat [] (block [] (record { spot = (at 4 28); kind = the_end (b.Ret (tm (t.Num 0)) (record { spot = (at 4 37); kind = a_give (g.Emp) })) })) (an (a.Shared (tm (t.Null)) (tm (t.Num 0))))) } ∷ []) (record { spot = (at 5 5); kind = the_end (b.Ret (tm (t.Num 0)) (record { spot = (at 5 14); kind = a_give (g.Emp) })) })) (an (a.Emp))) } ∷ []) (record { spot = (at 7 3); kind = the_end (b.Ret (tm (t.Num 0)) (record { spot = (at 7 12); kind = a_give (g.Emp) })) })) } }

s3_before_s4 : first_refusal s3_before_s4_file ≡ refused 4 5 S3
s3_before_s4 = simp (levels)

--     tht 1
--     main r : nat { emp } {
--       x : nat <- atomic () {
--         y : nat <- do () { ret 0 by emp } { null => 0 };
--         ret 0 by emp
--       } { emp };
--       ret 0 by emp
--     }
abbrev ok_do_inside_file : Source1
ok_do_inside_file = record { version = 1; decls = []; main = record { spot = (at 2 1); result = (114 ∷ []); sort = sort.Nat; post = (an (a.Emp)); body = (block (record { spot = (at 3 3); kind = a_stmt (b.Atomic (120 ∷ []) sort.Nat [] (block (record { spot = (at 4 5); kind = a_stmt (b.Do (121 ∷ []) sort.Nat [] (block [] (record { spot = (at 4 24); kind = the_end (b.Ret (tm (t.Num 0)) (record { spot = (at 4 33); kind = a_give (g.Emp) })) })) (an (a.Shared (tm (t.Null)) (tm (t.Num 0))))) } ∷ []) (record { spot = (at 5 5); kind = the_end (b.Ret (tm (t.Num 0)) (record { spot = (at 5 14); kind = a_give (g.Emp) })) })) (an (a.Emp))) } ∷ []) (record { spot = (at 7 3); kind = the_end (b.Ret (tm (t.Num 0)) (record { spot = (at 7 12); kind = a_give (g.Emp) })) })) } }

ok_do_inside : first_refusal ok_do_inside_file ≡ None
ok_do_inside = simp (levels)

--     tht 1
--     main r : nat { emp } {
--       y : nat <- do () { ret 0 by emp } { null => 0 };
--       ret 0 by emp
--     }
abbrev s3_do_outside_file : Source1
s3_do_outside_file = record { version = 1; decls = []; main = record { spot = (at 2 1); result = (114 ∷ []); sort = sort.Nat; post = (an (a.Emp)); body = (block (record { spot = (at 3 3); kind = a_stmt (b.Do (121 ∷ []) sort.Nat [] (block [] (record { spot = (at 3 22); kind = the_end (b.Ret (tm (t.Num 0)) (record { spot = (at 3 31); kind = a_give (g.Emp) })) })) (an (a.Shared (tm (t.Null)) (tm (t.Num 0))))) } ∷ []) (record { spot = (at 4 3); kind = the_end (b.Ret (tm (t.Num 0)) (record { spot = (at 4 12); kind = a_give (g.Emp) })) })) } }

s3_do_outside : first_refusal s3_do_outside_file ≡ refused 3 3 S3
s3_do_outside = simp (levels)

--     tht 1
--     txn f () [] { null => 0 * null -> 0 } r : nat { emp } { ret 0 by emp }
--     main r : nat { emp } {
--       x <- call f()[] by emp;
--       ret 0 by emp
--     }
abbrev s4_txn_outside_file : Source1
s4_txn_outside_file = record { version = 1; decls = (record { spot = (at 2 1); kind = d.Txn (record { name = (102 ∷ []); params = []; logic = []; pre = (an (a.Star (an (a.Shared (tm (t.Null)) (tm (t.Num 0)))) (an (a.Own (tm (t.Null)) (tm (t.Num 0)))))); result = (114 ∷ []); sort = sort.Nat; post = (an (a.Emp)) }) (block [] (record { spot = (at 2 57); kind = the_end (b.Ret (tm (t.Num 0)) (record { spot = (at 2 66); kind = a_give (g.Emp) })) })) } ∷ []); main = record { spot = (at 3 1); result = (114 ∷ []); sort = sort.Nat; post = (an (a.Emp)); body = (block (record { spot = (at 4 3); kind = a_stmt (b.Call (120 ∷ []) (102 ∷ []) [] [] (record { spot = (at 4 22); kind = a_give (g.Emp) })) } ∷ []) (record { spot = (at 5 3); kind = the_end (b.Ret (tm (t.Num 0)) (record { spot = (at 5 12); kind = a_give (g.Emp) })) })) } }

s4_txn_outside : first_refusal s4_txn_outside_file ≡ refused 4 3 S4
s4_txn_outside = simp (levels)

--     tht 1
--     proc g () [] { emp } r : nat { emp } { ret 0 by emp }
--     txn f () [] { emp } r : nat { emp } { x <- call g()[] by emp; ret 0 by emp }
--     main r : nat { emp } { ret 0 by emp }
abbrev s4_proc_inside_file : Source1
s4_proc_inside_file = record { version = 1; decls = (record { spot = (at 2 1); kind = d.Proc (record { name = (103 ∷ []); params = []; logic = []; pre = (an (a.Emp)); result = (114 ∷ []); sort = sort.Nat; post = (an (a.Emp)) }) (block [] (record { spot = (at 2 40); kind = the_end (b.Ret (tm (t.Num 0)) (record { spot = (at 2 49); kind = a_give (g.Emp) })) })) } ∷ record { spot = (at 3 1); kind = d.Txn (record { name = (102 ∷ []); params = []; logic = []; pre = (an (a.Emp)); result = (114 ∷ []); sort = sort.Nat; post = (an (a.Emp)) }) (block (record { spot = (at 3 39); kind = a_stmt (b.Call (120 ∷ []) (103 ∷ []) [] [] (record { spot = (at 3 58); kind = a_give (g.Emp) })) } ∷ []) (record { spot = (at 3 63); kind = the_end (b.Ret (tm (t.Num 0)) (record { spot = (at 3 72); kind = a_give (g.Emp) })) })) } ∷ []); main = record { spot = (at 4 1); result = (114 ∷ []); sort = sort.Nat; post = (an (a.Emp)); body = (block [] (record { spot = (at 4 24); kind = the_end (b.Ret (tm (t.Num 0)) (record { spot = (at 4 33); kind = a_give (g.Emp) })) })) } }

s4_proc_inside : first_refusal s4_proc_inside_file ≡ refused 3 39 S4
s4_proc_inside = simp (levels)

--     tht 1
--     pred p () = null => 0;
--     main r : nat { emp } { ret 0 by emp }
abbrev s3_private_pred_file : Source1
s3_private_pred_file = record { version = 1; decls = (record { spot = (at 2 1); kind = d.Pred access.Private (112 ∷ []) [] (an (a.Shared (tm (t.Null)) (tm (t.Num 0)))) } ∷ []); main = record { spot = (at 3 1); result = (114 ∷ []); sort = sort.Nat; post = (an (a.Emp)); body = (block [] (record { spot = (at 3 24); kind = the_end (b.Ret (tm (t.Num 0)) (record { spot = (at 3 33); kind = a_give (g.Emp) })) })) } }

s3_private_pred : first_refusal s3_private_pred_file ≡ refused 2 1 S3
s3_private_pred = simp (levels)

--     tht 1
--     pred p () = emp;
--     shared pred q () = p();
--     main r : nat { emp } { ret 0 by emp }
abbrev s3_shared_pred_file : Source1
s3_shared_pred_file = record { version = 1; decls = (record { spot = (at 2 1); kind = d.Pred access.Private (112 ∷ []) [] (an (a.Emp)) } ∷ record { spot = (at 3 1); kind = d.Pred access.Shared (113 ∷ []) [] (an (a.Inst (112 ∷ []) [])) } ∷ []); main = record { spot = (at 4 1); result = (114 ∷ []); sort = sort.Nat; post = (an (a.Emp)); body = (block [] (record { spot = (at 4 24); kind = the_end (b.Ret (tm (t.Num 0)) (record { spot = (at 4 33); kind = a_give (g.Emp) })) })) } }

s3_shared_pred : first_refusal s3_shared_pred_file ≡ refused 3 1 S3
s3_shared_pred = simp (levels)

--     tht 1
--     proc g () [] { null => 0 } r : nat { emp } { ret 0 by emp }
--     main r : nat { emp } { ret 0 by emp }
abbrev s3_proc_pre_file : Source1
s3_proc_pre_file = record { version = 1; decls = (record { spot = (at 2 1); kind = d.Proc (record { name = (103 ∷ []); params = []; logic = []; pre = (an (a.Shared (tm (t.Null)) (tm (t.Num 0)))); result = (114 ∷ []); sort = sort.Nat; post = (an (a.Emp)) }) (block [] (record { spot = (at 2 46); kind = the_end (b.Ret (tm (t.Num 0)) (record { spot = (at 2 55); kind = a_give (g.Emp) })) })) } ∷ []); main = record { spot = (at 3 1); result = (114 ∷ []); sort = sort.Nat; post = (an (a.Emp)); body = (block [] (record { spot = (at 3 24); kind = the_end (b.Ret (tm (t.Num 0)) (record { spot = (at 3 33); kind = a_give (g.Emp) })) })) } }

s3_proc_pre : first_refusal s3_proc_pre_file ≡ refused 2 1 S3
s3_proc_pre = simp (levels)

--     tht 1
--     invariant { null -> 0 } by emp;
--     main r : nat { emp } { ret 0 by emp }
abbrev s3_invariant_file : Source1
s3_invariant_file = record { version = 1; decls = (record { spot = (at 2 1); kind = d.Invariant (an (a.Own (tm (t.Null)) (tm (t.Num 0)))) (record { spot = (at 2 28); kind = a_give (g.Emp) }) } ∷ []); main = record { spot = (at 3 1); result = (114 ∷ []); sort = sort.Nat; post = (an (a.Emp)); body = (block [] (record { spot = (at 3 24); kind = the_end (b.Ret (tm (t.Num 0)) (record { spot = (at 3 33); kind = a_give (g.Emp) })) })) } }

s3_invariant : first_refusal s3_invariant_file ≡ refused 2 1 S3
s3_invariant = simp (levels)

--     tht 1
--     main r : nat { exists s : seq . null -> s } { ret 0 by emp }
abbrev s5_cell_file : Source1
s5_cell_file = record { version = 1; decls = []; main = record { spot = (at 2 1); result = (114 ∷ []); sort = sort.Nat; post = (an (a.Exists (115 ∷ []) sort.Seq (an (a.Own (tm (t.Null)) (tm (t.Var (115 ∷ []))))))); body = (block [] (record { spot = (at 2 47); kind = the_end (b.Ret (tm (t.Num 0)) (record { spot = (at 2 56); kind = a_give (g.Emp) })) })) } }

s5_cell : first_refusal s5_cell_file ≡ refused 2 1 S5
s5_cell = simp (levels)

--     tht 1
--     proc f (x : seq) [y : seq] { emp } r : nat { emp } { ret 0 by emp }
--     main r : nat { emp } { ret 0 by emp }
abbrev s5_param_file : Source1
s5_param_file = record { version = 1; decls = (record { spot = (at 2 1); kind = d.Proc (record { name = (102 ∷ []); params = (record { name = (120 ∷ []); sort = sort.Seq } ∷ []); logic = (record { name = (121 ∷ []); sort = sort.Seq } ∷ []); pre = (an (a.Emp)); result = (114 ∷ []); sort = sort.Nat; post = (an (a.Emp)) }) (block [] (record { spot = (at 2 54); kind = the_end (b.Ret (tm (t.Num 0)) (record { spot = (at 2 63); kind = a_give (g.Emp) })) })) } ∷ []); main = record { spot = (at 3 1); result = (114 ∷ []); sort = sort.Nat; post = (an (a.Emp)); body = (block [] (record { spot = (at 3 24); kind = the_end (b.Ret (tm (t.Num 0)) (record { spot = (at 3 33); kind = a_give (g.Emp) })) })) } }

s5_param : first_refusal s5_param_file ≡ refused 2 1 S5
s5_param = simp (levels)

--     tht 1
--     proc f (x : nat) [y : seq] { [len y = x] } r : nat { emp } { ret 0 by emp }
--     main r : nat { emp } {
--       y <- call f(0)[nil] by [calc];
--       ret y by emp
--     }
abbrev ok_logic_seq_file : Source1
ok_logic_seq_file = record { version = 1; decls = (record { spot = (at 2 1); kind = d.Proc (record { name = (102 ∷ []); params = (record { name = (120 ∷ []); sort = sort.Nat } ∷ []); logic = (record { name = (121 ∷ []); sort = sort.Seq } ∷ []); pre = (an (a.Fact (tm (t.Eq (tm (t.Len (tm (t.Var (121 ∷ []))))) (tm (t.Var (120 ∷ []))))))); result = (114 ∷ []); sort = sort.Nat; post = (an (a.Emp)) }) (block [] (record { spot = (at 2 62); kind = the_end (b.Ret (tm (t.Num 0)) (record { spot = (at 2 71); kind = a_give (g.Emp) })) })) } ∷ []); main = record { spot = (at 3 1); result = (114 ∷ []); sort = sort.Nat; post = (an (a.Emp)); body = (block (record { spot = (at 4 3); kind = a_stmt (b.Call (121 ∷ []) (102 ∷ []) ((tm (t.Num 0)) ∷ []) ((tm (t.Nil)) ∷ []) (record { spot = (at 4 26); kind = a_give (g.Fact (record { spot = (at 4 27); kind = a_proof (p.Calc) })) })) } ∷ []) (record { spot = (at 5 3); kind = the_end (b.Ret (tm (t.Var (121 ∷ []))) (record { spot = (at 5 12); kind = a_give (g.Emp) })) })) } }

ok_logic_seq : first_refusal ok_logic_seq_file ≡ None
ok_logic_seq = simp (levels)

--     tht 1
--     proc f (x : nat) [y : seq] { [len y = x] } r : nat { emp } { ret 0 by emp }
--     main r : nat { emp } {
--       y <- call f(len nil)[nil] by [calc];
--       ret y by emp
--     }
abbrev s2_call_file : Source1
s2_call_file = record { version = 1; decls = (record { spot = (at 2 1); kind = d.Proc (record { name = (102 ∷ []); params = (record { name = (120 ∷ []); sort = sort.Nat } ∷ []); logic = (record { name = (121 ∷ []); sort = sort.Seq } ∷ []); pre = (an (a.Fact (tm (t.Eq (tm (t.Len (tm (t.Var (121 ∷ []))))) (tm (t.Var (120 ∷ []))))))); result = (114 ∷ []); sort = sort.Nat; post = (an (a.Emp)) }) (block [] (record { spot = (at 2 62); kind = the_end (b.Ret (tm (t.Num 0)) (record { spot = (at 2 71); kind = a_give (g.Emp) })) })) } ∷ []); main = record { spot = (at 3 1); result = (114 ∷ []); sort = sort.Nat; post = (an (a.Emp)); body = (block (record { spot = (at 4 3); kind = a_stmt (b.Call (121 ∷ []) (102 ∷ []) ((tm (t.Len (tm (t.Nil)))) ∷ []) ((tm (t.Nil)) ∷ []) (record { spot = (at 4 32); kind = a_give (g.Fact (record { spot = (at 4 33); kind = a_proof (p.Calc) })) })) } ∷ []) (record { spot = (at 5 3); kind = the_end (b.Ret (tm (t.Var (121 ∷ []))) (record { spot = (at 5 12); kind = a_give (g.Emp) })) })) } }

s2_call : first_refusal s2_call_file ≡ refused 4 3 S2
s2_call = simp (levels)

--     tht 1
--     main r : nat { emp } {
--       x <- alloc (0);
--       y : seq <- read x at 1 as h by refl;
--       ret 0 by emp
--     }
abbrev s5_read_file : Source1
s5_read_file = record { version = 1; decls = []; main = record { spot = (at 2 1); result = (114 ∷ []); sort = sort.Nat; post = (an (a.Emp)); body = (block (record { spot = (at 3 3); kind = a_stmt (b.Alloc (120 ∷ []) ((tm (t.Num 0)) ∷ [])) } ∷ record { spot = (at 4 3); kind = a_stmt (b.Read (121 ∷ []) sort.Seq (tm (t.Var (120 ∷ []))) 1 (104 ∷ []) (record { spot = (at 4 34); kind = a_proof (p.Refl) })) } ∷ []) (record { spot = (at 5 3); kind = the_end (b.Ret (tm (t.Num 0)) (record { spot = (at 5 12); kind = a_give (g.Emp) })) })) } }

s5_read : first_refusal s5_read_file ≡ refused 4 3 S5
s5_read = simp (levels)

--     tht 1
--     main r : nat { emp } {
--       have h : 0 by hyp k;
--       ret 0 by emp
--     }
abbrev own_before_inner_file : Source1
own_before_inner_file = record { version = 1; decls = []; main = record { spot = (at 2 1); result = (114 ∷ []); sort = sort.Nat; post = (an (a.Emp)); body = (block (record { spot = (at 3 3); kind = a_stmt (b.Proof (record { spot = (at 3 3); kind = s.Have (104 ∷ []) (tm (t.Num 0)) (record { spot = (at 3 17); kind = a_proof (p.Hyp (107 ∷ [])) }) })) } ∷ []) (record { spot = (at 4 3); kind = the_end (b.Ret (tm (t.Num 0)) (record { spot = (at 4 12); kind = a_give (g.Emp) })) })) } }

own_before_inner : first_refusal own_before_inner_file ≡ refused 3 3 S1
own_before_inner = simp (levels)

--     tht 1
--     main r : nat { emp } {
--       x : nat <- do () { ret y by emp } { [z = 0] };
--       ret 0 by emp
--     }
abbrev box_before_body_file : Source1
box_before_body_file = record { version = 1; decls = []; main = record { spot = (at 2 1); result = (114 ∷ []); sort = sort.Nat; post = (an (a.Emp)); body = (block (record { spot = (at 3 3); kind = a_stmt (b.Do (120 ∷ []) sort.Nat [] (block [] (record { spot = (at 3 22); kind = the_end (b.Ret (tm (t.Var (121 ∷ []))) (record { spot = (at 3 31); kind = a_give (g.Emp) })) })) (an (a.Fact (tm (t.Eq (tm (t.Var (122 ∷ []))) (tm (t.Num 0))))))) } ∷ []) (record { spot = (at 4 3); kind = the_end (b.Ret (tm (t.Num 0)) (record { spot = (at 4 12); kind = a_give (g.Emp) })) })) } }

box_before_body : first_refusal box_before_body_file ≡ refused 3 3 N1
box_before_body = simp (levels)

--     tht 1
--     proc f () [s : seq] { emp } r : nat { emp } {
--       case seq s as h { x : nat <- do () { ret 0 by emp } { emp }; ret x by emp } x t { ret 0 by [hyp h] }
--     }
--     main r : nat { emp } { ret 0 by emp }
abbrev ok_case_seq_file : Source1
ok_case_seq_file = record { version = 1; decls = (record { spot = (at 2 1); kind = d.Proc (record { name = (102 ∷ []); params = []; logic = (record { name = (115 ∷ []); sort = sort.Seq } ∷ []); pre = (an (a.Emp)); result = (114 ∷ []); sort = sort.Nat; post = (an (a.Emp)) }) (block [] (record { spot = (at 3 3); kind = the_end (b.CaseSeq (tm (t.Var (115 ∷ []))) (104 ∷ []) (block (record { spot = (at 3 21); kind = a_stmt (b.Do (120 ∷ []) sort.Nat [] (block [] (record { spot = (at 3 40); kind = the_end (b.Ret (tm (t.Num 0)) (record { spot = (at 3 49); kind = a_give (g.Emp) })) })) (an (a.Emp))) } ∷ []) (record { spot = (at 3 64); kind = the_end (b.Ret (tm (t.Var (120 ∷ []))) (record { spot = (at 3 73); kind = a_give (g.Emp) })) })) (120 ∷ []) (116 ∷ []) (block [] (record { spot = (at 3 85); kind = the_end (b.Ret (tm (t.Num 0)) (record { spot = (at 3 94); kind = a_give (g.Fact (record { spot = (at 3 95); kind = a_proof (p.Hyp (104 ∷ [])) })) })) }))) })) } ∷ []); main = record { spot = (at 5 1); result = (114 ∷ []); sort = sort.Nat; post = (an (a.Emp)); body = (block [] (record { spot = (at 5 24); kind = the_end (b.Ret (tm (t.Num 0)) (record { spot = (at 5 33); kind = a_give (g.Emp) })) })) } }

ok_case_seq : first_refusal ok_case_seq_file ≡ None
ok_case_seq = simp (levels)

--     tht 1
--     main r : nat { emp } {
--       dead hyp k { ret y by emp }
--     }
abbrev n1_dead_first_file : Source1
n1_dead_first_file = record { version = 1; decls = []; main = record { spot = (at 2 1); result = (114 ∷ []); sort = sort.Nat; post = (an (a.Emp)); body = (block [] (record { spot = (at 3 3); kind = the_end (b.Dead (record { spot = (at 3 8); kind = a_proof (p.Hyp (107 ∷ [])) }) (block [] (record { spot = (at 3 16); kind = the_end (b.Ret (tm (t.Var (121 ∷ []))) (record { spot = (at 3 25); kind = a_give (g.Emp) })) }))) })) } }

n1_dead_first : first_refusal n1_dead_first_file ≡ refused 3 8 N1
n1_dead_first = simp (levels)

--     tht 1
--     lemma l (k : nat) on k { emp } { emp } zero { ret () by emp } next k {
--       use l(k) by emp;
--       ret () by emp
--     }
--     main r : nat { emp } { ret 0 by emp }
abbrev ok_number_named_as_parameter_file : Source1
ok_number_named_as_parameter_file = record { version = 1; decls = (record { spot = (at 2 1); kind = d.Lemma (record { spot = (at 2 1); name = (108 ∷ []); params = (record { name = (107 ∷ []); sort = sort.Nat } ∷ []); pre = (an (a.Emp)); post = (an (a.Emp)); kind = l.OnNat (107 ∷ []) (block [] (record { spot = (at 2 47); kind = the_end (b.Ret (tm (t.Unit)) (record { spot = (at 2 57); kind = a_give (g.Emp) })) })) (107 ∷ []) (block (record { spot = (at 3 3); kind = a_stmt (b.Proof (record { spot = (at 3 3); kind = s.Use (108 ∷ []) ((tm (t.Var (107 ∷ []))) ∷ []) (record { spot = (at 3 15); kind = a_give (g.Emp) }) })) } ∷ []) (record { spot = (at 4 3); kind = the_end (b.Ret (tm (t.Unit)) (record { spot = (at 4 13); kind = a_give (g.Emp) })) })) }) } ∷ []); main = record { spot = (at 6 1); result = (114 ∷ []); sort = sort.Nat; post = (an (a.Emp)); body = (block [] (record { spot = (at 6 24); kind = the_end (b.Ret (tm (t.Num 0)) (record { spot = (at 6 33); kind = a_give (g.Emp) })) })) } }

ok_number_named_as_parameter : first_refusal ok_number_named_as_parameter_file ≡ None
ok_number_named_as_parameter = simp (levels)

--     tht 1
--     lemma l (s : seq) on s { emp } { emp } nil { ret () by emp } cons t t { ret () by emp }
--     main r : nat { emp } { ret 0 by emp }
abbrev n2_lemma_parts_file : Source1
n2_lemma_parts_file = record { version = 1; decls = (record { spot = (at 2 1); kind = d.Lemma (record { spot = (at 2 1); name = (108 ∷ []); params = (record { name = (115 ∷ []); sort = sort.Seq } ∷ []); pre = (an (a.Emp)); post = (an (a.Emp)); kind = l.OnSeq (115 ∷ []) (block [] (record { spot = (at 2 46); kind = the_end (b.Ret (tm (t.Unit)) (record { spot = (at 2 56); kind = a_give (g.Emp) })) })) (116 ∷ []) (116 ∷ []) (block [] (record { spot = (at 2 73); kind = the_end (b.Ret (tm (t.Unit)) (record { spot = (at 2 83); kind = a_give (g.Emp) })) })) }) } ∷ []); main = record { spot = (at 3 1); result = (114 ∷ []); sort = sort.Nat; post = (an (a.Emp)); body = (block [] (record { spot = (at 3 24); kind = the_end (b.Ret (tm (t.Num 0)) (record { spot = (at 3 33); kind = a_give (g.Emp) })) })) } }

n2_lemma_parts : first_refusal n2_lemma_parts_file ≡ refused 2 1 N2
n2_lemma_parts = simp (levels)

--     tht 1
--     pred p () = emp;
--     main r : nat { emp } {
--       use p() by emp;
--       ret 0 by emp
--     }
abbrev n3_use_file : Source1
n3_use_file = record { version = 1; decls = (record { spot = (at 2 1); kind = d.Pred access.Private (112 ∷ []) [] (an (a.Emp)) } ∷ []); main = record { spot = (at 3 1); result = (114 ∷ []); sort = sort.Nat; post = (an (a.Emp)); body = (block (record { spot = (at 4 3); kind = a_stmt (b.Proof (record { spot = (at 4 3); kind = s.Use (112 ∷ []) [] (record { spot = (at 4 14); kind = a_give (g.Emp) }) })) } ∷ []) (record { spot = (at 5 3); kind = the_end (b.Ret (tm (t.Num 0)) (record { spot = (at 5 12); kind = a_give (g.Emp) })) })) } }

n3_use : first_refusal n3_use_file ≡ refused 4 3 N3
n3_use = simp (levels)

--     tht 1
--     main r : nat { emp } {
--       use p() by emp;
--       ret 0 by emp
--     }
abbrev n1_use_file : Source1
n1_use_file = record { version = 1; decls = []; main = record { spot = (at 2 1); result = (114 ∷ []); sort = sort.Nat; post = (an (a.Emp)); body = (block (record { spot = (at 3 3); kind = a_stmt (b.Proof (record { spot = (at 3 3); kind = s.Use (112 ∷ []) [] (record { spot = (at 3 14); kind = a_give (g.Emp) }) })) } ∷ []) (record { spot = (at 4 3); kind = the_end (b.Ret (tm (t.Num 0)) (record { spot = (at 4 12); kind = a_give (g.Emp) })) })) } }

n1_use : first_refusal n1_use_file ≡ refused 3 3 N1
n1_use = simp (levels)

--     tht 1
--     main r : nat { emp } {
--       x <- alloc (0);
--       have h : 0 = 0 by hyp x;
--       ret 0 by emp
--     }
abbrev n3_hyp_file : Source1
n3_hyp_file = record { version = 1; decls = []; main = record { spot = (at 2 1); result = (114 ∷ []); sort = sort.Nat; post = (an (a.Emp)); body = (block (record { spot = (at 3 3); kind = a_stmt (b.Alloc (120 ∷ []) ((tm (t.Num 0)) ∷ [])) } ∷ record { spot = (at 4 3); kind = a_stmt (b.Proof (record { spot = (at 4 3); kind = s.Have (104 ∷ []) (tm (t.Eq (tm (t.Num 0)) (tm (t.Num 0)))) (record { spot = (at 4 21); kind = a_proof (p.Hyp (120 ∷ [])) }) })) } ∷ []) (record { spot = (at 5 3); kind = the_end (b.Ret (tm (t.Num 0)) (record { spot = (at 5 12); kind = a_give (g.Emp) })) })) } }

n3_hyp : first_refusal n3_hyp_file ≡ refused 4 21 N3
n3_hyp = simp (levels)

--     tht 1
--     lemma l () { emp } { emp } { ret () by emp }
--     main r : nat { emp } {
--       fold l() by emp;
--       ret 0 by emp
--     }
abbrev n3_fold_file : Source1
n3_fold_file = record { version = 1; decls = (record { spot = (at 2 1); kind = d.Lemma (record { spot = (at 2 1); name = (108 ∷ []); params = []; pre = (an (a.Emp)); post = (an (a.Emp)); kind = l.Plain (block [] (record { spot = (at 2 30); kind = the_end (b.Ret (tm (t.Unit)) (record { spot = (at 2 40); kind = a_give (g.Emp) })) })) }) } ∷ []); main = record { spot = (at 3 1); result = (114 ∷ []); sort = sort.Nat; post = (an (a.Emp)); body = (block (record { spot = (at 4 3); kind = a_stmt (b.Proof (record { spot = (at 4 3); kind = s.Fold (108 ∷ []) [] (record { spot = (at 4 15); kind = a_give (g.Emp) }) })) } ∷ []) (record { spot = (at 5 3); kind = the_end (b.Ret (tm (t.Num 0)) (record { spot = (at 5 12); kind = a_give (g.Emp) })) })) } }

n3_fold : first_refusal n3_fold_file ≡ refused 4 3 N3
n3_fold = simp (levels)

--     tht 1
--     root a : nat := 0;
--     invariant { exists v : nat . a => v } by ex [0] @1;
--     main r : nat { a() } { ret 0 by emp }
abbrev n3_root_as_predicate_file : Source1
n3_root_as_predicate_file = record { version = 1; decls = (record { spot = (at 2 1); kind = d.Root (97 ∷ []) sort.Nat (v.Num 0) } ∷ record { spot = (at 3 1); kind = d.Invariant (an (a.Exists (118 ∷ []) sort.Nat (an (a.Shared (tm (t.Var (97 ∷ []))) (tm (t.Var (118 ∷ []))))))) (record { spot = (at 3 42); kind = a_give (g.Ex (tm (t.Num 0)) (record { spot = (at 3 49); kind = a_give (g.Atom 1) })) }) } ∷ []); main = record { spot = (at 4 1); result = (114 ∷ []); sort = sort.Nat; post = (an (a.Inst (97 ∷ []) [])); body = (block [] (record { spot = (at 4 24); kind = the_end (b.Ret (tm (t.Num 0)) (record { spot = (at 4 33); kind = a_give (g.Emp) })) })) } }

n3_root_as_predicate : first_refusal n3_root_as_predicate_file ≡ refused 4 1 N3
n3_root_as_predicate = simp (levels)

--     tht 1
--     pred p (x : nat) = emp;
--     main r : nat { exists y : nat . p(z, y) } { ret 0 by emp }
abbrev n1_predicate_argument_file : Source1
n1_predicate_argument_file = record { version = 1; decls = (record { spot = (at 2 1); kind = d.Pred access.Private (112 ∷ []) (record { name = (120 ∷ []); sort = sort.Nat } ∷ []) (an (a.Emp)) } ∷ []); main = record { spot = (at 3 1); result = (114 ∷ []); sort = sort.Nat; post = (an (a.Exists (121 ∷ []) sort.Nat (an (a.Inst (112 ∷ []) ((tm (t.Var (122 ∷ []))) ∷ (tm (t.Var (121 ∷ []))) ∷ []))))); body = (block [] (record { spot = (at 3 45); kind = the_end (b.Ret (tm (t.Num 0)) (record { spot = (at 3 54); kind = a_give (g.Emp) })) })) } }

n1_predicate_argument : first_refusal n1_predicate_argument_file ≡ refused 3 1 N1
n1_predicate_argument = simp (levels)

--     tht 1
--     main r : nat { exists y : nat . y -> 0 } { ret 0 by emp }
abbrev s1_place_file : Source1
s1_place_file = record { version = 1; decls = []; main = record { spot = (at 2 1); result = (114 ∷ []); sort = sort.Nat; post = (an (a.Exists (121 ∷ []) sort.Nat (an (a.Own (tm (t.Var (121 ∷ []))) (tm (t.Num 0)))))); body = (block [] (record { spot = (at 2 44); kind = the_end (b.Ret (tm (t.Num 0)) (record { spot = (at 2 53); kind = a_give (g.Emp) })) })) } }

s1_place : first_refusal s1_place_file ≡ refused 2 1 S1
s1_place = simp (levels)

--     tht 1
--     main r : nat { emp } {
--       x <- alloc (0);
--       write x nil at 1 by refl;
--       ret 0 by emp
--     }
abbrev s2_write_file : Source1
s2_write_file = record { version = 1; decls = []; main = record { spot = (at 2 1); result = (114 ∷ []); sort = sort.Nat; post = (an (a.Emp)); body = (block (record { spot = (at 3 3); kind = a_stmt (b.Alloc (120 ∷ []) ((tm (t.Num 0)) ∷ [])) } ∷ record { spot = (at 4 3); kind = a_stmt (b.Write (tm (t.Var (120 ∷ []))) (tm (t.Nil)) 1 (record { spot = (at 4 23); kind = a_proof (p.Refl) })) } ∷ []) (record { spot = (at 5 3); kind = the_end (b.Ret (tm (t.Num 0)) (record { spot = (at 5 12); kind = a_give (g.Emp) })) })) } }

s2_write : first_refusal s2_write_file ≡ refused 4 3 S2
s2_write = simp (levels)

--     tht 1
--     main r : nat { emp } {
--       u : seq <- atomic () { ret 0 by emp } { emp };
--       ret 0 by emp
--     }
abbrev s5_atomic_file : Source1
s5_atomic_file = record { version = 1; decls = []; main = record { spot = (at 2 1); result = (114 ∷ []); sort = sort.Nat; post = (an (a.Emp)); body = (block (record { spot = (at 3 3); kind = a_stmt (b.Atomic (117 ∷ []) sort.Seq [] (block [] (record { spot = (at 3 26); kind = the_end (b.Ret (tm (t.Num 0)) (record { spot = (at 3 35); kind = a_give (g.Emp) })) })) (an (a.Emp))) } ∷ []) (record { spot = (at 4 3); kind = the_end (b.Ret (tm (t.Num 0)) (record { spot = (at 4 12); kind = a_give (g.Emp) })) })) } }

s5_atomic : first_refusal s5_atomic_file ≡ refused 3 3 S5
s5_atomic = simp (levels)

--     tht 1
--     main r : nat { emp } { ret 0 by ex [1 + true] emp }
abbrev s1_witness_inside_file : Source1
s1_witness_inside_file = record { version = 1; decls = []; main = record { spot = (at 2 1); result = (114 ∷ []); sort = sort.Nat; post = (an (a.Emp)); body = (block [] (record { spot = (at 2 24); kind = the_end (b.Ret (tm (t.Num 0)) (record { spot = (at 2 33); kind = a_give (g.Ex (tm (t.Add (tm (t.Num 1)) (tm (t.True)))) (record { spot = (at 2 47); kind = a_give (g.Emp) })) })) })) } }

s1_witness_inside : first_refusal s1_witness_inside_file ≡ refused 2 33 S1
s1_witness_inside = simp (levels)

--     tht 1
--     main r : nat { emp } { ret 0 by ex [nil] ex [true] emp }
abbrev ok_witness_of_any_sort_file : Source1
ok_witness_of_any_sort_file = record { version = 1; decls = []; main = record { spot = (at 2 1); result = (114 ∷ []); sort = sort.Nat; post = (an (a.Emp)); body = (block [] (record { spot = (at 2 24); kind = the_end (b.Ret (tm (t.Num 0)) (record { spot = (at 2 33); kind = a_give (g.Ex (tm (t.Nil)) (record { spot = (at 2 42); kind = a_give (g.Ex (tm (t.True)) (record { spot = (at 2 52); kind = a_give (g.Emp) })) })) })) })) } }

ok_witness_of_any_sort : first_refusal ok_witness_of_any_sort_file ≡ None
ok_witness_of_any_sort = simp (levels)

--     tht 1
--     lemma l () { null -> 0 * null => 0 } { emp } { ret () by emp }
--     main r : nat { null -> 0 * null => 0 } { ret 0 by emp }
abbrev s3_lemma_free_file : Source1
s3_lemma_free_file = record { version = 1; decls = (record { spot = (at 2 1); kind = d.Lemma (record { spot = (at 2 1); name = (108 ∷ []); params = []; pre = (an (a.Star (an (a.Own (tm (t.Null)) (tm (t.Num 0)))) (an (a.Shared (tm (t.Null)) (tm (t.Num 0)))))); post = (an (a.Emp)); kind = l.Plain (block [] (record { spot = (at 2 48); kind = the_end (b.Ret (tm (t.Unit)) (record { spot = (at 2 58); kind = a_give (g.Emp) })) })) }) } ∷ []); main = record { spot = (at 3 1); result = (114 ∷ []); sort = sort.Nat; post = (an (a.Star (an (a.Own (tm (t.Null)) (tm (t.Num 0)))) (an (a.Shared (tm (t.Null)) (tm (t.Num 0)))))); body = (block [] (record { spot = (at 3 42); kind = the_end (b.Ret (tm (t.Num 0)) (record { spot = (at 3 51); kind = a_give (g.Emp) })) })) } }

s3_lemma_free : first_refusal s3_lemma_free_file ≡ refused 3 1 S3
s3_lemma_free = simp (levels)

--     tht 1
--     main r : nat { emp } {
--       have a : 0 = 0 by as [0 = 0] calc;
--       have b : 0 = 0 by both refl (sym refl);
--       have c : 0 = 0 by subst (x : nat . x = 0) [1] [0] refl refl;
--       have d : 0 = 0 by fst [0 = 0] pair refl refl;
--       have e : 0 = 0 by snd [true and not false] pair refl refl;
--       have f : 0 = 0 by cases [0 = 0 or 1 = 1] inl refl { h . hyp h } { h . inr hyp h };
--       have g : 0 = 0 by app [0 = 0 imp 0 = 0] fun h . hyp h refl;
--       have i : 0 = 0 by absurd neg [0 < 1] todo todo;
--       have j : 0 = 0 by em [1 <= 2 - 1 + 3 * 4] { h . todo } { h . monus hyp h };
--       have k : 0 = 0 by head [nil] [1 :: nil ++ nil] todo;
--       have l : 0 = 0 by tail [len nil] [0] todo;
--       have m : null.1.2 = null by apart 1 2;
--       have n : () = () by nocons;
--       have o : true by lin 1 { 1 [nil = nil] hyp n, 2 [false = true] nonnull 1 };
--       ret 0 by emp
--     }
abbrev ok_every_proof_file : Source1
ok_every_proof_file = record { version = 1; decls = []; main = record { spot = (at 2 1); result = (114 ∷ []); sort = sort.Nat; post = (an (a.Emp)); body = (block (record { spot = (at 3 3); kind = a_stmt (b.Proof (record { spot = (at 3 3); kind = s.Have (97 ∷ []) (tm (t.Eq (tm (t.Num 0)) (tm (t.Num 0)))) (record { spot = (at 3 21); kind = a_proof (p.Recast (tm (t.Eq (tm (t.Num 0)) (tm (t.Num 0)))) (record { spot = (at 3 32); kind = a_proof (p.Calc) })) }) })) } ∷ record { spot = (at 4 3); kind = a_stmt (b.Proof (record { spot = (at 4 3); kind = s.Have (98 ∷ []) (tm (t.Eq (tm (t.Num 0)) (tm (t.Num 0)))) (record { spot = (at 4 21); kind = a_proof (p.Both (record { spot = (at 4 26); kind = a_proof (p.Refl) }) (record { spot = (at 4 32); kind = a_proof (p.Sym (record { spot = (at 4 36); kind = a_proof (p.Refl) })) })) }) })) } ∷ record { spot = (at 5 3); kind = a_stmt (b.Proof (record { spot = (at 5 3); kind = s.Have (99 ∷ []) (tm (t.Eq (tm (t.Num 0)) (tm (t.Num 0)))) (record { spot = (at 5 21); kind = a_proof (p.Subst (120 ∷ []) sort.Nat (tm (t.Eq (tm (t.Var (120 ∷ []))) (tm (t.Num 0)))) (tm (t.Num 1)) (tm (t.Num 0)) (record { spot = (at 5 53); kind = a_proof (p.Refl) }) (record { spot = (at 5 58); kind = a_proof (p.Refl) })) }) })) } ∷ record { spot = (at 6 3); kind = a_stmt (b.Proof (record { spot = (at 6 3); kind = s.Have (100 ∷ []) (tm (t.Eq (tm (t.Num 0)) (tm (t.Num 0)))) (record { spot = (at 6 21); kind = a_proof (p.Fst (tm (t.Eq (tm (t.Num 0)) (tm (t.Num 0)))) (record { spot = (at 6 33); kind = a_proof (p.Pair (record { spot = (at 6 38); kind = a_proof (p.Refl) }) (record { spot = (at 6 43); kind = a_proof (p.Refl) })) })) }) })) } ∷ record { spot = (at 7 3); kind = a_stmt (b.Proof (record { spot = (at 7 3); kind = s.Have (101 ∷ []) (tm (t.Eq (tm (t.Num 0)) (tm (t.Num 0)))) (record { spot = (at 7 21); kind = a_proof (p.Snd (tm (t.And (tm (t.True)) (tm (t.Not (tm (t.False)))))) (record { spot = (at 7 46); kind = a_proof (p.Pair (record { spot = (at 7 51); kind = a_proof (p.Refl) }) (record { spot = (at 7 56); kind = a_proof (p.Refl) })) })) }) })) } ∷ record { spot = (at 8 3); kind = a_stmt (b.Proof (record { spot = (at 8 3); kind = s.Have (102 ∷ []) (tm (t.Eq (tm (t.Num 0)) (tm (t.Num 0)))) (record { spot = (at 8 21); kind = a_proof (p.Cases (tm (t.Or (tm (t.Eq (tm (t.Num 0)) (tm (t.Num 0)))) (tm (t.Eq (tm (t.Num 1)) (tm (t.Num 1)))))) (record { spot = (at 8 44); kind = a_proof (p.Inl (record { spot = (at 8 48); kind = a_proof (p.Refl) })) }) (104 ∷ []) (record { spot = (at 8 59); kind = a_proof (p.Hyp (104 ∷ [])) }) (104 ∷ []) (record { spot = (at 8 73); kind = a_proof (p.Inr (record { spot = (at 8 77); kind = a_proof (p.Hyp (104 ∷ [])) })) })) }) })) } ∷ record { spot = (at 9 3); kind = a_stmt (b.Proof (record { spot = (at 9 3); kind = s.Have (103 ∷ []) (tm (t.Eq (tm (t.Num 0)) (tm (t.Num 0)))) (record { spot = (at 9 21); kind = a_proof (p.App (tm (t.Imp (tm (t.Eq (tm (t.Num 0)) (tm (t.Num 0)))) (tm (t.Eq (tm (t.Num 0)) (tm (t.Num 0)))))) (record { spot = (at 9 43); kind = a_proof (p.Fun (104 ∷ []) (record { spot = (at 9 51); kind = a_proof (p.Hyp (104 ∷ [])) })) }) (record { spot = (at 9 57); kind = a_proof (p.Refl) })) }) })) } ∷ record { spot = (at 10 3); kind = a_stmt (b.Proof (record { spot = (at 10 3); kind = s.Have (105 ∷ []) (tm (t.Eq (tm (t.Num 0)) (tm (t.Num 0)))) (record { spot = (at 10 21); kind = a_proof (p.Absurd (record { spot = (at 10 28); kind = a_proof (p.Neg (tm (t.Lt (tm (t.Num 0)) (tm (t.Num 1)))) (record { spot = (at 10 40); kind = a_proof (p.Todo) }) (record { spot = (at 10 45); kind = a_proof (p.Todo) })) })) }) })) } ∷ record { spot = (at 11 3); kind = a_stmt (b.Proof (record { spot = (at 11 3); kind = s.Have (106 ∷ []) (tm (t.Eq (tm (t.Num 0)) (tm (t.Num 0)))) (record { spot = (at 11 21); kind = a_proof (p.Em (tm (t.Le (tm (t.Num 1)) (tm (t.Add (tm (t.Sub (tm (t.Num 2)) (tm (t.Num 1)))) (tm (t.Mul (tm (t.Num 3)) (tm (t.Num 4)))))))) (104 ∷ []) (record { spot = (at 11 51); kind = a_proof (p.Todo) }) (104 ∷ []) (record { spot = (at 11 64); kind = a_proof (p.Monus (record { spot = (at 11 70); kind = a_proof (p.Hyp (104 ∷ [])) })) })) }) })) } ∷ record { spot = (at 12 3); kind = a_stmt (b.Proof (record { spot = (at 12 3); kind = s.Have (107 ∷ []) (tm (t.Eq (tm (t.Num 0)) (tm (t.Num 0)))) (record { spot = (at 12 21); kind = a_proof (p.Head (tm (t.Nil)) (tm (t.Cons (tm (t.Num 1)) (tm (t.Cat (tm (t.Nil)) (tm (t.Nil)))))) (record { spot = (at 12 50); kind = a_proof (p.Todo) })) }) })) } ∷ record { spot = (at 13 3); kind = a_stmt (b.Proof (record { spot = (at 13 3); kind = s.Have (108 ∷ []) (tm (t.Eq (tm (t.Num 0)) (tm (t.Num 0)))) (record { spot = (at 13 21); kind = a_proof (p.Tail (tm (t.Len (tm (t.Nil)))) (tm (t.Num 0)) (record { spot = (at 13 40); kind = a_proof (p.Todo) })) }) })) } ∷ record { spot = (at 14 3); kind = a_stmt (b.Proof (record { spot = (at 14 3); kind = s.Have (109 ∷ []) (tm (t.Eq (tm (t.Offset (tm (t.Offset (tm (t.Null)) 1)) 2)) (tm (t.Null)))) (record { spot = (at 14 31); kind = a_proof (p.Apart 1 2) }) })) } ∷ record { spot = (at 15 3); kind = a_stmt (b.Proof (record { spot = (at 15 3); kind = s.Have (110 ∷ []) (tm (t.Eq (tm (t.Unit)) (tm (t.Unit)))) (record { spot = (at 15 23); kind = a_proof (p.Nocons) }) })) } ∷ record { spot = (at 16 3); kind = a_stmt (b.Proof (record { spot = (at 16 3); kind = s.Have (111 ∷ []) (tm (t.True)) (record { spot = (at 16 20); kind = a_proof (p.Lin 1 (an_entry (record { multiplier = 1; fact = (tm (t.Eq (tm (t.Nil)) (tm (t.Nil)))); proof = (record { spot = (at 16 42); kind = a_proof (p.Hyp (110 ∷ [])) }) }) ∷ an_entry (record { multiplier = 2; fact = (tm (t.Eq (tm (t.False)) (tm (t.True)))); proof = (record { spot = (at 16 66); kind = a_proof (p.Nonnull 1) }) }) ∷ [])) }) })) } ∷ []) (record { spot = (at 17 3); kind = the_end (b.Ret (tm (t.Num 0)) (record { spot = (at 17 12); kind = a_give (g.Emp) })) })) } }

ok_every_proof : first_refusal ok_every_proof_file ≡ None
ok_every_proof = simp (levels)

--     tht 1
--     pred p () = emp;
--     main r : nat { emp } {
--       fold p() by fold left right emp * [calc] * @1;
--       unfold 1;
--       rewrite 1 1 to nil by refl;
--       case 2 {
--         case [true] as h { ret 0 by emp } { dead hyp h { ret 1 by emp } }
--       } {
--         ret 2 by emp
--       }
--     }
abbrev ok_every_give_file : Source1
ok_every_give_file = record { version = 1; decls = (record { spot = (at 2 1); kind = d.Pred access.Private (112 ∷ []) [] (an (a.Emp)) } ∷ []); main = record { spot = (at 3 1); result = (114 ∷ []); sort = sort.Nat; post = (an (a.Emp)); body = (block (record { spot = (at 4 3); kind = a_stmt (b.Proof (record { spot = (at 4 3); kind = s.Fold (112 ∷ []) [] (record { spot = (at 4 15); kind = a_give (g.Star (record { spot = (at 4 15); kind = a_give (g.Star (record { spot = (at 4 15); kind = a_give (g.Fold (record { spot = (at 4 20); kind = a_give (g.Left (record { spot = (at 4 25); kind = a_give (g.Right (record { spot = (at 4 31); kind = a_give (g.Emp) })) })) })) }) (record { spot = (at 4 37); kind = a_give (g.Fact (record { spot = (at 4 38); kind = a_proof (p.Calc) })) })) }) (record { spot = (at 4 46); kind = a_give (g.Atom 1) })) }) })) } ∷ record { spot = (at 5 3); kind = a_stmt (b.Proof (record { spot = (at 5 3); kind = s.Unfold 1 })) } ∷ record { spot = (at 6 3); kind = a_stmt (b.Proof (record { spot = (at 6 3); kind = s.Rewrite 1 1 (tm (t.Nil)) (record { spot = (at 6 25); kind = a_proof (p.Refl) }) })) } ∷ []) (record { spot = (at 7 3); kind = the_end (b.CaseAtom 2 (block [] (record { spot = (at 8 5); kind = the_end (b.CaseBool (tm (t.True)) (104 ∷ []) (block [] (record { spot = (at 8 24); kind = the_end (b.Ret (tm (t.Num 0)) (record { spot = (at 8 33); kind = a_give (g.Emp) })) })) (block [] (record { spot = (at 8 41); kind = the_end (b.Dead (record { spot = (at 8 46); kind = a_proof (p.Hyp (104 ∷ [])) }) (block [] (record { spot = (at 8 54); kind = the_end (b.Ret (tm (t.Num 1)) (record { spot = (at 8 63); kind = a_give (g.Emp) })) }))) }))) })) (block [] (record { spot = (at 10 5); kind = the_end (b.Ret (tm (t.Num 2)) (record { spot = (at 10 14); kind = a_give (g.Emp) })) }))) })) } }

ok_every_give : first_refusal ok_every_give_file ≡ None
ok_every_give = simp (levels)

--     tht 1
--     main r : nat { emp } {
--       have h : 0 = 0 by lin 1 { 1 [0 = 0] hyp k, 1 [x = 0] refl };
--       ret 0 by emp
--     }
abbrev n1_second_entry_file : Source1
n1_second_entry_file = record { version = 1; decls = []; main = record { spot = (at 2 1); result = (114 ∷ []); sort = sort.Nat; post = (an (a.Emp)); body = (block (record { spot = (at 3 3); kind = a_stmt (b.Proof (record { spot = (at 3 3); kind = s.Have (104 ∷ []) (tm (t.Eq (tm (t.Num 0)) (tm (t.Num 0)))) (record { spot = (at 3 21); kind = a_proof (p.Lin 1 (an_entry (record { multiplier = 1; fact = (tm (t.Eq (tm (t.Num 0)) (tm (t.Num 0)))); proof = (record { spot = (at 3 39); kind = a_proof (p.Hyp (107 ∷ [])) }) }) ∷ an_entry (record { multiplier = 1; fact = (tm (t.Eq (tm (t.Var (120 ∷ []))) (tm (t.Num 0)))); proof = (record { spot = (at 3 56); kind = a_proof (p.Refl) }) }) ∷ [])) }) })) } ∷ []) (record { spot = (at 4 3); kind = the_end (b.Ret (tm (t.Num 0)) (record { spot = (at 4 12); kind = a_give (g.Emp) })) })) } }

n1_second_entry : first_refusal n1_second_entry_file ≡ refused 3 21 N1
n1_second_entry = simp (levels)

--     tht 1
--     main r : nat { emp } { ret 0 by emp * [hyp k] * ex [1 + true] emp }
abbrev n1_second_give_file : Source1
n1_second_give_file = record { version = 1; decls = []; main = record { spot = (at 2 1); result = (114 ∷ []); sort = sort.Nat; post = (an (a.Emp)); body = (block [] (record { spot = (at 2 24); kind = the_end (b.Ret (tm (t.Num 0)) (record { spot = (at 2 33); kind = a_give (g.Star (record { spot = (at 2 33); kind = a_give (g.Star (record { spot = (at 2 33); kind = a_give (g.Emp) }) (record { spot = (at 2 39); kind = a_give (g.Fact (record { spot = (at 2 40); kind = a_proof (p.Hyp (107 ∷ [])) })) })) }) (record { spot = (at 2 49); kind = a_give (g.Ex (tm (t.Add (tm (t.Num 1)) (tm (t.True)))) (record { spot = (at 2 63); kind = a_give (g.Emp) })) })) })) })) } }

n1_second_give : first_refusal n1_second_give_file ≡ refused 2 40 N1
n1_second_give = simp (levels)

--     tht 1
--     main r : nat { emp } {
--       dead pair (hyp k) refl { ret y by emp }
--     }
abbrev n1_dead_before_body_file : Source1
n1_dead_before_body_file = record { version = 1; decls = []; main = record { spot = (at 2 1); result = (114 ∷ []); sort = sort.Nat; post = (an (a.Emp)); body = (block [] (record { spot = (at 3 3); kind = the_end (b.Dead (record { spot = (at 3 8); kind = a_proof (p.Pair (record { spot = (at 3 14); kind = a_proof (p.Hyp (107 ∷ [])) }) (record { spot = (at 3 21); kind = a_proof (p.Refl) })) }) (block [] (record { spot = (at 3 28); kind = the_end (b.Ret (tm (t.Var (121 ∷ []))) (record { spot = (at 3 37); kind = a_give (g.Emp) })) }))) })) } }

n1_dead_before_body : first_refusal n1_dead_before_body_file ≡ refused 3 14 N1
n1_dead_before_body = simp (levels)

-- ---- two whole files

--     tht 1
--     root a : nat := 100;
--     root b : nat := 50;
--     shared pred bank () = exists v : nat . exists w : nat . a => v * b => w * [v + w = 150];
--     invariant { bank() } by fold ex [100] ex [50] (@1 * @2 * [calc]);
--     txn move () [] { bank() } r : unit { bank() } {
--       unfold 1;
--       open 2 as v : nat;
--       open 3 as w : nat;
--       open 6 as s;
--       p : nat <- read a at 4 as hp by refl;
--       q : nat <- read b at 5 as hq by refl;
--       if 10 <= p as c {
--         have m : p - 10 + 10 = p by monus hyp c;
--         write a (p - 10) at 4 by refl;
--         write b (q + 10) at 5 by refl;
--         ret () by fold ex [p - 10] ex [q + 10] (@4 * @5 * [lin 1 {
--           1 [p - 10 + 10 = p] hyp m, 1 [p = v] hyp hp, 1 [q = w] hyp hq, 1 [v + w = 150] hyp s }])
--       } else {
--         ret () by fold ex [v] ex [w] (@4 * @5 * [hyp s])
--       }
--     }
--     main r : unit { emp } {
--       (x : unit, y : unit) <- par
--         () { u : unit <- atomic () { z <- call move()[] by @1; ret () by emp * @2 } { emp }; ret () by emp } { emp }
--         () { u : unit <- atomic () { z <- call move()[] by @1; ret () by emp * @2 } { emp }; ret () by emp } { emp };
--       ret () by emp
--     }
abbrev bank_file : Source1
bank_file = record { version = 1; decls = (record { spot = (at 2 1); kind = d.Root (97 ∷ []) sort.Nat (v.Num 100) } ∷ record { spot = (at 3 1); kind = d.Root (98 ∷ []) sort.Nat (v.Num 50) } ∷ record { spot = (at 4 1); kind = d.Pred access.Shared (98 ∷ 97 ∷ 110 ∷ 107 ∷ []) [] (an (a.Exists (118 ∷ []) sort.Nat (an (a.Exists (119 ∷ []) sort.Nat (an (a.Star (an (a.Star (an (a.Shared (tm (t.Var (97 ∷ []))) (tm (t.Var (118 ∷ []))))) (an (a.Shared (tm (t.Var (98 ∷ []))) (tm (t.Var (119 ∷ []))))))) (an (a.Fact (tm (t.Eq (tm (t.Add (tm (t.Var (118 ∷ []))) (tm (t.Var (119 ∷ []))))) (tm (t.Num 150)))))))))))) } ∷ record { spot = (at 5 1); kind = d.Invariant (an (a.Inst (98 ∷ 97 ∷ 110 ∷ 107 ∷ []) [])) (record { spot = (at 5 25); kind = a_give (g.Fold (record { spot = (at 5 30); kind = a_give (g.Ex (tm (t.Num 100)) (record { spot = (at 5 39); kind = a_give (g.Ex (tm (t.Num 50)) (record { spot = (at 5 48); kind = a_give (g.Star (record { spot = (at 5 48); kind = a_give (g.Star (record { spot = (at 5 48); kind = a_give (g.Atom 1) }) (record { spot = (at 5 53); kind = a_give (g.Atom 2) })) }) (record { spot = (at 5 58); kind = a_give (g.Fact (record { spot = (at 5 59); kind = a_proof (p.Calc) })) })) })) })) })) }) } ∷ record { spot = (at 6 1); kind = d.Txn (record { name = (109 ∷ 111 ∷ 118 ∷ 101 ∷ []); params = []; logic = []; pre = (an (a.Inst (98 ∷ 97 ∷ 110 ∷ 107 ∷ []) [])); result = (114 ∷ []); sort = sort.Unit; post = (an (a.Inst (98 ∷ 97 ∷ 110 ∷ 107 ∷ []) [])) }) (block (record { spot = (at 7 3); kind = a_stmt (b.Proof (record { spot = (at 7 3); kind = s.Unfold 1 })) } ∷ record { spot = (at 8 3); kind = a_stmt (b.Proof (record { spot = (at 8 3); kind = s.OpenVar 2 (118 ∷ []) sort.Nat })) } ∷ record { spot = (at 9 3); kind = a_stmt (b.Proof (record { spot = (at 9 3); kind = s.OpenVar 3 (119 ∷ []) sort.Nat })) } ∷ record { spot = (at 10 3); kind = a_stmt (b.Proof (record { spot = (at 10 3); kind = s.OpenFact 6 (115 ∷ []) })) } ∷ record { spot = (at 11 3); kind = a_stmt (b.Read (112 ∷ []) sort.Nat (tm (t.Var (97 ∷ []))) 4 (104 ∷ 112 ∷ []) (record { spot = (at 11 35); kind = a_proof (p.Refl) })) } ∷ record { spot = (at 12 3); kind = a_stmt (b.Read (113 ∷ []) sort.Nat (tm (t.Var (98 ∷ []))) 5 (104 ∷ 113 ∷ []) (record { spot = (at 12 35); kind = a_proof (p.Refl) })) } ∷ []) (record { spot = (at 13 3); kind = the_end (b.If (tm (t.Le (tm (t.Num 10)) (tm (t.Var (112 ∷ []))))) (99 ∷ []) (block (record { spot = (at 14 5); kind = a_stmt (b.Proof (record { spot = (at 14 5); kind = s.Have (109 ∷ []) (tm (t.Eq (tm (t.Add (tm (t.Sub (tm (t.Var (112 ∷ []))) (tm (t.Num 10)))) (tm (t.Num 10)))) (tm (t.Var (112 ∷ []))))) (record { spot = (at 14 33); kind = a_proof (p.Monus (record { spot = (at 14 39); kind = a_proof (p.Hyp (99 ∷ [])) })) }) })) } ∷ record { spot = (at 15 5); kind = a_stmt (b.Write (tm (t.Var (97 ∷ []))) (tm (t.Sub (tm (t.Var (112 ∷ []))) (tm (t.Num 10)))) 4 (record { spot = (at 15 30); kind = a_proof (p.Refl) })) } ∷ record { spot = (at 16 5); kind = a_stmt (b.Write (tm (t.Var (98 ∷ []))) (tm (t.Add (tm (t.Var (113 ∷ []))) (tm (t.Num 10)))) 5 (record { spot = (at 16 30); kind = a_proof (p.Refl) })) } ∷ []) (record { spot = (at 17 5); kind = the_end (b.Ret (tm (t.Unit)) (record { spot = (at 17 15); kind = a_give (g.Fold (record { spot = (at 17 20); kind = a_give (g.Ex (tm (t.Sub (tm (t.Var (112 ∷ []))) (tm (t.Num 10)))) (record { spot = (at 17 32); kind = a_give (g.Ex (tm (t.Add (tm (t.Var (113 ∷ []))) (tm (t.Num 10)))) (record { spot = (at 17 45); kind = a_give (g.Star (record { spot = (at 17 45); kind = a_give (g.Star (record { spot = (at 17 45); kind = a_give (g.Atom 4) }) (record { spot = (at 17 50); kind = a_give (g.Atom 5) })) }) (record { spot = (at 17 55); kind = a_give (g.Fact (record { spot = (at 17 56); kind = a_proof (p.Lin 1 (an_entry (record { multiplier = 1; fact = (tm (t.Eq (tm (t.Add (tm (t.Sub (tm (t.Var (112 ∷ []))) (tm (t.Num 10)))) (tm (t.Num 10)))) (tm (t.Var (112 ∷ []))))); proof = (record { spot = (at 18 27); kind = a_proof (p.Hyp (109 ∷ [])) }) }) ∷ an_entry (record { multiplier = 1; fact = (tm (t.Eq (tm (t.Var (112 ∷ []))) (tm (t.Var (118 ∷ []))))); proof = (record { spot = (at 18 44); kind = a_proof (p.Hyp (104 ∷ 112 ∷ [])) }) }) ∷ an_entry (record { multiplier = 1; fact = (tm (t.Eq (tm (t.Var (113 ∷ []))) (tm (t.Var (119 ∷ []))))); proof = (record { spot = (at 18 62); kind = a_proof (p.Hyp (104 ∷ 113 ∷ [])) }) }) ∷ an_entry (record { multiplier = 1; fact = (tm (t.Eq (tm (t.Add (tm (t.Var (118 ∷ []))) (tm (t.Var (119 ∷ []))))) (tm (t.Num 150)))); proof = (record { spot = (at 18 86); kind = a_proof (p.Hyp (115 ∷ [])) }) }) ∷ [])) })) })) })) })) })) })) })) (block [] (record { spot = (at 20 5); kind = the_end (b.Ret (tm (t.Unit)) (record { spot = (at 20 15); kind = a_give (g.Fold (record { spot = (at 20 20); kind = a_give (g.Ex (tm (t.Var (118 ∷ []))) (record { spot = (at 20 27); kind = a_give (g.Ex (tm (t.Var (119 ∷ []))) (record { spot = (at 20 35); kind = a_give (g.Star (record { spot = (at 20 35); kind = a_give (g.Star (record { spot = (at 20 35); kind = a_give (g.Atom 4) }) (record { spot = (at 20 40); kind = a_give (g.Atom 5) })) }) (record { spot = (at 20 45); kind = a_give (g.Fact (record { spot = (at 20 46); kind = a_proof (p.Hyp (115 ∷ [])) })) })) })) })) })) })) }))) })) } ∷ []); main = record { spot = (at 23 1); result = (114 ∷ []); sort = sort.Unit; post = (an (a.Emp)); body = (block (record { spot = (at 24 3); kind = a_stmt (b.Par (120 ∷ []) sort.Unit (121 ∷ []) sort.Unit [] (block (record { spot = (at 25 10); kind = a_stmt (b.Atomic (117 ∷ []) sort.Unit [] (block (record { spot = (at 25 34); kind = a_stmt (b.Call (122 ∷ []) (109 ∷ 111 ∷ 118 ∷ 101 ∷ []) [] [] (record { spot = (at 25 56); kind = a_give (g.Atom 1) })) } ∷ []) (record { spot = (at 25 60); kind = the_end (b.Ret (tm (t.Unit)) (record { spot = (at 25 70); kind = a_give (g.Star (record { spot = (at 25 70); kind = a_give (g.Emp) }) (record { spot = (at 25 76); kind = a_give (g.Atom 2) })) })) })) (an (a.Emp))) } ∷ []) (record { spot = (at 25 90); kind = the_end (b.Ret (tm (t.Unit)) (record { spot = (at 25 100); kind = a_give (g.Emp) })) })) (an (a.Emp)) [] (block (record { spot = (at 26 10); kind = a_stmt (b.Atomic (117 ∷ []) sort.Unit [] (block (record { spot = (at 26 34); kind = a_stmt (b.Call (122 ∷ []) (109 ∷ 111 ∷ 118 ∷ 101 ∷ []) [] [] (record { spot = (at 26 56); kind = a_give (g.Atom 1) })) } ∷ []) (record { spot = (at 26 60); kind = the_end (b.Ret (tm (t.Unit)) (record { spot = (at 26 70); kind = a_give (g.Star (record { spot = (at 26 70); kind = a_give (g.Emp) }) (record { spot = (at 26 76); kind = a_give (g.Atom 2) })) })) })) (an (a.Emp))) } ∷ []) (record { spot = (at 26 90); kind = the_end (b.Ret (tm (t.Unit)) (record { spot = (at 26 100); kind = a_give (g.Emp) })) })) (an (a.Emp))) } ∷ []) (record { spot = (at 27 3); kind = the_end (b.Ret (tm (t.Unit)) (record { spot = (at 27 13); kind = a_give (g.Emp) })) })) } }

bank : first_refusal bank_file ≡ None
bank = simp (levels)

--     tht 1
--     root top : loc := null;
--     shared pred list (x : loc, s : seq) on s
--       nil = [x = null]
--       cons n t = exists y : loc . x => n * x.1 => y * list(y, t);
--     shared pred stack () = exists x : loc . exists s : seq . top => x * list(x, s);
--     invariant { stack() } by fold ex [null] ex [nil] (@1 * fold [calc]);
--     lemma node (x : loc, s : seq) { list(x, s) * [not (x = null)] }
--       { exists n : nat . exists t : seq . exists y : loc . x => n * x.1 => y * list(y, t) } {
--       open 2 as nz;
--       case seq s as e {
--         rewrite 1 2 to nil by hyp e;
--         unfold 1;
--         open 3 as z;
--         dead (neg [x = null] hyp nz hyp z) { ret () by emp }
--       } n t {
--         rewrite 1 2 to n :: t by hyp e;
--         unfold 1;
--         ret () by ex [n] ex [t] @3
--       }
--     }
--     main r : nat { emp } {
--       x <- alloc (5, null);
--       u : unit <- atomic (1, 2) {
--         unfold 3;
--         open 4 as h : loc;
--         open 5 as s : seq;
--         g : loc <- read top at 6 as e by refl;
--         write x.1 g at 2 by refl;
--         write top x at 6 by refl;
--         publish x at 1 by refl;
--         publish x.1 at 2 by refl;
--         rewrite 2 2 to h by hyp e;
--         ret () by emp * fold ex [x] ex [5 :: s] (@6 * fold ex [h] (@1 * @2 * @7))
--       } { emp };
--       v : loc <- atomic () {
--         unfold 3;
--         open 4 as h : loc;
--         open 5 as s : seq;
--         g : loc <- read top at 6 as e by refl;
--         if g = null as c {
--           ret g by left [hyp c] * fold ex [h] ex [s] (@6 * @7)
--         } else {
--           rewrite 7 1 to g by sym hyp e;
--           use node(g, s) by @7 * [hyp c];
--           open 8 as n : nat;
--           open 9 as t : seq;
--           open 10 as y : loc;
--           w : loc <- read g.1 at 12 as f by refl;
--           write top w at 6 by refl;
--           rewrite 6 2 to y by hyp f;
--           retract g at 11 by refl;
--           retract g.1 at 12 by refl;
--           ret g by right ex [n] ex [y] (@11 * @12) * fold ex [y] ex [t] (@6 * @13)
--         }
--       } { either [v = null] or exists n : nat . exists m : loc . v -> n * v.1 -> m };
--       if v = null as c {
--         case 3 {
--           open 4 as z;
--           ret 0 by emp
--         } {
--           open 4 as n : nat;
--           open 5 as m : loc;
--           dead (neg [v = null] (nonnull 6) hyp c) { ret 0 by emp }
--         }
--       } else {
--         case 3 {
--           open 4 as z;
--           dead (neg [v = null] hyp c hyp z) {
--             k : nat <- read v at 6 as f by refl;
--             free v at 6 by refl;
--             free v.1 at 7 by refl;
--             ret k by emp
--           }
--         } {
--           open 4 as n : nat;
--           open 5 as m : loc;
--           k : nat <- read v at 6 as f by refl;
--           free v at 6 by refl;
--           free v.1 at 7 by refl;
--           ret k by emp
--         }
--       }
--     }
abbrev stack_file : Source1
stack_file = record { version = 1; decls = (record { spot = (at 2 1); kind = d.Root (116 ∷ 111 ∷ 112 ∷ []) sort.Loc v.Null } ∷ record { spot = (at 3 1); kind = d.PredOn access.Shared (108 ∷ 105 ∷ 115 ∷ 116 ∷ []) (record { name = (120 ∷ []); sort = sort.Loc } ∷ record { name = (115 ∷ []); sort = sort.Seq } ∷ []) (115 ∷ []) (an (a.Fact (tm (t.Eq (tm (t.Var (120 ∷ []))) (tm (t.Null)))))) (110 ∷ []) (116 ∷ []) (an (a.Exists (121 ∷ []) sort.Loc (an (a.Star (an (a.Star (an (a.Shared (tm (t.Var (120 ∷ []))) (tm (t.Var (110 ∷ []))))) (an (a.Shared (tm (t.Offset (tm (t.Var (120 ∷ []))) 1)) (tm (t.Var (121 ∷ []))))))) (an (a.Inst (108 ∷ 105 ∷ 115 ∷ 116 ∷ []) ((tm (t.Var (121 ∷ []))) ∷ (tm (t.Var (116 ∷ []))) ∷ []))))))) } ∷ record { spot = (at 6 1); kind = d.Pred access.Shared (115 ∷ 116 ∷ 97 ∷ 99 ∷ 107 ∷ []) [] (an (a.Exists (120 ∷ []) sort.Loc (an (a.Exists (115 ∷ []) sort.Seq (an (a.Star (an (a.Shared (tm (t.Var (116 ∷ 111 ∷ 112 ∷ []))) (tm (t.Var (120 ∷ []))))) (an (a.Inst (108 ∷ 105 ∷ 115 ∷ 116 ∷ []) ((tm (t.Var (120 ∷ []))) ∷ (tm (t.Var (115 ∷ []))) ∷ []))))))))) } ∷ record { spot = (at 7 1); kind = d.Invariant (an (a.Inst (115 ∷ 116 ∷ 97 ∷ 99 ∷ 107 ∷ []) [])) (record { spot = (at 7 26); kind = a_give (g.Fold (record { spot = (at 7 31); kind = a_give (g.Ex (tm (t.Null)) (record { spot = (at 7 41); kind = a_give (g.Ex (tm (t.Nil)) (record { spot = (at 7 51); kind = a_give (g.Star (record { spot = (at 7 51); kind = a_give (g.Atom 1) }) (record { spot = (at 7 56); kind = a_give (g.Fold (record { spot = (at 7 61); kind = a_give (g.Fact (record { spot = (at 7 62); kind = a_proof (p.Calc) })) })) })) })) })) })) }) } ∷ record { spot = (at 8 1); kind = d.Lemma (record { spot = (at 8 1); name = (110 ∷ 111 ∷ 100 ∷ 101 ∷ []); params = (record { name = (120 ∷ []); sort = sort.Loc } ∷ record { name = (115 ∷ []); sort = sort.Seq } ∷ []); pre = (an (a.Star (an (a.Inst (108 ∷ 105 ∷ 115 ∷ 116 ∷ []) ((tm (t.Var (120 ∷ []))) ∷ (tm (t.Var (115 ∷ []))) ∷ []))) (an (a.Fact (tm (t.Not (tm (t.Eq (tm (t.Var (120 ∷ []))) (tm (t.Null)))))))))); post = (an (a.Exists (110 ∷ []) sort.Nat (an (a.Exists (116 ∷ []) sort.Seq (an (a.Exists (121 ∷ []) sort.Loc (an (a.Star (an (a.Star (an (a.Shared (tm (t.Var (120 ∷ []))) (tm (t.Var (110 ∷ []))))) (an (a.Shared (tm (t.Offset (tm (t.Var (120 ∷ []))) 1)) (tm (t.Var (121 ∷ []))))))) (an (a.Inst (108 ∷ 105 ∷ 115 ∷ 116 ∷ []) ((tm (t.Var (121 ∷ []))) ∷ (tm (t.Var (116 ∷ []))) ∷ []))))))))))); kind = l.Plain (block (record { spot = (at 10 3); kind = a_stmt (b.Proof (record { spot = (at 10 3); kind = s.OpenFact 2 (110 ∷ 122 ∷ []) })) } ∷ []) (record { spot = (at 11 3); kind = the_end (b.CaseSeq (tm (t.Var (115 ∷ []))) (101 ∷ []) (block (record { spot = (at 12 5); kind = a_stmt (b.Proof (record { spot = (at 12 5); kind = s.Rewrite 1 2 (tm (t.Nil)) (record { spot = (at 12 27); kind = a_proof (p.Hyp (101 ∷ [])) }) })) } ∷ record { spot = (at 13 5); kind = a_stmt (b.Proof (record { spot = (at 13 5); kind = s.Unfold 1 })) } ∷ record { spot = (at 14 5); kind = a_stmt (b.Proof (record { spot = (at 14 5); kind = s.OpenFact 3 (122 ∷ []) })) } ∷ []) (record { spot = (at 15 5); kind = the_end (b.Dead (record { spot = (at 15 11); kind = a_proof (p.Neg (tm (t.Eq (tm (t.Var (120 ∷ []))) (tm (t.Null)))) (record { spot = (at 15 26); kind = a_proof (p.Hyp (110 ∷ 122 ∷ [])) }) (record { spot = (at 15 33); kind = a_proof (p.Hyp (122 ∷ [])) })) }) (block [] (record { spot = (at 15 42); kind = the_end (b.Ret (tm (t.Unit)) (record { spot = (at 15 52); kind = a_give (g.Emp) })) }))) })) (110 ∷ []) (116 ∷ []) (block (record { spot = (at 17 5); kind = a_stmt (b.Proof (record { spot = (at 17 5); kind = s.Rewrite 1 2 (tm (t.Cons (tm (t.Var (110 ∷ []))) (tm (t.Var (116 ∷ []))))) (record { spot = (at 17 30); kind = a_proof (p.Hyp (101 ∷ [])) }) })) } ∷ record { spot = (at 18 5); kind = a_stmt (b.Proof (record { spot = (at 18 5); kind = s.Unfold 1 })) } ∷ []) (record { spot = (at 19 5); kind = the_end (b.Ret (tm (t.Unit)) (record { spot = (at 19 15); kind = a_give (g.Ex (tm (t.Var (110 ∷ []))) (record { spot = (at 19 22); kind = a_give (g.Ex (tm (t.Var (116 ∷ []))) (record { spot = (at 19 29); kind = a_give (g.Atom 3) })) })) })) }))) })) }) } ∷ []); main = record { spot = (at 22 1); result = (114 ∷ []); sort = sort.Nat; post = (an (a.Emp)); body = (block (record { spot = (at 23 3); kind = a_stmt (b.Alloc (120 ∷ []) ((tm (t.Num 5)) ∷ (tm (t.Null)) ∷ [])) } ∷ record { spot = (at 24 3); kind = a_stmt (b.Atomic (117 ∷ []) sort.Unit (1 ∷ 2 ∷ []) (block (record { spot = (at 25 5); kind = a_stmt (b.Proof (record { spot = (at 25 5); kind = s.Unfold 3 })) } ∷ record { spot = (at 26 5); kind = a_stmt (b.Proof (record { spot = (at 26 5); kind = s.OpenVar 4 (104 ∷ []) sort.Loc })) } ∷ record { spot = (at 27 5); kind = a_stmt (b.Proof (record { spot = (at 27 5); kind = s.OpenVar 5 (115 ∷ []) sort.Seq })) } ∷ record { spot = (at 28 5); kind = a_stmt (b.Read (103 ∷ []) sort.Loc (tm (t.Var (116 ∷ 111 ∷ 112 ∷ []))) 6 (101 ∷ []) (record { spot = (at 28 38); kind = a_proof (p.Refl) })) } ∷ record { spot = (at 29 5); kind = a_stmt (b.Write (tm (t.Offset (tm (t.Var (120 ∷ []))) 1)) (tm (t.Var (103 ∷ []))) 2 (record { spot = (at 29 25); kind = a_proof (p.Refl) })) } ∷ record { spot = (at 30 5); kind = a_stmt (b.Write (tm (t.Var (116 ∷ 111 ∷ 112 ∷ []))) (tm (t.Var (120 ∷ []))) 6 (record { spot = (at 30 25); kind = a_proof (p.Refl) })) } ∷ record { spot = (at 31 5); kind = a_stmt (b.Publish (tm (t.Var (120 ∷ []))) 1 (record { spot = (at 31 23); kind = a_proof (p.Refl) })) } ∷ record { spot = (at 32 5); kind = a_stmt (b.Publish (tm (t.Offset (tm (t.Var (120 ∷ []))) 1)) 2 (record { spot = (at 32 25); kind = a_proof (p.Refl) })) } ∷ record { spot = (at 33 5); kind = a_stmt (b.Proof (record { spot = (at 33 5); kind = s.Rewrite 2 2 (tm (t.Var (104 ∷ []))) (record { spot = (at 33 25); kind = a_proof (p.Hyp (101 ∷ [])) }) })) } ∷ []) (record { spot = (at 34 5); kind = the_end (b.Ret (tm (t.Unit)) (record { spot = (at 34 15); kind = a_give (g.Star (record { spot = (at 34 15); kind = a_give (g.Emp) }) (record { spot = (at 34 21); kind = a_give (g.Fold (record { spot = (at 34 26); kind = a_give (g.Ex (tm (t.Var (120 ∷ []))) (record { spot = (at 34 33); kind = a_give (g.Ex (tm (t.Cons (tm (t.Num 5)) (tm (t.Var (115 ∷ []))))) (record { spot = (at 34 46); kind = a_give (g.Star (record { spot = (at 34 46); kind = a_give (g.Atom 6) }) (record { spot = (at 34 51); kind = a_give (g.Fold (record { spot = (at 34 56); kind = a_give (g.Ex (tm (t.Var (104 ∷ []))) (record { spot = (at 34 64); kind = a_give (g.Star (record { spot = (at 34 64); kind = a_give (g.Star (record { spot = (at 34 64); kind = a_give (g.Atom 1) }) (record { spot = (at 34 69); kind = a_give (g.Atom 2) })) }) (record { spot = (at 34 74); kind = a_give (g.Atom 7) })) })) })) })) })) })) })) })) })) })) (an (a.Emp))) } ∷ record { spot = (at 36 3); kind = a_stmt (b.Atomic (118 ∷ []) sort.Loc [] (block (record { spot = (at 37 5); kind = a_stmt (b.Proof (record { spot = (at 37 5); kind = s.Unfold 3 })) } ∷ record { spot = (at 38 5); kind = a_stmt (b.Proof (record { spot = (at 38 5); kind = s.OpenVar 4 (104 ∷ []) sort.Loc })) } ∷ record { spot = (at 39 5); kind = a_stmt (b.Proof (record { spot = (at 39 5); kind = s.OpenVar 5 (115 ∷ []) sort.Seq })) } ∷ record { spot = (at 40 5); kind = a_stmt (b.Read (103 ∷ []) sort.Loc (tm (t.Var (116 ∷ 111 ∷ 112 ∷ []))) 6 (101 ∷ []) (record { spot = (at 40 38); kind = a_proof (p.Refl) })) } ∷ []) (record { spot = (at 41 5); kind = the_end (b.If (tm (t.Eq (tm (t.Var (103 ∷ []))) (tm (t.Null)))) (99 ∷ []) (block [] (record { spot = (at 42 7); kind = the_end (b.Ret (tm (t.Var (103 ∷ []))) (record { spot = (at 42 16); kind = a_give (g.Star (record { spot = (at 42 16); kind = a_give (g.Left (record { spot = (at 42 21); kind = a_give (g.Fact (record { spot = (at 42 22); kind = a_proof (p.Hyp (99 ∷ [])) })) })) }) (record { spot = (at 42 31); kind = a_give (g.Fold (record { spot = (at 42 36); kind = a_give (g.Ex (tm (t.Var (104 ∷ []))) (record { spot = (at 42 43); kind = a_give (g.Ex (tm (t.Var (115 ∷ []))) (record { spot = (at 42 51); kind = a_give (g.Star (record { spot = (at 42 51); kind = a_give (g.Atom 6) }) (record { spot = (at 42 56); kind = a_give (g.Atom 7) })) })) })) })) })) })) })) (block (record { spot = (at 44 7); kind = a_stmt (b.Proof (record { spot = (at 44 7); kind = s.Rewrite 7 1 (tm (t.Var (103 ∷ []))) (record { spot = (at 44 27); kind = a_proof (p.Sym (record { spot = (at 44 31); kind = a_proof (p.Hyp (101 ∷ [])) })) }) })) } ∷ record { spot = (at 45 7); kind = a_stmt (b.Proof (record { spot = (at 45 7); kind = s.Use (110 ∷ 111 ∷ 100 ∷ 101 ∷ []) ((tm (t.Var (103 ∷ []))) ∷ (tm (t.Var (115 ∷ []))) ∷ []) (record { spot = (at 45 25); kind = a_give (g.Star (record { spot = (at 45 25); kind = a_give (g.Atom 7) }) (record { spot = (at 45 30); kind = a_give (g.Fact (record { spot = (at 45 31); kind = a_proof (p.Hyp (99 ∷ [])) })) })) }) })) } ∷ record { spot = (at 46 7); kind = a_stmt (b.Proof (record { spot = (at 46 7); kind = s.OpenVar 8 (110 ∷ []) sort.Nat })) } ∷ record { spot = (at 47 7); kind = a_stmt (b.Proof (record { spot = (at 47 7); kind = s.OpenVar 9 (116 ∷ []) sort.Seq })) } ∷ record { spot = (at 48 7); kind = a_stmt (b.Proof (record { spot = (at 48 7); kind = s.OpenVar 10 (121 ∷ []) sort.Loc })) } ∷ record { spot = (at 49 7); kind = a_stmt (b.Read (119 ∷ []) sort.Loc (tm (t.Offset (tm (t.Var (103 ∷ []))) 1)) 12 (102 ∷ []) (record { spot = (at 49 41); kind = a_proof (p.Refl) })) } ∷ record { spot = (at 50 7); kind = a_stmt (b.Write (tm (t.Var (116 ∷ 111 ∷ 112 ∷ []))) (tm (t.Var (119 ∷ []))) 6 (record { spot = (at 50 27); kind = a_proof (p.Refl) })) } ∷ record { spot = (at 51 7); kind = a_stmt (b.Proof (record { spot = (at 51 7); kind = s.Rewrite 6 2 (tm (t.Var (121 ∷ []))) (record { spot = (at 51 27); kind = a_proof (p.Hyp (102 ∷ [])) }) })) } ∷ record { spot = (at 52 7); kind = a_stmt (b.Retract (tm (t.Var (103 ∷ []))) 11 (record { spot = (at 52 26); kind = a_proof (p.Refl) })) } ∷ record { spot = (at 53 7); kind = a_stmt (b.Retract (tm (t.Offset (tm (t.Var (103 ∷ []))) 1)) 12 (record { spot = (at 53 28); kind = a_proof (p.Refl) })) } ∷ []) (record { spot = (at 54 7); kind = the_end (b.Ret (tm (t.Var (103 ∷ []))) (record { spot = (at 54 16); kind = a_give (g.Star (record { spot = (at 54 16); kind = a_give (g.Right (record { spot = (at 54 22); kind = a_give (g.Ex (tm (t.Var (110 ∷ []))) (record { spot = (at 54 29); kind = a_give (g.Ex (tm (t.Var (121 ∷ []))) (record { spot = (at 54 37); kind = a_give (g.Star (record { spot = (at 54 37); kind = a_give (g.Atom 11) }) (record { spot = (at 54 43); kind = a_give (g.Atom 12) })) })) })) })) }) (record { spot = (at 54 50); kind = a_give (g.Fold (record { spot = (at 54 55); kind = a_give (g.Ex (tm (t.Var (121 ∷ []))) (record { spot = (at 54 62); kind = a_give (g.Ex (tm (t.Var (116 ∷ []))) (record { spot = (at 54 70); kind = a_give (g.Star (record { spot = (at 54 70); kind = a_give (g.Atom 6) }) (record { spot = (at 54 75); kind = a_give (g.Atom 13) })) })) })) })) })) })) }))) })) (an (a.Either (an (a.Fact (tm (t.Eq (tm (t.Var (118 ∷ []))) (tm (t.Null)))))) (an (a.Exists (110 ∷ []) sort.Nat (an (a.Exists (109 ∷ []) sort.Loc (an (a.Star (an (a.Own (tm (t.Var (118 ∷ []))) (tm (t.Var (110 ∷ []))))) (an (a.Own (tm (t.Offset (tm (t.Var (118 ∷ []))) 1)) (tm (t.Var (109 ∷ [])))))))))))))) } ∷ []) (record { spot = (at 57 3); kind = the_end (b.If (tm (t.Eq (tm (t.Var (118 ∷ []))) (tm (t.Null)))) (99 ∷ []) (block [] (record { spot = (at 58 5); kind = the_end (b.CaseAtom 3 (block (record { spot = (at 59 7); kind = a_stmt (b.Proof (record { spot = (at 59 7); kind = s.OpenFact 4 (122 ∷ []) })) } ∷ []) (record { spot = (at 60 7); kind = the_end (b.Ret (tm (t.Num 0)) (record { spot = (at 60 16); kind = a_give (g.Emp) })) })) (block (record { spot = (at 62 7); kind = a_stmt (b.Proof (record { spot = (at 62 7); kind = s.OpenVar 4 (110 ∷ []) sort.Nat })) } ∷ record { spot = (at 63 7); kind = a_stmt (b.Proof (record { spot = (at 63 7); kind = s.OpenVar 5 (109 ∷ []) sort.Loc })) } ∷ []) (record { spot = (at 64 7); kind = the_end (b.Dead (record { spot = (at 64 13); kind = a_proof (p.Neg (tm (t.Eq (tm (t.Var (118 ∷ []))) (tm (t.Null)))) (record { spot = (at 64 29); kind = a_proof (p.Nonnull 6) }) (record { spot = (at 64 40); kind = a_proof (p.Hyp (99 ∷ [])) })) }) (block [] (record { spot = (at 64 49); kind = the_end (b.Ret (tm (t.Num 0)) (record { spot = (at 64 58); kind = a_give (g.Emp) })) }))) }))) })) (block [] (record { spot = (at 67 5); kind = the_end (b.CaseAtom 3 (block (record { spot = (at 68 7); kind = a_stmt (b.Proof (record { spot = (at 68 7); kind = s.OpenFact 4 (122 ∷ []) })) } ∷ []) (record { spot = (at 69 7); kind = the_end (b.Dead (record { spot = (at 69 13); kind = a_proof (p.Neg (tm (t.Eq (tm (t.Var (118 ∷ []))) (tm (t.Null)))) (record { spot = (at 69 28); kind = a_proof (p.Hyp (99 ∷ [])) }) (record { spot = (at 69 34); kind = a_proof (p.Hyp (122 ∷ [])) })) }) (block (record { spot = (at 70 9); kind = a_stmt (b.Read (107 ∷ []) sort.Nat (tm (t.Var (118 ∷ []))) 6 (102 ∷ []) (record { spot = (at 70 40); kind = a_proof (p.Refl) })) } ∷ record { spot = (at 71 9); kind = a_stmt (b.Free (tm (t.Var (118 ∷ []))) 6 (record { spot = (at 71 24); kind = a_proof (p.Refl) })) } ∷ record { spot = (at 72 9); kind = a_stmt (b.Free (tm (t.Offset (tm (t.Var (118 ∷ []))) 1)) 7 (record { spot = (at 72 26); kind = a_proof (p.Refl) })) } ∷ []) (record { spot = (at 73 9); kind = the_end (b.Ret (tm (t.Var (107 ∷ []))) (record { spot = (at 73 18); kind = a_give (g.Emp) })) }))) })) (block (record { spot = (at 76 7); kind = a_stmt (b.Proof (record { spot = (at 76 7); kind = s.OpenVar 4 (110 ∷ []) sort.Nat })) } ∷ record { spot = (at 77 7); kind = a_stmt (b.Proof (record { spot = (at 77 7); kind = s.OpenVar 5 (109 ∷ []) sort.Loc })) } ∷ record { spot = (at 78 7); kind = a_stmt (b.Read (107 ∷ []) sort.Nat (tm (t.Var (118 ∷ []))) 6 (102 ∷ []) (record { spot = (at 78 38); kind = a_proof (p.Refl) })) } ∷ record { spot = (at 79 7); kind = a_stmt (b.Free (tm (t.Var (118 ∷ []))) 6 (record { spot = (at 79 22); kind = a_proof (p.Refl) })) } ∷ record { spot = (at 80 7); kind = a_stmt (b.Free (tm (t.Offset (tm (t.Var (118 ∷ []))) 1)) 7 (record { spot = (at 80 24); kind = a_proof (p.Refl) })) } ∷ []) (record { spot = (at 81 7); kind = the_end (b.Ret (tm (t.Var (107 ∷ []))) (record { spot = (at 81 16); kind = a_give (g.Emp) })) }))) }))) })) } }

stack : first_refusal stack_file ≡ None
stack = simp (levels)
