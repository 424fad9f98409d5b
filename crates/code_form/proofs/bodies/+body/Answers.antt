use Rattle.std.proofs.Common.{arith}
use Rattle.tht_tree.specs.declared.body.Stmt.{size-Stmt}
use Rattle.code_form.proofs.Lists.{most_front}
use Rattle.code_form.proofs.LoweredStmts.{in_ok, read_lowered, write_lowered, alloc_lowered, free_lowered, call_lowered, do_lowered, publish_lowered, retract_lowered, atomic_lowered, par_lowered, proof_lowered, end_lowered, ret_lowered, if_lowered, case_atom_lowered, case_bool_lowered, case_seq_lowered, dead_lowered, both_lowered, atomic_made, par_made}
use Rattle.code_form.proofs.LoweredBodies.{made_first, made_turn, body_made_in}
use Rattle.code_form.proofs.bodies.+body.Goals as goal

pub lower_body-returns : goal.lower_body-returns
lower_body-returns t c =
    body_made_in c.lower_stmts.result _ _ _ c.lower_stmts.new.work c.args.body.now _ c.args.behind _ c.as_slice-stmts.ensures c.in_ok-bind_all.ensures c.in_ok-last.ensures c.lower_stmts.ensures

pub lower_stmts-loop-stmt-init : goal.lower_stmts-loop-stmt-init
lower_stmts-loop-stmt-init t c = record { made = λ outer e. made_first _ outer _ _ e; within = omega arith }

pub lower_stmts-loop-stmt-preserved : goal.lower_stmts-loop-stmt-preserved
lower_stmts-loop-stmt-preserved t c = record {
  made = λ outer e. made_turn _ _ _ _ outer _ _ _ _ _ _ _ (c.loop-stmt.invariant.made outer e) c.in-Some.ensures.cases.0 c.unbind.ensures c.in_ok-at.ensures;
  within = most_front size-Stmt _ _ _ _ c.in-Some.ensures.cases.0 c.loop-stmt.invariant.within;
}

-- ---- statements

pub lower_stmt-returns-in-Read : goal.lower_stmt-returns-in-Read
lower_stmt-returns-in-Read t c = rw c.in-Read.is (in_ok c.emit_read.result (λ i e. read_lowered _ _ i _ _ _ _ _ _ _ e) (rw c.get.ensures at c.emit_read.ensures))

pub lower_stmt-returns-in-Write : goal.lower_stmt-returns-in-Write
lower_stmt-returns-in-Write t c = rw c.in-Write.is (in_ok c.emit_write.result (λ i e. write_lowered _ _ i _ _ _ _ _ e) (rw (c.get-in-Write.ensures, c.get-in-Write-2.ensures) at c.emit_write.ensures))

pub lower_stmt-returns-in-Alloc : goal.lower_stmt-returns-in-Alloc
lower_stmt-returns-in-Alloc t c = rw c.in-Alloc.is (in_ok c.emit_alloc.result (λ i e. alloc_lowered _ _ i _ _ _ e) c.emit_alloc.ensures)

pub lower_stmt-returns-in-Free : goal.lower_stmt-returns-in-Free
lower_stmt-returns-in-Free t c = rw c.in-Free.is (in_ok c.emit_free.result (λ i e. free_lowered _ _ i _ _ _ _ e) (rw c.get-in-Free.ensures at c.emit_free.ensures))

pub lower_stmt-returns-in-Call : goal.lower_stmt-returns-in-Call
lower_stmt-returns-in-Call t c = rw c.in-Call.is (in_ok c.emit_call.result (λ i e. call_lowered _ _ i _ _ _ _ _ _ e) (rw c.as_slice.ensures at c.emit_call.ensures))

pub lower_stmt-returns-in-Do : goal.lower_stmt-returns-in-Do
lower_stmt-returns-in-Do t c = rw c.in-Do.is (in_ok c.lower_inner.result (λ i low. do_lowered _ _ i _ _ _ _ _ _ low) (rw c.get-in-Do.ensures at c.lower_inner.ensures))

pub lower_stmt-returns-in-Proof : goal.lower_stmt-returns-in-Proof
lower_stmt-returns-in-Proof t c = rw c.in-Proof.is (proof_lowered _ _ _)

pub lower_stmt-returns-in-Publish : goal.lower_stmt-returns-in-Publish
lower_stmt-returns-in-Publish t c = rw c.in-Publish.is (in_ok c.emit_publish.result (λ i e. publish_lowered _ _ i _ _ _ _ e) (rw c.get-in-Publish.ensures at c.emit_publish.ensures))

pub lower_stmt-returns-in-Retract : goal.lower_stmt-returns-in-Retract
lower_stmt-returns-in-Retract t c = rw c.in-Retract.is (in_ok c.emit_retract.result (λ i e. retract_lowered _ _ i _ _ _ _ e) (rw c.get-in-Retract.ensures at c.emit_retract.ensures))

pub lower_stmt-returns-in-Atomic : goal.lower_stmt-returns-in-Atomic
lower_stmt-returns-in-Atomic t c = rw c.in-Atomic.is (in_ok c.lower_atomic.result (λ i made. atomic_lowered _ _ i _ _ _ _ _ _ made) (rw c.get-in-Atomic.ensures at c.lower_atomic.ensures))

pub lower_stmt-returns-in-Par : goal.lower_stmt-returns-in-Par
lower_stmt-returns-in-Par t c = rw c.in-Par.is (in_ok c.lower_par.result (λ i made. par_lowered _ _ i _ _ _ _ _ _ _ _ _ _ _ made) (rw (c.get-in-Par.ensures, c.get-in-Par-2.ensures) at c.lower_par.ensures))

pub lower_atomic-returns : goal.lower_atomic-returns
lower_atomic-returns t c = in_ok c.emit.result (λ i e. atomic_made _ _ _ _ _ _ i c.in_ok-first.ensures e) c.emit.ensures

pub lower_par-returns : goal.lower_par-returns
lower_par-returns t c = in_ok c.emit.result (λ i e. par_made _ _ _ _ _ _ _ _ _ i c.in_ok-one.ensures c.in_ok-other.ensures e) c.emit.ensures

-- ---- ends

pub lower_end-returns-in-Ret : goal.lower_end-returns-in-Ret
lower_end-returns-in-Ret t c = in_ok c.emit_end.result (λ i e. end_lowered _ _ i c.args.end.now _ _ c.in-Ret.is (ret_lowered _ _ i _ _ _ e)) (rw c.get.ensures at c.emit_end.ensures)

pub lower_end-returns-in-If : goal.lower_end-returns-in-If
lower_end-returns-in-If t c = in_ok c.lower_if.result (λ i low. end_lowered _ _ i c.args.end.now _ _ c.in-If.is (if_lowered _ _ i _ _ _ _ _ low)) (rw (c.get-in-If.ensures, c.get-in-If-2.ensures, c.get-in-If-3.ensures) at c.lower_if.ensures)

pub lower_end-returns-in-CaseAtom : goal.lower_end-returns-in-CaseAtom
lower_end-returns-in-CaseAtom t c = in_ok c.lower_body.result (λ i low. end_lowered _ _ i c.args.end.now _ _ c.in-CaseAtom.is (case_atom_lowered _ _ i _ _ _ _ low)) (rw c.get-in-CaseAtom.ensures at c.lower_body.ensures)

pub lower_end-returns-in-CaseBool : goal.lower_end-returns-in-CaseBool
lower_end-returns-in-CaseBool t c = in_ok c.lower_body-in-CaseBool.result (λ i low. end_lowered _ _ i c.args.end.now _ _ c.in-CaseBool.is (case_bool_lowered _ _ i _ _ _ _ _ low)) (rw c.get-in-CaseBool.ensures at c.lower_body-in-CaseBool.ensures)

pub lower_end-returns-in-CaseSeq : goal.lower_end-returns-in-CaseSeq
lower_end-returns-in-CaseSeq t c = in_ok c.lower_body-in-CaseSeq.result (λ i low. end_lowered _ _ i c.args.end.now _ _ c.in-CaseSeq.is (case_seq_lowered _ _ i _ _ _ _ _ _ _ low)) (rw c.get-in-CaseSeq.ensures at c.lower_body-in-CaseSeq.ensures)

pub lower_end-returns-in-Dead : goal.lower_end-returns-in-Dead
lower_end-returns-in-Dead t c = in_ok c.lower_body-in-Dead.result (λ i low. end_lowered _ _ i c.args.end.now _ _ c.in-Dead.is (dead_lowered _ _ i _ _ _ low)) (rw c.get-in-Dead.ensures at c.lower_body-in-Dead.ensures)

pub lower_if-returns : goal.lower_if-returns
lower_if-returns t c = in_ok c.emit_if.result (λ k e. both_lowered _ _ _ _ _ _ _ _ _ _ k c.in_ok-yes.ensures c.in_ok-no.ensures e) c.emit_if.ensures
