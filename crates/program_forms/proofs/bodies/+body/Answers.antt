use Rattle.std.proofs.Common.{◌≡◌, ◌∷◌, [], OnOk, refl, ◌∙◌, subst, arith}
use Rattle.tht_tree.specs.declared.body.Stmt.{size-Stmt}
use Rattle.tht_tree.specs.Syntax.{trm}
use Rattle.tht_logic.specs.Programs.{code}
use Rattle.program_forms.specs.declared.row.Word.TheVariants as w
use Rattle.program_forms.specs.Marks.{a_word, marks_of}
use Rattle.program_forms.specs.Names.{names_of}
use Rattle.program_forms.specs.Rows.{trm_row, code_row}
use Rattle.program_forms.proofs.Lists.{most_front}
use Rattle.program_forms.proofs.Rowed.{one_less, all_done, body_written}
use Rattle.program_forms.proofs.bodies.+body.Goals as goal

pub write_body-returns-clause-row : goal.write_body-returns-clause-row
write_body-returns-clause-row t c =
    body_written c.args.body.now _ _ _ _ _ _ _ c.as_slice-stmts.ensures c.in_ok-bind_all.ensures c.in_ok-write_end.ensures.names c.in_ok-write_end.ensures.row c.in_ok-write_stmts.ensures.row

pub write_body-returns-clause-names : goal.write_body-returns-clause-names
write_body-returns-clause-names t c = c.in_ok-write_stmts.ensures.names _ (c.in_ok-write_end.ensures.names ∙ c.in_ok-bind_all.ensures)

pub write_stmts-loop-stmt-init : goal.write_stmts-loop-stmt-init
write_stmts-loop-stmt-init t c = record { left = λ xs e. record { bound = e; written = refl }; within = omega arith }

pub write_stmts-loop-stmt-preserved : goal.write_stmts-loop-stmt-preserved
write_stmts-loop-stmt-preserved t c = record {
  left = λ xs e. one_less xs _ _ _ _ _ _ _ _ _ c.in-Some.ensures.cases.0 c.in_ok-unbind.ensures c.in_ok-write_stmt.ensures.names c.in_ok-write_stmt.ensures.row (c.loop-stmt.invariant.left xs e);
  within = most_front size-Stmt _ _ _ _ c.in-Some.ensures.cases.0 c.loop-stmt.invariant.within;
}

pub write_stmts-returns-clause-row : goal.write_stmts-returns-clause-row
write_stmts-returns-clause-row t c = λ xs e. (all_done xs _ _ _ _ c.in_default.ensures.cases (c.loop-stmt.invariant.left xs e)).1

pub write_stmts-returns-clause-names : goal.write_stmts-returns-clause-names
write_stmts-returns-clause-names t c = λ xs e. (all_done xs _ _ _ _ c.in_default.ensures.cases (c.loop-stmt.invariant.left xs e)).0

pub write_test-returns-clause-row : goal.write_test-returns-clause-row
write_test-returns-clause-row t c =
    let result = c.write_after.result in
    let now = marks_of c.write_after.new.row in
    let test = c.args.test.now in
    let xs = names_of c.args.binders.now in
    let both = code_row (code [] c.args.body.now xs) (code_row (code [] c.args.other.now xs) (marks_of c.args.row.now)) in
    let rows = subst (λ r. OnOk result (now ≡ a_word w.Test ∷ trm_row (trm [] (names_of c.write_bodies.new.binders) test) r)) c.in_ok-write_bodies.ensures.row c.write_after.ensures in
    subst (λ ys. OnOk result (now ≡ a_word w.Test ∷ trm_row (trm [] ys test) both)) c.in_ok-write_bodies.ensures.names rows
