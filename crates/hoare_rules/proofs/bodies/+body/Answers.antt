use Rattle.std.proofs.Common.{◌≡◌, ◌+◌, ◌∷◌, drop, suc, add-one, drop-cons, sym, ◌∙◌, ap}
use Rattle.tht_tree.specs.declared.body.Body.{out-Body}
use Rattle.tht_tree.specs.Rules.Context.{context_of}
use Rattle.tht_logic.specs.Rules.Bodies.{statements, end_refused}
use Rattle.tht_logic.proofs.RuleLevels.{with_after}
use Rattle.heap_rules.specs.Declarations.{declared_by}
use Rattle.hoare_rules.proofs.BodyRefusals.{body_starts, refused_next}
use Rattle.hoare_rules.proofs.bodies.+body.Goals as goal

pub check_body-loop-stmt-init : goal.check_body-loop-stmt-init
check_body-loop-stmt-init t c =
    let decl = declared_by c.args.predicates.now in
    let body = c.args.body.now in
    let start = context_of c.args.known.now.state in
    body_starts decl body c.args.post.now start
    ∙ ap (λ z. statements decl (with_after decl z) (end_refused decl (out-Body body).end) c.args.post.now start) (sym c.as_slice-stmt-items.ensures)

pub check_body-loop-stmt-preserved : goal.check_body-loop-stmt-preserved
check_body-loop-stmt-preserved t c =
    let stmts = c.as_slice-stmt-items.result.now in
    let i = c.loop-stmt.stmt-index in
    let x = c.stmt-item.result in
    let decl = declared_by c.args.predicates.now in
    let here : drop i stmts ≡ x ∷ drop (i + 1) stmts =
    drop-cons stmts i x c.loop-stmt-test.true ∙ ap (λ z. z ∷ drop (suc i) stmts) (sym c.stmt-item.is) ∙ ap (λ k. x ∷ drop k stmts) (sym (add-one i)) in
    c.loop-stmt.invariant
    ∙ refused_next decl (drop i stmts) (drop (i + 1) stmts) x c.args.post.now (context_of c.loop-stmt.known.state) (end_refused decl (out-Body c.args.body.now).end) here
    (context_of c.check_stmt.new.known.state) c.in_ok-check_stmt.ensures
