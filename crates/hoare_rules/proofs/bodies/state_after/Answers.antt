use Rattle.std.proofs.Common.{rules, ◌≡◌, Err, sym, ap, subst}
use Rattle.tht_tree.specs.Rules.Context.{context_of}
use Rattle.tht_logic.specs.Rules.Bodies.{after_stmt}
use Rattle.heap_rules.specs.Declarations.{declared_by}
use Rattle.hoare_rules.specs.Cells.{MakesState}
use Rattle.hoare_rules.proofs.Following.{next_made, not_next}
use Rattle.hoare_rules.proofs.bodies.state_after.Goals as goal

pub returns : goal.returns
returns c =
    next_made (after_stmt (declared_by c.args.predicates.now) c.args.stmt.now) (context_of c.args.state.now) (context_of c.in_ok-known.known.state) c.in_ok-known.ensures.same
    (context_of c.check_stmt.new.known.state) (context_of c.into_state.result) c.in_ok-check_stmt.ensures (ap context_of (sym c.into_state.ensures))

pub returns-in_err-check_stmt : goal.returns-in_err-check_stmt
returns-in_err-check_stmt c =
    let e = c.in_err-check_stmt.field-0.0 in
    let stopped = not_next (after_stmt (declared_by c.args.predicates.now) c.args.stmt.now) (context_of c.args.state.now) (context_of c.in_ok-known.known.state) c.in_ok-known.ensures.same e c.in_err-check_stmt.ensures in
    let is : c.from_residual-in_err-check_stmt.result ≡ Err e = search rules in
    subst (λ r. MakesState r (after_stmt (declared_by c.args.predicates.now) c.args.stmt.now (context_of c.args.state.now))) (sym is) stopped
