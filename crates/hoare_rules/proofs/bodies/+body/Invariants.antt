use Rattle.std.proofs.Common.{◌≡◌, ◌+◌, ◌*◌, max, drop}
use Rattle.tht_tree.specs.declared.body.Body.{size-Body, out-Body}
use Rattle.tht_tree.specs.declared.body.Stmt.{size-Stmt}
use Rattle.tht_tree.specs.declared.body.StmtKind.{size-StmtKind}
use Rattle.tht_tree.specs.declared.body.End.{size-End}
use Rattle.tht_tree.specs.declared.body.EndKind.{size-EndKind}
use Rattle.tht_tree.specs.Rules.Context.{context_of}
use Rattle.tht_logic.specs.Rules.Bodies.{statements, body_refused, end_refused}
use Rattle.tht_logic.proofs.RuleLevels.{with_after}
use Rattle.heap_rules.specs.Declarations.{declared_by}
use Rattle.hoare_rules.proofs.bodies.+body.Given as goal

abbrev pub invariant-check_body-loop-stmt : goal.invariant-check_body-loop-stmt
invariant-check_body-loop-stmt l =
    body_refused (declared_by l.predicates) l.body l.post (context_of l.initial.known.state)
    ≡ statements (declared_by l.predicates) (with_after (declared_by l.predicates) (drop l.stmt-index l.stmt-items)) (end_refused (declared_by l.predicates) (out-Body l.body).end) l.post (context_of l.known.state)

abbrev pub decreases-check_body : goal.decreases-check_body
decreases-check_body l = 8 * size-Body l.body.now

abbrev pub decreases-check_inner : goal.decreases-check_inner
decreases-check_inner l = 8 * size-Body l.body.now + 1

abbrev pub decreases-check_stmt : goal.decreases-check_stmt
decreases-check_stmt l = 8 * size-Stmt l.stmt.now

abbrev pub decreases-check_kind : goal.decreases-check_kind
decreases-check_kind l = 8 * size-StmtKind l.kind.now

abbrev pub decreases-check_do : goal.decreases-check_do
decreases-check_do l = 8 * size-Body l.body.now + 2

abbrev pub decreases-check_end : goal.decreases-check_end
decreases-check_end l = 8 * size-End l.end.now

abbrev pub decreases-check_end_kind : goal.decreases-check_end_kind
decreases-check_end_kind l = 8 * size-EndKind l.kind.now

abbrev pub decreases-check_branch : goal.decreases-check_branch
decreases-check_branch l = 8 * size-Body l.body.now + 1

abbrev pub decreases-check_owned : goal.decreases-check_owned
decreases-check_owned l = 8 * size-Body l.body.now + 2

abbrev pub decreases-check_copied : goal.decreases-check_copied
decreases-check_copied l = 8 * size-Body l.body.now + 3

abbrev pub decreases-check_both : goal.decreases-check_both
decreases-check_both l = 8 * (max (size-Body l.body.now) (size-Body l.other.now)) + 4

abbrev pub decreases-check_case : goal.decreases-check_case
decreases-check_case l = 8 * (max (size-Body l.body.now) (size-Body l.other.now)) + 5

abbrev pub decreases-check_either : goal.decreases-check_either
decreases-check_either l = 8 * (max (size-Body l.body.now) (size-Body l.other.now)) + 6
