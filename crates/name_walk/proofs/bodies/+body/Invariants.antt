use Rattle.std.proofs.Common.{◌≡◌, ◌+◌, ◌*◌, max, map, drop}
use Rattle.tht_tree.specs.declared.body.Body.{size-Body}
use Rattle.tht_tree.specs.declared.body.Stmt.{size-Stmt}
use Rattle.tht_tree.specs.declared.body.End.{size-End}
use Rattle.tht_tree.specs.Walk.Bodies.{InBody, statements, stmt}
use Rattle.term_walk.specs.Scopes.{scope_of, unbound}
use Rattle.name_walk.proofs.bodies.+body.Given as goal

abbrev pub invariant-walk_stmts-loop-stmt : goal.invariant-walk_stmts-loop-stmt
invariant-walk_stmts-loop-stmt l = record {
  left : (last : InBody) → statements (map stmt l.stmts) last l.fn.frame (scope_of l.fn.scope) ≡ statements (map stmt (drop l.stmt-index l.stmts)) last l.fn.frame (scope_of l.scope);
  outer : unbound (scope_of l.scope) l.bound ≡ unbound (scope_of l.fn.scope) l.fn.bound;
}

abbrev pub decreases-walk_body : goal.decreases-walk_body
decreases-walk_body l = 8 * size-Body l.body.now + 2

abbrev pub decreases-walk_parts : goal.decreases-walk_parts
decreases-walk_parts l = 8 * size-Body l.body.now + 1

abbrev pub decreases-walk_stmts : goal.decreases-walk_stmts
decreases-walk_stmts l = 8 * goal.size-walk_stmts l + 1

abbrev pub decreases-walk_stmt : goal.decreases-walk_stmt
decreases-walk_stmt l = 8 * size-Stmt l.stmt.now

abbrev pub decreases-one_body : goal.decreases-one_body
decreases-one_body l = 8 * size-Body l.body.now + 3

abbrev pub decreases-walk_end : goal.decreases-walk_end
decreases-walk_end l = 8 * size-End l.end.now

abbrev pub decreases-two_bodies : goal.decreases-two_bodies
decreases-two_bodies l = 8 * max (size-Body l.body.now) (size-Body l.other.now) + 3

abbrev pub decreases-known : goal.decreases-known
decreases-known l = 8 * size-Body l.body.now + 3

abbrev pub decreases-both_known : goal.decreases-both_known
decreases-both_known l = 8 * max (size-Body l.body.now) (size-Body l.other.now) + 4

abbrev pub decreases-known_parts : goal.decreases-known_parts
decreases-known_parts l = 8 * size-Body l.body.now + 3
