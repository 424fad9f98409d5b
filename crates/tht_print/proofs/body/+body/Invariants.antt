use denote.Param.Weighed.{most}
use Rattle.std.proofs.Common.{◌≡◌, ◌≤◌, ◌+◌, ◌*◌, max, length, map}
use Rattle.tht_tree.specs.declared.body.Body.{size-Body}
use Rattle.tht_tree.specs.declared.body.Stmt.{size-Stmt}
use Rattle.tht_tree.specs.declared.body.StmtKind.{size-StmtKind}
use Rattle.tht_tree.specs.declared.body.EndKind.{size-EndKind}
use Rattle.tht_tree.specs.Layout.{ended}
use Rattle.tht_print.specs.Parts.{stmt}
use Rattle.tht_print.specs.Tokens.{tokens_of}
use Rattle.tht_print.proofs.body.+body.Given as goal

abbrev pub decreases-body : goal.decreases-body
decreases-body l = 8 * size-Body l.b.now + 7

abbrev pub decreases-stmts : goal.decreases-stmts
decreases-stmts l = 8 * goal.size-stmts l + 8

abbrev pub decreases-stmt : goal.decreases-stmt
decreases-stmt l = 8 * size-Stmt l.s.now + 7

abbrev pub decreases-form : goal.decreases-form
decreases-form l = 8 * size-StmtKind l.s.now + 6

abbrev pub decreases-end : goal.decreases-end
decreases-end l = 8 * size-EndKind l.e.now + 6

abbrev pub decreases-block : goal.decreases-block
decreases-block l = 8 * size-Body l.b.now + 8

abbrev pub decreases-bodies : goal.decreases-bodies
decreases-bodies l = 8 * max (size-Body l.b.now) (size-Body l.c.now) + 8

abbrev pub decreases-choice : goal.decreases-choice
decreases-choice l = 8 * max (size-Body l.b.now) (size-Body l.c.now) + 8

abbrev pub decreases-sequence : goal.decreases-sequence
decreases-sequence l = 8 * max (size-Body l.b.now) (size-Body l.c.now) + 8

abbrev pub decreases-dead : goal.decreases-dead
decreases-dead l = 8 * size-Body l.b.now + 8

abbrev pub invariant-stmts-loop-s : goal.invariant-stmts-loop-s
invariant-stmts-loop-s l = record {
  printed : ended (map stmt l.stmts) (tokens_of l.fn.out) ≡ ended (map stmt l.rest) (tokens_of l.out);
  within : most size-Stmt l.rest ≤ most size-Stmt l.stmts;
}

abbrev pub decreases-stmts-loop-s : goal.decreases-stmts-loop-s
decreases-stmts-loop-s l = length l.rest
