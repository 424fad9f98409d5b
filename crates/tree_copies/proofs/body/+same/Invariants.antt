use Rattle.std.proofs.Common.{◌≡◌, map}
use Rattle.tht_tree.specs.WithoutSpots.{bare_stmt}
use Rattle.tht_tree.proofs.Rows.{LeftDecides}
use Rattle.tree_copies.proofs.body.+same.Given as goal

abbrev pub invariant-same_stmts-loop-stmt : goal.invariant-same_stmts-loop-stmt
invariant-same_stmts-loop-stmt l = LeftDecides bare_stmt l.stmt-iterator.a.rest.now l.stmt-iterator.b.rest.now (map bare_stmt l.stmts ≡ map bare_stmt l.others)
