-- A body by its statements and its end.
use Rattle.std.proofs.Common.{◌≡◌, ap, map}
use Rattle.tht_tree.specs.declared.plain.Spot.{Spot}
use Rattle.tht_tree.specs.declared.body.Body.{Body, out-Body, fold_out-Body}
use Rattle.tht_tree.specs.declared.walk.Frame.{Frame}
use Rattle.tht_tree.specs.Walk.Names.{Scope}
use Rattle.tht_tree.specs.Walk.Bodies.{InBody, Statement, statements, body, stmt, end, end_at, statement_at, body_at, spotted_end, spotted_stmt}

pub parts_is : (x : Body) (f : Frame) (scope : Scope) → body x f scope ≡ statements (map stmt (out-Body x).stmts) (end (out-Body x).end) f scope
unfolding body stmt end
parts_is x f scope = ap (λ g. g f scope) (fold_out-Body (Spot → InBody) (Spot → Statement) InBody InBody Statement end_at statement_at body_at spotted_end spotted_stmt x)
