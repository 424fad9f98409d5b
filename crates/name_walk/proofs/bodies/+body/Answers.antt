use Rattle.std.proofs.Common.{◌≡◌, ◌∙◌, ap, sym, map}
use Rattle.tht_tree.specs.declared.body.Body.{out-Body}
use Rattle.tht_tree.specs.Walk.Codes.{◌▸◌}
use Rattle.tht_tree.specs.Walk.Bodies.{body, end, stmt, statements}
use Rattle.term_walk.specs.Scopes.{scope_of}
use Rattle.term_walk.proofs.Shadowing.{known_again}
use Rattle.name_walk.proofs.Statements.{parts_is}
use Rattle.name_walk.proofs.bodies.+body.Goals as goal

pub known-returns-clause-same : goal.known-returns-clause-same
known-returns-clause-same t c = known_again _ _ _ _ _ _ _ c.in_ok-shadowed.ensures.bound c.in_ok-shadowed.ensures.shadowed c.in_ok-refusal.ensures.same c.in_ok-unbind.ensures

pub walk_parts-returns-in-Some-clause-ok : goal.walk_parts-returns-in-Some-clause-ok
walk_parts-returns-in-Some-clause-ok t c =
    let last = end (out-Body c.args.body.now).end in
    sym (
    parts_is c.args.body.now c.args.frame (scope_of c.args.scope.now)
    ∙ ap (λ xs. statements (map stmt xs) last c.args.frame (scope_of c.args.scope.now)) (sym c.as_slice.ensures)
    ∙ c.in_ok-refusal.ensures.ok last
    ∙ ap (λ o. o ▸ last c.args.frame (scope_of c.walk_stmts.new.scope)) c.in-Some.is
    )

pub walk_parts-returns-in-None-clause-ok : goal.walk_parts-returns-in-None-clause-ok
walk_parts-returns-in-None-clause-ok t c =
    let last = end (out-Body c.args.body.now).end in
    let whole : body c.args.body.now c.args.frame (scope_of c.args.scope.now) ≡ last c.args.frame (scope_of c.walk_stmts.new.scope) =
    parts_is c.args.body.now c.args.frame (scope_of c.args.scope.now)
    ∙ ap (λ xs. statements (map stmt xs) last c.args.frame (scope_of c.args.scope.now)) (sym c.as_slice.ensures)
    ∙ c.in_ok-refusal.ensures.ok last
    ∙ ap (λ o. o ▸ last c.args.frame (scope_of c.walk_stmts.new.scope)) c.in-None.is
    in
    rw whole c.walk_end.ensures.ok
