use Rattle.std.proofs.Common.{sym, ◌∙◌, ap}
use Rattle.tht_tree.specs.Walk.Codes.{first}
use Rattle.tht_tree.specs.Walk.Sorts.{clash, found}
use Rattle.term_walk.specs.Scopes.{scope_of}
use Rattle.term_walk.proofs.Fitting.{wrong_number, fits_next}
use Rattle.term_walk.proofs.terms.arguments.Goals as goal

pub returns-then-sorts-terms : goal.returns-then-sorts-terms
returns-then-sorts-terms c = sym (wrong_number (λ x. (found (scope_of c.args.scope.now) c.args.program x).sort) c.args.sorts.now c.args.terms.now c.if-sorts-terms.true)

pub loop-sort-preserved : goal.loop-sort-preserved
loop-sort-preserved c =
    fits_next (λ x. (found (scope_of c.args.scope.now) c.args.program x).sort) c.loop-sort.code _ _ _ _ _ _ _ _ c.in-Some.ensures.steps
    (c.first-code.ensures ∙ ap (first c.loop-sort.code) (c.clash.ensures ∙ ap (λ x. clash c.in-Some.sort.now x.sort) c.find.ensures)) c.loop-sort.invariant
