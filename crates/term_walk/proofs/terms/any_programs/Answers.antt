use Rattle.std.proofs.Common.{◌∙◌, ap}
use Rattle.tht_tree.specs.Walk.Codes.{first}
use Rattle.tht_tree.specs.Walk.Terms.{any_program}
use Rattle.term_walk.specs.Scopes.{scope_of}
use Rattle.term_walk.proofs.Gathered.{gathered}
use Rattle.term_walk.proofs.terms.any_programs.Goals as goal

pub loop-term-preserved : goal.loop-term-preserved
loop-term-preserved c =
    gathered c.args.terms.now c.loop-term.term-index c.term-item.result c.loop-term-test.true c.term-item.is (any_program (scope_of c.args.scope.now)) c.loop-term.code c.first-code.result c.loop-term.invariant
    (c.first-code.ensures ∙ ap (first c.loop-term.code) c.any_program.ensures)
