use Rattle.std.proofs.Common.{◌∙◌, ap, sym}
use Rattle.tht_tree.specs.Walk.Codes.{first}
use Rattle.tht_tree.specs.Walk.Terms.{formula}
use Rattle.tht_tree.specs.Walk.Proofs.{entry}
use Rattle.term_walk.specs.Scopes.{scope_of}
use Rattle.term_walk.proofs.Gathered.{gathered_of}
use Rattle.term_walk.proofs.Entries.{fact_of}
use Rattle.term_walk.proofs.proofs.facts.Goals as goal

pub loop-entry-preserved : goal.loop-entry-preserved
loop-entry-preserved c =
    gathered_of c.args.entries.now c.loop-entry.entry-index c.entry-item.result c.loop-entry-test.true c.entry-item.is (λ e. e.fact (scope_of c.args.scope.now)) entry c.loop-entry.code c.first-code.result c.loop-entry.invariant
    (c.first-code.ensures ∙ ap (first c.loop-entry.code) (c.formula.ensures ∙ ap (formula (scope_of c.args.scope.now)) c.get.ensures ∙ sym (fact_of c.entry-item.result (scope_of c.args.scope.now))))
