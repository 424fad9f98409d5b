use Rattle.tht_tree.specs.Walk.Sorts.{found}
use Rattle.tht_tree.specs.Walk.Terms.{arguments}
use Rattle.term_walk.specs.Scopes.{scope_of}
use Rattle.term_walk.proofs.Fitting.{FitsLeft}
use Rattle.term_walk.proofs.terms.arguments.Given as goal

abbrev pub invariant-loop-sort : goal.invariant-loop-sort
invariant-loop-sort l =
    FitsLeft (λ x. (found (scope_of l.scope) l.program x).sort) l.code (arguments (scope_of l.scope) l.program l.sorts l.terms) l.sort-iterator.a.rest.now l.sort-iterator.b.rest.now
