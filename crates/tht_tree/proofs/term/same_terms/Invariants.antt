use Rattle.std.proofs.Common.{◌≡◌}
use Rattle.tht_tree.proofs.Rows.{LeftDecides}
use Rattle.tht_tree.proofs.term.same_terms.Given as goal

abbrev pub invariant-loop-term : goal.invariant-loop-term
invariant-loop-term l = LeftDecides (λ x. x) l.term-iterator.a.rest.now l.term-iterator.b.rest.now (l.terms ≡ l.others)
