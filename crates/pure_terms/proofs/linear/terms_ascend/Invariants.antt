use Rattle.std.proofs.Common.{◌≡◌, drop, map}
use Rattle.pure_terms.specs.Readings.{ascend, ascend_from}
use Rattle.pure_terms.proofs.linear.terms_ascend.Given as goal

abbrev pub invariant-loop-term : goal.invariant-loop-term
invariant-loop-term l = ascend_from l.last.atoms (map (λ t. t.atoms) (drop l.term-index l.others)) ≡ ascend (map (λ t. t.atoms) l.form)
