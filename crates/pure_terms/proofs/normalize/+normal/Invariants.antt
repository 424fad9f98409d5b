use Rattle.std.proofs.Common.{◌+◌, ◌*◌, max}
use Rattle.tht_tree.specs.declared.term.Term.{size-Term}
use Rattle.pure_terms.proofs.normalize.+normal.Given as goal

abbrev pub decreases-normal_form : goal.decreases-normal_form
decreases-normal_form l = 2 * size-Term l.term.now

abbrev pub decreases-over_length : goal.decreases-over_length
decreases-over_length l = 2 * size-Term l.a.now + 1

abbrev pub decreases-over_offset : goal.decreases-over_offset
decreases-over_offset l = 2 * size-Term l.a.now + 1

abbrev pub decreases-over_negation : goal.decreases-over_negation
decreases-over_negation l = 2 * size-Term l.a.now + 1

abbrev pub decreases-over_two : goal.decreases-over_two
decreases-over_two l = 2 * max (size-Term l.a.now) (size-Term l.b.now) + 1
