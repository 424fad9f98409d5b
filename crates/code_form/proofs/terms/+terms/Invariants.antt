use Rattle.std.proofs.Common.{◌+◌, ◌*◌, max}
use Rattle.tht_tree.specs.declared.term.Term.{size-Term}
use Rattle.code_form.proofs.terms.+terms.Given as goal

abbrev pub decreases-lower_term : goal.decreases-lower_term
decreases-lower_term l = 3 * size-Term l.term.now

abbrev pub decreases-lower_part : goal.decreases-lower_part
decreases-lower_part l = 3 * size-Term l.part.now + 1

abbrev pub decreases-lower_two : goal.decreases-lower_two
decreases-lower_two l = 3 * max (size-Term l.a.now) (size-Term l.b.now) + 2
