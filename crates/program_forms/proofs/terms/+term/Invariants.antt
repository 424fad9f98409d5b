use Rattle.std.proofs.Common.{◌+◌, ◌*◌, max}
use Rattle.tht_tree.specs.declared.term.Term.{size-Term}
use Rattle.program_forms.proofs.terms.+term.Given as goal

abbrev pub decreases-write_term : goal.decreases-write_term
decreases-write_term l = 8 * size-Term l.term.now

abbrev pub decreases-write_under : goal.decreases-write_under
decreases-write_under l = 8 * size-Term l.term.now + 1

abbrev pub decreases-write_both : goal.decreases-write_both
decreases-write_both l = 8 * max (size-Term l.left.now) (size-Term l.right.now) + 1
