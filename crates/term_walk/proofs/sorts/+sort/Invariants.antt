use Rattle.std.proofs.Common.{◌+◌, ◌*◌, max}
use Rattle.tht_tree.specs.declared.term.Term.{size-Term}
use Rattle.term_walk.proofs.sorts.+sort.Given as goal

abbrev pub decreases-sort_of : goal.decreases-sort_of
decreases-sort_of l = 4 * size-Term l.term.now

abbrev pub decreases-part : goal.decreases-part
decreases-part l = 4 * size-Term l.term.now + 1

abbrev pub decreases-over_one : goal.decreases-over_one
decreases-over_one l = 4 * size-Term l.a.now + 2

abbrev pub decreases-over_two : goal.decreases-over_two
decreases-over_two l = 4 * max (size-Term l.a.now) (size-Term l.b.now) + 2

abbrev pub decreases-sequence : goal.decreases-sequence
decreases-sequence l = 4 * max (size-Term l.a.now) (size-Term l.b.now) + 2

abbrev pub decreases-equation : goal.decreases-equation
decreases-equation l = 4 * max (size-Term l.a.now) (size-Term l.b.now) + 2
