use Rattle.std.proofs.Common.{◌+◌, ◌*◌}
use Rattle.tht_tree.specs.declared.term.Term.{size-Term}
use Rattle.pure_terms.specs.Levels.{deepest}
use Rattle.pure_terms.proofs.order.+order.Given as goal

abbrev pub decreases-compare_terms : goal.decreases-compare_terms
decreases-compare_terms l = 2 * size-Term l.term.now

abbrev pub decreases-compare_parts : goal.decreases-compare_parts
decreases-compare_parts l = 2 * deepest l.parts + 1
