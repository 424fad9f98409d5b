use Rattle.std.proofs.Common.{◌≡◌, length}
use Rattle.tht_tree.specs.Normal.Forms.{items_term}
use Rattle.pure_terms.proofs.ItemTerms.{items_before}
use Rattle.pure_terms.proofs.trees.items_term.Given as goal

abbrev pub invariant-loop-item : goal.invariant-loop-item
invariant-loop-item l = items_before l.items l.term ≡ items_term l.initial.items

abbrev pub decreases-loop-item : goal.decreases-loop-item
decreases-loop-item l = length l.items
