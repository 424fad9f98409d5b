use Rattle.std.proofs.Common.{◌≡◌}
use Rattle.tht_tree.specs.Normal.Forms.{sevens}
use Rattle.pure_terms.proofs.trees.sevens.Given as goal

abbrev pub invariant-loop-turn : goal.invariant-loop-turn
invariant-loop-turn l = l.term ≡ sevens l._turn l.fn.term
