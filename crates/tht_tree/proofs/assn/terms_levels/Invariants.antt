use Rattle.std.proofs.Common.{◌≡◌, ◌-◌, ◌^◌, min, take}
use Rattle.tht_tree.specs.Rules.Sizes.{levels, max_by}
use Rattle.tht_tree.proofs.assn.terms_levels.Given as goal

abbrev pub invariant-loop-term : goal.invariant-loop-term
invariant-loop-term l = l.most ≡ min (max_by levels (take l.term-index l.terms)) (2 ^ 64 - 1)
