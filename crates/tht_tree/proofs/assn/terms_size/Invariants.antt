use Rattle.std.proofs.Common.{◌≡◌, ◌-◌, ◌^◌, min, take, sum_by}
use Rattle.tht_tree.specs.Rules.Sizes.{nodes}
use Rattle.tht_tree.proofs.assn.terms_size.Given as goal

abbrev pub invariant-loop-term : goal.invariant-loop-term
invariant-loop-term l = l.total ≡ min (sum_by nodes (take l.term-index l.terms)) (2 ^ 64 - 1)
