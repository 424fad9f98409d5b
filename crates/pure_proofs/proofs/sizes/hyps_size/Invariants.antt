use Rattle.std.proofs.Common.{◌≡◌, ◌-◌, ◌^◌, min, take, sum_by}
use Rattle.tht_tree.specs.Rules.Sizes.{nodes}
use Rattle.pure_proofs.proofs.sizes.hyps_size.Given as goal

abbrev pub invariant-loop-hyp : goal.invariant-loop-hyp
invariant-loop-hyp l = l.total ≡ min (sum_by (λ h. nodes h.formula) (take l.hyp-index l.hyps)) (2 ^ 64 - 1)
