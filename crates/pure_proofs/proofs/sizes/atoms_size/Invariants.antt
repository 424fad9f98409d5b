use Rattle.std.proofs.Common.{◌≡◌, ◌-◌, ◌^◌, min, sum_by}
use Rattle.tht_tree.specs.Rules.Sizes.{assn_nodes}
use Rattle.pure_proofs.proofs.sizes.atoms_size.Given as goal

abbrev pub invariant-loop-atom : goal.invariant-loop-atom
invariant-loop-atom l = l.total ≡ min (sum_by (λ a. assn_nodes a.now) l.yielded) (2 ^ 64 - 1)
