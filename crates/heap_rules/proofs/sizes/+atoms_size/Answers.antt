use Rattle.std.proofs.Common.{◌-◌, ◌^◌, min, sym, ◌∙◌, ap}
use Rattle.heap_rules.proofs.FlatSizes.{size_one}
use Rattle.heap_rules.proofs.sizes.+atoms_size.Goals as goal

pub returns-in_default : goal.returns-in_default
returns-in_default t c = c.assn_size.ensures ∙ ap (λ n. min n (2 ^ 64 - 1)) (sym (size_one c.args.assn.now c.in_default.not-Emp c.in_default.not-Star))
