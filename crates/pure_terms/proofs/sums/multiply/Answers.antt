use Rattle.std.proofs.Common.{◌<◌, length, arith, rules}
use Rattle.pure_terms.proofs.GrownSums.{row_end}
use Rattle.pure_terms.proofs.sums.multiply.Goals as goal

pub returns-in_err-multiply_by : goal.returns-in_err-multiply_by
returns-in_err-multiply_by c =
    let within : c.loop-m.m-index < length c.args.left.now = omega arith in
    let ended = row_end c.args.left.now c.args.right.now c.loop-m.m-index c.m-item.result c.loop-m.products _ within c.m-item.is c.loop-m.invariant c.in_err-multiply_by.ensures in
    search (rules, ended)
