use Rattle.std.proofs.Common.{rules}
use Rattle.pure_terms.proofs.WithinLimits.{length_end}
use Rattle.pure_terms.proofs.forms.length_form.Goals as goal

pub returns-in_err-sum_of : goal.returns-in_err-sum_of
returns-in_err-sum_of c =
    let sums = c.in_ok-sums.ensures in
    let ended = length_end c.args.items c.in_ok-sums.sums _ sums.few sums.sums c.in_err-sum_of.ensures in
    search (rules, ended)
