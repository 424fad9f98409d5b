use Rattle.std.proofs.Common.{rules}
use Rattle.pure_terms.proofs.WithinLimits.{sum_end_of}
use Rattle.pure_terms.proofs.forms.sum_form.Goals as goal

pub returns-in_err-add : goal.returns-in_err-add
returns-in_err-add c =
    let ended = sum_end_of c.args.left c.args.right _ _ _ _ c.as_slice.ensures c.as_slice-2.ensures c.are_many.ensures c.if-are_many.false c.in_err-add.ensures in
    search (rules, ended)
