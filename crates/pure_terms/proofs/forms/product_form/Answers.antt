use Rattle.std.proofs.Common.{rules}
use Rattle.pure_terms.proofs.WithinLimits.{product_end_of}
use Rattle.pure_terms.proofs.forms.product_form.Goals as goal

pub returns-in_err-product : goal.returns-in_err-product
returns-in_err-product c =
    let ended = product_end_of c.args.left c.args.right _ _ _ _ _ _ c.as_slice.ensures c.as_slice-2.ensures c.as_slice-3.ensures c.as_slice-4.ensures
    c.are_many_products.ensures c.if-are_many_products.false c.in_err-product.ensures in
    search (rules, ended)
