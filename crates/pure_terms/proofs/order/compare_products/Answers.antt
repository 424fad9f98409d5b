use Rattle.std.proofs.Common.{◌∙◌}
use Rattle.tht_tree.specs.Normal.Order.{compare}
use Rattle.pure_terms.proofs.Orders.{order_ended}
use Rattle.pure_terms.proofs.order.compare_products.Goals as goal

pub returns : goal.returns
returns c = c.cmp.ensures ∙ order_ended compare c.args.product.now c.args.other.now _ _ c.in-None.ensures.steps c.loop-x.invariant
