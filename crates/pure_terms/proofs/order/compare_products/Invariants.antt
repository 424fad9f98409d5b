use Rattle.tht_tree.specs.Normal.Order.{compare}
use Rattle.pure_terms.proofs.Orders.{LeftOrders}
use Rattle.pure_terms.proofs.order.compare_products.Given as goal

abbrev pub invariant-loop-x : goal.invariant-loop-x
invariant-loop-x l = LeftOrders compare l.x-iterator.a.rest.now l.x-iterator.b.rest.now l.product l.other
