use Rattle.std.proofs.Common.{◌≡◌}
use Rattle.tht_tree.proofs.Rows.{LeftDecides}
use Rattle.tree_copies.proofs.decl.same_params.Given as goal

abbrev pub invariant-loop-param : goal.invariant-loop-param
invariant-loop-param l = LeftDecides (λ x. x) l.param-iterator.a.rest.now l.param-iterator.b.rest.now (l.params ≡ l.others)
