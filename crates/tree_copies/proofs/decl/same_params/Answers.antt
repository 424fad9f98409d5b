use Rattle.tht_tree.proofs.Rows.{left_after, ended}
use Rattle.tree_copies.proofs.decl.same_params.Goals as goal

pub loop-param-preserved : goal.loop-param-preserved
loop-param-preserved c = left_after _ _ _ _ _ _ _ _ c.in-Some.ensures.steps (c.same_param.ensures.0 c.if-not-same_param.false) c.loop-param.invariant

pub returns : goal.returns
returns c = ended _ _ _ _ c.in-None.ensures.steps c.loop-param.invariant
