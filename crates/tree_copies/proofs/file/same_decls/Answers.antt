use Rattle.tht_tree.proofs.Rows.{left_after, ended}
use Rattle.tree_copies.proofs.file.same_decls.Goals as goal

pub loop-decl-preserved : goal.loop-decl-preserved
loop-decl-preserved c = left_after _ _ _ _ _ _ _ _ c.in-Some.ensures.steps (c.same_decl.ensures.0 c.if-not-same_decl.false) c.loop-decl.invariant

pub returns : goal.returns
returns c = ended _ _ _ _ c.in-None.ensures.steps c.loop-decl.invariant
