use Rattle.tht_tree.proofs.Rows.{left_after, ended}
use Rattle.tht_tree.proofs.term.same_terms.Goals as goal

pub loop-term-preserved : goal.loop-term-preserved
loop-term-preserved c = left_after _ _ _ _ _ _ _ _ c.in-Some.ensures.steps (c.same_term.ensures.decides.0 c.if-not-same_term.false) c.loop-term.invariant

pub returns : goal.returns
returns c = ended _ _ _ _ c.in-None.ensures.steps c.loop-term.invariant
