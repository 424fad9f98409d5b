use Rattle.std.proofs.Common.{◌∙◌, sym, arith}
use Rattle.heap_assert.proofs.LikeLists.{left_after, ended, other_length}
use Rattle.heap_assert.proofs.sameness.like_list.Goals as goal

pub returns-then-len : goal.returns-then-len
returns-then-len c = other_length _ _ _ (λ e. omega (arith, e, c.len.ensures, c.len-2.ensures))

pub loop-term-preserved : goal.loop-term-preserved
loop-term-preserved c = left_after _ _ _ _ _ _ _ _ c.in-Some.ensures.steps (sym c.like_term.ensures ∙ c.if-not-like_term.false) c.loop-term.invariant

pub returns : goal.returns
returns c = ended _ _ _ _ c.in-None.ensures.steps c.loop-term.invariant
