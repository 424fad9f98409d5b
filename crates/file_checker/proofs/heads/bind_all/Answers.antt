use Rattle.std.proofs.Common.{◌+◌, drop, sym, ◌∙◌, ap}
use Rattle.tht_tree.specs.Rules.Context.{context_of}
use Rattle.file_checker.specs.Starts.{with_bound}
use Rattle.file_checker.proofs.Starting.{bound_next}
use Rattle.file_checker.proofs.heads.bind_all.Goals as goal

pub loop-param-preserved : goal.loop-param-preserved
loop-param-preserved c =
    let i = c.loop-param.param-index in
    let old = context_of c.loop-param.known.state in
    let now = context_of c.bind.new.known.state in
    let same = c.as_slice-param-items.ensures in
    c.loop-param.invariant
    ∙ ap (λ ps. with_bound old (drop i ps)) (sym same)
    ∙ bound_next old now c.as_slice-param-items.result.now i c.param-item.result c.loop-param-test.true c.param-item.is c.in_ok-bind.ensures.ok
    ∙ ap (λ ps. with_bound now (drop (i + 1) ps)) same
