use Rattle.std.proofs.Common.{◌∙◌, ap}
use Rattle.tht_tree.specs.Rules.Context.{context_of}
use Rattle.file_checker.specs.Starts.{with_bound}
use Rattle.file_checker.proofs.heads.known_in.Goals as goal

pub returns-clause-ok : goal.returns-clause-ok
returns-clause-ok c =
    let head = c.args.head.now in
    let first = ap context_of c.in_ok-known.ensures.ok ∙ c.new.ensures in
    c.in_ok-bind_all-2.ensures.ok ∙ ap (λ k. with_bound k head.logic) (c.in_ok-bind_all.ensures.ok ∙ ap (λ k. with_bound k head.params) first)
