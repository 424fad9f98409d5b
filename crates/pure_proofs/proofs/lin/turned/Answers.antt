use Rattle.std.proofs.Common.{map, ◌∙◌, ap, arith}
use Rattle.std.proofs.lemmas.List.{take_all}
use Rattle.tht_tree.specs.Rules.Certificates.{turned}
use Rattle.pure_proofs.specs.Facts.{fact_said}
use Rattle.pure_proofs.proofs.lin.turned.Goals as goal

pub returns : goal.returns
returns c = c.loop-fact.invariant ∙ ap (λ xs. map turned (map fact_said xs)) (take_all c.loop-fact.fact-index c.args.facts.now (omega arith))
