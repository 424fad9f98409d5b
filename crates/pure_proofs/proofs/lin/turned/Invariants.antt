use Rattle.std.proofs.Common.{◌≡◌, map, take}
use Rattle.tht_tree.specs.Rules.Certificates.{turned}
use Rattle.pure_proofs.specs.Facts.{fact_said}
use Rattle.pure_proofs.proofs.lin.turned.Given as goal

abbrev pub invariant-loop-fact : goal.invariant-loop-fact
invariant-loop-fact l = map fact_said l.turned.items ≡ map turned (map fact_said (take l.fact-index l.facts))
