use Rattle.std.proofs.Common.{take}
use Rattle.heap_rules.specs.PredicatePlaces.{AreProcs}
use Rattle.heap_rules.proofs.procs.procs_of.Given as goal

abbrev pub invariant-loop-place : goal.invariant-loop-place
invariant-loop-place l = AreProcs l.procs (take l.place l.decls)
