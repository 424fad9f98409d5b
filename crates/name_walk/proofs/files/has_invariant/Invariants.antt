use Rattle.std.proofs.Common.{◌≡◌, drop}
use Rattle.tht_tree.specs.Walk.Files.{has_invariant}
use Rattle.name_walk.proofs.files.has_invariant.Given as goal

abbrev pub invariant-loop-decl : goal.invariant-loop-decl
invariant-loop-decl l = has_invariant l.decls ≡ has_invariant (drop l.decl-index l.decls)
