use Rattle.std.proofs.Common.{◌≡◌, map}
use Rattle.tht_tree.specs.WithoutSpots.{bare_decl}
use Rattle.tht_tree.proofs.Rows.{LeftDecides}
use Rattle.tree_copies.proofs.file.same_decls.Given as goal

abbrev pub invariant-loop-decl : goal.invariant-loop-decl
invariant-loop-decl l = LeftDecides bare_decl l.decl-iterator.a.rest.now l.decl-iterator.b.rest.now (map bare_decl l.decls ≡ map bare_decl l.others)
