use Rattle.std.proofs.Common.{◌≡◌, drop, is_some}
use Rattle.tht_tree.specs.Syntax.{position}
use Rattle.pure_terms.proofs.sorts.is_root.Given as goal

abbrev pub invariant-loop-root : goal.invariant-loop-root
invariant-loop-root l = is_some (position 0 l.roots l.name) ≡ is_some (position l.root-index (drop l.root-index l.roots) l.name)
