use Rattle.std.proofs.Common.{◌≡◌, drop}
use Rattle.std.specs.List.{list_all}
use Rattle.tht_logic.specs.Built.{decl}
use Rattle.hoare_rules.proofs.built.decls_are_built.Given as goal

abbrev pub invariant-loop-decl : goal.invariant-loop-decl
invariant-loop-decl l = list_all (λ x. decl x.kind) l.decls ≡ list_all (λ x. decl x.kind) (drop l.decl-index l.decls)
