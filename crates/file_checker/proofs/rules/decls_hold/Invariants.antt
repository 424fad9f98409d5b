use Rattle.std.proofs.Common.{◌≡◌, drop}
use Rattle.heap_rules.specs.Declarations.{declared_by}
use Rattle.file_checker.specs.Refusals.{decls_refused}
use Rattle.file_checker.proofs.rules.decls_hold.Given as goal

-- the declarations that are left decide
abbrev pub invariant-loop-decl : goal.invariant-loop-decl
invariant-loop-decl l = decls_refused (declared_by l.predicates) l.decls ≡ decls_refused (declared_by l.predicates) (drop l.decl-index l.decls)
