use Rattle.std.proofs.Common.{◌≡◌, map, drop}
use Rattle.std.specs.List.{list_all}
use Rattle.hoare_rules.specs.BuiltParts.{stmt_built}
use Rattle.hoare_rules.proofs.built_bodies.+built_body.Given as goal

abbrev pub invariant-stmts_are_built-loop-stmt : goal.invariant-stmts_are_built-loop-stmt
invariant-stmts_are_built-loop-stmt l = list_all (λ s. s) (map stmt_built l.stmts) ≡ list_all (λ s. s) (map stmt_built (drop l.stmt-index l.stmts))
