use Rattle.std.proofs.Common.{◌≡◌, map, drop}
use Rattle.std.specs.List.{list_all}
use Rattle.test_code_form.specs.PlainParts.{stmt_plain}
use Rattle.test_code_form.proofs.plain.+plain_body.Given as goal

abbrev pub invariant-stmts_are_plain-loop-stmt : goal.invariant-stmts_are_plain-loop-stmt
invariant-stmts_are_plain-loop-stmt l = list_all (λ s. s) (map stmt_plain l.stmts) ≡ list_all (λ s. s) (map stmt_plain (drop l.stmt-index l.stmts))
