use Rattle.std.proofs.Common.{◌≡◌, map, drop}
use Rattle.tht_tree.specs.Rules.Certificates.{fact_rows}
use Rattle.pure_terms.specs.Locals.{locals_of}
use Rattle.pure_proofs.specs.Facts.{fact_said}
use Rattle.pure_proofs.specs.Rows.{rows_of, rows_before}
use Rattle.pure_proofs.proofs.lin.with_facts.Given as goal

abbrev pub invariant-loop-fact : goal.invariant-loop-fact
invariant-loop-fact l =
    rows_before (rows_of l.initial.rows) (fact_rows (locals_of l.scope) (map fact_said l.facts)) ≡ rows_before (rows_of l.rows) (fact_rows (locals_of l.scope) (map fact_said (drop l.fact-index l.facts)))
