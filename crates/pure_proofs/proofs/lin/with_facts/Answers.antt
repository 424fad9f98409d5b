use Rattle.std.proofs.Common.{◌+◌, map, drop, sym, ◌∙◌, ap, arith}
use Rattle.std.proofs.lemmas.List.{at_drop_all}
use Rattle.tht_tree.specs.Rules.Certificates.{fact_rows}
use Rattle.pure_terms.specs.Locals.{locals_of}
use Rattle.pure_proofs.specs.Facts.{fact_said}
use Rattle.pure_proofs.specs.Rows.{rows_of, rows_before}
use Rattle.pure_proofs.proofs.ReadRows.{all_read, next_row}
use Rattle.pure_proofs.proofs.Walks.{now_at}
use Rattle.pure_proofs.proofs.lin.with_facts.Goals as goal

pub loop-fact-preserved : goal.loop-fact-preserved
loop-fact-preserved c =
    let scope = locals_of c.args.scope.now in
    let facts = c.args.facts.now in
    let i = c.loop-fact.fact-index in
    let rows = rows_of c.loop-fact.rows in
    let rest = fact_rows scope (map fact_said (drop (i + 1) facts)) in
    c.loop-fact.invariant
    ∙ ap (λ fs. rows_before rows (fact_rows scope (map fact_said fs))) (now_at facts i c.fact-item.result c.loop-fact-test.true c.fact-item.is)
    ∙ next_row rows _ _ c.in_ok-form.form rest c.in_ok-form.ensures
    ∙ ap (λ rs. rows_before rs rest) (sym c.in_ok-add.ensures)

pub returns : goal.returns
returns c =
    c.loop-fact.invariant ∙ at_drop_all (λ fs. rows_before (rows_of c.loop-fact.rows) (fact_rows (locals_of c.args.scope.now) (map fact_said fs))) c.args.facts.now c.loop-fact.fact-index (omega arith)
    ∙ all_read (rows_of c.loop-fact.rows)
