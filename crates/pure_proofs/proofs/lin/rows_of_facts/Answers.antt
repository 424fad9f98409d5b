use Rattle.std.proofs.Common.{[], ◌∷◌, ◌++◌, map, option_map, sym, ◌∙◌, ap, subst}
use Rattle.tht_tree.specs.Rules.Certificates.{denied, fact_rows}
use Rattle.pure_terms.specs.Locals.{locals_of}
use Rattle.pure_proofs.specs.Facts.{comparing, fact_said}
use Rattle.pure_proofs.specs.Rows.{rows_before, AreRows}
use Rattle.pure_proofs.proofs.ReadRows.{row_of, first_row}
use Rattle.pure_proofs.proofs.lin.rows_of_facts.Goals as goal

pub returns : goal.returns
returns c =
    let scope = locals_of c.args.scope.now in
    let rest = fact_rows scope (map fact_said c.args.facts.now) in
    let first = denied scope (option_map comparing c.args.denied) in
    let x = c.in_ok-form.form in
    subst (AreRows c.with_facts.result) (
    ap (λ rs. rows_before rs rest) (c.in_ok-add.ensures ∙ ap (λ rs. rs ++ row_of c.args.multiplier x ∷ []) c.new-rows.ensures)
    ∙ sym (first_row c.args.multiplier first x rest c.in_ok-form.ensures)
    ) c.with_facts.ensures
