use Rattle.std.proofs.Common.{map, option_map}
use Rattle.tht_tree.specs.Rules.Certificates.{denied, with_row, fact_rows}
use Rattle.pure_terms.specs.Locals.{locals_of}
use Rattle.pure_proofs.specs.Facts.{comparing, fact_said}
use Rattle.pure_proofs.proofs.Verdicts.{rows_end}
use Rattle.pure_proofs.proofs.lin.check.Goals as goal

pub returns-in-Err : goal.returns-in-Err
returns-in-Err c =
    rows_end c.no_form.result c.in-Err.end c.args.spot (with_row c.args.multiplier (denied (locals_of c.args.scope.now) (option_map comparing c.args.denied)) (fact_rows (locals_of c.args.scope.now) (map fact_said c.args.facts.now)))
    c.in-Err.ensures c.no_form.ensures
