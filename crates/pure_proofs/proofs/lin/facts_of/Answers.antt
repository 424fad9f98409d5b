use Rattle.std.proofs.Common.{◌∙◌, ap, arith}
use Rattle.std.specs.Prelude.{filter_map}
use Rattle.std.proofs.lemmas.Grind.{common_steps}
use Rattle.std.proofs.lemmas.List.{take_all}
use Rattle.std.proofs.lemmas.List.Elements.{filter_map-append}
use Rattle.pure_proofs.specs.Facts.{denied_by, entry_fact}
use Rattle.pure_terms.specs.Locals.{locals_of}
use Rattle.pure_proofs.proofs.lin.facts_of.Goals as goal

pub loop-entry-preserved : goal.loop-entry-preserved
loop-entry-preserved c = grind (arith, common_steps, filter_map-append)

pub returns : goal.returns
returns c =
    c.loop-entry.invariant
    ∙ ap (filter_map (entry_fact c.args.roots.now (locals_of c.args.scope.now) (denied_by c.args.aim))) (take_all c.loop-entry.entry-index c.args.entries.now (omega arith))
