use Rattle.std.proofs.Common.{◌≡◌, map, take}
use Rattle.std.specs.Prelude.{filter_map}
use Rattle.pure_proofs.specs.Facts.{denied_by, fact_said, entry_fact}
use Rattle.pure_terms.specs.Locals.{locals_of}
use Rattle.pure_proofs.proofs.lin.facts_of.Given as goal

abbrev pub invariant-loop-entry : goal.invariant-loop-entry
invariant-loop-entry l = map fact_said l.facts.items ≡ filter_map (entry_fact l.roots (locals_of l.scope) (denied_by l.aim)) (take l.entry-index l.entries)
