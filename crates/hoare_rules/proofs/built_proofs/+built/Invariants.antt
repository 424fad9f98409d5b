use Rattle.std.proofs.Common.{◌≡◌, map, drop}
use Rattle.std.specs.List.{list_all}
use Rattle.hoare_rules.specs.BuiltParts.{entry_built}
use Rattle.hoare_rules.proofs.built_proofs.+built.Given as goal

abbrev pub invariant-entries_are_built-loop-entry : goal.invariant-entries_are_built-loop-entry
invariant-entries_are_built-loop-entry l = list_all (λ e. e) (map entry_built l.entries) ≡ list_all (λ e. e) (map entry_built (drop l.entry-index l.entries))
