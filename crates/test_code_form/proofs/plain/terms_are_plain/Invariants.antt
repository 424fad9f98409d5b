use Rattle.std.proofs.Common.{◌≡◌, drop}
use Rattle.std.specs.List.{list_all}
use Rattle.tht_tree.specs.Rules.Scoping.{sequence_free}
use Rattle.test_code_form.proofs.plain.terms_are_plain.Given as goal

abbrev pub invariant-loop-term : goal.invariant-loop-term
invariant-loop-term l = list_all sequence_free l.cells ≡ list_all sequence_free (drop l.term-index l.cells)
