use Rattle.std.proofs.Common.{◌≡◌, map}
use Rattle.tht_tree.specs.WithoutSpots.{bare_entry}
use Rattle.tht_tree.proofs.Rows.{LeftDecides}
use Rattle.tree_copies.proofs.proof.+same.Given as goal

abbrev pub invariant-same_entries-loop-entry : goal.invariant-same_entries-loop-entry
invariant-same_entries-loop-entry l = LeftDecides bare_entry l.entry-iterator.a.rest.now l.entry-iterator.b.rest.now (map bare_entry l.entries ≡ map bare_entry l.others)
