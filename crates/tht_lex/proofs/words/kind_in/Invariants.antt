use Rattle.std.proofs.Common.{◌≡◌, length}
use Rattle.tht_tree.specs.Splitting.{kind_in}
use Rattle.tht_lex.specs.Words.{rows}
use Rattle.tht_lex.proofs.words.kind_in.Given as goal

abbrev pub invariant-loop-table : goal.invariant-loop-table
invariant-loop-table l = kind_in (rows l.table) l.text ≡ kind_in (rows l.initial.table) l.text

abbrev pub decreases-loop-table : goal.decreases-loop-table
decreases-loop-table l = length l.table
