-- The exit statuses of the program.
use Rattle.std.specs.Prelude.{ℕ}
use Rattle.tht_tree.specs.declared.status.Status.{Status}
use Rattle.tht_tree.specs.declared.status.Status.TheVariants.{Done, Words, ReadFault, WriteFault, TooLong, Text, NamesOrSorts, Rule, Spent, Big, Memory}

-- the exit status; 11 to 13 are kept for commands to come
abbrev pub number_of : Status → ℕ
number_of Done = 0
number_of Words = 1
number_of ReadFault = 2
number_of WriteFault = 3
number_of TooLong = 4
number_of Text = 5
number_of NamesOrSorts = 6
number_of Rule = 7
number_of Spent = 8
number_of Big = 9
number_of Memory = 10
