-- The statuses that an answer may have, and the commands that have them.
use Rattle.std.specs.Prelude.{Bool, true, false}
use Rattle.tht_tree.specs.declared.status.Status.{Status}
use Rattle.tht_tree.specs.declared.status.Status.TheVariants.{ReadFault, WriteFault, TooLong, Text, NamesOrSorts, Spent, Big, Memory}
use Rattle.tht_tree.specs.declared.command.Reader.{Reader}
use Rattle.tht_tree.specs.declared.command.Reader.TheVariants.{Run}

-- whether words and input alone decide the status
abbrev pub is_decided : Status → Bool
is_decided ReadFault = false
is_decided WriteFault = false
is_decided Memory = false
is_decided status = true

-- whether the status comes after a file whose names and sorts are in order was read
abbrev pub is_past_text : Status → Bool
is_past_text TooLong = false
is_past_text Text = false
is_past_text NamesOrSorts = false
is_past_text status = true

-- whether the status is that of a run that was cut short
abbrev pub is_cut_short : Status → Bool
is_cut_short Spent = true
is_cut_short Big = true
is_cut_short status = false

-- whether the command runs files
abbrev pub is_run : Reader → Bool
is_run (Run budget) = true
is_run reader = false
