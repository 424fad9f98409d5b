-- What the words and the commands ask for, as the program has it.
use Rattle.std.specs.Prelude.{ℕ, Bool, false, ◌&&◌, nat_le, List, slice_get, Option, None, Some}
use Rattle.tht_tree.specs.declared.command.Reader.{Reader}
use Rattle.tht_tree.specs.declared.command.Reader.TheVariants as reader
use Rattle.tht_logic.specs.CommandLine as command
use Rattle.tht_front.specs.declared.task.Task.{Task}
use Rattle.tht_front.specs.declared.task.Task.TheVariants.{Say, Run}
use Rattle.tht_front.specs.declared.words.Options.{Options}

-- the command that does so
abbrev pub reader_of : Task → Reader
reader_of Say = reader.Check
reader_of (Run budget) = reader.Run budget

-- what these options say
abbrev pub said_by : Options → command.Options
said_by o = record { workers = o.workers; steps = o.steps }

-- whether this is a digit above 0
abbrev pub is_above_zero : Option ℕ → Bool
is_above_zero None = false
is_above_zero (Some b) = nat_le 49 b && nat_le b 57

-- whether a word begins with a digit above 0
abbrev pub begins_above_zero : List ℕ → Bool
begins_above_zero word = is_above_zero (slice_get word 0)
