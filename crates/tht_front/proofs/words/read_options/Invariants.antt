use Rattle.std.proofs.Common.{◌≡◌, map, length, string_bytes}
use Rattle.tht_logic.specs.CommandLine.{no_options, with_options}
use Rattle.tht_front.specs.Asking.{said_by}
use Rattle.tht_front.proofs.words.read_options.Given as goal

-- the options that are left decide
abbrev pub invariant-loop-name : goal.invariant-loop-name
invariant-loop-name l = with_options (map string_bytes l.words) no_options ≡ with_options (map string_bytes l.rest) (said_by l.options)

abbrev pub decreases-loop-name : goal.decreases-loop-name
decreases-loop-name l = length l.rest
