use Rattle.std.proofs.Common.{◌≡◌, ◌<◌, take}
use Rattle.tht_tree.specs.Values.{number_limit}
use Rattle.tht_tree.specs.Splitting.{number_of}
use Rattle.tht_lex.proofs.numbers.number_of.Given as goal

abbrev pub invariant-loop-digit : goal.invariant-loop-digit
invariant-loop-digit l = record { so_far : l.value ≡ number_of (take l.digit-index l.digits); fits : l.value < number_limit }
