use Rattle.std.proofs.Common.{◌≡◌, [], drop}
use Rattle.shared_rules.specs.Gathering.{gathered}
use Rattle.shared_rules.proofs.dealing.gather.Given as goal

abbrev pub invariant-loop-number : goal.invariant-loop-number
invariant-loop-number l = gathered l.numbers l.atoms.entries [] ≡ gathered (drop l.number-index l.numbers) l.atoms.entries l.found.entries
