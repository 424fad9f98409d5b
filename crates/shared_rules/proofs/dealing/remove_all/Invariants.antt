use Rattle.std.proofs.Common.{◌≡◌, ◌≤◌, drop}
use Rattle.std.specs.Prelude.{All}
use Rattle.shared_rules.specs.Gathering.{left_of}
use Rattle.shared_rules.proofs.dealing.remove_all.Given as goal

abbrev pub invariant-loop-number : goal.invariant-loop-number
invariant-loop-number l = record {
  left : left_of l.numbers l.initial.atoms.entries ≡ left_of (drop l.number-index l.numbers) l.atoms.entries;
  numbered : All (λ a. a.0 ≤ l.made) l.atoms.entries;
}
