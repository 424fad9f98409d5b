use Rattle.std.proofs.Common.{◌≡◌, ◌≤◌, drop}
use Rattle.std.specs.Prelude.{All}
use Rattle.tht_logic.specs.Rules.Calls.{dealt}
use Rattle.shared_rules.proofs.Dealt.{dealt_onto}
use Rattle.shared_rules.proofs.dealing.move_out.Given as goal

abbrev pub invariant-loop-number : goal.invariant-loop-number
invariant-loop-number l = record {
  left : dealt l.spot l.numbers l.initial.atoms.entries ≡ dealt_onto l.spot (drop l.number-index l.numbers) l.atoms.entries l.given.entries;
  numbered : All (λ a. a.0 ≤ l.made) l.atoms.entries;
}
