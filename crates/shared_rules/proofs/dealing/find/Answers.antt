use Rattle.std.proofs.Common.{◌≤◌, ◌<◌, ◌+◌, sym, arith, rules}
use Rattle.std.proofs.lemmas.List.Elements.{All-weaker}
use Rattle.std.specs.Prelude.{ℕ}
use Rattle.tht_tree.specs.declared.assn.Assn.{Assn}
use Rattle.assn_laws.proofs.AtomLists.{none_at}
use Rattle.shared_rules.proofs.dealing.find.Goals as goal

pub returns-then-from-number-clause-found : goal.returns-then-from-number-clause-found
returns-then-from-number-clause-found c =
    let made = c.args.made in
    let above : made < c.args.number = search rules in
    let below = All-weaker {X = ℕ × Assn} (λ a. a.0 ≤ made) (λ a. a.0 < made + 1) (λ a l. omega (arith, l)) c.args.atoms.now.entries c.requires in
    sym (none_at (made + 1) c.args.number c.args.atoms.now.entries below (omega (arith, above)))
