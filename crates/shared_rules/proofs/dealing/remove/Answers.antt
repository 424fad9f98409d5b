use Rattle.std.proofs.Common.{◌≤◌, ◌<◌, ◌+◌, sym, arith, rules}
use Rattle.std.proofs.lemmas.List.Elements.{All-weaker}
use Rattle.std.specs.Prelude.{ℕ}
use Rattle.tht_tree.specs.declared.assn.Assn.{Assn}
use Rattle.assn_laws.proofs.AtomLists.{none_at, without_new}
use Rattle.shared_rules.proofs.dealing.remove.Goals as goal

pub returns-then-number-from-clause-atom : goal.returns-then-number-from-clause-atom
returns-then-number-from-clause-atom c =
    let made = c.args.made in
    let above : made < c.args.number = search rules in
    let below = All-weaker {X = ℕ × Assn} (λ a. a.0 ≤ made) (λ a. a.0 < made + 1) (λ a l. omega (arith, l)) c.args.atoms.now.entries c.requires in
    sym (none_at (made + 1) c.args.number c.args.atoms.now.entries below (omega (arith, above)))

pub returns-then-number-from-clause-left : goal.returns-then-number-from-clause-left
returns-then-number-from-clause-left c =
    let above : c.args.made < c.args.number = search rules in
    sym (without_new c.args.made c.args.number c.args.atoms.now.entries c.requires above)
