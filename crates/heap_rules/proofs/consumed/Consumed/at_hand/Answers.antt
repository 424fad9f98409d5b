use Rattle.std.proofs.Common.{rules, ◌≡◌, ◌<◌, Some, None, MatchOption, sym, subst, arith}
use Rattle.pure_proofs.specs.Said.{known_in}
use Rattle.heap_rules.proofs.AtomsLeft.{none_made, none_consumed, one_left}
use Rattle.heap_rules.proofs.consumed.Consumed.at_hand.Goals as goal

pub returns-then-number-from-clause-atom : goal.returns-then-number-from-clause-atom
unfolding known_in
returns-then-number-from-clause-atom c =
    let me = c.args.known.now in
    let above : me.state.made < c.args.number = omega arith in
    none_made c.args.self.now me.state.made c.args.number me.state.atoms.entries me.numbered above

pub returns-then-contains-clause-atom : goal.returns-then-contains-clause-atom
unfolding known_in
returns-then-contains-clause-atom c = none_consumed c.args.self.now c.args.number c.args.known.now.state.atoms.entries c.ascend.ensures (sym c.if-contains.ensures)

pub returns-clause-atom : goal.returns-clause-atom
unfolding known_in
returns-clause-atom c =
    let left = one_left c.args.self.now c.args.number c.args.known.now.state.atoms.entries (sym c.if-contains.ensures) in
    subst (λ o. MatchOption c.get.result (o ≡ None) (λ a. o ≡ Some a.now)) left (search (rules, c.get.ensures.value))
