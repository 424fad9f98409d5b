use Rattle.std.proofs.Common.{◌≡◌, ◌+◌, ◌-◌, ◌*◌, ◌<◌, ◌≤◌, ◌⊎◌, max}
use Rattle.tht_tree.specs.declared.assn.Assn.{size-Assn}
use Rattle.tht_tree.specs.Layout.{left, shown_assn}
use Rattle.tht_print.specs.Tokens.{tokens_of}
use Rattle.tht_print.proofs.assn.+assn.Given as goal

abbrev pub decreases-operand : goal.decreases-operand
decreases-operand l = 8 * size-Assn l.a.now + 3

abbrev pub decreases-bare : goal.decreases-bare
decreases-bare l = 8 * size-Assn l.a.now + 2

abbrev pub decreases-chain : goal.decreases-chain
decreases-chain l = 8 * size-Assn l.a.now + 1

abbrev pub decreases-exists : goal.decreases-exists
decreases-exists l = 8 * size-Assn l.body.now + 5

abbrev pub decreases-quantified : goal.decreases-quantified
decreases-quantified l = 8 * size-Assn l.body.now + 4

abbrev pub decreases-either : goal.decreases-either
decreases-either l = 8 * max (size-Assn l.a.now) (size-Assn l.b.now) + 4

-- what is left of the chain goes before the tokens, with room for the operators that are left
abbrev pub invariant-chain-loop-turn : goal.invariant-chain-loop-turn
invariant-chain-loop-turn l = record {
  printed : (shown_assn l.a).bare 64 (tokens_of l.fn.out) ≡ left 0 (64 - l._turn) (shown_assn l.left) (tokens_of l.out);
  within : size-Assn l.left ≤ size-Assn l.a;
  begun : ((l._turn ≡ 0) × ((shown_assn l.left).rank ≡ 0)) ⊎ (size-Assn l.left < size-Assn l.a);
}
