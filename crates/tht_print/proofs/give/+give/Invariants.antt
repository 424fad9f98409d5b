use Rattle.std.proofs.Common.{◌≡◌, ◌+◌, ◌-◌, ◌*◌, ◌<◌, ◌≤◌, ◌⊎◌}
use Rattle.tht_tree.specs.declared.give.Give.{size-Give}
use Rattle.tht_tree.specs.Layout.{left, shown_give}
use Rattle.tht_print.specs.Tokens.{tokens_of}
use Rattle.tht_print.proofs.give.+give.Given as goal

abbrev pub decreases-operand : goal.decreases-operand
decreases-operand l = 8 * size-Give l.g.now + 3

abbrev pub decreases-bare : goal.decreases-bare
decreases-bare l = 8 * size-Give l.g.now + 2

abbrev pub decreases-chain : goal.decreases-chain
decreases-chain l = 8 * size-Give l.g.now + 1

abbrev pub decreases-prefixed : goal.decreases-prefixed
decreases-prefixed l = 8 * size-Give l.g.now + 4

-- what is left of the chain goes before the tokens, with room for the operators that are left
abbrev pub invariant-chain-loop-turn : goal.invariant-chain-loop-turn
invariant-chain-loop-turn l = record {
  printed : (shown_give l.g).bare 64 (tokens_of l.fn.out) ≡ left 0 (64 - l._turn) (shown_give l.left) (tokens_of l.out);
  within : size-Give l.left ≤ size-Give l.g;
  begun : ((l._turn ≡ 0) × ((shown_give l.left).rank ≡ 0)) ⊎ (size-Give l.left < size-Give l.g);
}
