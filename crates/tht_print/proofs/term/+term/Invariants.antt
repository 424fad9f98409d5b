use Rattle.std.proofs.Common.{◌≡◌, ◌+◌, ◌-◌, ◌*◌, ◌<◌, ◌≤◌, ◌⊎◌, max}
use Rattle.tht_tree.specs.declared.term.Term.{size-Term}
use Rattle.tht_tree.specs.Layout.{left, shown_term}
use Rattle.tht_print.specs.Tokens.{tokens_of}
use Rattle.tht_print.proofs.term.+term.Given as goal

abbrev pub decreases-operand : goal.decreases-operand
decreases-operand l = 8 * size-Term l.t.now + 3

abbrev pub decreases-bare : goal.decreases-bare
decreases-bare l = 8 * size-Term l.t.now + 2

abbrev pub decreases-chain : goal.decreases-chain
decreases-chain l = 8 * size-Term l.t.now + 1

abbrev pub decreases-offsets : goal.decreases-offsets
decreases-offsets l = 8 * size-Term l.t.now + 1

abbrev pub decreases-prefixed : goal.decreases-prefixed
decreases-prefixed l = 8 * size-Term l.t.now + 4

abbrev pub decreases-pair : goal.decreases-pair
decreases-pair l = 8 * max (size-Term l.x.now) (size-Term l.y.now) + 4

-- what is left of the chain goes before the tokens, with room for the operators that are left
abbrev pub invariant-chain-loop-turn : goal.invariant-chain-loop-turn
invariant-chain-loop-turn l = record {
  printed : (shown_term l.t).bare 64 (tokens_of l.fn.out) ≡ left l.rank (64 - l._turn) (shown_term l.left) (tokens_of l.out);
  within : size-Term l.left ≤ size-Term l.t;
  begun : ((l._turn ≡ 0) × ((shown_term l.left).rank ≡ l.rank)) ⊎ (size-Term l.left < size-Term l.t);
}

abbrev pub invariant-offsets-loop-turn : goal.invariant-offsets-loop-turn
invariant-offsets-loop-turn l = record {
  printed : (shown_term l.t).bare 64 (tokens_of l.fn.out) ≡ left 8 (64 - l._turn) (shown_term l.left) (tokens_of l.out);
  within : size-Term l.left ≤ size-Term l.t;
  begun : ((l._turn ≡ 0) × ((shown_term l.left).rank ≡ 8)) ⊎ (size-Term l.left < size-Term l.t);
}
