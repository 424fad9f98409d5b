use Rattle.std.proofs.Common.{◌≡◌, ◌≤◌, ◌+◌, ◌-◌, length, map, take, drop, fold, All}
use Rattle.std.specs.List.{AllPairs}
use Rattle.tht_tree.specs.Splitting.{start_spot, after}
use Rattle.tht_grammar.specs.Pieces.{split_from}
use Rattle.tht_grammar.proofs.Turns.{with_front}
use Rattle.tht_lex.specs.Tokens.{seen, IsTokenOf, Precedes}
use Rattle.tht_lex.proofs.lexer.lex.Given as goal

abbrev pub invariant-loop-at : goal.invariant-loop-at
invariant-loop-at l = record {
  so_far : split_from 0 start_spot l.bytes ≡ with_front (map (seen l.bytes) l.tokens.items) (split_from 0 l.spot (drop l.at l.bytes));
  ranges : All (IsTokenOf l.bytes) l.tokens.items;
  in_order : AllPairs Precedes l.tokens.items;
  before : All (λ t. t.to ≤ l.at) l.tokens.items;
  placed : l.spot ≡ fold after start_spot (take l.at l.bytes);
  within : l.at ≤ length l.bytes;
  line : l.spot.line ≤ 1 + l.at;
  column : l.spot.column ≤ 1 + l.at;
}

abbrev pub decreases-loop-at : goal.decreases-loop-at
decreases-loop-at l = length l.bytes - l.at
