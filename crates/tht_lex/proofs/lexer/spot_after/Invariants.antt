use Rattle.std.proofs.Common.{◌≡◌, ◌≤◌, ◌+◌, take}
use Rattle.tht_grammar.specs.Pieces.{after_all}
use Rattle.tht_lex.proofs.lexer.spot_after.Given as goal

abbrev pub invariant-loop-byte : goal.invariant-loop-byte
invariant-loop-byte l = record {
  so_far : l.after ≡ after_all l.fn.spot (take l.byte-index l.text);
  line : l.after.line ≤ l.fn.spot.line + l.byte-index;
  column : l.after.column ≤ l.fn.spot.column + l.byte-index;
}
