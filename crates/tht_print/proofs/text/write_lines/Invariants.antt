use Rattle.std.proofs.Common.{◌≡◌, ◌++◌, length, string_bytes}
use Rattle.tht_tree.specs.Layout.{lines}
use Rattle.tht_print.specs.Tokens.{tokens_of}
use Rattle.tht_print.proofs.text.write_lines.Given as goal

abbrev pub invariant-loop-token : goal.invariant-loop-token
invariant-loop-token l = string_bytes l.fn.text ++ lines (tokens_of l.initial.left) ≡ string_bytes l.text ++ lines (tokens_of l.left)

abbrev pub decreases-loop-token : goal.decreases-loop-token
decreases-loop-token l = length (tokens_of l.left)
