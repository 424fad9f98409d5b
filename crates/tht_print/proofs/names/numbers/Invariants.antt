use Rattle.std.proofs.Common.{◌≡◌, ◌∷◌, length, map}
use Rattle.tht_tree.specs.declared.token.TokenKind.TheVariants as k
use Rattle.tht_tree.specs.Layout.{commas, one_number, word}
use Rattle.tht_print.specs.Tokens.{tokens_of}
use Rattle.tht_print.proofs.names.numbers.Given as goal

abbrev pub invariant-loop-value : goal.invariant-loop-value
invariant-loop-value l = commas (map one_number l.values) (word k.RParen ∷ tokens_of l.fn.out) ≡ commas (map one_number l.rest) (tokens_of l.out)

abbrev pub decreases-loop-value : goal.decreases-loop-value
decreases-loop-value l = length l.rest
