use Rattle.std.proofs.Common.{◌≡◌, length, map}
use Rattle.tht_tree.specs.Layout.{commas, term}
use Rattle.tht_print.specs.Tokens.{tokens_of}
use Rattle.tht_print.proofs.term.listed.Given as goal

abbrev pub invariant-loop-t : goal.invariant-loop-t
invariant-loop-t l = commas (map term l.ts) (tokens_of l.fn.out) ≡ commas (map term l.rest) (tokens_of l.out)

abbrev pub decreases-loop-t : goal.decreases-loop-t
decreases-loop-t l = length l.rest
