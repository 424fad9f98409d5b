use Rattle.std.proofs.Common.{◌≡◌, length, map}
use Rattle.tht_tree.specs.Layout.{commas, param}
use Rattle.tht_print.specs.Tokens.{tokens_of}
use Rattle.tht_print.proofs.names.listed.Given as goal

abbrev pub invariant-loop-param : goal.invariant-loop-param
invariant-loop-param l = commas (map param l.params) (tokens_of l.fn.out) ≡ commas (map param l.rest) (tokens_of l.out)

abbrev pub decreases-loop-param : goal.decreases-loop-param
decreases-loop-param l = length l.rest
