use Rattle.std.proofs.Common.{◌≡◌, ◌-◌, ◌+◌, ◌*◌}
use Rattle.tht_tree.specs.Grammar.{stars}
use Rattle.tht_grammar.specs.Steps.{chain}
use Rattle.tht_grammar.specs.Reading as spec
use Rattle.tht_parse.proofs.assns.+assns.Given as goal

abbrev pub decreases-assn : goal.decreases-assn
decreases-assn l = 10 * l.depth + 0

abbrev pub decreases-alternative : goal.decreases-alternative
decreases-alternative l = 10 * l.depth + 0

abbrev pub decreases-exists : goal.decreases-exists
decreases-exists l = 10 * l.depth + 1

abbrev pub decreases-either : goal.decreases-either
decreases-either l = 10 * l.depth + 1

abbrev pub decreases-apr : goal.decreases-apr
decreases-apr l = 10 * l.depth + 2

abbrev pub decreases-chain : goal.decreases-chain
decreases-chain l = 10 * l.depth + 3

abbrev pub invariant-chain-loop-turn : goal.invariant-chain-loop-turn
invariant-chain-loop-turn l =
    spec.assn (spec.nested l.depth) l.fn.tokens
    ≡ chain stars (spec.apr (spec.nested l.depth)) (64 - l._turn) l.left l.tokens
