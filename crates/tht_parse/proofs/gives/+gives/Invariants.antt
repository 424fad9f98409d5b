use Rattle.std.proofs.Common.{◌≡◌, ◌-◌, ◌+◌, ◌*◌}
use Rattle.tht_grammar.specs.Reading as spec
use Rattle.tht_parse.proofs.Chains.{gives}
use Rattle.tht_parse.proofs.gives.+gives.Given as goal

abbrev pub decreases-give : goal.decreases-give
decreases-give l = 10 * l.depth + 0

abbrev pub decreases-prefixed : goal.decreases-prefixed
decreases-prefixed l = 10 * l.depth + 0

abbrev pub decreases-give_kind : goal.decreases-give_kind
decreases-give_kind l = 10 * l.depth + 1

abbrev pub decreases-gpr : goal.decreases-gpr
decreases-gpr l = 10 * l.depth + 2

abbrev pub decreases-chain : goal.decreases-chain
decreases-chain l = 10 * l.depth + 3

abbrev pub invariant-chain-loop-turn : goal.invariant-chain-loop-turn
invariant-chain-loop-turn l =
    spec.give (spec.nested l.depth) l.fn.tokens
    ≡ gives l.spot (spec.gpr (spec.nested l.depth)) (64 - l._turn) l.left l.tokens
