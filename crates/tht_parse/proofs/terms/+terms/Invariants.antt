use Rattle.std.proofs.Common.{ℕ, ◌≡◌, ◌-◌, ◌+◌, ◌*◌}
use Rattle.tht_grammar.specs.Steps.{chain}
use Rattle.tht_grammar.specs.Reading as spec
use Rattle.tht_parse.specs.declared.operators.Level.{Level}
use Rattle.tht_parse.specs.declared.operators.Level.TheVariants as l
use Rattle.tht_parse.specs.Levels.{operators_of, part_of, chain_of}
use Rattle.tht_parse.proofs.terms.+terms.Given as goal

-- chains call looser ones never
abbrev pub rank : Level → ℕ
rank l.Disj = 7
rank l.Conj = 6
rank l.Sum = 3
rank l.Prod = 2

abbrev pub decreases-term : goal.decreases-term
decreases-term l = 20 * l.depth + 0

abbrev pub decreases-negated : goal.decreases-negated
decreases-negated l = 20 * l.depth + 0

abbrev pub decreases-linked : goal.decreases-linked
decreases-linked l = 20 * l.depth + 0

abbrev pub decreases-measured : goal.decreases-measured
decreases-measured l = 20 * l.depth + 0

abbrev pub decreases-neg : goal.decreases-neg
decreases-neg l = 20 * l.depth + 10

abbrev pub decreases-cmp : goal.decreases-cmp
decreases-cmp l = 20 * l.depth + 9

abbrev pub decreases-app : goal.decreases-app
decreases-app l = 20 * l.depth + 8

abbrev pub decreases-off : goal.decreases-off
decreases-off l = 20 * l.depth + 3

abbrev pub decreases-prim : goal.decreases-prim
decreases-prim l = 20 * l.depth + 2

abbrev pub decreases-closed : goal.decreases-closed
decreases-closed l = 20 * l.depth + 1

abbrev pub decreases-chain : goal.decreases-chain
decreases-chain l = 20 * l.depth + 2 * rank l.level + 1

abbrev pub decreases-part : goal.decreases-part
decreases-part l = 20 * l.depth + 2 * rank l.level

abbrev pub invariant-chain-loop-turn : goal.invariant-chain-loop-turn
invariant-chain-loop-turn l =
    chain_of l.level (spec.nested l.depth) l.fn.tokens
    ≡ chain (operators_of l.level) (part_of l.level (spec.nested l.depth)) (64 - l._turn) l.left l.tokens
