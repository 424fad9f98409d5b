use Rattle.std.proofs.Common.{◌≡◌, ◌-◌}
use Rattle.tht_tree.specs.Grammar.{dots}
use Rattle.tht_grammar.specs.Steps.{chain}
use Rattle.tht_grammar.specs.Reading as spec
use Rattle.tht_parse.proofs.terms.offsets.Given as goal

abbrev pub invariant-loop-turn : goal.invariant-loop-turn
invariant-loop-turn l = chain dots spec.offset 64 l.fn.place l.fn.tokens ≡ chain dots spec.offset (64 - l._turn) l.place l.tokens
