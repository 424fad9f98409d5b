use Rattle.std.proofs.Common.{◌≡◌, ◌-◌, []}
use Rattle.tht_tree.specs.Grammar.{a_term}
use Rattle.tht_grammar.specs.Words.{begins_term}
use Rattle.tht_grammar.specs.Steps.{entries}
use Rattle.tht_grammar.specs.Reading.{nested}
use Rattle.tht_parse.proofs.arguments.some_terms.Given as goal

abbrev pub invariant-loop-turn : goal.invariant-loop-turn
invariant-loop-turn l =
    entries begins_term (nested l.depth a_term) l.limit [] l.fn.tokens
    ≡ entries begins_term (nested l.depth a_term) (l.limit - l._turn) l.found l.tokens
