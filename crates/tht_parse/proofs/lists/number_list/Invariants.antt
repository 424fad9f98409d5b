use Rattle.std.proofs.Common.{◌≡◌, ◌-◌}
use Rattle.tht_tree.specs.declared.token.TokenKind.TheVariants as k
use Rattle.tht_grammar.specs.Steps.{is, entries, listed}
use Rattle.tht_grammar.specs.Reading.{number}
use Rattle.tht_parse.proofs.lists.number_list.Given as goal

abbrev pub invariant-loop-turn : goal.invariant-loop-turn
invariant-loop-turn l = listed (is k.Num) number 64 l.fn.tokens ≡ entries (is k.Num) number (64 - l._turn) l.found l.tokens
