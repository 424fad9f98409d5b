use Rattle.std.proofs.Common.{◌≡◌, ◌-◌}
use Rattle.tht_tree.specs.declared.token.TokenKind.TheVariants as k
use Rattle.tht_grammar.specs.Steps.{is, entries, listed}
use Rattle.tht_grammar.specs.Reading.{param}
use Rattle.tht_parse.proofs.lists.param_list.Given as goal

abbrev pub invariant-loop-turn : goal.invariant-loop-turn
invariant-loop-turn l = listed (is k.Name) param 16 l.fn.tokens ≡ entries (is k.Name) param (16 - l._turn) l.found l.tokens
