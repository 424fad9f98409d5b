use Rattle.std.proofs.Common.{rules}
use Rattle.tht_grammar.specs.Reading.{box}
use Rattle.tht_parse.proofs.assns.braced.Goals as goal

pub returns-in_err-expect : goal.returns-in_err-expect
unfolding box
returns-in_err-expect c = search rules

pub returns-in_err-found : goal.returns-in_err-found
unfolding box
returns-in_err-found c = search rules

pub returns-in_err-expect-2 : goal.returns-in_err-expect-2
unfolding box
returns-in_err-expect-2 c = search rules

pub returns : goal.returns
unfolding box
returns c = search rules
