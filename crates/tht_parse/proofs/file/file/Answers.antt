use Rattle.std.proofs.Common.{rules}
use Rattle.tht_grammar.specs.Reading.{file}
use Rattle.tht_parse.proofs.file.file.Goals as goal

pub returns-in_err-version : goal.returns-in_err-version
unfolding file
returns-in_err-version c = let told = c.version.ensures c.args.depth in search (rules, told)
