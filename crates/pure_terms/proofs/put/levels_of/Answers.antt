use Rattle.pure_terms.proofs.InsideTerms.{name_levels}
use Rattle.pure_terms.proofs.put.levels_of.Goals as goal

pub returns : goal.returns
returns c = name_levels c.args.variable.now
