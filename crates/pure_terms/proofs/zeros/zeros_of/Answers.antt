use Rattle.std.proofs.Common.{◌∙◌}
use Rattle.pure_terms.proofs.InsideTerms.{name_has_zeros}
use Rattle.pure_terms.proofs.zeros.zeros_of.Goals as goal

pub returns : goal.returns
returns c = c.name_zeros.ensures ∙ name_has_zeros c.args.variable.now
