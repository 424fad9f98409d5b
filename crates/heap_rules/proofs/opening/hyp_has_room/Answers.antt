use Rattle.std.proofs.Common.{◌∙◌}
use Rattle.heap_rules.proofs.HypSizes.{too_wide, by_nodes}
use Rattle.heap_rules.proofs.opening.hyp_has_room.Goals as goal

pub returns-then-not-formula_fits : goal.returns-then-not-formula_fits
returns-then-not-formula_fits c = λ d h size below. too_wide d h c.args.formula.now c.args.nodes size below c.if-not-formula_fits.ensures

pub returns : goal.returns
returns c = λ d h size below. c.context_is_within.ensures ∙ by_nodes d h c.args.formula.now c.args.nodes size below c.if-not-formula_fits.ensures c.term_size.result c.saturating_add.result c.term_size.ensures c.saturating_add.ensures
