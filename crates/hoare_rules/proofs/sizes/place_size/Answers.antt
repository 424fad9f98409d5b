use Rattle.hoare_rules.proofs.CellSizes.{first_nodes, first_levels, later_nodes, later_levels}
use Rattle.hoare_rules.proofs.sizes.place_size.Goals as goal

pub returns-then-index-eq0-clause-nodes : goal.returns-then-index-eq0-clause-nodes
returns-then-index-eq0-clause-nodes c = λ x. first_nodes x c.args.index c.if-index-eq0.true

pub returns-then-index-eq0-clause-levels : goal.returns-then-index-eq0-clause-levels
returns-then-index-eq0-clause-levels c = λ x. first_levels x c.args.index c.if-index-eq0.true

pub returns-else-index-eq0-clause-nodes : goal.returns-else-index-eq0-clause-nodes
returns-else-index-eq0-clause-nodes c = λ x. later_nodes x c.args.index c.if-index-eq0.false

pub returns-else-index-eq0-clause-levels : goal.returns-else-index-eq0-clause-levels
returns-else-index-eq0-clause-levels c = λ x. later_levels x c.args.index c.if-index-eq0.false
