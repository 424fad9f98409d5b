use Rattle.pure_terms.proofs.Levels.{by_turns}
use Rattle.pure_terms.proofs.order.compare_labels.Goals as goal

pub returns : goal.returns
returns c =
    by_turns c.args.term.now c.args.other.now _ _ _ _ _ _ _ _ _ _ _
    c.rank.ensures c.rank-2.ensures c.cmp.ensures c.number.ensures c.number-2.ensures c.cmp-2.ensures c.then.ensures c.name.ensures c.name-2.ensures c.cmp-3.ensures c.then-2.ensures
