use Rattle.tree_copies.proofs.OneLevel.{gives_same}
use Rattle.tree_copies.proofs.give.+same.Goals as goal

pub same_give-returns : goal.same_give-returns
same_give-returns t c = gives_same _ _ c.same_kind.ensures
