use Rattle.std.proofs.Common.{sym}
use Rattle.pure_terms.proofs.Levels.{by_their_parts}
use Rattle.pure_terms.proofs.order.+order.Goals as goal

pub compare_terms-returns-in-Equal : goal.compare_terms-returns-in-Equal
compare_terms-returns-in-Equal t c =
    by_their_parts c.args.term.now c.args.other.now _ _ _ (sym c.in-Equal.ensures) c.parts_of.ensures c.parts_of-in-Equal.ensures c.compare_parts.ensures
