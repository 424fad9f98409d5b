use Rattle.std.proofs.Common.{◌+◌, ◌*◌, max}
use Rattle.tht_tree.specs.declared.give.Give.{size-Give}
use Rattle.tht_tree.specs.declared.give.GiveKind.{size-GiveKind}
use Rattle.heap_rules.proofs.gives.+gives.Given as goal

abbrev pub decreases-consume : goal.decreases-consume
decreases-consume l = 8 * size-Give l.give.now + 1

abbrev pub decreases-consume_kind : goal.decreases-consume_kind
decreases-consume_kind l = 8 * size-GiveKind l.kind.now

abbrev pub decreases-consume_both : goal.decreases-consume_both
decreases-consume_both l = 8 * max (size-Give l.x.now) (size-Give l.y.now) + 2

abbrev pub decreases-consume_opened : goal.decreases-consume_opened
decreases-consume_opened l = 8 * size-Give l.x.now + 2

abbrev pub decreases-consume_unfolded : goal.decreases-consume_unfolded
decreases-consume_unfolded l = 8 * size-Give l.x.now + 2

abbrev pub decreases-consume_left : goal.decreases-consume_left
decreases-consume_left l = 8 * size-Give l.x.now + 2

abbrev pub decreases-consume_right : goal.decreases-consume_right
decreases-consume_right l = 8 * size-Give l.x.now + 2
