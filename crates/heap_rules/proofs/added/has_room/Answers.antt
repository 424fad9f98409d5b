use Rattle.std.proofs.Common.{leb, ◌∙◌, ap, arith}
use Rattle.heap_rules.proofs.MoreAtoms.{no_room, room}
use Rattle.heap_rules.proofs.added.has_room.Goals as goal

pub returns-then-not-context_is_within : goal.returns-then-not-context_is_within
returns-then-not-context_is_within c =
    λ d h size is. no_room c.args.assn.now d h c.args.nodes c.atoms_size.result c.saturating_add.result size c.atoms_size.ensures c.saturating_add.ensures c.if-not-context_is_within.ensures

pub returns : goal.returns
returns c =
    λ d h size is. ap (λ k. leb c.atoms_count.result k) c.from.ensures ∙ room c.args.assn.now d h c.args.nodes c.atoms_size.result c.saturating_add.result size c.atoms_size.ensures c.saturating_add.ensures c.if-not-context_is_within.ensures
    c.args.made c.atoms_count.result is (omega arith) c.atoms_count.ensures
