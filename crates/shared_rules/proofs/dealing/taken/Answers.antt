use Rattle.shared_rules.proofs.Gathered.{numbered, dealt_of_found}
use Rattle.shared_rules.proofs.dealing.taken.Goals as goal

pub move_out-requires : goal.move_out-requires
move_out-requires c = numbered c.args.made c.args.numbers.now c.args.atoms.now.entries c.in_ok-found.found.entries c.in_ok-found.ensures c.requires

pub returns : goal.returns
returns c =
    dealt_of_found c.args.spot c.args.numbers.now c.args.atoms.now.entries c.in_ok-found.found.entries c.move_out.new.atoms.entries c.move_out.result c.in_ok-found.ensures c.ascend-2.ensures c.ascend.ensures
    c.move_out.ensures
