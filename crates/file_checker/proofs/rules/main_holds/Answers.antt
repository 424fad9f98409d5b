use Rattle.file_checker.proofs.Starting.{nothing_formed}
use Rattle.file_checker.proofs.rules.main_holds.Goals as goal

pub body_holds-requires : goal.body_holds-requires
body_holds-requires c = rw c.new-state.ensures (nothing_formed _)
