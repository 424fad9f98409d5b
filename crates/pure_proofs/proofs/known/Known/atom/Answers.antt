use Rattle.std.proofs.Common.{◌<◌, arith}
use Rattle.pure_proofs.proofs.Atoms.{none_above}
use Rattle.pure_proofs.proofs.known.Known.atom.Goals as goal

pub returns-then-number-from : goal.returns-then-number-from
returns-then-number-from c =
    let made = c.args.self.now.state.made in
    let above : made < c.args.number = omega arith in
    none_above made c.args.number c.args.self.now.state.atoms.entries c.args.self.now.numbered above
