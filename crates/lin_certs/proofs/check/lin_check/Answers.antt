use Rattle.std.proofs.Common.{rules}
use Rattle.lin_certs.proofs.Sound.{refutation_sound}
use Rattle.lin_certs.specs.LinSaid.{IsRefutation}
use Rattle.lin_certs.proofs.check.lin_check.Goals as goal

pub returns-clause-sound : goal.returns-clause-sound
returns-clause-sound c h =
    let r : IsRefutation c.args.forms.now c.args.by.now = search rules in
    refutation_sound c.args.forms.now c.args.by.now c.requires.aligned r
