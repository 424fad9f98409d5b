use Rattle.std.proofs.Common.{refl}
use Rattle.tagged_interp.proofs.Stepping.{has_called}
use Rattle.tagged_interp.proofs.lab.Lab.call.Goals as goal

pub returns-clause-says : goal.returns-clause-says
returns-clause-says c = has_called _ _ _ c.self.view_is c.requires.front c.in_ok-go_past.ensures.program refl
