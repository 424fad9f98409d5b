use Rattle.std.proofs.Common.{◌++◌, ◌∙◌, ap, map, Some}
use Rattle.tagged_interp.proofs.Stepping.{has_made}
use Rattle.tagged_interp.proofs.lab.Lab.alloc.Goals as goal

pub returns-clause-says : goal.returns-clause-says
returns-clause-says c =
    has_made _ _ _ c.self.view_is c.args.values.now c.requires.front c.self.invariant c.in_ok-go_past.ensures.program (c.lay.ensures ∙ ap (λ l. l ++ map Some c.args.values.now) c.in_ok-reserve.ensures.items)
