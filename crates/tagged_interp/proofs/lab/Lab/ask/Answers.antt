use Rattle.std.proofs.Common.{ap, ◌∙◌}
use Rattle.code_form.specs.Fronts.{front_ask}
use Rattle.tagged_interp.specs.Labs.{LabValue, program}
use Rattle.tagged_interp.proofs.Working.{asks}
use Rattle.tagged_interp.proofs.lab.Lab.ask.Goals as goal

pub returns : goal.returns
returns c = c.ask.ensures ∙ asks c.self.inside.code c.self.inside.main c.self.invariant.works ∙ ap (λ (l : LabValue). front_ask (program l)) c.self.view_is
