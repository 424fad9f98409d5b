use Rattle.tagged_interp.proofs.Stepping.{none_can, main_can}
use Rattle.tagged_interp.proofs.lab.Lab.lowest.Goals as goal

pub returns-in-Some : goal.returns-in-Some
returns-in-Some c = λ m t stands. none_can c.args.self.now m t stands c.value.result (c.value.ensures m t stands) c.in-Some.field-0 c.in-Some.is

pub returns-in-None : goal.returns-in-None
returns-in-None c = λ m t stands. main_can c.args.self.now m t stands c.value.result (c.value.ensures m t stands) c.in-None.is
