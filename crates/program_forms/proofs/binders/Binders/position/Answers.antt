use Rattle.std.proofs.Common.{sym}
use Rattle.program_forms.specs.Names.{names_of}
use Rattle.program_forms.proofs.Leveled.{some_position, no_position}
use Rattle.program_forms.proofs.binders.Binders.position.Goals as goal

pub returns-in-Some : goal.returns-in-Some
unfolding names_of
returns-in-Some c =
    let me = c.args.self.now in
    some_position me.levels me.bound c.args.name.now c.in-Some.level c.len.result c.saturating_sub.result c.saturating_sub-in-Some.result me.leveled (sym c.in-Some.ensures) c.len.ensures c.saturating_sub.ensures c.saturating_sub-in-Some.ensures

pub returns-in-None : goal.returns-in-None
unfolding names_of
returns-in-None c =
    let me = c.args.self.now in
    no_position me.levels me.bound c.args.name.now me.leveled (sym c.in-None.ensures)
