use Rattle.code_form.specs.Codes.{bodies_of}
use Rattle.code_form.specs.Branches.{next_place}
use Rattle.tagged_interp.proofs.Working.{can_tell, program_after, still_works, has_moved}
use Rattle.tagged_interp.proofs.lab.go_past.Goals as goal

pub tell-requires-clause-takes : goal.tell-requires-clause-takes
tell-requires-clause-takes c = can_tell c.args.code.now c.args.main.now c.requires.works c.args.told c.requires.takes

pub returns-clause-works : goal.returns-clause-works
returns-clause-works c =
    still_works c.args.code.now c.args.main.now c.requires.works c.args.told c.requires.takes (bodies_of c.args.code.now) (next_place c.args.main.now) c.tell.new.self c.tell.result c.tell.ensures.standing

pub returns-clause-program : goal.returns-clause-program
returns-clause-program c =
    program_after c.args.code.now c.args.main.now c.requires.works c.args.told c.requires.takes (bodies_of c.args.code.now) (next_place c.args.main.now) c.tell.new.self c.tell.result c.tell.ensures.standing

pub returns-clause-same : goal.returns-clause-same
returns-clause-same c = has_moved c.args.code.now c.args.main.now c.requires.works c.tell.new.self c.tell.result c.tell.ensures.same
