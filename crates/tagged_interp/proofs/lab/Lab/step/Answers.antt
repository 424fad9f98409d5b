use Rattle.tagged_interp.proofs.Stepping.{with_left}
use Rattle.tagged_interp.proofs.lab.Lab.step.Goals as goal

pub returns-in-Read-clause-says : goal.returns-in-Read-clause-says
returns-in-Read-clause-says c = with_left c.read.result c.args.self.now c.read.new.self c.args.branch c.args.left c.if-branch-ne0.false c.if-left-eq0.false c.read.ensures.says

pub returns-in-Write-clause-says : goal.returns-in-Write-clause-says
returns-in-Write-clause-says c = with_left c.write.result c.args.self.now c.write.new.self c.args.branch c.args.left c.if-branch-ne0.false c.if-left-eq0.false c.write.ensures.says

pub returns-in-Alloc-clause-says : goal.returns-in-Alloc-clause-says
returns-in-Alloc-clause-says c = with_left c.alloc.result c.args.self.now c.alloc.new.self c.args.branch c.args.left c.if-branch-ne0.false c.if-left-eq0.false c.alloc.ensures.says

pub returns-in-Free-clause-says : goal.returns-in-Free-clause-says
returns-in-Free-clause-says c = with_left c.free.result c.args.self.now c.free.new.self c.args.branch c.args.left c.if-branch-ne0.false c.if-left-eq0.false c.free.ensures.says

pub returns-in-Call-clause-says : goal.returns-in-Call-clause-says
returns-in-Call-clause-says c = with_left c.call.result c.args.self.now c.call.new.self c.args.branch c.args.left c.if-branch-ne0.false c.if-left-eq0.false c.call.ensures.says
