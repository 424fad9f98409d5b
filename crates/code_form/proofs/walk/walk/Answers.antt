use Rattle.std.proofs.Common.{arith}
use Rattle.code_form.specs.Means.{names_of}
use Rattle.code_form.proofs.Built.{past_end}
use Rattle.code_form.proofs.walk.walk.Goals as goal

pub returns-then-from-len-clause-same : goal.returns-then-from-len-clause-same
returns-then-from-len-clause-same c = past_end (names_of c.args.code.now.bodies) c.args.code.now.nodes c.args.from _ (omega (arith, c.if-from-len.true, c.len.ensures))
