use Rattle.std.proofs.Common.{arith, sym, ◌∙◌, ◌≤◌, length}
use Rattle.code_form.specs.Codes.{means_of}
use Rattle.code_form.specs.Means.{names_of}
use Rattle.code_form.proofs.Built.{past_end}
use Rattle.code_form.proofs.Turned.{cut_above}
use Rattle.code_form.proofs.frames.earlier.Goals as goal

pub returns-else-next-at : goal.returns-else-next-at
returns-else-next-at c = λ env. sym (past_end (names_of c.args.code.now.bodies) c.args.code.now.nodes c.len.result env (omega (arith, c.len.ensures))) ∙ sym (cut_above (names_of c.args.code.now.bodies) c.args.at c.args.next (means_of c.args.code.now) env c.if-next-at.false)
