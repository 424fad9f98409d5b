use Rattle.std.proofs.Common.{◌≡◌, ◌∙◌, sym, arith}
use Rattle.code_form.proofs.FoundBodies.{set_found, none_found}
use Rattle.code_form.proofs.files.set_start.Goals as goal

pub returns-in_ok-name : goal.returns-in_ok-name
returns-in_ok-name c = λ e.
    c.set.ensures ∙ set_found c.args.name.now c.args.start c.args.names.now c.args.bodies.now c.number_of-number.result _ c.number_of-number.ensures c.in_ok-name.ensures e (omega arith)

pub returns-else-number-len : goal.returns-else-number-len
returns-else-number-len c = λ e. sym (none_found c.args.name.now c.args.start c.args.names.now c.args.bodies.now c.number_of-number.result c.number_of-number.ensures e (omega arith))
