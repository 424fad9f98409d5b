use Rattle.std.proofs.Common.{ap, ◌∙◌, ◌++◌, arith}
use Rattle.code_form.specs.Codes.{means_of}
use Rattle.code_form.specs.Means.{cut}
use Rattle.code_form.specs.Stack.{values_in}
use Rattle.code_form.proofs.Returns.{bound_more}
use Rattle.code_form.proofs.frames.go_on.Goals as goal

pub returns-clause-same : goal.returns-clause-same
returns-clause-same c =
    c.resolve.ensures.same ∙
    bound_more (means_of c.args.code.now) c.args.frames.now.items 0 c.args.base c.args.values.now.items c.bind.new.values.items (values_in c.args.bound) (means_of c.args.code.now c.earlier-from.result) (cut c.args.at (means_of c.args.code.now) c.args.next) c.requires.chain (omega (arith, c.requires.within, c.args.values.now.ok))
    (c.bind.ensures.items ∙ ap (λ l. l ++ values_in c.args.bound) c.reserve.ensures.items) c.earlier-from.ensures
