use Rattle.std.proofs.Common.{◌∙◌}
use Rattle.code_form.specs.Codes.{means_of}
use Rattle.code_form.proofs.Started.{begun_is}
use Rattle.code_form.proofs.frames.begin.Goals as goal

pub returns-clause-same : goal.returns-clause-same
returns-clause-same c =
    c.resolve.ensures.same ∙
    begun_is (means_of c.args.code.now) c.args.from c.args.env.now c.replace_values.new.values.items c.clear.new.self.items c.replace_values.ensures.items c.clear.ensures.items
