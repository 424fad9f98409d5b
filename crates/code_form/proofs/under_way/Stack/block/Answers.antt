use Rattle.std.proofs.Common.{sym, ◌∙◌, ap}
use Rattle.std.specs.Option.{option_copied}
use Rattle.code_form.specs.StackValue.{StackValue}
use Rattle.code_form.proofs.BlocksAhead.{begins, no_block_here}
use Rattle.code_form.proofs.under_way.Stack.block.Goals as goal

pub returns-in-Some-block_of : goal.returns-in-Some-block_of
returns-in-Some-block_of c =
    begins c.args.code.now c.args.self.now c.in-At.at c.in-Some.node.now (sym (ap (λ (z : StackValue). z.front) c.self.view_is) ∙ c.in-At.is) (sym c.get.ensures.value ∙ ap option_copied c.in-Some.is)
    c.in-Some-block_of.inner c.earlier.result (sym c.block_of.ensures ∙ c.in-Some-block_of.is) c.earlier.ensures

pub returns-in-None-block_of : goal.returns-in-None-block_of
returns-in-None-block_of c =
    no_block_here c.args.code.now c.args.self.now c.in-At.at c.in-Some.node.now (sym (ap (λ (z : StackValue). z.front) c.self.view_is) ∙ c.in-At.is) (sym c.get.ensures.value ∙ ap option_copied c.in-Some.is)
    c.requires.of_code (sym c.block_of.ensures ∙ c.in-None-block_of.is)
