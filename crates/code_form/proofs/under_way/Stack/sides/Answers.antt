use Rattle.std.proofs.Common.{sym, ◌∙◌, ap}
use Rattle.std.specs.Option.{option_copied}
use Rattle.code_form.specs.StackValue.{StackValue}
use Rattle.code_form.proofs.BlocksAhead.{forks, no_fork_here}
use Rattle.code_form.proofs.under_way.Stack.sides.Goals as goal

pub returns : goal.returns
returns c =
    forks c.args.code.now c.args.self.now c.in-At.at c.in-Some.node.now (sym (ap (λ (z : StackValue). z.front) c.self.view_is) ∙ c.in-At.is) (sym c.get.ensures.value ∙ ap option_copied c.in-Some.is)
    c.in-Some-fork_of.split (record { left = c.earlier.result; right = c.earlier-2.result }) (sym c.fork_of.ensures ∙ c.in-Some-fork_of.is) c.earlier.ensures c.earlier-2.ensures

pub unreachable-requires-in_default-fork_of : goal.unreachable-requires-in_default-fork_of
unreachable-requires-in_default-fork_of c =
    no_fork_here c.args.code.now c.args.self.now c.in-At.at c.in-Some.node.now (sym (ap (λ (z : StackValue). z.front) c.self.view_is) ∙ c.in-At.is) (sym c.get.ensures.value ∙ ap option_copied c.in-Some.is)
    c.requires.of_code (sym c.fork_of.ensures ∙ c.in_default-fork_of.is) c.requires.forks
