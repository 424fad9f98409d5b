use Rattle.std.proofs.Common.{sym, ◌∙◌, ap, OnOk, Result, Ok, Err}
use Rattle.std.specs.Option.{option_copied}
use Rattle.code_form.specs.StackValue.{StackValue}
use Rattle.code_form.proofs.BlocksAhead.{out_of_block}
use Rattle.code_form.proofs.under_way.Stack.leave.Goals as goal

on_ok : {T E A B : Type 0} (r : Result T E) → (A → B) → OnOk r A → OnOk r B
on_ok (Ok x) f a = f a
on_ok (Err e) f a = tt

pub returns-clause-program : goal.returns-clause-program
returns-clause-program c =
    on_ok c.go_on_from.result
    (λ e. e ∙ out_of_block c.args.code.now c.args.self.now c.in-At.at c.in-Some.node.now (sym (ap (λ (z : StackValue). z.front) c.self.view_is) ∙ c.in-At.is) (sym c.get.ensures.value ∙ ap option_copied c.in-Some.is)
    c.in-Some-block_of.inner c.args.v (sym c.block_of.ensures ∙ c.in-Some-block_of.is))
    c.go_on_from.ensures.program
