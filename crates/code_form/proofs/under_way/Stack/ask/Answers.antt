use Rattle.std.proofs.Common.{ap, sym, ◌∙◌, length, List}
use Rattle.std.specs.Option.{option_copied}
use Rattle.tht_tree.specs.declared.plain.Value.{Value}
use Rattle.code_form.specs.Stacks.{env_of, behind_of}
use Rattle.code_form.specs.StackValue.{StackValue}
use Rattle.code_form.specs.Statements.{node_ask}
use Rattle.code_form.proofs.Asked.{asked_at}
use Rattle.code_form.proofs.under_way.Stack.ask.Goals as goal

pub returns-in-Some : goal.returns-in-Some
returns-in-Some c =
    let s : StackValue = c.args.self.now in
    c.ask_at.ensures ∙ ap (λ n. node_ask n c.in-Some.node.now c.env.result.now) c.len.ensures ∙
    ap (λ (env : List Value). node_ask (length c.args.code.now.bodies) c.in-Some.node.now env) c.env.ensures ∙
    asked_at c.args.code.now.bodies c.args.code.now.nodes s.front c.in-At.at c.in-Some.node.now (env_of s) (behind_of c.args.code.now s) (sym (ap (λ (z : StackValue). z.front) c.self.view_is) ∙ c.in-At.is)
    (sym c.get.ensures.value ∙ ap option_copied c.in-Some.is) c.requires.of_code
