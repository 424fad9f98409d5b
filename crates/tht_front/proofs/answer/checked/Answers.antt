use Rattle.std.proofs.Common.{◌≡◌, IsTrue, subst, rules}
use Rattle.tht_tree.specs.declared.file.Source1.{Source1}
use Rattle.tht_logic.specs.CommandLine.{Accepts}
use Rattle.tht_front.proofs.Answering.{if_ok, past_judges, rule_judges, walk_judges}
use Rattle.tht_front.specs.Asking.{reader_of}
use Rattle.tht_front.specs.Decided.{is_past_text}
use Rattle.tht_front.proofs.answer.checked.Goals as goal

pub returns-in-Ok : goal.returns-in-Ok
returns-in-Ok c =
    let same : c.file.result.now ≡ c.args.file = search rules in
    if_ok c.accepted.result (λ x. Accepts (reader_of c.args.task) c.file.result.now x.status x.output.items) (λ x. IsTrue (is_past_text x.status)) _
    (λ answer said past.
    let P : Source1 → Type 0 = λ f. Accepts (reader_of c.args.task) f answer.status answer.output.items in
    past_judges (reader_of c.args.task) c.args.file answer.status answer.output.items c.requires c.in-Ok.ensures.accepted.sorted (subst P same said) past)
    c.accepted.ensures.output c.accepted.ensures.status

pub returns-in-Err-Walk : goal.returns-in-Err-Walk
returns-in-Err-Walk c =
    if_ok c.walk_line.result _ _ _
    (λ answer same line. walk_judges (reader_of c.args.task) c.args.file c.in-Err-Walk.refusal answer.status answer.output.items c.requires (rw c.in-Err-Walk.field-0-is at c.in-Err-Walk.ensures.refused) same line)
    c.walk_line.ensures.status (rw c.in-Err-Walk.field-0-is at c.walk_line.ensures.output)

pub returns-in-Err-Rule : goal.returns-in-Err-Rule
returns-in-Err-Rule c =
    let first = rw c.in-Err-Rule.field-0-is at c.in-Err-Rule.ensures.refused in
    if_ok c.rule_line.result _ _ _
    (λ answer same line. rule_judges c.args.task c.args.file c.in-Err-Rule.refusal answer.status answer.output.items c.requires first.0 first.1 same line)
    c.rule_line.ensures.status (rw c.in-Err-Rule.field-0-is at c.rule_line.ensures.output)
