use Rattle.std.proofs.Common.{◌≡◌, sym, ◌∙◌}
use Rattle.tht_tree.specs.declared.command.Command.TheVariants.{Read}
use Rattle.tht_grammar.proofs.Texts.{one_file}
use Rattle.tht_front.proofs.Answering.{big_so, if_ok, if_ok_then, not_taken, one_command, out_of_order, refused, spent_so}
use Rattle.tht_front.proofs.alone.answer_from.Goals as goal

pub returns-in-Some-Read-clause-names : goal.returns-in-Some-Read-clause-names
returns-in-Some-Read-clause-names g c =
    if_ok_then c.answer_from_file.result _ _ (λ answer said same. out_of_order _ _ answer.status answer.output.items said same) c.answer_from_file.ensures.answer

pub returns-in-Some-Read-clause-rule : goal.returns-in-Some-Read-clause-rule
returns-in-Some-Read-clause-rule g c =
    if_ok_then c.answer_from_file.result _ _ (λ answer said same. refused _ _ answer.status answer.output.items said same) c.answer_from_file.ensures.answer

pub returns-in-Some-Read-clause-spent : goal.returns-in-Some-Read-clause-spent
returns-in-Some-Read-clause-spent g c =
    if_ok c.answer_from_file.result _ _ _
    (λ answer said runs same.
    spent_so _ _ answer.output.items c.in-Some-Read.field-0 answer.status (sym c.read_words.ensures ∙ c.in-Some-Read.is) (λ r is. rw is at said) (λ r is. rw is at runs) same)
    c.answer_from_file.ensures.answer c.answer_from_file.ensures.run

pub returns-in-Some-Read-clause-big : goal.returns-in-Some-Read-clause-big
returns-in-Some-Read-clause-big g c =
    if_ok c.answer_from_file.result _ _ _
    (λ answer said runs same.
    big_so _ _ answer.output.items c.in-Some-Read.field-0 answer.status (sym c.read_words.ensures ∙ c.in-Some-Read.is) (λ r is. rw is at said) (λ r is. rw is at runs) same)
    c.answer_from_file.ensures.answer c.answer_from_file.ensures.run

pub returns-in-Some-Read-clause-text : goal.returns-in-Some-Read-clause-text
returns-in-Some-Read-clause-text g c =
    if_ok_then c.answer_from_file.result _ _
    (λ answer said reader asks same.
    let found = sym c.read_words.ensures ∙ c.in-Some-Read.is in
    let is : c.in-Some-Read.field-0 ≡ Read reader = one_command c.in-Some-Read.field-0 (Read reader) (sym found ∙ asks) in
    not_taken one_file _ reader answer.status answer.output.items (rw is at said) same)
    c.answer_from_file.ensures.answer
