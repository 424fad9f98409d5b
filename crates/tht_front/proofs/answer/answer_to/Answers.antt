use Rattle.tht_front.proofs.Answering.{answers_fault, answers_file, if_ok, if_ok_then, run_alone}
use Rattle.tht_front.proofs.answer.answer_to.Goals as goal

pub returns-in-Ok-clause-answer : goal.returns-in-Ok-clause-answer
returns-in-Ok-clause-answer c =
    if_ok_then c.answer_to_file.result _ _ (λ answer said. answers_file c.args.reader c.args.input.now c.in-Ok.file answer.status answer.output.items c.requires c.in-Ok.ensures.ok said)
    c.answer_to_file.ensures

pub returns-in-Ok-clause-run : goal.returns-in-Ok-clause-run
returns-in-Ok-clause-run c =
    if_ok_then c.answer_to_file.result _ _
    (λ answer said cut. run_alone c.args.reader c.args.input.now answer.status answer.output.items
    (answers_file c.args.reader c.args.input.now c.in-Ok.file answer.status answer.output.items c.requires c.in-Ok.ensures.ok said) cut)
    c.answer_to_file.ensures

pub returns-in-Err-clause-answer : goal.returns-in-Err-clause-answer
returns-in-Err-clause-answer c =
    if_ok c.refused.result _ _ _ (λ answer same line. answers_fault c.args.reader c.args.input.now c.in-Err.end answer.status answer.output.items c.requires c.in-Err.ensures.fault same line)
    c.refused.ensures.status c.refused.ensures.output
