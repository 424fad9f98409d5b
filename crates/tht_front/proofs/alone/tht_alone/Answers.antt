use Rattle.hoare_laws.proofs.FileSound.{accepted_is_sound}
use Rattle.tht_grammar.proofs.Texts.{one_file}
use Rattle.tht_front.proofs.Headline.{run_has_ended}
use Rattle.tht_front.proofs.alone.tht_alone.Goals as goal

pub returns-in-Ok-write_all-clause-accepted_runs_are_safe : goal.returns-in-Ok-write_all-clause-accepted_runs_are_safe
returns-in-Ok-write_all-clause-accepted_runs_are_safe g c = λ budget asks ends.
    run_has_ended one_file accepted_is_sound budget _ _ c.in-Ok.answer.status c.in-Ok.answer.output.items _ _ asks ends c.in-Ok.ensures.answer
    (rw c.deref.ensures.value at c.in-Ok-write_all.ensures.written)
