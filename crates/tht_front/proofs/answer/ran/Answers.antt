use Rattle.hoare_laws.proofs.FileSound.{accepted_is_sound}
use Rattle.tht_front.proofs.Answering.{no_fault}
use Rattle.hoare_laws.proofs.PlainFiles.{plain_files}
use Rattle.tht_front.proofs.answer.ran.Goals as goal

pub run-requires : goal.run-requires
run-requires c = record { plain = plain_files c.args.file.now c.requires.built c.requires.sorted }

pub unreachable-requires : goal.unreachable-requires
unreachable-requires c = no_fault c.args.file.now c.args.budget (accepted_is_sound c.args.file.now c.requires) (rw c.in-Faulted.is at c.in_ok-end.ensures)
