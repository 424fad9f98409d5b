use Rattle.hoare_laws.proofs.FileSound as files
use Rattle.hoare_rules.proofs.laws.accepted_is_sound.Goals as goal

pub returns : goal.returns
returns c = files.accepted_is_sound
